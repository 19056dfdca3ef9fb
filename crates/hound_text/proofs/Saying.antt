-- The numbers that are read from the front of a text are those that its words say.
use Rattle.std.proofs.lemmas.Grind.{common_steps}
use Rattle.std.specs.Prelude.{FitsSigned}
use Rattle.std.proofs.Common.{◌≡◌, ℕ, ℤ, zero, suc, ◌+◌, ◌-◌, ◌*◌, ◌<◌, ◌≤◌, Bool, true, false, cond, ◌==◌, nat_le, List, [], ◌∷◌, ◌++◌, Option, Some, None, refl, ap, sym, ◌∙◌, subst, append_assoc, append-nil, arith}
use Rattle.std.proofs.lemmas.Bool.Decides.{nat_tests}
use Rattle.std.proofs.lemmas.List.Elements.{filter-append}
use Rattle.std.proofs.lemmas.Int.Digits.{digits_push, digits_value_push}
use Rattle.std.proofs.lemmas.Str.{digit_value_digit}
use Rattle.std.proofs.lemmas.Str.Parse.{digit_from_value}
use Rattle.std.specs.Char.{digit_value}
use Rattle.std.specs.Int.{w32}
use Rattle.std.specs.List.{filter, onto_first, slice_split}
use Rattle.std.specs.Option.{option_and_then, option_map}
use Rattle.std.specs.Str.Parse.{AllDigits, IsNumeral, digits_value, digits_value_after, starts_with_minus}
use Rattle.hound_text.specs.Text.{before, ended, is_digit, longer_magnitude, next_place, numbers_from, SayNumbers, SaysNoNumbers, SaysNumber, SaysNumbers, is_filled, is_separator, signed_value, without_minus, words}
use Rattle.hound_text.specs.declared.numbers.Place.{Place}
use Rattle.hound_text.specs.declared.numbers.Place.TheVariants.{Between, AfterMinus, Inside}

-- words say these numbers, or no list of numbers
abbrev Answers : List (List ℕ) → Option (List ℤ) → Type 0
Answers parts (Some numbers) = SayNumbers parts numbers
Answers parts None = (numbers : List ℤ) → SayNumbers parts numbers → ⊥

-- the word so far is a numeral with this sign and this magnitude
record IsBegun (word : List ℕ) (negative : Bool) (magnitude : ℕ) : Type 0 where
  numeral : IsNumeral 10 (without_minus word)
  value : digits_value 10 (without_minus word) ≡ magnitude
  sign : starts_with_minus word ≡ negative

-- the word so far leads to this place
abbrev Led : List ℕ → Place → Type 0
Led word Between = word ≡ []
Led word AfterMinus = word ≡ 45 ∷ []
Led word (Inside negative magnitude) = IsBegun word negative magnitude

-- no word that continues this one says a number
abbrev Broken : List ℕ → Type 0
Broken word = (more : List ℕ) (number : ℤ) → SaysNumber (word ++ more) number → ⊥

-- the first part continues a word
abbrev append_first : List ℕ → List (List ℕ) → List (List ℕ)
append_first word [] = word ∷ []
append_first word (part ∷ parts) = (word ++ part) ∷ parts

-- ---- words that say numbers

say-append : (ws vs : List (List ℕ)) (ns ms : List ℤ) → SayNumbers ws ns → SayNumbers vs ms
    → SayNumbers (ws ++ vs) (ns ++ ms)
say-append [] vs [] ms front back = back
say-append [] vs (n ∷ ns) ms front back = absurd front
say-append (w ∷ ws) vs [] ms front back = absurd front
say-append (w ∷ ws) vs (n ∷ ns) ms front back = (front.0, say-append ws vs ns ms front.1 back)

say_split : (ws vs : List (List ℕ)) (ns : List ℤ) → SayNumbers (ws ++ vs) ns → (xs : List ℤ) × (ys : List ℤ)
    × SayNumbers ws xs × SayNumbers vs ys
say_split [] vs ns all = ([], ns, tt, all)
say_split (w ∷ ws) vs [] all = absurd all
say_split (w ∷ ws) vs (n ∷ ns) all = let h = say_split ws vs ns all.1 in (n ∷ h.0, h.1, (all.0, h.2), h.3)

answers-append : (ws vs : List (List ℕ)) (o p : Option (List ℤ)) → Answers ws o → Answers vs p
    → Answers (ws ++ vs) (option_and_then (λ numbers. before numbers p) o)
answers-append ws vs None p front back = λ ns all. let h = say_split ws vs ns all in front h.0 h.2
answers-append ws vs (Some xs) None front back = λ ns all. let h = say_split ws vs ns all in back h.1 h.3
answers-append ws vs (Some xs) (Some ys) front back = say-append ws vs xs ys front back

-- ---- parts

append_first-onto : (word : List ℕ) (b : ℕ) (parts : List (List ℕ))
    → append_first word (onto_first b parts) ≡ append_first (word ++ b ∷ []) parts
append_first-onto word b [] = refl
append_first-onto word b (part ∷ parts) = ap (λ t. t ∷ parts) (sym (append_assoc word (b ∷ []) part))

-- parts are never none
append_first-nil : (bytes : List ℕ) → append_first [] (slice_split is_separator bytes) ≡ slice_split is_separator bytes
append_first-nil [] = refl
append_first-nil (b ∷ bytes) = by_case (is_separator b)
  where
    onto : (parts : List (List ℕ)) → append_first [] (onto_first b parts) ≡ onto_first b parts
    onto [] = refl
    onto (part ∷ parts) = refl

    by_case : (t : Bool) → append_first []
        (cond t ([] ∷ slice_split is_separator bytes) (onto_first b (slice_split is_separator bytes))) ≡ cond t
        ([] ∷ slice_split is_separator bytes) (onto_first b (slice_split is_separator bytes))
    by_case true = refl
    by_case false = onto (slice_split is_separator bytes)

-- a broken word in front
broken_first : (b : ℕ) (word : List ℕ) (parts : List (List ℕ)) → Broken (word ++ b ∷ [])
    → Answers (filter is_filled (append_first (word ++ b ∷ []) parts)) None
broken_first b word parts broken = λ ns all. out word parts broken ns all
  where
    out : (word : List ℕ) (parts : List (List ℕ)) → Broken (word ++ b ∷ []) → (ns : List ℤ)
        → SayNumbers (filter is_filled (append_first (word ++ b ∷ []) parts)) ns → ⊥
    out [] [] broken [] all = all
    out [] [] broken (n ∷ ns) all = broken [] n all.0
    out [] (part ∷ parts) broken [] all = all
    out [] (part ∷ parts) broken (n ∷ ns) all = broken part n all.0
    out (c ∷ cs) [] broken [] all = all
    out (c ∷ cs) [] broken (n ∷ ns) all =
        broken [] n (subst (λ w. SaysNumber w n) (sym (append-nil (c ∷ cs ++ b ∷ []))) all.0)
    out (c ∷ cs) (part ∷ parts) broken [] all = all
    out (c ∷ cs) (part ∷ parts) broken (n ∷ ns) all = broken part n all.0

-- ---- one word

-- a byte after a word that has one
minus-push : (c : ℕ) (cs more : List ℕ) → without_minus ((c ∷ cs) ++ more) ≡ without_minus (c ∷ cs) ++ more
minus-push c cs more = grind (arith, common_steps)

-- a digit is no separator and no minus, and its value is what is added
digit_is : (b : ℕ) → is_digit b ≡ true → (digit_value b < 10) × (digit_value b ≡ b - 48)
digit_is b digit = (grind (arith, nat_tests, digit_value_digit), grind (arith, nat_tests, digit_value_digit))

no_digit : (b : ℕ) → is_digit b ≡ false → digit_value b < 10 → ⊥
no_digit b other small = let h = digit_from_value b small in grind (arith, nat_tests)

digits_at : (xs : List ℕ) (b : ℕ) (ys : List ℕ) → AllDigits 10 (xs ++ b ∷ ys) → digit_value b < 10
digits_at [] b ys all = all.0
digits_at (x ∷ xs) b ys all = digits_at xs b ys all.1

-- the numbers that are an `i32`
fits_signed : (negative : Bool) (m : ℕ) → nat_le m (cond negative 2147483648 2147483647) ≡ true
    → FitsSigned w32 (signed_value negative m)
fits_signed true zero within = record { sfits = omega arith }
fits_signed true (suc m) within = record { sfits = grind (arith, nat_tests) }
fits_signed false m within = record { sfits = grind (arith, nat_tests) }

fits_within : (negative : Bool) (m : ℕ) → FitsSigned w32 (signed_value negative m)
    → m ≤ cond negative 2147483648 2147483647
fits_within true zero fits = omega arith
fits_within true (suc m) fits = let h = fits.sfits in omega arith
fits_within false m fits = let h = fits.sfits in omega arith

fits_most : (negative : Bool) (m : ℕ) → FitsSigned w32 (signed_value negative m) → m ≤ 2147483648
fits_most true m fits = fits_within true m fits
fits_most false m fits = let h = fits_within false m fits in omega arith

-- ---- a byte more

-- digits that follow a number don't make it smaller
value_after_grows : (n : ℕ) (ds : List ℕ) → n ≤ digits_value_after 10 n ds
value_after_grows n [] = omega arith
value_after_grows n (d ∷ ds) =
    let more : n * 10 + digit_value d ≤ digits_value_after 10 (n * 10 + digit_value d) ds =
    value_after_grows (n * 10 + digit_value d) ds in
    omega arith

-- digits one after the other
value_after-append : (n : ℕ) (xs ys : List ℕ) → digits_value_after 10 n (xs ++ ys) ≡ digits_value_after 10
    (digits_value_after 10 n xs) ys
value_after-append n [] ys = refl
value_after-append n (x ∷ xs) ys = value_after-append (n * 10 + digit_value x) xs ys

begun_some : (word : List ℕ) (negative : Bool) (magnitude : ℕ) → IsBegun word negative magnitude → word ≡ [] → ⊥
begun_some word negative magnitude begun none = grind (arith, common_steps)

begun-push : (c : ℕ) (cs : List ℕ) (negative : Bool) (magnitude b : ℕ) → IsBegun (c ∷ cs) negative magnitude
    → is_digit b ≡ true → IsBegun ((c ∷ cs) ++ (b ∷ [])) negative (magnitude * 10 + (b - 48))
begun-push c cs negative magnitude b begun digit =
    grind (arith, common_steps, minus-push, digits_value_push, digits_push)

-- the word leads to a place, or no word that continues it says a number
abbrev Arrives : List ℕ → Option Place → Type 0
Arrives word (Some place) = Led word place
Arrives word None = Broken word

byte_more : (place : Place) (word : List ℕ) (b : ℕ) → Led word place → Arrives (word ++ (b ∷ [])) (next_place place b)
byte_more Between word b led =
    subst (λ w. Arrives (w ++ (b ∷ [])) (next_place Between b)) (sym led) (by_minus (b == 45) refl)
  where
    by_digit : (t : Bool) → is_digit b ≡ t → (b == 45) ≡ false
        → Arrives (b ∷ []) (cond t (Some (Inside false (b - 48))) None)
    by_digit true digit other =
        let d = digit_is b digit in
        let same : without_minus (b ∷ []) ≡ b ∷ [] = ap (λ t. cond t [] (b ∷ [])) other in
        record {
          numeral = subst (IsNumeral 10) (sym same) (omega arith, (d.0, tt));
          value = ap (digits_value 10) same ∙ omega (arith, d.1);
          sign = other;
        }
    by_digit false digit other = λ more n says.
        no_digit b digit ((subst (IsNumeral 10) (ap (λ t. cond t more (b ∷ more)) other) says.digits).1.0)

    by_minus : (t : Bool) → (b == 45) ≡ t
        → Arrives (b ∷ []) (cond t (Some AfterMinus) (cond (is_digit b) (Some (Inside false (b - 48))) None))
    by_minus true minus = let same : b ≡ 45 = grind (arith, nat_tests) in ap (λ n. n ∷ []) same
    by_minus false other = by_digit (is_digit b) refl other
byte_more AfterMinus word b led =
    subst (λ w. Arrives (w ++ (b ∷ [])) (next_place AfterMinus b)) (sym led) (by_digit (is_digit b) refl)
  where
    by_digit : (t : Bool) → is_digit b ≡ t → Arrives (45 ∷ b ∷ []) (cond t (Some (Inside true (b - 48))) None)
    by_digit true digit =
        let d = digit_is b digit in
        record { numeral = (omega arith, (d.0, tt)); value = omega (arith, d.1); sign = refl }
    by_digit false digit = λ more n says. no_digit b digit says.digits.1.0
byte_more (Inside negative magnitude) [] b led = absurd (begun_some [] negative magnitude led refl)
byte_more (Inside negative magnitude) (c ∷ cs) b led = by_digit (is_digit b) refl
  where
    whole : (more : List ℕ) → without_minus (((c ∷ cs) ++ (b ∷ [])) ++ more) ≡ (without_minus (c ∷ cs)) ++ (b ∷ more)
    whole more = minus-push c (cs ++ (b ∷ [])) more
        ∙ (ap (λ t. t ++ more) (minus-push c cs (b ∷ [])) ∙ append_assoc (without_minus (c ∷ cs)) (b ∷ []) more)

    by_fit : (t : Bool) → nat_le (magnitude * 10 + (b - 48)) 2147483648 ≡ t → is_digit b ≡ true
        → Arrives ((c ∷ cs) ++ (b ∷ []))
        (option_map (λ longer. Inside negative longer) (cond t (Some (magnitude * 10 + (b - 48))) None))
    by_fit true fit digit = begun-push c cs negative magnitude b led digit
    by_fit false long digit = λ more n says. let d = digit_is b digit in
        let all : digits_value 10 (without_minus (((c ∷ cs) ++ (b ∷ [])) ++ more)) ≡ digits_value_after 10
        (digits_value 10 (without_minus (c ∷ cs)) * 10 + digit_value b) more =
        ap (digits_value 10) (whole more) ∙ value_after-append 0 (without_minus (c ∷ cs)) (b ∷ more) in
        let grown = value_after_grows (digits_value 10 (without_minus (c ∷ cs)) * 10 + digit_value b) more in
        let most = fits_most _ _ (subst (FitsSigned w32) says.value says.within) in
        let was : digits_value 10 (without_minus (c ∷ cs)) ≡ magnitude = led.value in
        let large : 2147483648 < magnitude * 10 + (b - 48) = grind (arith, nat_tests) in
        omega (arith, d.1)

    by_digit : (t : Bool) → is_digit b ≡ t → Arrives ((c ∷ cs) ++ (b ∷ []))
        (cond t (option_map (λ longer. Inside negative longer) (longer_magnitude magnitude (b - 48))) None)
    by_digit true digit = by_fit (nat_le (magnitude * 10 + (b - 48)) 2147483648) refl digit
    by_digit false digit = λ more n says.
        no_digit b digit (digits_at (without_minus (c ∷ cs)) b more (subst (IsNumeral 10) (whole more) says.digits).1)

-- ---- the end of a word

end_answers : (place : Place) (word : List ℕ) → Led word place → Answers (filter is_filled (word ∷ [])) (ended place)
end_answers Between word led = subst (λ w. SayNumbers (filter is_filled (w ∷ [])) []) (sym led) tt
end_answers AfterMinus word led =
    subst (λ w. Answers (filter is_filled (w ∷ [])) None) (sym led) (λ ns all. out ns all)
  where
    out : (ns : List ℤ) → SayNumbers ((45 ∷ []) ∷ []) ns → ⊥
    out [] all = all
    out (n ∷ ns) all = let h : 0 < 0 = all.0.digits.0 in omega arith
end_answers (Inside negative magnitude) [] led = absurd (begun_some [] negative magnitude led refl)
end_answers (Inside negative magnitude) (c ∷ cs) led = by_fit (nat_le magnitude (cond negative 2147483648 2147483647))
    refl
  where
    same : signed_value negative magnitude ≡ signed_value (starts_with_minus (c ∷ cs))
        (digits_value 10 (without_minus (c ∷ cs)))
    same = ap (λ t. signed_value t magnitude) (sym led.sign)
        ∙ ap (signed_value (starts_with_minus (c ∷ cs))) (sym led.value)

    out : (ns : List ℤ) → nat_le magnitude (cond negative 2147483648 2147483647) ≡ false → SayNumbers ((c ∷ cs) ∷ []) ns
        → ⊥
    out [] long all = all
    out (n ∷ ns) long all =
        let most = fits_within negative magnitude (subst (FitsSigned w32) (all.0.value ∙ sym same) all.0.within) in
        grind (arith, nat_tests)

    by_fit : (t : Bool) → nat_le magnitude (cond negative 2147483648 2147483647) ≡ t → Answers ((c ∷ cs) ∷ [])
        (option_map (λ number. number ∷ []) (cond t (Some (signed_value negative magnitude)) None))
    by_fit true fit = (record { digits = led.numeral; value = same; within = fits_signed negative magnitude fit }, tt)
    by_fit false long = λ ns all. out ns long all

-- ---- a text

-- what is read from a place on, where a word has begun
returned : (bytes : List ℕ) (place : Place) (word : List ℕ) → Led word place
    → Answers (filter is_filled (append_first word (slice_split is_separator bytes))) (numbers_from place bytes)
returned [] place word led =
    subst (λ w. Answers (filter is_filled (w ∷ [])) (ended place)) (sym (append-nil word)) (end_answers place word led)
returned (b ∷ bytes) place word led =
    by_separator (λ next started begun. returned bytes next started begun) (is_separator b)
  where
    by_next : ((next : Place) (started : List ℕ) → Led started next
        → Answers (filter is_filled (append_first started (slice_split is_separator bytes))) (numbers_from next bytes))
        → (o : Option Place) → Arrives (word ++ (b ∷ [])) o
        → Answers (filter is_filled (append_first (word ++ (b ∷ [])) (slice_split is_separator bytes)))
        (option_and_then (λ next. numbers_from next bytes) o)
    by_next later None broken = broken_first b word (slice_split is_separator bytes) broken
    by_next later (Some next) begun = later next (word ++ (b ∷ [])) begun

    by_separator : ((next : Place) (started : List ℕ) → Led started next
        → Answers (filter is_filled (append_first started (slice_split is_separator bytes))) (numbers_from next bytes))
        → (t : Bool) → Answers
        (filter is_filled (append_first word
        (cond t ([] ∷ (slice_split is_separator bytes)) (onto_first b (slice_split is_separator bytes)))))
        (cond t (option_and_then (λ numbers. before numbers (numbers_from Between bytes)) (ended place))
        (option_and_then (λ next. numbers_from next bytes) (next_place place b)))
    by_separator later true =
        let front = end_answers place word led in
        let back = subst (λ p. Answers (filter is_filled p) (numbers_from Between bytes)) (append_first-nil bytes)
        (later Between [] refl) in
        let all = answers-append (filter is_filled (word ∷ [])) (filter is_filled (slice_split is_separator bytes))
        (ended place) (numbers_from Between bytes) front back in
        subst (λ p. Answers p (option_and_then (λ numbers. before numbers (numbers_from Between bytes)) (ended place)))
        (sym (filter-append is_filled (word ∷ []) (slice_split is_separator bytes))
        ∙ ap (λ w. filter is_filled (w ∷ (slice_split is_separator bytes))) (sym (append-nil word))) all
    by_separator later false =
        subst (λ p. Answers (filter is_filled p)
        (option_and_then (λ next. numbers_from next bytes) (next_place place b)))
        (sym (append_first-onto word b (slice_split is_separator bytes)))
        (by_next later (next_place place b) (byte_more place word b led))

whole : (text : List ℕ) → Answers (words text) (numbers_from Between text)
whole text = subst (λ p. Answers (filter is_filled p) (numbers_from Between text)) (append_first-nil text)
    (returned text Between [] refl)

-- the numbers that are read are those that the text says
pub said : (text : List ℕ) (numbers : List ℤ) → numbers_from Between text ≡ Some numbers → SaysNumbers text numbers
said text numbers read = subst (Answers (words text)) read (whole text)

-- and where none are read it says no numbers
pub unsaid : (text : List ℕ) → numbers_from Between text ≡ None → SaysNoNumbers text
unsaid text read = subst (Answers (words text)) read (whole text)
