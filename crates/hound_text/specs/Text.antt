-- Texts of numbers, and the text of numbers that are written.
use Rattle.std.specs.Prelude.{◌≡◌, ℕ, ℤ, ⊤, Bool, cond, ◌||◌, ◌==◌, pos, neg_ℤ, FitsSigned, List, [], ◌∷◌, drop, ◌+◌, ◌/◌, ◌%◌, ◌^◌, ◌≤◌, length, zero, suc, false, ◌++◌, ◌-◌, ◌*◌, true, nat_le, Option, Some, None, ◌<◌}
use Rattle.std.specs.Int.{w32, is_in_range}
use Rattle.std.specs.List.{filter, slice_split}
use Rattle.std.specs.Str.Parse.{IsNumeral, digits_value, starts_with_minus}
use Rattle.std.specs.Fmt.{digit_glyph, signed_decimal}
use Rattle.std.specs.Option.{option_and_then, option_map}
use Rattle.hound_text.specs.declared.numbers.Place.{Place}
use Rattle.hound_text.specs.declared.numbers.Place.TheVariants.{Between, AfterMinus, Inside}
use Rattle.hound_text.specs.declared.numbers.TextError.{TextError}
use Rattle.hound_text.specs.declared.numbers.TextError.TheVariants.{BadNumber, InputOrOutput, TooLong, OutOfMemory}

-- a byte that separates numbers: a space, a tab, a carriage return or a line feed
abbrev pub is_separator : ℕ → Bool
is_separator b = b == 32 || (b == 9 || (b == 13 || b == 10))

-- a list has an element
abbrev pub is_filled : List ℕ → Bool
is_filled [] = Bool.false
is_filled (b ∷ bytes) = Bool.true

-- the words of a text: its parts between separators that have a byte
abbrev pub words : List ℕ → List (List ℕ)
words text = filter is_filled (slice_split is_separator text)

-- a word without its minus
abbrev pub without_minus : List ℕ → List ℕ
without_minus word = cond (starts_with_minus word) (drop 1 word) word

-- the number with this sign and this magnitude
abbrev pub signed_value : Bool → ℕ → ℤ
signed_value negative magnitude = cond negative (neg_ℤ (pos magnitude)) (pos magnitude)

-- A word says a number: an optional minus and then digits, and the number is an `i32`.
pub record SaysNumber (word : List ℕ) (number : ℤ) : Type 0 where
  pub digits : IsNumeral 10 (without_minus word)
  pub value : number ≡ signed_value (starts_with_minus word) (digits_value 10 (without_minus word))
  pub within : FitsSigned w32 number

-- words say numbers, one each, in order
abbrev pub SayNumbers : List (List ℕ) → List ℤ → Type 0
SayNumbers [] [] = ⊤
SayNumbers (word ∷ words) (number ∷ numbers) = SaysNumber word number × SayNumbers words numbers
SayNumbers _ _ = ⊥

-- a text says numbers
abbrev pub SaysNumbers : List ℕ → List ℤ → Type 0
SaysNumbers text numbers = SayNumbers (words text) numbers

-- a text says no list of numbers
abbrev pub SaysNoNumbers : List ℕ → Type 0
SaysNoNumbers text = (numbers : List ℤ) → SaysNumbers text numbers → ⊥

-- the last k digits of a number in a base, the highest one first
abbrev pub padded_digits : ℕ → ℕ → ℕ → List ℕ
padded_digits base zero n = []
padded_digits base (suc k) n = digit_glyph false (n / base ^ k % base) ∷ padded_digits base k n

-- how many bytes of lines are buffered at most
abbrev pub lines_capacity : ℕ
lines_capacity = 16384

-- there is room for a line more, which has fewer than 24 bytes
abbrev pub HasLineRoom : List ℕ → Type 0
HasLineRoom lines = length lines + 24 ≤ lines_capacity

-- a line with an integer in base 10
abbrev pub integer_line : ℤ → List ℕ
integer_line number = signed_decimal number ++ 10 ∷ []

-- a line with eight digits in base 16
abbrev pub pattern_line : ℕ → List ℕ
pattern_line pattern = padded_digits 16 8 pattern ++ 10 ∷ []

-- so many more bytes of a text may be read, of 4294967295 in all; this is left of it
abbrev pub MayRead : Option (List ℕ) → Option (List ℕ) → ℕ → Type 0
MayRead None left room = ⊤
MayRead (Some text) None room = ⊥
MayRead (Some text) (Some left) room = length text + room ≡ length left + 4294967295

-- a digit in base 10
abbrev pub is_digit : ℕ → Bool
is_digit b = is_in_range 48 57 b

-- the text begins with a digit
abbrev pub begins_with_digit : List ℕ → Bool
begins_with_digit [] = false
begins_with_digit (b ∷ bytes) = is_digit b

-- the number with this sign and magnitude, if it is an `i32`
abbrev pub signed_within : Bool → ℕ → Option ℤ
signed_within negative magnitude =
    cond (nat_le magnitude (cond negative 2147483648 2147483647)) (Some (signed_value negative magnitude)) None

-- a magnitude with a digit more, if one of an `i32`
abbrev pub longer_magnitude : ℕ → ℕ → Option ℕ
longer_magnitude magnitude digit =
    cond (nat_le (magnitude * 10 + digit) 2147483648) (Some (magnitude * 10 + digit)) None

-- the place after a byte that is no separator
abbrev pub next_place : Place → ℕ → Option Place
next_place Between b = cond (b == 45) (Some AfterMinus) (cond (is_digit b) (Some (Inside false (b - 48))) None)
next_place AfterMinus b = cond (is_digit b) (Some (Inside true (b - 48))) None
next_place (Inside negative magnitude) b =
    cond (is_digit b) (option_map (λ longer. Inside negative longer) (longer_magnitude magnitude (b - 48))) None

-- the numbers that end where a word ends here: none or one
abbrev pub ended : Place → Option (List ℤ)
ended Between = Some []
ended AfterMinus = None
ended (Inside negative magnitude) = option_map (λ number. number ∷ []) (signed_within negative magnitude)

-- numbers before others
abbrev pub before : List ℤ → Option (List ℤ) → Option (List ℤ)
before numbers others = option_map (λ more. numbers ++ more) others

-- the numbers that are still to come at a place, where this is left of the text
abbrev pub numbers_from : Place → List ℕ → Option (List ℤ)
numbers_from place [] = ended place
numbers_from place (b ∷ bytes) =
    cond (is_separator b) (option_and_then (λ numbers. before numbers (numbers_from Between bytes)) (ended place))
    (option_and_then (λ next. numbers_from next bytes) (next_place place b))

-- Reading leads from one place, with these numbers so far, to another: whatever text follows, the numbers are the same.
abbrev pub Leads : Place → List ℕ → List ℤ → Place → List ℕ → List ℤ → Type 0
Leads place bytes numbers later rest more =
    (tail : List ℕ) → before numbers (numbers_from place (bytes ++ tail))
    ≡ before more (numbers_from later (rest ++ tail))

-- no text that continues with these bytes says numbers
abbrev pub Breaks : Place → List ℕ → Type 0
Breaks place bytes = (tail : List ℕ) → numbers_from place (bytes ++ tail) ≡ None

-- the numbers of an input are those so far, and then those that are still to come
abbrev pub ReadsOn : Option (List ℕ) → Option (List ℕ) → Place → List ℤ → Type 0
ReadsOn None left place numbers = ⊤
ReadsOn (Some text) None place numbers = ⊥
ReadsOn (Some text) (Some left) place numbers = numbers_from Between text ≡ before numbers (numbers_from place left)

-- an error of the text itself: this breaks it; or there is too little memory for its numbers
abbrev pub IsTextRejection : TextError → Type 0 → Type 0
IsTextRejection BadNumber breaks = breaks
IsTextRejection OutOfMemory breaks = ⊤
IsTextRejection _ breaks = ⊥

-- the error for an input with this text; a fault of the input or too little memory may come at any time
abbrev pub IsInputRejected : TextError → List ℕ → Type 0
IsInputRejected BadNumber text = SaysNoNumbers text
IsInputRejected TooLong text = 4294967295 < length text
IsInputRejected InputOrOutput text = ⊤
IsInputRejected OutOfMemory text = ⊤
