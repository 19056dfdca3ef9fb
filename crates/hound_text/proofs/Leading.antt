-- How reading leads from place to place.
use Rattle.std.proofs.Common.{◌≡◌, ℕ, ℤ, ◌≤◌, List, [], ◌++◌, take, drop, Option, Some, None, IfSome, ap, sym, ◌∙◌, append_assoc, arith, take-append-drop, IfErr, Result, Ok, Err, subst}
use Rattle.std.proofs.lemmas.Grind.{common_steps}
use Rattle.std.specs.Io.KnownBytes.{Consumes, IsAtEnd}
use Rattle.hound_text.specs.Text.{Breaks, ReadsOn, before, ended, numbers_from, IsInputRejected, IsTextRejection, SaysNoNumbers, SaysNumbers}
use Rattle.hound_text.specs.declared.numbers.Place.{Place}
use Rattle.std.specs.Result.{IsErrAnd}
use Rattle.hound_text.specs.declared.numbers.TextError.{TextError}
use Rattle.hound_text.specs.declared.numbers.TextError.TheVariants.{BadNumber, InputOrOutput, TooLong, OutOfMemory}
use Rattle.hound_text.proofs.Saying.{said, unsaid}

-- at the end of the input its numbers are those so far, and that of the word that ends there
pub says_at_end : (old left later : Option (List ℕ)) (p : Place) (ns ms : List ℤ) (bytes : List ℕ)
    → ReadsOn old left p ns → Consumes left later bytes → bytes ≡ [] → IsAtEnd later
    → before ns (ended p) ≡ Some ms → IfSome old (λ text. SaysNumbers text ms)
says_at_end None left later p ns ms bytes follows read none end ends = tt
says_at_end (Some text) None later p ns ms bytes follows read none end ends = absurd follows
says_at_end (Some text) (Some xs) None p ns ms bytes follows read none end ends = absurd read
says_at_end (Some text) (Some xs) (Some ys) p ns ms bytes follows read none end ends =
    let empty : xs ≡ [] = read ∙ (ap (λ t. t ++ ys) none ∙ end) in
    said text ms (follows ∙ (ap (λ t. before ns (numbers_from p t)) empty ∙ ends))

-- and where none ends there the text says no numbers
pub silent_at_end : (old left later : Option (List ℕ)) (p : Place) (ns : List ℤ) (bytes : List ℕ)
    → ReadsOn old left p ns → Consumes left later bytes → bytes ≡ [] → IsAtEnd later
    → ended p ≡ None → IfSome old SaysNoNumbers
silent_at_end None left later p ns bytes follows read none end ends = tt
silent_at_end (Some text) None later p ns bytes follows read none end ends = absurd follows
silent_at_end (Some text) (Some xs) None p ns bytes follows read none end ends = absurd read
silent_at_end (Some text) (Some xs) (Some ys) p ns bytes follows read none end ends =
    let empty : xs ≡ [] = read ∙ (ap (λ t. t ++ ys) none ∙ end) in
    unsaid text (follows ∙ (ap (λ t. before ns (numbers_from p t)) empty ∙ ap (before ns) ends))

-- bytes that break a text, and what was read with them
pub silent_where_broken : (old left later : Option (List ℕ)) (p : Place) (ns : List ℤ) (bytes xs ys : List ℕ)
    → ReadsOn old left p ns → Consumes left later bytes → bytes ≡ xs ++ ys → Breaks p xs → IfSome old SaysNoNumbers
silent_where_broken None left later p ns bytes xs ys follows read split breaks = tt
silent_where_broken (Some text) None later p ns bytes xs ys follows read split breaks = absurd follows
silent_where_broken (Some text) (Some us) None p ns bytes xs ys follows read split breaks = absurd read
silent_where_broken (Some text) (Some us) (Some vs) p ns bytes xs ys follows read split breaks =
    unsaid text (follows ∙ (ap (λ t. before ns (numbers_from p t))
    (read ∙ (ap (λ t. t ++ vs) split ∙ append_assoc xs ys vs)) ∙ ap (before ns) (breaks (ys ++ vs))))

-- why a text says no numbers: what breaks it
pub rejected : {T : Type 0} (result : Result T TextError) (rejection : TextError) (breaks : Type 0)
    (old : Option (List ℕ))
    → IsErrAnd result (λ e. e ≡ rejection) → IsTextRejection rejection breaks → (breaks → IfSome old SaysNoNumbers)
    → IfErr result (λ e. IfSome old (IsInputRejected e))
rejected (Ok x) rejection breaks old is text silent = tt
rejected (Err e) rejection breaks old is text silent =
    subst (λ r. IfSome old (IsInputRejected r)) (sym is) (by_cause rejection old text silent)
  where
    always : (old : Option (List ℕ)) (P : List ℕ → Type 0) → ((text : List ℕ) → P text) → IfSome old P
    always None P h = tt
    always (Some text) P h = h text

    by_cause : (rejection : TextError) (old : Option (List ℕ)) → IsTextRejection rejection breaks
        → (breaks → IfSome old SaysNoNumbers) → IfSome old (IsInputRejected rejection)
    by_cause BadNumber old text silent = silent text
    by_cause OutOfMemory old text silent = always old (IsInputRejected OutOfMemory) (λ _. tt)
    by_cause InputOrOutput old text silent = absurd text
    by_cause TooLong old text silent = absurd text

-- a front of a front, and what is after it
pub split_front : (n m : ℕ) (bytes : List ℕ) → n ≤ m → take m bytes ≡ take n bytes ++ drop n (take m bytes)
split_front n m bytes within =
    let front : take n (take m bytes) ≡ take n bytes = grind (arith, common_steps) in
    sym (take-append-drop n (take m bytes)) ∙ ap (λ t. t ++ drop n (take m bytes)) front
