-- A `get` as a `read`.
use Rattle.std.proofs.Common.{◌≡◌, ℕ, List, ◌++◌, drop, Result, Ok, Err, Some, sym, ◌∙◌, ap, arith, take-append-drop}
use Rattle.std.specs.Io.KnownBytes.{ReadConsumes}
use Rattle.std.proofs.lemmas.List.{drop-drop}
use Rattle.hound_medium.specs.State.{MediumState, Gets}

-- what `get` does to the contents from the place on, as the contract of `read` says it
pub get_consumes : {E : Type 0} (buf : List ℕ) (result : Result ℕ E) (old new : MediumState) → Gets buf result old new
    → ReadConsumes (Some (drop old.place old.contents))
    (Some (drop new.place new.contents)) result buf
get_consumes buf (Ok n) old new gets =
    let rest : drop n (drop old.place old.contents) ≡ drop new.place new.contents = drop-drop n old.place old.contents
    ∙ (λ i. drop (sym gets.place i) (sym gets.stays.contents i)) in (
      sym (take-append-drop n (drop old.place old.contents)) ∙ (λ i. sym gets.bytes i ++ rest i),
      λ none room. sym rest ∙ ap (λ k. drop k (drop old.place old.contents)) none ∙ gets.some none room,
    )
get_consumes buf (Err e) old new gets =
    let stays : new.place ≡ old.place = omega (arith, gets.place) in
    λ i. drop (stays i) (gets.stays.contents i)
