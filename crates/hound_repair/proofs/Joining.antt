-- Containers of one width, joined.
use Rattle.std.proofs.lemmas.Grind.{common_steps}
use Rattle.std.proofs.Common.{◌≡◌, ℕ, List, [], ◌∷◌, ◌++◌, length, take, drop, sym, ap, ◌∙◌, take-append-drop, arith}
pub use Rattle.std.proofs.lemmas.List.Folds.{concat-append}
use Rattle.std.specs.List.{concat, AllByRecursion}

-- containers of one width
abbrev pub AreWide : ℕ → List (List ℕ) → Type 0
AreWide w list = AllByRecursion (λ c. length c ≡ w) list

pub wide_front : (w : ℕ) (xs ys : List (List ℕ)) → AreWide w (xs ++ ys) → AreWide w xs
wide_front w [] ys all = tt
wide_front w (x ∷ xs) ys (one, each) = (one, wide_front w xs ys each)

pub wide_take : (w n : ℕ) (list : List (List ℕ)) → AreWide w list → AreWide w (take n list)
wide_take w n list all = grind (arith, common_steps)

-- the first of a list, joined, are the front of all joined
pub concat_front : (n : ℕ) (list : List (List ℕ)) → concat list ≡ concat (take n list) ++ concat (drop n list)
concat_front n list =
    ap concat (sym (take-append-drop n list)) ∙ concat-append (take n list) (drop n list)
