use Rattle.std.proofs.lemmas.Grind.{common_steps}
use Rattle.std.proofs.Common.{◌≡◌, ◌∙◌, ◌-◌, ap, arith, drop, length, length-drop, length-take, min, take, List, ℕ}
use Rattle.std.proofs.lemmas.Bool.{cases_lt}
use Rattle.std.proofs.lemmas.List.{drop_all, take_all}
use Rattle.hound_writer.proofs.effects.part_from.Goals as goal

-- a place past the end is the end
drop_min : (l : List ℕ) (n k : ℕ) → k ≡ min (length l) n → drop k l ≡ drop n l
drop_min l n k is = grind (arith, common_steps, cases_lt, drop_all)

take_min : (l : List ℕ) (n k : ℕ) → k ≡ min (length l) n → take k l ≡ take n l
take_min l n k is = grind (arith, common_steps, cases_lt, take_all)

pub returns : goal.returns
returns c =
    let bytes = c.args.header.now in
    let k = c.min.result in
    let inner = take (length bytes - k) (drop k bytes) in
    let whole : inner ≡ drop c.args.first bytes =
    take_all (length bytes - k) (drop k bytes) (omega (arith, length-drop k bytes))
    ∙ drop_min bytes c.args.first k c.min.ensures in
    let is = take_min inner 40 c.min-2.result c.min-2.ensures ∙ ap (λ l. take 40 l) whole in
    record { is = is; few = omega (arith, ap length is, length-take 40 (drop c.args.first bytes)) }
