-- Where the bytes of one call of `put` went.
use Rattle.std.proofs.lemmas.Grind.{common_steps}
use Rattle.std.proofs.Common.{◌≡◌, ℕ, ◌≤◌, List, ◌++◌, arith}
use Rattle.hound_medium.specs.{placed, MediumState}
use Rattle.hound_durable.proofs.Ascending.{length_put, place_after}
use Rattle.hound_writer.specs.Publishing.{PutsFrom}

-- none went before the first
pub puts_from : (p at : ℕ) (bytes : List ℕ) (old new : MediumState) → p ≤ at
    → new.past ≡ old.past ++ placed at bytes → PutsFrom p old new
puts_from p at bytes old new le is i from to = grind (arith, common_steps, place_after, length_put)
