use Rattle.std.proofs.lemmas.Grind.{common_steps}
use Rattle.std.proofs.Common.{◌≡◌, ◌≤◌, ◌∷◌, [], List, ℕ, length, take, arith}
use Rattle.std.proofs.lemmas.List.{length-take-le}
use Rattle.hound_sample.proofs.Reading.{reads_container, takes_part}
use Rattle.hound_sample.proofs.decode.read_container.Goals as goal

-- what the container is before it is read
abbrev zeros : List ℕ
zeros = 0 ∷ 0 ∷ 0 ∷ 0 ∷ []

-- a container is whole within four bytes
whole : (width : ℕ) → width ≤ 4 → length (take width zeros) ≡ width
whole width few = length-take-le width zeros few

pub returns-in-Err-clause-reads : goal.returns-in-Err-clause-reads
returns-in-Err-clause-reads g c = grind (arith, common_steps, reads_container, takes_part, whole)
