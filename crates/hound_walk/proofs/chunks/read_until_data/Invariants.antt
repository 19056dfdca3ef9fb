use Rattle.std.proofs.Common.{◌≤◌, ◌-◌}
use Rattle.hound_number.specs.{WhereKnown, NoneFailed}
use Rattle.hound_walk.specs.Walking.{Walked, IsSoundOption}
use Rattle.hound_walk.proofs.chunks.read_until_data.Given as goal
use Rattle.hound_spec.specs.{greatest_u32}

abbrev pub invariant-chunks : goal.invariant-chunks
invariant-chunks g l =
    (l.taken ≤ greatest_u32)
    × NoneFailed (g.R.Input.account l.fn.reader) (g.R.Input.account l.reader)
    × IsSoundOption l.found
    × WhereKnown (g.R.Input.left l.fn.reader) (g.R.Input.left l.reader)
    (λ xs ys. Walked xs ys l.found l.taken)

abbrev pub decreases-chunks : goal.decreases-chunks
decreases-chunks g l = 4294967296 - l.taken
