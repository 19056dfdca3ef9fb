use Rattle.std.proofs.Common.{◌≡◌, ◌+◌, ℕ, List, length}
use Rattle.std.specs.Io.KnownBytes.{Consumes}
use Rattle.hound_number.specs.{NoneFailed}
use Rattle.hound_walk.proofs.chunks.skip_bytes.Given as goal

abbrev pub invariant-loop-left : goal.invariant-loop-left
invariant-loop-left g l =
    NoneFailed (g.R.Input.account l.initial.reader) (g.R.Input.account l.reader)
    × ((bytes : List ℕ) × Consumes (g.R.Input.left l.initial.reader) (g.R.Input.left l.reader) bytes
    × (length bytes + l.left ≡ l.count))

abbrev pub decreases-loop-left : goal.decreases-loop-left
decreases-loop-left g l = l.left
