-- Bytes that are written by several calls.
use Rattle.std.proofs.lemmas.Grind.{common_steps}
use Rattle.std.proofs.Common.{ℕ, ◌+◌, ◌≤◌, Bool, List, length, drop, arith}
use Rattle.std.proofs.Math.Seq.{take-add}
use Rattle.hound_medium.specs.State.{MediumState, PutsFirst}
use Rattle.hound_medium.proofs.Overlays.{placed-append, overlay-append}

-- a first bytes, and then n of those that are left
pub takes_more : (keeps : Bool) (bytes : List ℕ) (a n : ℕ) (old mid new : MediumState)
    → a ≤ length bytes → PutsFirst keeps bytes a old mid → PutsFirst keeps (drop a bytes) n mid new
    → PutsFirst keeps bytes (a + n) old new
takes_more keeps bytes a n old mid new within so_far more =
    grind (arith, common_steps, take-add, placed-append, overlay-append)
