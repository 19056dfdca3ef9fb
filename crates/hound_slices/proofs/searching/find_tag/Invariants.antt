use Rattle.std.proofs.Common.{◌≤◌, ℕ}
use Rattle.hound_slices.specs.Searching.{IsTagAt}
use Rattle.hound_slices.proofs.searching.find_tag.Given as goal

abbrev pub invariant-loop-place : goal.invariant-loop-place
invariant-loop-place l = (other : ℕ) → IsTagAt l.fn.tag l.fn.least l.file other → l.place ≤ other
