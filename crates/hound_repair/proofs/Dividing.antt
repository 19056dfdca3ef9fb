-- Whole frames of some bytes.
use Rattle.std.proofs.Common.{ℕ, ◌*◌, ◌/◌, ◌<◌, ◌≤◌}
use Rattle.std.proofs.Math.Nat.{div-mul-le_self, le-mul_of_pos_right}

-- whole frames are no more
pub whole_le : (x f : ℕ) → x / f * f ≤ x
whole_le x f = div-mul-le_self x f

-- a frame has a byte
pub times_le : (q f : ℕ) → 0 < f → q ≤ q * f
times_le q f some = le-mul_of_pos_right q some
