-- Samples in another scale: integers of other bits, and floats whose full scale is 1.
use Rattle.std.specs.Prelude.{◌≡◌, ℕ, ℤ, IsTrue, Option, None, Some, pos, ◌-◌, ◌^◌, ◌+ℤ◌, ◌*ℤ◌, nat_lt, if◌then◌else◌, zero, suc, ◌+◌, ◌*◌, ◌/◌, ◌%◌, ◌-ℤ◌, List, [], ◌∷◌}
use Rattle.std.specs.Float.{Float, float_to_signed, round_ties_even, binary64}
use Rattle.std.specs.Int.{int_shr, saturate_to_bits, w64}
use lib.Ieee.{binary32, div, mul, nan, of_int, add}
use Rattle.hound_sample.specs.Container.{fits}

-- the full scale of integers of so many bits: they are from minus this to one less
abbrev pub full_scale : ℕ → ℤ
full_scale bits = pos (2 ^ (bits - 1))

-- the integer of so many bits that is nearest to a number
abbrev pub clipped : ℕ → ℤ → ℤ
clipped bits v = saturate_to_bits (bits - 1) v

-- a number, where none is a NaN
abbrev pub float_of : Option Float → Float
float_of None = nan
float_of (Some x) = x

-- an integer of so many bits in full scale 1: as the nearest `f32`, over full scale, which is exact
abbrev pub float_of_int : ℕ → ℤ → Float
float_of_int bits v = div binary32 (of_int binary32 v) (of_int binary32 (full_scale bits))

-- the same as an `f64`, which has each integer of up to 32 bits and so each quotient
abbrev pub double_of_int : ℕ → ℤ → Float
double_of_int bits v = div binary64 (of_int binary64 v) (of_int binary64 (full_scale bits))

-- a float in full scale 1 in that of so many bits, not clipped: times full scale, which is exact in `f64`, as the
-- nearest integer, a half as the even one; a NaN is 0
abbrev pub scaled : ℕ → Float → ℤ
scaled bits x = float_to_signed w64 (round_ties_even binary64 (mul binary64 x (of_int binary64 (full_scale bits))))

-- the same, clipped
abbrev pub scaled_to : ℕ → Float → ℤ
scaled_to bits x = clipped bits (scaled bits x)

-- an integer of so many bits is the same again after it was such a float, and isn't clipped
abbrev pub ComesBack : (ℕ → ℤ → Float) → ℕ → ℤ → Type 0
ComesBack float bits v = (scaled_to bits (float bits v) ≡ v) × IsTrue (fits bits (scaled bits (float bits v)))

-- an integer of so many bits with others, not clipped: more bits are zeros below; of fewer it is the nearest, a half
-- upwards
abbrev pub with_bits : ℕ → ℕ → ℤ → ℤ
with_bits old new v =
    if nat_lt new old then int_shr (v +ℤ pos (2 ^ (old - new - 1))) (old - new)
    else (v *ℤ pos (2 ^ (new - old)))

-- the state of the generator after another one
abbrev pub next_state : ℕ → ℕ
next_state state = (state * 6364136223846793005 + 1442695040888963407) % 2 ^ 64

-- the state after so many others
unfoldable pub state_after : ℕ → ℕ → ℕ
state_after zero state = state
state_after (suc count) state = state_after count (next_state state)

-- the upper 16 bits of a state less the 16 bits below them, which are two numbers of the generator
abbrev pub difference : ℕ → ℤ
difference state = pos (state / 2 ^ 48) -ℤ pos (state / 2 ^ 32 % 2 ^ 16)

-- the noise of a state for integers of so many bits: the difference over 2^16, in steps of these, which is exact; so it
-- is less than a step, and triangular
abbrev pub noise : ℕ → ℕ → Float
noise bits state = double_of_int (bits + 16) (difference state)

-- floats with noise, each of the next state; the first argument is what an element is as a float
unfoldable pub with_noise : {A : Type 0} → (A → Float) → ℕ → ℕ → List A → List Float
with_noise float bits state [] = []
with_noise float bits state (x ∷ values) =
    add binary64 (float x) (noise bits (next_state state)) ∷ with_noise float bits (next_state state) values
