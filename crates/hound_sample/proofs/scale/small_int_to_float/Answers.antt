use Rattle.std.proofs.Common.{pos}
use mathlib.Core.Path.{ap, ◌∙◌}
use Prim.Native.Nat.{◌-◌}
use native.Mathlib.Omega.{arith}
use lib.Ieee.{binary32, div, mul, of_bits, of_int}
use mir.Facts.{to_z-of_z}
use Rattle.hound_sample.proofs.Floats.{times_step32}
use Rattle.hound_sample.proofs.scale.small_int_to_float.Goals as goal

pub returns : goal.returns
returns c =
    let full = c.nearest_u32_to_f32.ensures ∙ ap (λ m. of_int binary32 (pos m)) c.two_to.ensures.value in
    (λ i. mul binary32 (of_int binary32 (to_z-of_z c.ranges.sample i))
    (div binary32 (of_bits binary32 0x3f80_0000) (full i)))
    ∙ times_step32 (c.args.bits - 1) (omega (arith, c.requires.bits.1)) (of_int binary32 c.args.sample)
