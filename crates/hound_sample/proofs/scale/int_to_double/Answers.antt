use Rattle.std.proofs.Common.{pos}
use mathlib.Core.Path.{ap, ◌∙◌}
use Prim.Native.Nat.{◌-◌}
use native.Mathlib.Omega.{arith}
use lib.Ieee.{binary64, div, mul, of_bits, of_int}
use mir.Facts.{to_z-of_z}
use Rattle.hound_sample.proofs.Floats.{times_step64}
use Rattle.hound_sample.proofs.scale.int_to_double.Goals as goal

pub returns : goal.returns
returns c =
    let value = c.from.ensures ∙ ap (of_int binary64) (to_z-of_z c.ranges.sample) in
    let full = c.from-2.ensures ∙ ap (λ m. of_int binary64 (pos m)) c.two_to.ensures.value in
    (λ i. mul binary64 (value i) (div binary64 (of_bits binary64 0x3ff0_0000_0000_0000) (full i)))
    ∙ times_step64 (c.args.bits - 1) (omega (arith, c.requires.1)) (of_int binary64 c.args.sample)
