use Rattle.std.proofs.Common.{[], ◌∷◌, pos, slice_index_or}
use Prim.Native.Nat.{◌-◌}
use native.Mathlib.Omega.{arith}
use mathlib.Core.Path.{ap, ◌∙◌}
use lib.IntN.{nat_abs}
use lib.Signed.{lt_z}
use lib.Ieee.{binary32, div, mul, nan, neg, of_bits, of_int}
use mir.Facts.{to_z-of_z}
use mir.Val.{bool_byte}
use Rattle.hound_sample.proofs.Floats.{signed_product, times_step32}
use Rattle.hound_sample.proofs.scale.int_to_float.Goals as goal

pub returns : goal.returns
returns c =
    let value = to_z-of_z c.ranges.sample in
    let size = c.nearest_u32_to_f32.ensures
    ∙ ap (λ m. of_int binary32 (pos m)) (c.unsigned_abs.ensures.value ∙ ap nat_abs value) in
    let full = c.nearest_u32_to_f32-step.ensures ∙ ap (λ m. of_int binary32 (pos m)) c.two_to.ensures.value in
    let step = ap (div binary32 (of_bits binary32 0x3f80_0000)) full in
    (λ i. mul binary32 (size i) (slice_index_or (step i ∷ neg (step i) ∷ []) (bool_byte (lt_z (value i) (pos 0))) nan))
    ∙ signed_product binary32 c.args.sample _
    ∙ times_step32 (c.args.bits - 1) (omega (arith, c.requires.1)) (of_int binary32 c.args.sample)
