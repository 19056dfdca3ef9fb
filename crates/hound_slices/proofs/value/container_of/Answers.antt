use Rattle.std.proofs.Common.{refl, subst}
use mir.Facts.{to_z-of_z}
use Rattle.hound_sample.specs.{IsEncoded, int_container}
use Rattle.hound_slices.proofs.Values.{in_three, makes_container}
use Rattle.hound_slices.proofs.value.container_of.Goals as goal

pub returns-clause-is : goal.returns-clause-is
returns-clause-is c =
    let is = subst (λ v. IsEncoded (int_container v c.args.bits c.args.width) c.encode.result)
    (to_z-of_z c.ranges.value) c.encode.ensures in
    makes_container c.args.value c.args.bits c.args.width c.encode.result c.number_of.result c.requires is
    c.number_of.ensures

pub returns-clause-short : goal.returns-clause-short
returns-clause-short c bits_is width_is =
    let is = subst (λ v. IsEncoded (int_container v c.args.bits c.args.width) c.encode.result)
    (to_z-of_z c.ranges.value) c.encode.ensures in
    let four = subst (λ bits. IsEncoded (int_container c.args.value bits 4) c.encode.result) bits_is
    (subst (λ width. IsEncoded (int_container c.args.value c.args.bits width) c.encode.result) width_is is) in
    let three = in_three c.args.value c.encode.result four in
    makes_container c.args.value 24 3 c.encode.result c.number_of.result refl three c.number_of.ensures
