use Rattle.std.proofs.Common.{refl}
use Rattle.std.specs.Float.{round_with}
use lib.Ieee.{size, span, climb, odd, units, round, mul, of_int, of_bits, of_fields, to_signed}
use Rattle.hound_tests.proofs.layers.scales.the_definition_scales_floats.Goals as goal

pub returns : goal.returns
unfolding size span climb odd units round mul of_int of_bits of_fields to_signed round_with
returns c = refl
