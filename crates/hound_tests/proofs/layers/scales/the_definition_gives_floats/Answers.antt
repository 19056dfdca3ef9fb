use Rattle.std.proofs.Common.{refl}
use lib.Ieee.{size, span, climb, odd, units, round, div, of_int, to_bits}
use Rattle.hound_tests.proofs.layers.scales.the_definition_gives_floats.Goals as goal

pub returns : goal.returns
unfolding size span climb odd units round div of_int to_bits
returns c = refl
