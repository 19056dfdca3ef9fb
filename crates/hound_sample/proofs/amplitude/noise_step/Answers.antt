use mathlib.Core.Path.{ap, ◌∙◌}
use Rattle.std.proofs.Common.{pos}
use lib.Ieee.{binary64, div, of_int}
use Rattle.hound_sample.proofs.Floats.{one_over}
use Rattle.hound_sample.proofs.amplitude.noise_step.Goals as goal

pub returns : goal.returns
returns c = one_over c.noise_divisor.result ∙ ap (div binary64 (of_int binary64 (pos 1))) c.noise_divisor.ensures
