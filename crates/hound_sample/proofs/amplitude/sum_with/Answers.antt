use mathlib.Core.Path.{◌≡◌, ap, refl, sym, ◌∙◌}
use lib.Ieee.{Float, add, binary64, nan}
use Rattle.hound_sample.specs.Scale.{float_of}
use Rattle.hound_sample.proofs.amplitude.sum_with.Goals as goal

no_sum : (y : Float) → nan ≡ add binary64 nan y
unfolding add
no_sum y = refl

pub returns-in-None : goal.returns-in-None
returns-in-None c = no_sum c.args.noise ∙ ap (λ x. add binary64 (float_of x) c.args.noise) (sym c.in-None.is)
