use mathlib.Core.Path.{◌≡◌, ap, ◌∙◌}
use Rattle.std.proofs.Common.{◌+◌, ◌-◌, arith, of_z, rules, to_z, to_z-of_z, w32}
use lib.Ieee.{binary64, mul, of_int}
use Rattle.hound_sample.proofs.Floats.{times_one_over}
use Rattle.hound_sample.specs.Scale.{difference}
use Rattle.hound_sample.proofs.amplitude.noise_of.Goals as goal

pub returns : goal.returns
returns c =
    let is : to_z w32 (of_z w32 c.difference.result) ≡ difference c.args.state = search (rules, to_z-of_z) in
    (λ i. mul binary64 ((c.from.ensures ∙ ap (of_int binary64) is) i) (c.requires.step i))
    ∙ times_one_over (c.args.bits + 16 - 1) (omega (arith, c.requires.bits.1))
    (of_int binary64 (difference c.args.state))
