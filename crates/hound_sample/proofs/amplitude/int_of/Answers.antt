use mathlib.Core.Path.{◌≡◌, ap, refl, sym, ◌∙◌}
use Rattle.std.proofs.Common.{rules, to_z-of_z, ◌+◌, ◌≡◌, if◌then◌else◌}
use lib.Ieee.{binary64, nan, of_bits}
use Rattle.hound_sample.specs.Container.{fits}
use Rattle.hound_sample.specs.Scale.{float_of, scaled, scaled_to}
use Rattle.hound_sample.proofs.amplitude.int_of.Goals as goal

the_constant : of_bits binary64 0x7ff8_0000_0000_0000 ≡ nan
unfolding of_bits
the_constant = refl

pub returns-in-None-clause-value : goal.returns-in-None-clause-value
returns-in-None-clause-value c =
    let is : c.double_to_int-in-None.result ≡ scaled_to c.args.bits (float_of c.args.number) =
    c.double_to_int-in-None.ensures.value
    ∙ ap (scaled_to c.args.bits) (the_constant ∙ ap float_of (sym c.in-None.is)) in
    search (rules, to_z-of_z, is)

pub returns-in-None-clause-count : goal.returns-in-None-clause-count
returns-in-None-clause-count c = c.double_to_int-in-None.ensures.count
    ∙ ap (λ x. if fits c.args.bits (scaled c.args.bits x) then c.args.count.now else (c.args.count.now + 1))
    (the_constant ∙ ap float_of (sym c.in-None.is))
