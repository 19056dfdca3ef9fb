use Rattle.std.proofs.lemmas.Grind.{common_steps}
use Rattle.std.proofs.Common.{◌≡◌, ◌∙◌, true, false, arith}
use Rattle.hound_writer.specs.{field}
use Rattle.hound_repair.specs.Steps.{has_right}
use Rattle.hound_repair.proofs.Again.{has_no_pad, has_pad_is}
use Rattle.hound_repair.proofs.Stepping.{found_by_sizes, found_so, measured_small, right_sizes_are, wrong_sizes_are}
use Rattle.hound_repair.proofs.stages.take_size.Goals as goal

pub returns-then-not-lacks_pad-clause-leads : goal.returns-then-not-lacks_pad-clause-leads
returns-then-not-lacks_pad-clause-leads c = λ looks file m at is. let d = c.args.damage in
    let riff : field 4 file ≡ d.sizes.riff_size = grind (arith, common_steps) in
    c.found_as.ensures.leads looks file m
    (found_by_sizes looks file d.head true (at.2 (measured_small file d c.requires.sound m))
    (right_sizes_are file d c.requires.sound m riff (grind (arith, common_steps))
    (has_pad_is _ _ (grind (arith, common_steps)))))

pub returns-clause-leads : goal.returns-clause-leads
returns-clause-leads c = λ looks file m at is. let d = c.args.damage in
    let wrong : has_right file d.head ≡ false = wrong_sizes_are file d c.requires.sound m
    (λ riff len pad. grind (arith, common_steps, has_no_pad, riff, len, pad)) in
    found_so looks file d m (m.state
    ∙ found_by_sizes looks file d.head false (at.2 (measured_small file d c.requires.sound m)) wrong)
