use Rattle.std.proofs.lemmas.Grind.{common_steps}
use Rattle.std.proofs.Common.{arith}
use Rattle.std.proofs.Common.{◌∙◌, rules}
use Rattle.hound_spec.proofs.HeaderLemmas.{length-header}
use Rattle.hound_spec.specs.{IsWritable}
use Rattle.hound_writer.proofs.Beginning.{sound_begin, at_most_begin, header_file}
use Rattle.hound_writer.proofs.Recording.{recorded_new}
use Rattle.hound_writer.proofs.write.begin.Goals as goal

pub returns-clause-begins : goal.returns-clause-begins
returns-clause-begins g c =
    let s = c.args.spec_ex in
    let is = c.as_slice-bytes.ensures ∙ c.header_of-header.ensures in
    let writable : IsWritable s = search rules in
    rw is
    record {
      begun =
          let start = length-header s 0 0 in
          let sound = sound_begin c.put_all.new.medium s _ writable start in
          search rules;
      file = λ tells. header_file g.W.Placed s _ _ writable
          (c.requires tells) (rw is at (c.in_ok-put_all.ensures tells));
    }

pub returns-clause-recorded : goal.returns-clause-recorded
returns-clause-recorded g c = grind (arith, common_steps, recorded_new, returns-clause-begins)

pub returns-clause-at_most : goal.returns-clause-at_most
returns-clause-at_most g c tells =
    let W = g.W.Placed in
    let s = c.args.spec_ex in
    let is = c.as_slice-bytes.ensures ∙ c.header_of-header.ensures in
    let writable : IsWritable s = search rules in
    rw is (at_most_begin W s _ _ writable (c.requires tells) (rw is at (c.in_ok-put_all.ensures tells)))
