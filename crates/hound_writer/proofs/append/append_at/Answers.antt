use Rattle.std.proofs.lemmas.Grind.{common_steps}
use Rattle.std.proofs.Common.{arith}
use Rattle.std.proofs.Common.{rules}
use Rattle.hound_writer.proofs.Appending.{sound_head, at_most_on, follows}
use Rattle.hound_writer.proofs.append.append_at.Goals as goal

pub at_end-requires-clause-sound : goal.at_end-requires-clause-sound
at_end-requires-clause-sound g c =
    let head = c.args.head in
    sound_head _ head.spec_ex head.data_length head.data_start c.requires.sound c.requires.start.0
    c.in_default.ensures

pub at_end-requires-clause-at_most : goal.at_end-requires-clause-at_most
at_end-requires-clause-at_most g c tells = grind (arith, common_steps, at_most_on)

pub returns-clause-appends : goal.returns-clause-appends
returns-clause-appends g c =
    let head = c.args.head in
    rw (c.over.ensures, c.at_end.ensures)
    record {
      sound = sound_head _ head.spec_ex head.data_length head.data_start c.requires.sound
          c.requires.start.0 c.in_default.ensures;
      sound_spec = c.requires.sound;
      none_buffered = search rules;
      batch_memory = search rules;
      file = λ tells. follows g.W.Placed.state _ head.spec_ex head.data_length head.data_start
          (g.W.Placed.state c.args.writer) c.requires.sound c.requires.start.0
          (c.requires.head tells) c.in_default.ensures (c.in_default-go.ensures tells);
    }
