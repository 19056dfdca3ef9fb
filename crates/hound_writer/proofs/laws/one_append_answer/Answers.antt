use Rattle.hound_writer.proofs.AppendAnswers.{one_append_answer}
use Rattle.hound_writer.proofs.laws.one_append_answer.Goals as goal

pub returns : goal.returns
returns c bytes = one_append_answer bytes (c.one_answer.ensures.head bytes)
