use Rattle.std.proofs.lemmas.Grind.{common_steps}
use Rattle.std.proofs.Common.{arith}
use Rattle.std.proofs.lemmas.List.{take_all, length-drop}
use Rattle.hound_reader.proofs.MemoryLemmas.{are_first, are_read, are_read_before_part, are_whole, front_decoded, next_is_cut}
use Rattle.hound_reader.proofs.blocks.decode_many.Goals as goal

pub returns-then-count-samples-clause-answers : goal.returns-then-count-samples-clause-answers
returns-then-count-samples-clause-answers g c fault =
    grind (arith, common_steps, take_all, length-drop, are_read, are_whole, front_decoded)

pub returns-then-count-samples-clause-samples : goal.returns-then-count-samples-clause-samples
returns-then-count-samples-clause-samples g c = grind (arith, common_steps, are_first, are_whole, front_decoded)

pub returns-clause-answers : goal.returns-clause-answers
returns-clause-answers g c fault =
    grind (
      arith,
      common_steps,
      take_all,
      length-drop,
      are_read_before_part,
      are_whole,
      front_decoded,
      next_is_cut,
    )

pub returns-clause-samples : goal.returns-clause-samples
returns-clause-samples g c = grind (arith, common_steps, are_first, are_whole, front_decoded)
