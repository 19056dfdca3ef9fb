use Rattle.hound_writer.proofs.write.WavWriter.new.Goals as goal

pub returns-clause-begins : goal.returns-clause-begins
returns-clause-begins g c =
    rw c.from.ensures at c.new_with_spec_ex.ensures.begins
