use Rattle.hound_reader.proofs.reader.WavReader.read_samples.Given as goal

abbrev pub ghosts-read_many_since : goal.ghosts-read_many_since
ghosts-read_many_since g a =
    record { left = g.R.Read.remaining a.reader.now.reader; lender = a.reader.ghost_name }
