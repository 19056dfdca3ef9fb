use Rattle.hound_reader.proofs.reader.WavReader.next_item.Given as goal

abbrev pub ghosts-read_item_since : goal.ghosts-read_item_since
ghosts-read_item_since g a =
    record { left = g.R.Read.remaining a.reader.now.reader; lender = a.reader.ghost_name }
