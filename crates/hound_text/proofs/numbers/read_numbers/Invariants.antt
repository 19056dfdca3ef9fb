use Rattle.hound_text.specs.Text.{ReadsOn, MayRead}
use Rattle.hound_text.proofs.numbers.read_numbers.Given as goal

abbrev pub invariant-loop-count : goal.invariant-loop-count
invariant-loop-count g l = record {
  room : MayRead (g.R.Read.remaining l.initial.input) (g.R.Read.remaining l.input) l.room;
  follows : ReadsOn (g.R.Read.remaining l.initial.input) (g.R.Read.remaining l.input) l.place l.numbers.items;
}

-- what may still be read
abbrev pub decreases-loop-count : goal.decreases-loop-count
decreases-loop-count g l = l.room
