use Rattle.std.proofs.Common.{length}
use Rattle.hound_text.specs.Text.{Leads}
use Rattle.hound_text.proofs.numbers.take_bytes.Given as goal

-- the bytes so far have led here
abbrev pub invariant-loop-byte : goal.invariant-loop-byte
invariant-loop-byte l = Leads l.fn.place l.fn.bytes l.fn.numbers.items l.place l.bytes l.numbers.items

-- what is left of the text
abbrev pub decreases-loop-byte : goal.decreases-loop-byte
decreases-loop-byte l = length l.bytes
