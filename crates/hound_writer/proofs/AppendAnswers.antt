-- What bytes are for appending follows from what they are to a reader.
use Rattle.std.proofs.lemmas.Grind.{common_steps}
use Rattle.std.proofs.Common.{arith}
use Rattle.std.proofs.Common.{◌≡◌, ℕ, ◌≤◌, List, Option, Some, None, inl, inr, sym, ap}
use Rattle.hound_spec.specs.declared.spec.WavSpecEx.{WavSpecEx}
use Rattle.hound_spec.specs.{greatest_u32, riff_size, IsWritable}
use Rattle.hound_walk.specs.{Answer, readable, unreadable, Answers, HasOneAnswer, data_fault}
use Rattle.hound_writer.specs.Appending.{AppendFault, by_bytes, head_fault, AppendAnswer, appendable, faulty, AnswersAppend, HasOneAppendAnswer}

abbrev fault_of : Answer → Option AppendFault
fault_of (readable s len h) = head_fault s len h
fault_of (unreadable cause) = Some (by_bytes cause)

abbrev with_fault : Answer → Option AppendFault → AppendAnswer
with_fault a (Some fault) = faulty fault
with_fault (readable s len h) None = appendable s len h
with_fault (unreadable cause) None = faulty (by_bytes cause)

abbrev append_of : Answer → AppendAnswer
append_of a = with_fault a (fault_of a)

of_answer : (bytes : List ℕ) (a : Answer) → Answers bytes a → AnswersAppend bytes (append_of a)
of_answer bytes a head = grind (arith, common_steps)

-- each answer for appending is that of an answer for reading
to_answer : (bytes : List ℕ) (b : AppendAnswer) → AnswersAppend bytes b → (a : Answer)
    × Answers bytes a × (b ≡ append_of a)
to_answer bytes (appendable s len h) (head, is) =
    (readable s len h, head, sym (ap (with_fault (readable s len h)) is))
to_answer bytes (faulty fault) (inl (cause, is, rejected)) =
    (unreadable cause, rejected, ap faulty is)
to_answer bytes (faulty fault) (inr (s, len, h, head, is)) =
    (readable s len h, head, sym (ap (with_fault (readable s len h)) is))

pub one_append_answer : (bytes : List ℕ) → HasOneAnswer bytes → HasOneAppendAnswer bytes
one_append_answer bytes given = grind (arith, common_steps, of_answer, to_answer)

-- a head of whole samples and frames can be appended to, if its size fits
pub no_head_fault : (s : WavSpecEx) (len h : ℕ) → IsWritable s → data_fault s len ≡ None
    → riff_size h len ≤ greatest_u32 → head_fault s len h ≡ None
unfolding head_fault
no_head_fault s len h writable none fits = grind (arith, common_steps)
