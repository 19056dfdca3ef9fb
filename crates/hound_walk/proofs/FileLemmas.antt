-- A file can be read in one way, or can't for one cause.
use Rattle.std.proofs.lemmas.Grind.{common_steps}
use Rattle.std.proofs.Common.{◌≡◌, ℕ, inl, inr, ◌/◌, List, sym, ap, refl, arith}
use Rattle.hound_spec.specs.declared.spec.WavSpecEx.{WavSpecEx}
use Rattle.hound_walk.specs.declared.cause.Cause.{Cause}
use Rattle.hound_walk.specs.Grammar.{Answer, readable, unreadable, Answers, AnswersFile, HasOneFileAnswer, Head, Readable, Unreadable, data_fault}
use Rattle.hound_walk.proofs.Exists.{some_answer, fault_or_none}
use Rattle.hound_walk.proofs.Unique.{heads_agree, head_no_fault, faults_agree}

pub readable_one : (xs : List ℕ) (s t : WavSpecEx) (n m h k : ℕ) → Readable xs s n h
    → Readable xs t m k → (s ≡ t) × (n ≡ m) × (h ≡ k)
readable_one xs s t n m h k a b =
    let g = heads_agree xs s t a.len b.len h k a.head b.head in (
      g.0,
      grind (arith, common_steps, g),
      g.2,
    )

pub readable_no_fault : (xs : List ℕ) (s : WavSpecEx) (n h : ℕ) (c : Cause) → Readable xs s n h → Unreadable xs c → ⊥
readable_no_fault xs s n h c a (inl f) = head_no_fault xs s a.len h c a.head f
readable_no_fault xs s n h c a (inr (t, len, k, head, fault)) =
    let g = heads_agree xs s t a.len len h k a.head head in
    cc (g.0, g.1, fault, a.frames)

pub unreadable_one : (xs : List ℕ) (c d : Cause) → Unreadable xs c → Unreadable xs d → c ≡ d
unreadable_one xs c d (inl e) (inl f) = faults_agree xs c d e f
unreadable_one xs c d (inl e) (inr (t, len, k, head, fault)) =
    absurd (head_no_fault xs t len k c head e)
unreadable_one xs c d (inr (t, len, k, head, fault)) (inl f) =
    absurd (head_no_fault xs t len k d head f)
unreadable_one xs c d (inr (s, m, h, a, e)) (inr (t, n, k, b, f)) =
    let g = heads_agree xs s t m n h k a b in
    cc (g.0, g.1, e, f)

-- a head can be read, or its data length is at fault
file_of_head : (bytes : List ℕ) (s : WavSpecEx) (len h : ℕ) → Head bytes s len h → (a : Answer) × AnswersFile bytes a
file_of_head bytes s len h head = elim (fault_or_none (data_fault s len)) [
  | inl (c, f) ↦ (unreadable c, inr (s, len, h, head, f))
  | inr f ↦ (
    readable s (len / s.bytes_per_sample) h,
    record { len = len; head = head; frames = f; count = refl },
  )
]

file_of_answer : (bytes : List ℕ) (a : Answer) → Answers bytes a → (b : Answer) × AnswersFile bytes b
file_of_answer bytes (readable s len h) head = file_of_head bytes s len h head
file_of_answer bytes (unreadable c) f = (unreadable c, inl f)

same_file_answer : (bytes : List ℕ) (a b : Answer) → AnswersFile bytes a → AnswersFile bytes b → b ≡ a
same_file_answer bytes (readable s m h) (readable t n k) a b = let e =
    readable_one bytes s t m n h k a b in
    cc (e.0, e.1, e.2)
same_file_answer bytes (readable s m h) (unreadable c) a b =
    absurd (readable_no_fault bytes s m h c a b)
same_file_answer bytes (unreadable c) (readable s m h) a b =
    absurd (readable_no_fault bytes s m h c b a)
same_file_answer bytes (unreadable c) (unreadable d) a b =
    ap unreadable (sym (unreadable_one bytes c d a b))

pub one_file_answer : (bytes : List ℕ) → HasOneFileAnswer bytes
one_file_answer bytes =
    let head = some_answer bytes in
    let file = file_of_answer bytes head.0 head.1 in
    (file.0, file.1, λ b is. same_file_answer bytes file.0 b file.1 is)
