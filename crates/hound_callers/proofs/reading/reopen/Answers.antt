use Rattle.std.proofs.Common.{◌≡◌, ◌∙◌, ℕ, ◌+◌, ◌*◌, ◌/◌, ◌%◌, ◌≤◌, Bool, true, not, cond, eqb, le-ltb, [], ◌++◌, length, drop, Some, None, inl, inr, refl, sym, ap, subst, arith, length-append, drop_at}
use Rattle.std.proofs.Math.Nat.{div-mul-le_self, mod-eq-sub-div-mul}
use Rattle.std.proofs.lemmas.Bool.{eqb-true}
use Rattle.std.proofs.lemmas.Result.{MatchResult-weaker}
use Rattle.std.specs.List.{concat}
use Rattle.hound.proofs.Knowing.{length-concat, length-header, samples_out}
use Rattle.hound.specs.{Cause, IsSound, FollowsData, HasOneAppendAnswer, Head, IsWhole, IsWritable, MediumState, WavSpecEx, WriterState, accepted_samples, appendable, containers, data_fault, data_length, data_start, faulty, greatest_u32, head_fault, header, padding, riff_size}
use Rattle.hound_callers.proofs.reading.reopen.Goals as goal

-- whole samples, and whole frames
are_whole : (s : WavSpecEx) (len : ℕ) → data_fault s len ≡ None → (eqb (len % s.bytes_per_sample) 0 ≡ true)
    × (eqb (len / s.bytes_per_sample % s.spec.channels) 0 ≡ true)
are_whole s len none =
    go (eqb (len % s.bytes_per_sample) 0) (eqb (len / s.bytes_per_sample % s.spec.channels) 0) _ _
    none
  where
    go : (a b : Bool) (c d : Cause) → cond (not a) (Some c) (cond (not b) (Some d) None) ≡ None
        → (a ≡ true) × (b ≡ true)
    go true true c d none = (refl, refl)
    go _ _ c d none = cc

-- a head that fails no check
no_fault : (s : WavSpecEx) (len : ℕ) → IsWritable s → data_fault s len ≡ None
    → riff_size (data_start s) len ≤ greatest_u32 → head_fault s len (data_start s) ≡ None
unfolding head_fault
no_fault s len writable none fits =
    let (samples, frames) = are_whole s len none in
    let pair = writable.pair in
    let room = le-ltb greatest_u32 (riff_size (data_start s) len) fits in
    rw (samples, pair, frames, room) refl

module _ {M : Type 0} (state : M → MediumState) (s : WavSpecEx) (len : ℕ) (old : MediumState)
    (answer : HasOneAppendAnswer old.contents) (head : Head old.contents s len (data_start s))
    (sound : head_fault s len (data_start s) ≡ None) where
  this : appendable s len (data_start s) ≡ answer.0
  this = answer.2 (appendable s len (data_start s)) (head, sound)

  -- a writer that appends has these samples
  opened : (w : WriterState M) → w.buffered ≡ [] → IsSound w → FollowsData old state w
      → (w.spec_ex ≡ s) × (data_start s + len ≤ length old.contents → IsWhole state w)
      × (accepted_samples state w
      ≡ containers s.bytes_per_sample (len / s.bytes_per_sample) (drop (data_start s) old.contents))
  opened w none is_sound found =
      let a = answer.2 (appendable w.spec_ex (data_length w) w.data_start) (found.head, found.check) in
      let b = this in
      let spec : w.spec_ex ≡ s = cc in
      let long : data_length w ≡ len = cc in
      let start : w.data_start ≡ data_start s = cc in
      let same = found.puts.stays.contents in
      let out : w.bytes_written ≡ len = omega (arith, long, ap length none) in
      let all = samples_out state w none is_sound
      ∙ (λ i. containers (spec i).bytes_per_sample (out i / (spec i).bytes_per_sample) (drop (start i) (same i))) in
      (spec, λ whole. omega (arith, start, out, whole, ap length same), all)

pub returns-clause-begun : goal.returns-clause-begun
returns-clause-begun g c modelled s size len rest writable none fits is =
    let M = g.M.Placed in
    let old = M.state c.args.medium in
    let few : len ≤ greatest_u32 = omega (arith, fits) in
    let long = length-header s size len in
    let after : drop (data_start s) old.contents ≡ rest =
    ap (drop (data_start s)) is ∙ drop_at (header s size len) rest (data_start s) long in
    let answer = c.one_append_answer.ensures old.contents in
    let head = subst (λ bytes. Head bytes s len (data_start s)) (sym is)
    (c.written_is_head.ensures s size len rest writable few) in
    let sound = no_fault s len writable none fits in
    MatchResult-weaker c.try_append.result c.try_append.ensures.appends
    (λ w appends.
    let (spec, whole, all) = opened M.state s len old answer head sound w appends.none_buffered
    appends.sound (appends.file modelled) in (
      spec,
      λ within. whole (omega (
        arith,
        within,
        ap length is,
        length-append (header s size len) rest,
        long,
      )),
      all ∙ ap (containers s.bytes_per_sample (len / s.bytes_per_sample)) after,
    ))
    (λ rejected not. elim (not modelled).why [
      | inl (fault, here, names, same) ↦ let a = answer.2 (faulty fault) here in
          let b = this M.state s len old answer head sound in
          let never : faulty fault ≡ appendable s len (data_start s) = a ∙ sym b in
          absurd (cc never)
      | inr failed ↦ failed
    ])

pub returns-clause-written : goal.returns-clause-written
returns-clause-written g c modelled s list writable each fits is =
    let (read, same) = c.written_is_read.ensures s list writable each in
    let n = length (concat list) in
    let size = riff_size (data_start s) n in
    let rest = concat list ++ padding n in
    let w = s.bytes_per_sample in
    let bytes : n ≡ length list * w = length-concat w list each.each in
    let samples = eqb-true (read.len % w) 0 (are_whole s read.len read.frames).0 in
    let long : read.len ≡ n = omega (
      arith,
      bytes,
      samples,
      mod-eq-sub-div-mul read.len w,
      div-mul-le_self read.len w,
      ap (λ k. k * w) read.count,
    ) in
    MatchResult-weaker c.try_append.result
    (returns-clause-begun g c modelled s size n rest writable (subst (λ k. data_fault s k ≡ None) long read.frames)
    (subst (λ k. riff_size (data_start s) k ≤ greatest_u32) (sym bytes) fits) is)
    (λ w (spec, whole, all). (
      spec,
      whole (omega (arith, length-append (concat list) (padding n))),
      all ∙ (λ i. containers s.bytes_per_sample ((ap (λ k. k / s.bytes_per_sample) (sym long) ∙ sym read.count) i)
          (sym (drop_at (header s size n) rest (data_start s) (length-header s size n)) i)) ∙ same,
    ))
    (λ rejected failed. failed)
