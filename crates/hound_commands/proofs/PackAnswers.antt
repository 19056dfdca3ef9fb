-- What a writer's calls for numbers return, said of the numbers.
use Rattle.std.proofs.Common.{◌≡◌, ℕ, ℤ, ◌+◌, ◌*◌, ◌/◌, ◌%◌, ◌≤◌, Bool, true, false, cond, nat_le, List, [], ◌∷◌, length, Result, Ok, Err, IsTrue, refl, sym, ◌∙◌, ap, subst, leb-true, leb-false, arith}
use Rattle.std.proofs.Math.Nat.{mul-div_cancel}
use Rattle.std.specs.List.{AllByRecursion, concat}
use Rattle.hound_writer.specs.{Ghosts, Accepts, AcceptAnswer, FitAnswer, IsPublishing, Begins, HasBegun, Finishes, WriterState, AreFrames, data_length, sample_count}
use Rattle.hound_sample.specs.{Rejection, too_wide, unsupported, fits, if_fits, int_bytes, int_container, and_more, int_container-in_width}
use Rattle.hound_spec.specs.{greatest_u32, data_start, riff_size, IsPair}
use Rattle.hound_medium.specs.{MediumState}
use Rattle.hound_spec.specs.declared.error.Error.{Error}
use Rattle.hound_spec.specs.declared.error.Error.TheVariants.{IoError, TooLong, TooWide, UnfinishedSample}
use Rattle.hound_spec.specs.declared.spec.SampleFormat.TheVariants.{Int}
use Rattle.hound_spec.specs.declared.spec.WavSpecEx.{WavSpecEx}
use Rattle.hound_sample.proofs.Joined.{length-concat}
use Rattle.hound_writer.proofs.Fresh.{fresh_file}
use Rattle.hound_commands.specs.Commands.{failure_of, FitsSizes, IsPackError, IsPackFailure, IsPacked, containers_of}

-- a container and those after it
pub parts : (first : Result (List ℕ) Rejection) (more : Result (List (List ℕ)) Rejection)
    (list : List (List ℕ)) → and_more first more ≡ Ok list
    → (c : List ℕ) × (rest : List (List ℕ)) × (first ≡ Ok c) × (more ≡ Ok rest) × (list ≡ c ∷ rest)
parts (Ok c) (Ok rest) list is = (c, rest, refl, refl, (let same : c ∷ rest ≡ list = cc in sym same))
parts _ _ list is = cc

-- containers of numbers have the width of the spec, each
pub each_width : (s : WavSpecEx) (ns : List ℤ) (cs : List (List ℕ)) → containers_of s ns ≡ Ok cs
    → AllByRecursion (λ c. length c ≡ s.bytes_per_sample) cs
each_width s [] cs have = subst (AllByRecursion (λ c. length c ≡ s.bytes_per_sample)) (let e : [] ≡ cs = cc in e) tt
each_width s (n ∷ ns) cs have =
    let (c, rest, is, more, all) = parts (int_container n s.spec.bits_per_sample s.bytes_per_sample)
    (containers_of s ns) cs have in
    subst (AllByRecursion (λ c. length c ≡ s.bytes_per_sample)) (sym all)
    ((int_container-in_width n _ _ c is).0, each_width s ns rest more)

-- so they take as many bytes as the width says, each
pub have-bytes : (s : WavSpecEx) (ns : List ℤ) (cs : List (List ℕ)) → containers_of s ns ≡ Ok cs
    → length (concat cs) ≡ length cs * s.bytes_per_sample
have-bytes s ns cs have = length-concat s.bytes_per_sample cs (each_width s ns cs have)

-- integers of a spec that can be written are of bits and bytes that have containers
never_unsupported : (v : ℤ) (bits width : ℕ) → IsPair Int bits width → int_container v bits width ≡ Err unsupported → ⊥
unfolding int_container
never_unsupported v bits width pair is =
    by_fit (fits bits v) (ap (λ b. cond b (if_fits bits v (int_bytes v bits width)) (Err unsupported)) (sym pair) ∙ is)
  where
    by_fit : (b : Bool) → cond b (Ok (int_bytes v bits width)) (Err too_wide) ≡ Err unsupported → ⊥
    by_fit true same = cc
    by_fit false same = cc

none_unsupported : (s : WavSpecEx) → IsPair Int s.spec.bits_per_sample s.bytes_per_sample
    → (ns : List ℤ) → containers_of s ns ≡ Err unsupported → ⊥
none_unsupported s pair [] is = cc
none_unsupported s pair (n ∷ ns) is =
    go (none_unsupported s pair ns) (int_container n s.spec.bits_per_sample s.bytes_per_sample) refl
    (containers_of s ns) refl is
  where
    go : (containers_of s ns ≡ Err unsupported → ⊥) → (first : Result (List ℕ) Rejection)
        → int_container n s.spec.bits_per_sample s.bytes_per_sample ≡ first
        → (more : Result (List (List ℕ)) Rejection) → containers_of s ns ≡ more
        → and_more first more ≡ Err unsupported → ⊥
    go later (Err unsupported) here more there is =
        never_unsupported n s.spec.bits_per_sample s.bytes_per_sample pair here
    go later (Ok c) here (Err unsupported) there is = later there
    go later _ here _ there is = cc

module _ {W : Type 0} (s : WavSpecEx) (integers : s.spec.sample_format ≡ Int) (ns : List ℤ)
    (first : WriterState W) (begun : HasBegun s first) where
  pair : IsPair Int s.spec.bits_per_sample s.bytes_per_sample
  pair =
      subst (λ f. IsPair f s.spec.bits_per_sample s.bytes_per_sample) integers begun.writable.pair

  nothing : data_length first ≡ 0
  nothing = λ i. begun.none_out i + length (begun.none_buffered i)

  -- whether there is room for containers
  room_is : (cs : List (List ℕ)) → riff_size first.data_start (data_length first + length (concat cs))
      ≡ riff_size (data_start s) (length (concat cs))
  room_is cs =
      ap (λ d. riff_size d (data_length first + length (concat cs))) begun.start
      ∙ ap (riff_size (data_start s))
      (let e : data_length first + length (concat cs) ≡ length (concat cs) = omega (arith, nothing) in e)

  fit_error : (b : Bool) (e : Error) → FitAnswer {T = Unit {0}} b (Err e)
      → (b ≡ false → IsPackError s ns TooLong) → IsPackFailure s ns (failure_of e)
  fit_error true (IoError f) fit long = tt
  fit_error true e fit long = absurd fit
  fit_error false e fit long =
      subst (λ x. IsPackFailure s ns (failure_of x)) (let is : TooLong ≡ e = cc in is) (long refl)

  -- an error of the call for samples names its cause
  pub write_rejected : (asked : Result (List (List ℕ)) Rejection) → containers_of s ns ≡ asked
      → (e : Error) → AcceptAnswer {T = Unit {0}} asked first (Err e)
      → IsPackFailure s ns (failure_of e)
  write_rejected (Err too_wide) is e answer =
      subst (λ x. IsPackFailure s ns (failure_of x)) (let wide : TooWide ≡ e = cc in wide)
      (begun.writable, is)
  write_rejected (Err unsupported) is e answer = absurd (none_unsupported s pair ns is)
  write_rejected (Ok cs) is e answer =
      fit_error _ e answer
      (λ big. (
        begun.writable,
        record {
          containers = cs;
          have = is;
          no_room = λ room. let over = leb-false _ _ big in
              omega (arith, room, over, room_is cs);
        },
      ))

  -- what an Ok accepts: containers, with room for them
  pub write_accepted : (asked : Result (List (List ℕ)) Rejection) → containers_of s ns ≡ asked
      → AcceptAnswer {T = Unit {0}} asked first (Ok tt)
      → (cs : List (List ℕ)) × (containers_of s ns ≡ Ok cs) × FitsSizes s cs
  write_accepted (Err rejection) is answer = cc
  write_accepted (Ok cs) is answer = (cs, is, by_test _ refl answer)
    where
      by_test : (b : Bool)
          → nat_le (riff_size first.data_start (data_length first + length (concat cs))) greatest_u32 ≡ b
          → FitAnswer {T = Unit {0}} b (Ok tt) → FitsSizes s cs
      by_test true size fit = omega (arith, leb-true _ _ size, room_is cs)
      by_test false size fit = cc

  -- the writer that has accepted containers of numbers has as many samples
  module _ (last : WriterState W) (cs : List (List ℕ)) (have : containers_of s ns ≡ Ok cs)
      (spec : last.spec_ex ≡ first.spec_ex)
      (grown : data_length last ≡ data_length first + length (concat cs)) where
    count_is : sample_count last ≡ length cs
    count_is =
        let bytes = have-bytes s ns cs have in
        let size : data_length last ≡ length cs * s.bytes_per_sample = omega (arith, grown, nothing, bytes) in
        (λ i. size i / ((spec ∙ begun.spec) i).bytes_per_sample)
        ∙ mul-div_cancel (length cs) (subst (λ x. 1 ≤ x.bytes_per_sample) begun.spec begun.sound.width)

    pub frames_are : AreFrames last → length cs % s.spec.channels ≡ 0
    frames_are frames =
        (λ i. sym count_is i % (sym (spec ∙ begun.spec) i).spec.channels) ∙ frames

    pub frames_not : (AreFrames last → ⊥) → length cs % s.spec.channels ≡ 0 → ⊥
    frames_not torn frames =
        torn ((λ i. count_is i % ((spec ∙ begun.spec) i).spec.channels) ∙ frames)

    -- the error of an end: the samples are no whole frames
    pub end_rejected : FitsSizes s cs → (e : Error) → IsPublishing {T = Unit {0}} (Err e) last
        → IsPackFailure s ns (failure_of e)
    end_rejected room UnfinishedSample answer = (
      begun.writable,
      record { containers = cs; have = have; room = room; frames = frames_not answer },
    )
    end_rejected room (IoError f) answer = tt
    end_rejected room e answer = absurd answer

-- a constructor and one call for the numbers, both Ok; then an end
module _ {W : Type 0} {kind : Ghosts W} (s : WavSpecEx)
    (integers : s.spec.sample_format ≡ Int) (ns : List ℤ) (old : MediumState)
    (first last : WriterState W) (end : W) (begins : Begins kind s old first)
    (asked : Result (List (List ℕ)) Rejection) (is : containers_of s ns ≡ asked)
    (accepts : Accepts kind asked (Ok tt) first last)
    (answer : Result (Unit {0}) Error) (finishes : Finishes kind last answer end) where
  -- an Ok makes the file of the numbers
  pub file_made : IsTrue kind.tells → old.contents ≡ [] → old.place ≡ 0 → answer ≡ Ok tt
      → IsPacked s ns (kind.state end).contents
  file_made modelled empty start ok =
      let b = begins.begun in
      let (cs, have, room) = write_accepted s integers ns first b asked is accepts.adds.answers in
      let accepted = subst (λ a. Accepts kind a (Ok tt) first last) (sym is ∙ have) accepts in
      let finished = subst (λ a. Finishes kind last a end) ok finishes in
      record {
        writable = b.writable;
        containers = cs;
        have = have;
        room = room;
        frames = frames_are s integers ns first b last cs have accepted.adds.spec_ex
            accepted.adds.data_length finished.answers;
        file_is = fresh_file kind modelled s old first begins last end cs empty accepted finished;
      }

  -- an error names its cause
  pub end_named : (e : Error) → answer ≡ Err e → IsPackFailure s ns (failure_of e)
  end_named e failed =
      let b = begins.begun in
      let (cs, have, room) = write_accepted s integers ns first b asked is accepts.adds.answers in
      let accepted = subst (λ a. Accepts kind a (Ok tt) first last) (sym is ∙ have) accepts in
      end_rejected s integers ns first b last cs have accepted.adds.spec_ex
      accepted.adds.data_length room e
      (subst (λ a. IsPublishing a last) failed finishes.answers)
