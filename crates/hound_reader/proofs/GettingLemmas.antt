-- Bytes and samples that come of a source piece by piece.
use Rattle.std.proofs.lemmas.Grind.{common_steps}
use Rattle.std.proofs.Common.{◌≡◌, ℕ, ◌+◌, ◌*◌, ◌^◌, ◌<◌, ◌≤◌, List, ◌++◌, map, length, take, drop, sym, ap, ◌∙◌, arith, drop_at, Option, Some, Result}
use Rattle.std.proofs.lemmas.List.{drop-append-le, drop-drop, length-take-le, map-append, take-append-drop, take-take}
use Rattle.std.specs.declared.io.Error.{Error as IoFault}
use Rattle.hound_medium.specs.{Gets, MediumState, count_of}
use Rattle.hound_sample.specs.{ReadRejection, containers}
use Rattle.hound_spec.specs.declared.error.Error.TheVariants.{IoError}
use Rattle.hound_spec.specs.declared.spec.SampleFormat.{SampleFormat}
use Rattle.hound_spec.specs.declared.spec.WavSpecEx.{WavSpecEx}
use Rattle.hound_sample.proofs.Containers.{containers_append, containers_front}
use Rattle.hound_walk.specs.{unread}
use Rattle.hound_reader.specs.Blocks.{GetsAll, IsGetError, PassesBytes, AreFirstSamples}
use Rattle.hound_reader.specs.Reader.{HasGiven, meaning_at}
use Rattle.hound_reader.specs.Seeking.{ReadsInPlace}
use borrow.Rule.Slice.PartMut.{put_mid}
use lib.Seq.{take-add}

-- what is left after bytes were passed
pub unread_after : (n : ℕ) (old new : MediumState) → PassesBytes n old new → unread new ≡ drop n (unread old)
unread_after n old new passes = grind (arith, common_steps)

-- bytes, and then more of them
pub passes_more : (n m : ℕ) (old mid new : MediumState) → PassesBytes n old mid → PassesBytes m mid new
    → PassesBytes (n + m) old new
passes_more n m old mid new first then = grind (arith, common_steps)

-- a `get` passes the bytes that it gives
pub get_passes : {E : Type 0} (buf : List ℕ) (result : Result ℕ E) (old new : MediumState)
    → Gets buf result old new → PassesBytes (count_of result) old new
get_passes buf result old new gets = grind (arith, common_steps)

-- bytes were appended to those that came before
pub front_of_source : (at k n : ℕ) (buf given from : List ℕ) → at ≤ length buf → n ≤ length given
    → take at buf ≡ take at from → take n given ≡ take n (drop at from)
    → take (at + n) (put_mid at k buf given) ≡ take (at + n) from
front_of_source at k n buf given from within fits before more = grind (arith, common_steps, take-add)

-- a part of a list was written over
front_put : {A : Type 0} (at k n : ℕ) (xs ys : List A) → at ≤ length xs → n ≤ length ys
    → take (at + n) (put_mid at k xs ys) ≡ take at xs ++ take n ys
front_put at k n xs ys within fits = grind (arith, common_steps, take-add)

-- where the end of that part is as it was, so is the rest of the list
pub rest_put : {A : Type 0} (at k n : ℕ) (xs ys : List A) → at ≤ length xs → n ≤ length ys
    → length ys ≡ length (take k (drop at xs)) → drop n ys ≡ drop n (take k (drop at xs))
    → drop (at + n) (put_mid at k xs ys) ≡ drop (at + n) xs
rest_put at k n xs ys within fits size same =
    let after = drop k (drop at xs) in
    sym (drop-drop n at (put_mid at k xs ys))
    ∙ ap (drop n) (drop_at (take at xs) (ys ++ after) at (length-take-le at xs within))
    ∙ drop-append-le n ys after fits ∙ ap (λ l. l ++ after) same
    ∙ sym (drop-append-le n (take k (drop at xs)) after (omega (arith, fits, size)))
    ∙ ap (drop n) (take-append-drop k (drop at xs)) ∙ drop-drop n at xs

-- samples were decoded after others
samples_more : {A : Type 0} (meaning : List ℕ → A) (w few more k : ℕ) (bytes part : List ℕ) (xs values : List A)
    → few ≤ length xs → more ≤ length values → take few xs ≡ map meaning (containers w few bytes)
    → length (take more values) * w ≤ length part
    → take more values ≡ map meaning (containers w (length (take more values)) part)
    → part ≡ take (length part) (drop (few * w) bytes)
    → take (few + more) (put_mid few k xs values) ≡ map meaning (containers w (few + more) bytes)
samples_more meaning w few more k bytes part xs values within fits before whole after from =
    grind (
      arith,
      common_steps,
      length-take-le,
      map-append,
      take-take,
      containers_append,
      containers_front,
      front_put,
    )

-- A piece came of a source, and samples were decoded of it: they are the next ones, and no more bytes than these have
-- were passed.
pub piece_came : {A : Type 0} (meaning : SampleFormat → ℕ → ℕ → List ℕ → A) (s : WavSpecEx)
    (done count taken requested k : ℕ) (buf part : List ℕ) (fault : IoFault) (xs values : List A)
    (old mid new : MediumState) → done ≤ length xs → count ≤ length values → taken ≤ length buf
    → take done xs ≡ map (meaning_at meaning s) (containers s.bytes_per_sample done (unread old))
    → PassesBytes (done * s.bytes_per_sample) old mid → GetsAll (take taken buf) requested fault mid new
    → part ≡ take taken buf → AreFirstSamples meaning s part (take count values)
    → (take (done + count) (put_mid done k xs values)
    ≡ map (meaning_at meaning s) (containers s.bytes_per_sample (done + count) (unread old)))
    × ((done + count) * s.bytes_per_sample ≤ done * s.bytes_per_sample + taken)
    × PassesBytes (done * s.bytes_per_sample + taken) old new
piece_came meaning s done count taken requested k buf part fault xs values old mid new within fits room before passed
    all is given =
    grind (arith, common_steps, length-take-le, unread_after, passes_more, samples_more)

-- no more samples came, since the source ended or a read failed
pub why_fewer : (rejection : SampleFormat → ℕ → ℕ → Option ReadRejection) (s : WavSpecEx)
    (done count taken wanted requested : ℕ) (buf : List ℕ) (fault : IoFault) (old mid new : MediumState)
    → taken ≤ length buf → PassesBytes (done * s.bytes_per_sample) old mid → mid.faults ≡ old.faults
    → GetsAll (take taken buf) requested fault mid new → requested ≡ wanted * s.bytes_per_sample
    → count < wanted → taken < (count + 1) * s.bytes_per_sample
    → IsGetError rejection s (done + count) old new (IoError fault)
why_fewer rejection s done count taken wanted requested buf fault old mid new room passed none all is fewer cut =
    grind (arith, common_steps)

-- where all samples of a piece came, all of its bytes did, without a fault
pub whole_piece : (w count taken wanted requested : ℕ) (buf : List ℕ) (fault : IoFault) (mid new : MediumState)
    → taken ≤ length buf → GetsAll (take taken buf) requested fault mid new → requested ≡ wanted * w
    → wanted * w ≤ taken → (taken ≡ wanted * w) × (new.faults ≡ mid.faults)
whole_piece w count taken wanted requested buf fault mid new room all is enough = grind (arith, common_steps)

-- passed bytes were given
pub has_given : (n : ℕ) (old new : MediumState) → PassesBytes n old new → n < 2 ^ 64
    → HasGiven (Some (unread old)) n (Some (unread new))
has_given n old new passes small = grind (arith, common_steps)

-- a source that was passed over was read in place
pub in_place : (n : ℕ) (old new : MediumState) → PassesBytes n old new → ReadsInPlace old new
in_place n old new passes = grind (arith, common_steps)
