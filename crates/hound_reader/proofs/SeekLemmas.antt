-- Where a seek leads.
use Rattle.std.proofs.lemmas.Grind.{common_steps}
use Rattle.std.proofs.Common.{◌≡◌, ℕ, suc, ℤ, pos, ◌+ℤ◌, ◌-ℤ◌, ◌+◌, ◌-◌, ◌*◌, ◌/◌, ◌^◌, ◌<◌, ◌≤◌, List, [], ◌∷◌, length, drop, arith, subst, sym, ap, ◌∙◌, Option, Some, None, Result, Ok}
use Rattle.std.proofs.Math.Nat.{mul_assoc, mul-le-mul_right}
use Rattle.std.proofs.lemmas.Int.{ints}
use Rattle.std.proofs.lemmas.List.{drop-drop}
use Rattle.hound_spec.specs.declared.error.Error.{Error}
use Rattle.hound_spec.specs.declared.spec.SampleFormat.{SampleFormat}
use Rattle.hound_sample.specs.{ReadRejection}
use Rattle.hound_medium.specs.{MediumState, Shifts, IsMoved}
use Rattle.std.proofs.lemmas.Option.{same_Some}
use Rattle.hound_spec.specs.declared.spec.WavSpecEx.{WavSpecEx}
use Rattle.hound_reader.specs.Reader.{ReaderState, IsNext, CountsTaken, rejection_at, meaning_at}
use Rattle.hound_reader.specs.Seeking.{HasSought, Seeks, IsWhereCounted, IsAtCount, ReadsInPlace, PassesItem, Follows, IsMeaningOf, container_at, samples_before, bytes_before}
use Rattle.hound_walk.specs.{unread}
use Rattle.hound_spec.specs.{greatest_u32}

-- the place of a frame fits in 63 bits
pub frame_small : (time channels width : ℕ) → time ≤ greatest_u32 → channels * width ≤ 65535
    → time * channels * width < 2 ^ 63
frame_small time channels width t f = grind (arith, common_steps)

-- and so is the place that a reader counts
pub counted_small : (samples bytes channels width : ℕ) → samples ≤ greatest_u32 * channels
    → bytes ≤ samples * width → channels * width ≤ 65535 → bytes < 2 ^ 63
counted_small samples bytes channels width s b f =
    let p : samples * width ≤ greatest_u32 * channels * width = mul-le-mul_right width s in
    omega (arith, p, b, f, mul_assoc greatest_u32 channels width)

-- the same shift, for the same number and the same result
pub shifts_so : {T E : Type 0} (by way : ℤ) (result : Result T E) (x : T) (old new : MediumState)
    → by ≡ way → result ≡ Ok x → Shifts by result old new → Shifts {E = E} way (Ok x) old new
shifts_so {T} {E} by way result x old new b r s = grind (arith, common_steps)

-- a shift as an equation of signed numbers
moved : (place new : ℕ) (by : ℤ) → IsMoved place by new → pos new ≡ pos place +ℤ by
moved place new by m = grind (arith, common_steps)

-- the first sample of a frame that the file has is one of its samples
pub frame_inside : (time channels samples : ℕ) → time < samples / channels → time * channels < samples
frame_inside time channels samples t = grind (arith, common_steps)

module _ {R : Type 0} (state : R → MediumState) (start time : ℕ) (old new : ReaderState R)
    (sought : HasSought state start time old new) where
  -- the place of the source after a seek
  pub sought_place : (state new.reader).place ≡ start + bytes_before time old.spec_ex
  sought_place = grind (arith, common_steps)

  -- which the reader counts
  pub sought_counted : (state new.reader).place ≡ start + new.bytes_read
  sought_counted = omega (arith, sought_place, sought.seeks.counts.bytes)

  -- what is left there
  pub sought_unread : unread (state new.reader) ≡ drop (start + bytes_before time old.spec_ex)
      (state old.reader).contents
  sought_unread = grind (arith, common_steps)

  -- and it has the whole container, if the data have all of theirs
  pub sought_there : time < old.num_samples / old.spec_ex.spec.channels
      → start + old.num_samples * old.spec_ex.bytes_per_sample ≤ length (state old.reader).contents
      → old.spec_ex.bytes_per_sample ≤ length (unread (state new.reader))
  sought_there t whole =
      let width = old.spec_ex.bytes_per_sample in
      let p : suc (time * old.spec_ex.spec.channels) * width ≤ old.num_samples * width =
      mul-le-mul_right width (frame_inside time old.spec_ex.spec.channels old.num_samples t) in
      let l : length (unread (state new.reader)) ≡ length (state old.reader).contents -
      (start + bytes_before time old.spec_ex) = grind (arith, common_steps, sought_unread) in
      omega (arith, p, l, whole)

module _ {R A : Type 0} (state : R → MediumState) (left : R → Option (List ℕ))
    (rejection : SampleFormat → ℕ → ℕ → Option ReadRejection) (meaning : SampleFormat → ℕ → ℕ → List ℕ → A) where
  -- the item after a seek
  pub sought_item : (start time : ℕ) (old mid new : ReaderState R) (next : Option (Result A Error))
      → left mid.reader ≡ Some (unread (state mid.reader)) → HasSought state start time old mid
      → time < old.num_samples / old.spec_ex.spec.channels → rejection_at rejection old.spec_ex ≡ None
      → IsNext left rejection meaning next mid new
      → IsMeaningOf (meaning_at meaning old.spec_ex)
      (container_at old.spec_ex.bytes_per_sample (samples_before time old.spec_ex)
      (drop start (state old.reader).contents)) next
  sought_item start time old mid new next known sought t taken step = grind (arith, common_steps)

module _ {R : Type 0} (left : R → Option (List ℕ)) where
  -- what an item took is counted
  pub took_counted : (bytes : List ℕ) (old new : ReaderState R) → IsWhereCounted left bytes old
      → CountsTaken left old new → IsWhereCounted left bytes new
  took_counted bytes old new in_place (n, count, known) = grind (arith, common_steps)

  -- an item leaves the rest as counted
  pub item_counted : {A : Type 0} (rejection : SampleFormat → ℕ → ℕ → Option ReadRejection)
      (meaning : SampleFormat → ℕ → ℕ → List ℕ → A) (bytes : List ℕ) (old new : ReaderState R)
      (next : Option (Result A Error)) → IsWhereCounted left bytes old
      → IsNext left rejection meaning next old new → IsWhereCounted left bytes new
  item_counted rejection meaning bytes old new next in_place step = grind (arith, common_steps)

module _ {R : Type 0} (left : R → Option (List ℕ)) (state : R → MediumState) where
  -- and so does an Ok seek that doesn't go back
  pub ahead_counted : (bytes : List ℕ) (time : ℕ) (old new : ReaderState R)
      → left old.reader ≡ Some (unread (state old.reader))
      → left new.reader ≡ Some (unread (state new.reader)) → IsWhereCounted left bytes old
      → Seeks state time old new
      → old.bytes_read ≤ bytes_before time old.spec_ex → IsWhereCounted left bytes new
  ahead_counted bytes time old new before beyond in_place seeks ahead =
      let from = old.bytes_read in
      let to = bytes_before time old.spec_ex in
      let p = (state old.reader).place in
      let c = (state old.reader).contents in
      let e = moved p (state new.reader).place (pos to -ℤ pos from) seeks.source.place in
      let q : (state new.reader).place ≡ p + (to - from) = omega (arith, ints, e, ahead) in
      let here : drop p c ≡ drop from bytes = same_Some _ _ (sym before ∙ in_place) in
      let sum : from + (to - from) ≡ to = omega (arith, ahead) in
      beyond ∙ ap Some (ap (λ n. drop n (state new.reader).contents) q
      ∙ ap (drop (p + (to - from))) seeks.source.stays.contents
      ∙ sym (drop-drop (to - from) p c) ∙ ap (drop (to - from)) here
      ∙ drop-drop (to - from) from bytes ∙ ap (λ i. drop i bytes) (sum ∙ sym seeks.counts.bytes))

  -- an item of a type passes
  pub item_passes : {A : Type 0} (rejection : SampleFormat → ℕ → ℕ → Option ReadRejection)
      (meaning : SampleFormat → ℕ → ℕ → List ℕ → A) (old new : ReaderState R) (item : Result A Error)
      → IsNext left rejection meaning (Some item) old new
      → ReadsInPlace (state old.reader) (state new.reader) → PassesItem left state old new
  item_passes rejection meaning old new item step place = grind (arith, common_steps)

  module _ (modelled : (r : R) → left r ≡ Some (unread (state r))) where
    -- the source moved by what the item counts
    passed : (start : ℕ) (old new : ReaderState R) → IsAtCount state start old
        → PassesItem left state old new → IsAtCount state start new
    passed start old new at_count step = grind (arith, common_steps)

    -- after all calls the source is at the place counted, over the same contents
    pub counted_after : (start : ℕ) (calls : List (Option ℕ)) (old new : ReaderState R)
        → IsAtCount state start old → Follows left state calls old new
        → IsAtCount state start new × ((state new.reader).contents ≡ (state old.reader).contents)
        × (new.spec_ex ≡ old.spec_ex) × (new.num_samples ≡ old.num_samples)
    counted_after start [] old new at_count run = grind (arith, common_steps)
    counted_after start (None ∷ calls) old new at_count (mid, step, run) =
        let p = counted_after start calls mid new (passed start old mid at_count step) run in
        (p.0, p.1 ∙ step.in_place.contents, p.2 ∙ step.spec_ex, p.3 ∙ step.num_samples)
    counted_after start (Some time ∷ calls) old new at_count (mid, step, run) =
        let p = counted_after start calls mid new (sought_counted state start time old mid
        (record { at_count = at_count; seeks = step })) run in (
          p.0,
          p.1 ∙ step.source.stays.contents,
          p.2 ∙ step.counts.spec_ex,
          p.3 ∙ step.counts.num_samples,
        )

    -- the item after a seek, after any items and seeks since the data began
    pub item_after : {A : Type 0} (rejection : SampleFormat → ℕ → ℕ → Option ReadRejection)
        (meaning : SampleFormat → ℕ → ℕ → List ℕ → A) (calls : List (Option ℕ)) (time : ℕ)
        (first old mid new : ReaderState R) (next : Option (Result A Error)) → first.bytes_read ≡ 0
        → Follows left state calls first old
        → Seeks state time old mid → time < first.num_samples / first.spec_ex.spec.channels
        → rejection_at rejection first.spec_ex ≡ None → IsNext left rejection meaning next mid new
        → IsMeaningOf (meaning_at meaning first.spec_ex)
        (container_at first.spec_ex.bytes_per_sample (samples_before time first.spec_ex)
        (unread (state first.reader))) next
    item_after {A} rejection meaning calls time first old mid new next fresh run seeks t taken step =
        let start = (state first.reader).place in
        let p = counted_after start calls first old (omega (arith, fresh)) run in
        let bytes = drop start (state old.reader).contents in
        let P : WavSpecEx → List ℕ → Type 0 = λ s l. IsMeaningOf (meaning_at meaning s)
        (container_at s.bytes_per_sample (samples_before time s) l) next in
        let inside : time < old.num_samples / old.spec_ex.spec.channels = rw (p.2, p.3) t in
        let takes : rejection_at rejection old.spec_ex ≡ None = rw p.2 taken in
        let there = sought_item state left rejection meaning start time old mid new next (modelled mid.reader)
        (record { at_count = p.0; seeks = seeks }) inside takes step in
        subst (λ l. P first.spec_ex l) (ap (drop start) p.1) (subst (λ s. P s bytes) p.2 there)
