-- What a flush has published is read until the next call that publishes.
use Rattle.std.proofs.lemmas.Grind.{common_steps}
use Rattle.std.proofs.Common.{◌≡◌, ℕ, ◌-◌, ◌*◌, ◌/◌, ◌%◌, ◌≤◌, inl, inr, List, [], ◌∷◌, ◌++◌, length, Ok, refl, sym, ◌∙◌, ap, subst, arith, append_assoc, None}
use Rattle.std.proofs.lemmas.Bool.{cases_lt}
use Rattle.std.proofs.lemmas.List.{append-nil, take_at}
use Rattle.std.proofs.Math.Nat.{mul-div_cancel, mul-mod_left}
use Rattle.std.specs.List.{AllByRecursion, concat}
use Rattle.hound_spec.specs.declared.spec.WavSpecEx.{WavSpecEx}
use Rattle.hound_medium.specs.{moment, MediumState}
use Rattle.hound_walk.specs.{data_fault}
use Rattle.hound_sample.proofs.Joined.{length-concat}
use Rattle.hound_writer.specs.{AreKnown, Begun, Call, Counts, Known, ReadsAs, returned, field, found_in, mark_of, publish, start_of}
use Rattle.hound_repair.proofs.Joining.{AreWide, wide_front}
use Rattle.hound.specs.Headline.{BeginInOrder, CountedAtEach, HasPublished, HoldsAtEnd, Keeps, SaysFrames, accepted_by_all, accepted_of, begins_at}
use Rattle.hound.proofs.Knowing.{among}
use Rattle.hound.proofs.PowerLoss.{accepted_parts}

-- if the length field counts exactly these samples, which are whole frames, they are read
reads_front : (s : WavSpecEx) (start : ℕ) (samples more : List (List ℕ)) (contents : List ℕ)
    → 1 ≤ s.bytes_per_sample → AreWide s.bytes_per_sample samples
    → length samples % s.spec.channels ≡ 0 → field (start - 4) contents ≡ length (concat samples)
    → Counts s start (samples ++ more) contents → ReadsAs s start samples contents
reads_front s start samples more contents some wide frames says counts =
    let w = s.bytes_per_sample in
    let n = length samples * w in
    let count : n / w ≡ length samples = mul-div_cancel (length samples) some in
    let none : data_fault s n ≡ None = rw (mul-mod_left (length samples) w, count, frames) refl in
    let reads = rw (says ∙ length-concat w samples wide, none) at counts.reads in
    record {
      readable = rw count at reads.0;
      containers = rw count at reads.1 ∙ take_at samples more (length samples) refl;
    }

-- what the calls accepted after some of them
pub accepted_after : (found : List (List ℕ)) (before after : List Call)
    → found ++ accepted_by_all (before ++ after) ≡ (found ++ accepted_by_all before) ++ accepted_by_all after
accepted_after found before after = grind (arith, common_steps)

-- what is counted after a call, until the last of some others returned
counted_since : (s : WavSpecEx) (start : ℕ) (found : List (List ℕ)) (calls : List Call) (m : MediumState)
    → CountedAtEach s start found calls m → BeginInOrder s start found calls m
    → (before later after : List Call) (flush : Call) (k : ℕ)
    → calls ≡ before ++ (flush ∷ (later ++ after)) → begins_at (later ++ after) m.past ≤ k
    → k ≤ begins_at after m.past
    → (more : List (List ℕ)) × Counts s start ((found ++ accepted_by_all before) ++ more) (moment m.start m.past k)
counted_since s start found calls m counted order before [] after flush k is from to =
    let began = order before (flush ∷ []) after is in
    ([], rw append-nil (counted before after flush k is (omega (arith, began.0, from)) to))
counted_since s start found calls m counted order before (call ∷ later) after flush k is from to =
    let is_next : calls ≡ (before ++ (flush ∷ [])) ++ (call ∷ (later ++ after)) =
    is ∙ sym (append_assoc before (flush ∷ []) (call ∷ (later ++ after))) in
    elim (cases_lt (begins_at (later ++ after) m.past) k) [
      | inr here ↦ (
        accepted_by_all (flush ∷ []),
        rw (accepted_after found before (flush ∷ [])) at
            (counted (before ++ (flush ∷ [])) (later ++ after) call k is_next from here),
      )
      | inl further ↦
          let (more, counts) = counted_since s start found calls m counted order (before ++ (flush ∷ [])) later after
          call k is_next (omega (arith, further)) to in (
            accepted_by_all (flush ∷ []) ++ more,
            rw (append_assoc (found ++ accepted_by_all before) (accepted_by_all (flush ∷ [])) more) at
                (rw (accepted_after found before (flush ∷ [])) at counts),
          )
    ]

-- the samples accepted by the first calls are as wide as the spec says
wide_before : (s : WavSpecEx) (file : Begun) (calls before after : List Call) (m : MediumState)
    → HoldsAtEnd s file calls m → calls ≡ before ++ after
    → AreWide s.bytes_per_sample (found_in file ++ accepted_by_all before)
wide_before s file calls before after m end is = grind (arith, common_steps, wide_front, accepted_after)

-- at the end, if only samples were written since
pub holds_at_end : (s : WavSpecEx) (file : Begun) (calls : List Call) (m : MediumState)
    → HoldsAtEnd s file calls m → (before later : List Call) (flush : Call)
    → calls ≡ before ++ (flush ∷ later) → HasPublished flush
    → AllByRecursion (λ (call : Call). call.asked ≡ publish → ⊥) later
    → length (found_in file ++ accepted_by_all before) % s.spec.channels ≡ 0
    → ReadsAs s (start_of s file) (found_in file ++ accepted_by_all before) m.contents
holds_at_end s file calls m end before later flush is published none frames =
    reads_front s (start_of s file) (found_in file ++ accepted_by_all before) (accepted_by_all (flush ∷ later))
    m.contents
    end.sound.1 (wide_before s file calls before (flush ∷ later) m end is) frames
    (end.lasts before later flush is published none)
    (rw (is, accepted_after (found_in file) before (flush ∷ later)) at end.counts)

-- in each state until the next call that publishes
pub holds_at_each : (s : WavSpecEx) (file : Begun) (calls : List Call) (m : MediumState)
    → Keeps s file calls m → (before later after : List Call) (flush : Call) (k : ℕ)
    → calls ≡ before ++ (flush ∷ (later ++ after)) → HasPublished flush
    → AllByRecursion (λ (call : Call). call.asked ≡ publish → ⊥) later
    → begins_at (later ++ after) m.past ≤ k → k ≤ begins_at after m.past
    → length (found_in file ++ accepted_by_all before) % s.spec.channels ≡ 0
    → ReadsAs s (start_of s file) (found_in file ++ accepted_by_all before) (moment m.start m.past k)
holds_at_each s file calls m keeps before later after flush k is published none from to frames =
    let p = keeps.promises in
    let (more, counts) = counted_since s (start_of s file) (found_in file) calls m p.counted p.in_order before later
    after flush k is from to in
    reads_front s (start_of s file) (found_in file ++ accepted_by_all before) more (moment m.start m.past k)
    keeps.at_end.sound.1 (wide_before s file calls before (flush ∷ (later ++ after)) m keeps.at_end is) frames
    (p.published before later after flush k is published none from to) counts

-- an Ok flush among the calls: those before it, which left whole frames, and those after it
pub ok_among : (s : WavSpecEx) (file : Begun) (before after : List Known) (calls : List Call)
    (m : MediumState) → HoldsAtEnd s file calls m
    → AreKnown (before ++ (returned publish (Ok tt) ∷ after)) calls
    → (first last : List Call) × (flush : Call) × (calls ≡ first ++ (flush ∷ last)) × HasPublished flush
    × AreKnown before first × AreKnown after last
    × (length (found_in file ++ accepted_by_all first) % s.spec.channels ≡ 0)
ok_among s file before after calls m end are = grind (arith, common_steps, among)

-- So it is in each state since the flush returned, if the calls after it began there and publish nothing.
pub ok_holds_at_each : (s : WavSpecEx) (file : Begun) (known : List Known) (calls later : List Call)
    (m : MediumState) → Keeps s file (calls ++ later) m
    → AreKnown (known ++ returned publish (Ok tt) ∷ []) calls
    → AllByRecursion (λ (call : Call). call.asked ≡ publish → ⊥) later
    → (before : List Call) × AreKnown known before × (accepted_by_all calls ≡ accepted_by_all before)
    × ((k : ℕ) → begins_at later m.past ≤ k → k ≤ length m.past →
    ReadsAs s (start_of s file) (found_in file ++ accepted_by_all before) (moment m.start m.past k))
ok_holds_at_each s file known calls later m keeps are none =
    let (first, last, flush, parts, before_are, is, after_are) = among known [] (returned publish (Ok tt)) calls are in
    let parts_are : calls ≡ first ++ (flush ∷ []) =
    parts ∙ ap (λ l. first ++ (flush ∷ l)) (none_known last after_are) in
    let all : calls ++ later ≡ first ++ (flush ∷ later) =
    ap (λ l. l ++ later) parts_are ∙ append_assoc first (flush ∷ []) later in
    let end = append-nil later in
    let frames = subst (λ answer. SaysFrames s (found_in file ++ accepted_by_all first) answer) is.1
    (keeps.at_end.says first later flush all is.0) in (
      first,
      before_are,
      ap accepted_by_all parts_are ∙ accepted_parts first (flush ∷ [])
          ∙ ap (λ asked. accepted_by_all first ++ (accepted_of asked (mark_of flush.answer) ++ [])) is.0
          ∙ append-nil (accepted_by_all first),
      λ k from to. holds_at_each s file (calls ++ later) m keeps first later [] flush k
          (all ∙ ap (λ l. first ++ (flush ∷ l)) (sym end)) (is.0, ap mark_of is.1) none
          (subst (λ l. begins_at l m.past ≤ k) (sym end) from) to frames,
    )
  where
    none_known : (list : List Call) → AreKnown [] list → list ≡ []
    none_known [] are = refl
    none_known (call ∷ list) are = absurd are
