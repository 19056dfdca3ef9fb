-- What a loss of power leaves of a recording that was cut off, within the first checkpoint of the recorder that mends
-- it.
use Rattle.std.proofs.lemmas.Grind.{common_steps}
use Rattle.std.proofs.lemmas.List.{length-take-le, take-take}
use Rattle.std.proofs.Common.{◌≡◌, ℕ, zero, suc, ◌+◌, ◌-◌, ◌*◌, ◌/◌, ◌%◌, ◌≤◌, Bool, List, [], ◌∷◌, ◌++◌, length, take, drop, Result, Ok, sym, ◌∙◌, ap, subst, arith, append-nil, length-drop, length-take}
use Rattle.std.proofs.Math.Nat.{mul-mod_left}
use Rattle.std.specs.Prelude.{if◌then◌else◌}
use Rattle.std.specs.declared.io.Error.{Error as IoFault}
use Rattle.std.specs.List.{concat}
use Rattle.hound_number.specs.{AreBytes, bytes_of, mix, number}
use Rattle.hound_number.proofs.Mixing.{mix_le, mix_none}
use Rattle.hound_spec.specs.{riff_size}
use Rattle.hound_spec.specs.declared.spec.WavSpecEx.{WavSpecEx}
use Rattle.hound_sample.specs.{containers}
use Rattle.hound_sample.proofs.Containers.{length-containers}
use Rattle.hound_medium.specs.{Span, moment, overlay, placed}
use Rattle.hound_medium.proofs.Overlays.{front_part, length_overlay_le, small_overlay, take_overlay_before}
use Rattle.hound_medium.proofs.Torn.{number_at_mix, number_at_small}
use Rattle.hound_durable.specs.{SurvivesLoss}
use Rattle.hound_writer.specs.{ChangesSizesOnly, Counts, IsCutOff, IsSynced, Log, Performed, Resumes, SameButSizes, accepted_samples, checkpoint, effects_of, is_sound, field, log_kind, pad_effects, size_effects, writer_of}
use Rattle.hound_writer.specs.declared.effects.Effect.{Effect}
use Rattle.hound_writer.specs.declared.effects.Effect.TheVariants.{Sync}
use Rattle.hound_writer.specs.declared.recorder.Recorder.{Recorder}
use Rattle.hound_writer.specs.declared.resuming.FoundFile.{FoundFile}
use Rattle.hound_writer.proofs.Containers.{concat-containers, count_bytes}
use Rattle.hound_writer.proofs.Heads.{head_beyond, head_field}
use Rattle.hound_writer.proofs.Mending.{begins_with, whole_frames}
use Rattle.hound_writer.proofs.Ordering.{all_ordered, effects_ordered, in_order_none}
use Rattle.hound_writer.proofs.Sizes.{field_riff, same_length, same_riff, sizes_front, sizes_then, take_front}
use Rattle.hound_repair.proofs.Performing.{Allowed, on_log, small_bytes, spans}
use Rattle.hound.proofs.Losing.{left_after}
use Rattle.hound.proofs.PowerLoss.{counts_stored, wide_containers}

-- The contents while that checkpoint is performed: before the data and in their first n bytes only the two sizes have
-- changed, and the data length has some of the low bytes of n, and the others from before.
record HasStill (start n : ℕ) (base c : List ℕ) : Type 0 where
  pub changes : ChangesSizesOnly start base c
  pub stored : take n (drop start c) ≡ take n (drop start base)
  pub inside : start + n ≤ length c
  pub says : (j : ℕ) × (j ≤ 4) × (field (start - 4) c ≡ mix j (field (start - 4) base) n)

module _ (start n : ℕ) (base : List ℕ) (beyond : 20 ≤ start) where
  abbrev p : ℕ
  p = start - 4

  eight : 8 ≤ p
  eight = omega (arith, beyond)

  -- a pad byte leaves them so
  padded : (c bs : List ℕ) → HasStill start n base c → HasStill start n base (overlay c (placed (start + n) bs))
  padded c bs still =
      let new = overlay c (placed (start + n) bs) in
      let same : take (start + n) new ≡ take (start + n) c =
      take_overlay_before bs (start + n) (start + n) c (omega arith) still.inside in
      record {
        changes = sizes_then start base c new still.changes
            (sizes_front start c new (omega (arith, beyond)) (take_front start (start + n) c new (omega arith) same));
        stored = front_part (start + n) start n new c (omega arith) same ∙ still.stored;
        inside = omega (arith, still.inside, length_overlay_le bs (start + n) c);
        says = let (j, few, mixed) = still.says in
            (j, few, ap number (front_part (start + n) p 4 new c (omega (arith, beyond)) same) ∙ mixed);
      }

  -- so do sizes
  sized : (c new : List ℕ) → HasStill start n base c → SameButSizes p c new
      → (j : ℕ) × (j ≤ 4) × (field p new ≡ mix j (field p base) n) → HasStill start n base new
  sized c new still same says = grind (arith, common_steps)

  -- wherever the effects stop
  allowed_sizes : (c : List ℕ) → AreBytes c → HasStill start n base c → field p c ≡ field p base
      → Allowed (HasStill start n base) (size_effects start n) c
  allowed_sizes c small still old =
      let riff = bytes_of 4 (riff_size start n) in
      let there : p + 4 ≤ length c = omega (arith, still.inside, beyond) in
      let none : mix 0 (field p base) n ≡ field p base =
      mix_none (field p base) n (omega (arith, number_at_small p c there small, old)) in
      let at_riff : (j : ℕ) → j ≤ 4 → HasStill start n base (overlay c (placed 4 (take j riff))) = λ j few.
      let short : length (take j riff) ≤ 4 = omega (arith, length-take j riff) in
      sized c (overlay c (placed 4 (take j riff))) still (same_riff p c eight there (take j riff) short)
      (0, omega arith, field_riff p c eight there (take j riff) short ∙ old ∙ sym none) in
      let y = overlay c (placed 4 riff) in
      let y_still : HasStill start n base y = at_riff 4 (omega arith) in
      let y_small = small_overlay c 4 riff small (small_bytes 4 (riff_size start n)) in
      let y_there : p + 4 ≤ length y = omega (arith, y_still.inside, beyond) in
      let at_length : (j : ℕ) → j ≤ 4 → HasStill start n base (overlay y (placed p (take j (bytes_of 4 n)))) = λ j few.
      let bs = take j (bytes_of 4 n) in
      sized y (overlay y (placed p bs)) y_still
      (same_length p y eight y_there bs (omega (arith, length-take j (bytes_of 4 n)))) (
        j,
        few,
        number_at_mix p y y_there y_small n j few
            ∙ ap (λ k. mix j k n) (field_riff p c eight there riff (omega arith) ∙ old),
      ) in
      let all = at_length 4 (omega arith) in (still, (at_riff, (at_length, (all, all))))

  allowed_checkpoint : (odd : ℕ) (c : List ℕ) → AreBytes c → HasStill start n base c → field p c ≡ field p base
      → Allowed (HasStill start n base) (pad_effects (start + n) odd ++ size_effects start n) c
  allowed_checkpoint zero c small still old = allowed_sizes c small still old
  allowed_checkpoint (suc odd) c small still old = (
    λ j few. padded c (take j (0 ∷ [])) still,
    allowed_sizes (overlay c (placed (start + n) (0 ∷ [])))
        (small_overlay c (start + n) (0 ∷ []) small (small_bytes 1 0)) (padded c (0 ∷ []) still)
        (ap number (front_part (start + n) p 4 (overlay c (placed (start + n) (0 ∷ []))) c (omega (arith, beyond))
        (take_overlay_before (0 ∷ []) (start + n) (start + n) c (omega arith) still.inside)) ∙ old),
  )

  abbrev first_effects : Bool → List Effect
  first_effects clean = if clean then checkpoint start n else Sync ∷ checkpoint start n

  allowed_first : (clean : Bool) → AreBytes base → HasStill start n base base
      → Allowed (HasStill start n base) (first_effects clean) base
  allowed_first clean small still = grind (arith, common_steps, allowed_checkpoint)

module _ (f : FoundFile) (n : ℕ) (old end : Log) (result : Result (Unit {0}) IoFault) (clean : Bool)
    (cut : IsCutOff f n old.state) (synced : IsSynced old.state)
    (whole : n % f.spec_ex.bytes_per_sample ≡ 0) (some : 1 ≤ f.spec_ex.bytes_per_sample)
    (did : Performed (first_effects f.data_start n old.state.contents
    (head_beyond old.state.contents f.spec_ex f.data_length f.data_start cut.head) clean) result old end) where
  abbrev s : WavSpecEx
  s = f.spec_ex

  abbrev h : ℕ
  h = f.data_start

  abbrev width : ℕ
  width = s.bytes_per_sample

  abbrev base : List ℕ
  base = old.state.contents

  beyond : 20 ≤ h
  beyond = head_beyond base s f.data_length h cut.head

  at_first : HasStill h n base base
  at_first = grind (arith, common_steps, mix_none, number_at_small, beyond)

  each_state : Span (λ _. HasStill h n base) 0 old.state end.state
  each_state =
      spans (HasStill h n base) (first_effects h n base beyond clean) result old.state end.state
      (allowed_first h n base beyond clean old.small at_first) old.replays
      (on_log (first_effects h n base beyond clean) result old end did)

  -- the bytes that the file holds
  abbrev bytes : List ℕ
  bytes = take n (drop h base)

  bytes_long : length bytes ≡ n
  bytes_long = length-take-le n (drop h base) (omega (arith, cut.held, length-drop h base))

  abbrev count : ℕ
  count = n / width

  all : count * width ≡ n
  all = count_bytes n width whole

  from_flush : length old.state.past ≤ end.state.flushed
  from_flush = grind (arith, common_steps)

  still_at : (j : ℕ) → end.state.flushed ≤ j → j ≤ length end.state.past
      → HasStill h n base (moment end.state.start end.state.past j)
  still_at j from to = each_state.each j (omega (arith, from, from_flush)) to

  module _ (sector : ℕ) (left : List ℕ) (wide : 1 ≤ sector) (one : (h - 4) / sector ≡ (h - 1) / sector)
      (lost : SurvivesLoss sector end.state.start end.state.past end.state.flushed (length end.state.past) left) where
    counted_then : Counts s h (containers width count bytes) left
        × ((j : ℕ) × (j ≤ 4) × (field (h - 4) left ≡ mix j f.data_length n))
    counted_then =
        let m = end.state in
        let (top, order, low) = all_ordered (first_effects h n base beyond clean) 0 (h + n) result old end
        (effects_ordered clean h n 0 beyond (λ is. omega arith)) (in_order_none 0 old.state synced) did in
        let after = left_after h bytes base m.start m.past (λ v. n) m.flushed (length m.past) beyond (omega arith)
        order.ascends (λ j from to. omega (arith, (still_at j from to).inside)) (λ j from to. omega (arith, bytes_long))
        (λ j k from le to. (still_at k (omega (arith, from, le)) to).stored
        ∙ sym (take-take n n (drop h base) (omega arith))) (λ j from to. (still_at j from to).changes)
        sector wide one left lost s f.data_length cut.head (omega (arith, cut.held)) in
        let chosen = lost.sectors ((h - 4) / sector) in
        let (j, within, mixed) = (still_at chosen.0 chosen.1 chosen.2).says in
        let says : field (h - 4) left ≡ mix j f.data_length n =
        after.0 ∙ mixed ∙ ap (λ k. mix j k n) (head_field base s f.data_length h cut.head) in
        let joined : take n (concat (containers width count bytes)) ≡ take n bytes =
        ap (take n) (concat-containers width count bytes ∙ ap (λ k. take k bytes) all)
        ∙ take-take n n bytes (omega arith) in (
          counts_stored s h count (containers width count bytes) left some
              (wide_containers width count bytes (omega (arith, all, bytes_long)))
              after.3 (omega (arith, says, mix_le j f.data_length n cut.counted, all))
              (omega (arith, length-containers width count bytes))
              (subst (λ k. take k (drop h left) ≡ take k (concat (containers width count bytes))) (sym all)
              (after.1 ∙ sym joined)),
          (j, within, says),
        )

-- what is left counts no more than the samples that the recorder keeps, and as many as before or all of these, unless
-- only some bytes of the data length are new
pub mended_survives : (f : FoundFile) (mends overwrites : Bool) (old end : Log) (r : Recorder)
    (result : Result (Unit {0}) IoFault) → Resumes f mends overwrites (Ok r) → IsCutOff f r.data_length old.state
    → IsSynced old.state → Performed (effects_of r) result old end → (sector : ℕ) (left : List ℕ) → 1 ≤ sector
    → (f.data_start - 4) / sector ≡ (f.data_start - 1) / sector
    → SurvivesLoss sector end.state.start end.state.past end.state.flushed (length end.state.past) left
    → Counts f.spec_ex f.data_start (accepted_samples log_kind.state (writer_of f.spec_ex r old)) left
    × ((j : ℕ) × (j ≤ 4) × (field (f.data_start - 4) left ≡ mix j f.data_length r.data_length))
mended_survives f mends overwrites old end r result resumes cut synced did sector left wide one lost =
    let (at, takes) = begins_with f mends overwrites r resumes in
    let n = r.data_length in
    let width = f.spec_ex.bytes_per_sample in
    let (frames, is) = whole_frames n f.spec_ex.spec.channels width takes.2 in
    let whole : n % width ≡ 0 = ap (λ k. k % width) is ∙ mul-mod_left (frames * f.spec_ex.spec.channels) width in
    let performed : Performed (if is_sound r.health then checkpoint f.data_start n else Sync ∷ checkpoint f.data_start
    n) result old end = rw at at did in
    let (counts, says) = counted_then f n old end result (is_sound r.health) cut synced whole cut.sound.1 performed
    sector left wide one lost in
    let size : n + 0 ≡ n = omega arith in
    let bytes = take n (drop f.data_start old.state.contents) in
    grind (arith, common_steps, append-nil)
