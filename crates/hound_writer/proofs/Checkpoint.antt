-- The effects of a checkpoint publish as a writer does.
use Rattle.std.proofs.lemmas.Grind.{common_steps}
use Rattle.std.proofs.Common.{◌≡◌, ℕ, zero, suc, ◌+◌, ◌-◌, ◌%◌, ◌<◌, ◌^◌, Bool, true, false, IsTrue, List, [], ◌∷◌, ◌++◌, replicate, length, Result, Ok, Err, MatchResult, is_ok, refl, ◌∙◌, ap, subst, arith}
use Rattle.std.specs.Prelude.{if◌then◌else◌}
use Rattle.std.specs.declared.io.Error.{Error as IoFault}
use Rattle.hound_number.specs.{bytes_of}
use Rattle.hound_spec.specs.{riff_size, padding}
use Rattle.hound_spec.specs.declared.error.Error.{Error}
use Rattle.hound_spec.specs.declared.error.Error.TheVariants.{IoError}
use Rattle.hound_medium.specs.{MediumState, Flushes, faults_after}
use Rattle.hound_medium.proofs.Outcomes.{on_ok, on_ok_self}
use Rattle.hound_medium.proofs.Spans.{flushed_since, span_still}
use Rattle.hound_writer.specs.Accepting.{AddsAtEach}
use Rattle.hound_writer.specs.Effects.{Log, Performed, checkpoint, log_kind, pad_effects, size_effects}
use Rattle.hound_writer.specs.Parts.{all_out, after_out, GoesOut, HasSize, IsConsistent, IsPublishResult, CountsAtMost, Patches, PatchesAtEach, PutsAt, StaysAround}
use Rattle.hound_writer.specs.Publishing.{PublishesTo}
use Rattle.hound_writer.specs.Recording.{IsIdle}
use Rattle.hound_writer.specs.Writer.{WriterState, AreFrames, IsPadded, data_length, padded_end}
use Rattle.hound_writer.specs.declared.effects.Effect.{Effect}
use Rattle.hound_writer.specs.declared.effects.Effect.TheVariants.{Size, Sync}
use Rattle.hound_writer.proofs.Accepting.{goes_beside}
use Rattle.hound_writer.proofs.Containers.{none_whole}
use Rattle.hound_writer.proofs.Keeping.{sound_with}
use Rattle.hound_writer.proofs.Padding.{goes_out, padded_odd}
use Rattle.hound_writer.proofs.Patching.{cut, first_half, patched, second_half}
use Rattle.hound_writer.proofs.PatchMoments.{patches_none, patches_both, patches_still, publishes_to, riff_span}
use Rattle.hound_writer.proofs.PublishLater.{published_cut, published_later}
use Rattle.hound_writer.proofs.Samples.{length_written, valid_of, whole_written}
use Rattle.hound_writer.proofs.AtMost.{inside, at_most_patched}

-- what an effect returned
abbrev pub fine : Unit {0} → Result (Unit {0}) IoFault
fine x = Ok x

abbrev pub bad : IoFault → Result (Unit {0}) IoFault
bad e = Err e

faults_as : (r : Result (Unit {0}) IoFault) (n : ℕ) → faults_after r n ≡ faults_after (all_out (is_ok r)) n
faults_as r n = grind (arith, common_steps)

-- bytes that were written, by whether all were
pub as_out : (at : ℕ) (bytes : List ℕ) (r : Result (Unit {0}) IoFault) (old new : MediumState)
    → PutsAt true at bytes r old new → PutsAt true at bytes (all_out (is_ok r)) old new
as_out at bytes r old new puts = grind (arith, common_steps)

-- a writer stays idle over what an effect has left
pub good_over : (w : WriterState Log) (m : Log) → IsIdle w
    → CountsAtMost w.spec_ex w.data_start w.bytes_written m.state.contents → IsIdle (record w { medium = m })
good_over w m good at_most = grind (arith, common_steps, sound_with)

-- the effects after the first sync
abbrev sizes_of : WriterState Log → List Effect
sizes_of w = Size 4 (riff_size w.data_start w.bytes_written) ∷ Size (w.data_start - 4) w.bytes_written ∷ Sync ∷ []

module _ (w : WriterState Log) (good : IsIdle w) where
  abbrev p : ℕ
  p = w.data_start - 4

  abbrev size : ℕ
  size = riff_size w.data_start w.bytes_written

  abbrev a : MediumState
  a = w.medium.state

  long : data_length w ≡ w.bytes_written
  long = length_written log_kind.state w good.none

  pub known : IsConsistent log_kind w true 0
  known = grind (arith, common_steps, whole_written, none_whole)

  has : HasSize p a.contents
  has = grind (arith, common_steps, inside)

  fits : size < 2 ^ 32
  fits = omega (arith, good.sound.fits, long)

  abbrev Both : Result (Unit {0}) IoFault → Log → Type 0
  Both outcome end =
      Patches p size w.bytes_written outcome a end.state × PatchesAtEach p size w.bytes_written outcome a end.state

  synced : (r : Result (Unit {0}) IoFault) (b c d : Log) → PutsAt true 4 (bytes_of 4 size) (fine tt) a b.state
      → PutsAt true p (bytes_of 4 w.bytes_written) (fine tt) b.state c.state
      → Flushes r c.state d.state → Both r d
  synced r b c d first second flush = (
    patched true p size w.bytes_written (fine tt) (fine tt) r a b.state c.state d.state has b.small first second
        first.whole second.whole fits (second.faults ∙ first.faults) flush,
    patches_still p size w.bytes_written r r a c.state d.state c.replays flush.stays
        (flushed_since r c.state d.state flush) (on_ok_self r)
        (patches_both true p size w.bytes_written (fine tt) (fine tt) r a b.state c.state refl
        w.medium.replays b.replays has b.small first first.whole fits second (on_ok r refl)),
  )

  -- the two sizes and the last sync, up to one that failed
  sizes : (outcome : Result (Unit {0}) IoFault) (end : Log)
      → Performed (sizes_of w) outcome w.medium end → Both outcome end
  sizes outcome end (b, Err e, first, (is, last)) =
      rw (is, last) (
        cut p size w.bytes_written 0 (bad e) a b.state refl (omega arith)
            (first_half true p size w.bytes_written (bad e) a b.state has first) first.faults,
        patches_none p size w.bytes_written (bad e) a b.state
            (riff_span true p size w.bytes_written (bad e) a b.state refl w.medium.replays has first) tt,
      )
  sizes outcome end (b, Ok x, first, (c, Err e, second, (is, last))) =
      rw (is, last) (
        cut p size w.bytes_written second.count (bad e) a c.state refl second.within
            (second_half true p size w.bytes_written (fine tt) a b.state has first (bad e) c.state
            b.small first.whole fits second)
            (second.faults ∙ ap (λ n. faults_after (bad e) n) first.faults),
        patches_both true p size w.bytes_written (fine tt) (bad e) (bad e) a b.state c.state refl
            w.medium.replays b.replays has b.small first first.whole fits second tt,
      )
  sizes outcome end (b, Ok x, first, (c, Ok y, second, (d, Ok z, flush, (is, last)))) =
      rw (is, last) (synced (fine z) b c d first second flush)
  sizes outcome end (b, Ok x, first, (c, Ok y, second, (d, Err e, flush, (is, last)))) =
      rw (is, last) (synced (bad e) b c d first second flush)

  value : (all : Bool) (m : Log) → record w { medium = m } ≡ after_out all m w
  value all m = grind (arith, common_steps)

  -- a sync writes nothing
  module _ (far : ℕ) (m : Log) (r : Result (Unit {0}) IoFault) (flush : Flushes r a m.state) where
    pub at_most_still : CountsAtMost w.spec_ex w.data_start w.bytes_written m.state.contents
    at_most_still = rw flush.stays.contents good.at_most

    around_still : StaysAround log_kind.state far w m.state
    around_still = grind (arith, common_steps, at_most_still)

    adds_still : AddsAtEach log_kind.state w m.state
    adds_still =
        let since = flushed_since r a m.state flush in
        let counts = (valid_of log_kind true 0 w known).counts refl in
        let same : length m.state.past ≡ length a.past = ap length flush.stays.past in
        grind (arith, common_steps, span_still)

    pub goes_still : GoesOut log_kind far (is_ok r) w (record w { medium = m })
    goes_still = record {
      value = value (is_ok r) m;
      sound = good.sound;
      file = λ _. goes_beside log_kind.state far (is_ok r) w m good.sound
          (whole_written log_kind.state w good.none good.sound)
          (flush.faults ∙ faults_as r a.faults) around_still;
      moments = λ _ _. let adds = adds_still in
          let since = flushed_since r a m.state flush in
          let same : length m.state.past ≡ length a.past = ap length flush.stays.past in
          grind (arith, common_steps, span_still);
    }

-- a checkpoint of such a writer, and its result by the frames
module _ (outcome : Result (Unit {0}) IoFault) (are_frames : Bool) (answer : Result (Unit {0}) Error)
    (is : IsPublishResult outcome are_frames answer) (end : Log) where
  -- all that is published, and the file that is left
  abbrev Left : WriterState Log → Type 0
  Left w = PublishesTo log_kind end.state.place answer w (record w { medium = end })
      × CountsAtMost w.spec_ex w.data_start w.bytes_written end.state.contents

  abbrev HasFrames : WriterState Log → Type 0
  HasFrames w = (IsTrue are_frames → AreFrames w) × (AreFrames w → IsTrue are_frames)

  -- the sizes, once the pad byte is there
  after_pad : (w : WriterState Log) → IsIdle w → HasFrames w → IsPadded w w.medium.state.contents
      → Performed (sizes_of w) outcome w.medium end → Left w
  after_pad w good frames padded did =
      let both = sizes w good outcome end did in
      let half = both.0.half in (
        publishes_to log_kind w end good.none good.sound (λ _. good.at_most) (λ _. padded)
            outcome are_frames answer is (record w { medium = end }) refl frames (λ _. w.medium.small)
            (λ _. end.small) (λ _. both.0) (λ _ _. both.1) end.state.place (λ _. on_ok outcome refl),
        at_most_patched w.spec_ex w.data_start w.bytes_written w.medium.state.contents end.state.contents
            good.at_most half.0 half.2.same half.2.field,
      )

  -- an effect before the sizes, and then those that follow
  step : (w : WriterState Log) (m : Log) (r : Result (Unit {0}) IoFault) (effects : List Effect)
      → GoesOut log_kind (padded_end w) (is_ok r) w (record w { medium = m })
      → MatchResult r (λ _. Performed effects outcome m end) (λ e. (outcome ≡ Err e) × (end ≡ m))
      → (IsTrue (is_ok r) → Performed effects outcome m end → Left (record w { medium = m })) → Left w
  step w m (Ok x) effects goes did next =
      let rest = next refl did in (
        published_later log_kind (padded_end w) end.state.place w (record w { medium = m })
            (record w { medium = end }) answer (omega arith) goes (λ _. w.medium.small) rest.0,
        rest.1,
      )
  step w m (Err e) effects goes (is_e, last) next =
      let cut_is : answer ≡ Err (IoError e) = subst (λ r. IsPublishResult r are_frames answer) is_e is in
      rw (cut_is, last) (
        published_cut log_kind (padded_end w) m.state.place w (record w { medium = m }) e
            (omega arith) goes (λ _. w.medium.small),
        (goes.file refl).around.at_most,
      )

  after_sync : (w : WriterState Log) → IsIdle w → HasFrames w → IsPadded w w.medium.state.contents
      → Performed (Sync ∷ sizes_of w) outcome w.medium end → Left w
  after_sync w good frames padded (m, r, flush, rest) =
      step w m r (sizes_of w) (goes_still w good (padded_end w) m r flush) rest
      (λ ok did. after_pad (record w { medium = m })
      (good_over w m good (at_most_still w good (padded_end w) m r flush))
      frames (rw flush.stays.contents padded) did)

  by_parity : (w : WriterState Log) → IsIdle w → HasFrames w → (odd : ℕ) → w.bytes_written % 2 ≡ odd
      → Performed (pad_effects (w.data_start + w.bytes_written) odd ++ size_effects w.data_start w.bytes_written)
      outcome
      w.medium end → Left w
  by_parity w good frames zero even did =
      let none : padding (data_length w) ≡ [] =
      ap (λ n. replicate (n % 2) 0) (long w good) ∙ ap (λ n. replicate n 0) even in
      let padded : IsPadded w w.medium.state.contents = rw none refl in
      after_sync w good frames padded did
  by_parity w good frames (suc n) odd (m, r, puts, rest) =
      let put = as_out (w.data_start + w.bytes_written) (0 ∷ []) r w.medium.state m.state puts in
      let no : w.bytes_written % 2 ≡ 0 → ⊥ = λ even. omega (arith, even, odd) in
      let goes = goes_out log_kind w true 0 (known w good) good.none (λ _ _. w.medium.replays) no m
      (is_ok r) (λ _. put) in
      step w m r (size_effects w.data_start w.bytes_written) goes rest
      (λ ok did. after_sync (record w { medium = m }) (good_over w m good (goes.file refl).around.at_most) frames
      (padded_odd log_kind w true 0 (known w good) good.none (λ _ _. w.medium.replays) no m (is_ok r)
      (λ _. put) refl ok) did)

  pub publishes_checkpoint : (w : WriterState Log) → IsIdle w → HasFrames w
      → Performed (checkpoint w.data_start w.bytes_written) outcome w.medium end → Left w
  publishes_checkpoint w good frames did = by_parity w good frames (w.bytes_written % 2) refl did

  -- and those of a recorder: after a failure a sync comes first
  pub publishes_effects : (clean : Bool) (w : WriterState Log) → IsIdle w → HasFrames w
      → Performed (if clean then checkpoint w.data_start w.bytes_written
      else Sync ∷ checkpoint w.data_start w.bytes_written) outcome w.medium end → Left w
  publishes_effects true w good frames did = publishes_checkpoint w good frames did
  publishes_effects false w good frames (m, r, flush, rest) =
      step w m r (checkpoint w.data_start w.bytes_written) (goes_still w good (padded_end w) m r flush) rest
      (λ ok did. publishes_checkpoint (record w { medium = m })
      (good_over w m good (at_most_still w good (padded_end w) m r flush))
      frames did)
