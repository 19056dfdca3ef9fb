-- What a recording keeps whose caller performs the effects.
use Rattle.std.proofs.lemmas.Grind.{common_steps}
use Rattle.std.proofs.Common.{◌≡◌, ℕ, ◌+◌, ◌-◌, ◌*◌, ◌/◌, ◌≤◌, List, [], ◌++◌, length, take, drop, inr, refl, sym, ◌∙◌, ap, subst, arith}
use Rattle.std.proofs.lemmas.List.{length-take-le, take-take, take_at}
use Rattle.std.specs.List.{concat}
use Rattle.hound_number.specs.{number}
use Rattle.hound_spec.specs.declared.spec.WavSpecEx.{WavSpecEx}
use Rattle.hound_medium.specs.{MediumState}
use Rattle.hound_medium.proofs.Overlays.{front_part}
use Rattle.hound_walk.specs.{Head}
use Rattle.hound_sample.proofs.Joined.{length-concat}
use Rattle.hound_durable.specs.{SurvivesLoss}
use Rattle.hound_writer.specs.{AgreeTo, Begun, Call, Counts, Directed, IsIdle, IsRecorderOf, accepted_samples, end_of, IsOrdered, IsSynced, Known, Log, Recorded, WriterState, field, found_in, handed_in, log_kind, start_of}
use Rattle.hound_writer.specs.declared.recorder.Recorder.{Recorder}
use Rattle.hound_writer.proofs.Directing.{at_none}
pub use Rattle.hound_writer.proofs.Acting.{not_done, one_next}
pub use Rattle.hound_writer.proofs.Directing.{performed_all, performed_more, readable_frames}
use Rattle.hound_writer.proofs.Samples.{length_written}
use Rattle.hound_writer.proofs.Heads.{head_front}
use Rattle.hound_repair.proofs.Joining.{concat_front, wide_take}
use Rattle.hound.specs.Headline.{Kept, KeptWithin, accepted_by_all, begins_at}
use Rattle.hound.proofs.Calling.{went}
use Rattle.hound.proofs.InUse.{counted_after_loss, head_after_loss}
use Rattle.hound.proofs.Keeping.{first_of, holds_at_end, keeps_promises, sized, survives_counted}
use Rattle.hound.proofs.PowerLoss.{counts_stored}

-- what calls left that a recorder directed
module _ (s : WavSpecEx) (file : Begun) (known : List Known) (w : WriterState Log)
    (recorded : Recorded log_kind s file known w) where
  kept : Kept log_kind s file known w.medium
  unfolding Recorded
  kept =
      let r = recorded in
      let first = first_of log_kind s file r.first r.opens in
      record {
        left = record { last = w; recorded = r; is = refl };
        promised = record {
          at_end = holds_at_end log_kind s file r.calls r.first w first r.lead refl;
          promises = keeps_promises log_kind s file r.calls r.first w first r.lead refl refl (λ m. m.replays);
        };
      }

  abbrev m : MediumState
  m = w.medium.state

  kept_within : (high : ℕ) → IsOrdered high m → KeptWithin log_kind s file known w.medium m
  kept_within high order =
      let p = kept.promised.promises in
      record {
        left = kept.left;
        promised = kept.promised;
        survives = survives_counted s (start_of s file) (found_in file) kept.left.recorded.calls m
            m.flushed m.faults p (omega arith) order.within order.ascends
            (counted_after_loss log_kind refl refl (λ m. m.replays) s file known w.medium kept
            m.flushed order.within order.ascends);
        left_after = λ before after flush at has_all sector contents some one lost. inr (inr (
          m.flushed,
          length m.past,
          sector,
          p.flushed before after flush at has_all,
          order.within,
          omega arith,
          order.ascends,
          some,
          one,
          lost,
        ));
      }

  -- the samples that the file had and those that its calls accepted
  abbrev list : List (List ℕ)
  list = found_in file ++ accepted_by_all kept.left.recorded.calls

  abbrev start : ℕ
  start = start_of s file

  -- they end where the data of its recorder do
  ends_at : IsIdle w → (w.data_start ≡ start) × (length (concat list) ≡ w.bytes_written)
  unfolding Recorded kept
  ends_at idle =
      let first = first_of log_kind s file recorded.first recorded.opens in
      let went = went log_kind refl recorded.calls recorded.first w recorded.lead in
      let here : accepted_samples log_kind.state w ≡ list =
      went.accepted (first.whole refl) ∙ ap (λ l. l ++ accepted_by_all recorded.calls) (first.found refl) in (
        went.data_start ∙ first.start,
        sym (ap (λ l. length (concat l)) here)
            ∙ sized log_kind.state w idle.sound idle.none (went.whole (first.whole refl))
            ∙ length_written log_kind.state w idle.none,
      )

  -- what counts them does so whatever follows them
  counts_cut : (contents cut : List ℕ) → Head contents s (field (start - 4) contents) start
      → Counts s start list contents → AgreeTo (start + length (concat list)) cut contents
      → Counts s start list cut
  counts_cut contents cut head counts (same, cut_long, long) =
      let wide = kept.promised.at_end.wide in
      let some = kept.promised.at_end.sound.1 in
      let width = s.bytes_per_sample in
      let far = start + length (concat list) in
      let size : length (concat list) ≡ length list * width = length-concat width list wide in
      let after : 4 ≤ start = omega (arith, head.place) in
      let few : counts.samples * width ≤ length list * width = grind (arith, common_steps, counts.among) in
      let field_same : field (start - 4) cut ≡ field (start - 4) contents =
      ap number (front_part far (start - 4) 4 cut contents (omega (arith, after)) same) in
      let head_same : Head cut s (field (start - 4) cut) start =
      head_front contents s (field (start - 4) contents) start head cut
      (sym (take-take start far cut (omega arith)) ∙ ap (take start) same ∙ take-take start far contents (omega arith))
      (omega (arith, cut_long)) in
      let first = take counts.samples list in
      let first_size : length (concat first) ≡ counts.samples * width =
      length-concat width first (wide_take width counts.samples list wide)
      ∙ ap (λ n. n * width) (length-take-le counts.samples list counts.among) in
      let first_is : concat first ≡ take (counts.samples * width) (concat list) =
      sym (ap (take (counts.samples * width)) (concat_front counts.samples list)
      ∙ take_at (concat first) (concat (drop counts.samples list)) (counts.samples * width) first_size) in
      let stored : take (counts.samples * width) (drop start cut) ≡ take (counts.samples * width) (concat list) =
      front_part far start (counts.samples * width) cut contents (omega (arith, few, size)) same ∙ counts.stored
      ∙ first_is in
      counts_stored s start counts.samples list cut some wide head_same
      (omega (arith, counts.covers, field_same)) counts.among stored

-- the data of a recorder end where those samples do
end_same : (r : Recorder) (w : WriterState Log) {start n : ℕ} → w.data_start ≡ start → IsRecorderOf r w
    → n ≡ w.bytes_written → end_of r ≡ start + n
end_same r w at is long = omega (arith, at, is.0, is.1, long)

module _ (s : WavSpecEx) (file : Begun) (known : List Known) (r : Recorder) where
  pub directed_kept : (m : MediumState) → Directed s file known r m → r.number ≡ 0
      → (log : Log) × (log.state ≡ m) × Kept log_kind s file known log
  directed_kept m directed none =
      let d = directed.in_step in
      let same = at_none r d.writer.medium d.log none d.performed in
      (d.writer.medium, ap log_kind.state (sym same) ∙ d.state, kept s file known d.writer d.recorded)

  pub directed_survives : (m : MediumState) → Directed s file known r m → r.number ≡ 0 → IsSynced (handed_in file)
      → (log : Log) × (log.state ≡ m) × KeptWithin log_kind s file known log m
  directed_survives m directed none synced =
      let d = directed.in_step in
      let same = at_none r d.writer.medium d.log none d.performed in
      let here : d.writer.medium.state ≡ m = ap log_kind.state (sym same) ∙ d.state in
      let (high, order, low) = d.order synced in (
        d.writer.medium,
        here,
        subst (KeptWithin log_kind s file known d.writer.medium) here
            (kept_within s file known d.writer d.recorded high order),
      )

  -- a cut at the end of its data changes nothing that is counted
  abbrev CountsCut : List Call → List ℕ → Type 0
  CountsCut calls contents = (cut : List ℕ) → AgreeTo (end_of r) cut contents
      → Counts s (start_of s file) (found_in file ++ accepted_by_all calls) cut

  pub directed_cut : (m : MediumState) → Directed s file known r m → r.number ≡ 0
      → (log : Log) × (log.state ≡ m) × (kept : Kept log_kind s file known log)
      × CountsCut kept.left.recorded.calls m.contents
  directed_cut m directed none =
      let d = directed.in_step in
      let w = d.writer in
      let same = at_none r w.medium d.log none d.performed in
      let here : w.medium.state ≡ m = ap log_kind.state (sym same) ∙ d.state in
      let kept = kept s file known w d.recorded in
      let (at, long) = ends_at s file known w d.recorded d.idle in
      let p = kept.promised.promises in
      let last = length w.medium.state.past in
      let head = subst (λ c. Head c s (field (start_of s file - 4) c) (start_of s file)) p.now
      (p.head last (p.in_order [] [] kept.left.recorded.calls refl).1 (omega arith)) in (
        w.medium,
        here,
        kept,
        λ cut agree. counts_cut s file known w d.recorded w.medium.state.contents cut head kept.promised.at_end.counts
            (subst (λ (x : ℕ × List ℕ). AgreeTo x.0 cut x.1)
            (λ i. (end_same r w at d.is long i, ap (λ (m : MediumState). m.contents) (sym here) i)) agree),
      )

  abbrev Both : Log → MediumState → Type 0
  Both log m = (kept : KeptWithin log_kind s file known log m)
      × (begins_at kept.left.recorded.calls m.past ≤ m.flushed → (sector : ℕ) (contents : List ℕ) → 1 ≤ sector
      → (start_of s file - 4) / sector ≡ (start_of s file - 1) / sector
      → SurvivesLoss sector m.start m.past m.flushed (length m.past) contents
      → CountsCut kept.left.recorded.calls contents)

  pub directed_cut_survives : (m : MediumState) → Directed s file known r m → r.number ≡ 0 → IsSynced (handed_in file)
      → (log : Log) × (log.state ≡ m) × (kept : KeptWithin log_kind s file known log m)
      × (begins_at kept.left.recorded.calls m.past ≤ m.flushed → (sector : ℕ) (contents : List ℕ) → 1 ≤ sector
      → (start_of s file - 4) / sector ≡ (start_of s file - 1) / sector
      → SurvivesLoss sector m.start m.past m.flushed (length m.past) contents
      → CountsCut kept.left.recorded.calls contents)
  unfolding kept kept_within
  directed_cut_survives m directed none synced =
      let d = directed.in_step in
      let w = d.writer in
      let same = at_none r w.medium d.log none d.performed in
      let here : w.medium.state ≡ m = ap log_kind.state (sym same) ∙ d.state in
      let (high, order, low) = d.order synced in
      let (at, long) = ends_at s file known w d.recorded d.idle in
      let both : Both w.medium m = subst (Both w.medium) here (
        kept_within s file known w d.recorded high order,
        λ header sector contents some one lost cut agree. counts_cut s file known w d.recorded contents cut
            (head_after_loss log_kind refl refl (λ m. m.replays) s file known w.medium (kept s file known w d.recorded)
            w.medium.state.flushed order.within order.ascends header sector contents some one lost)
            (counted_after_loss log_kind refl refl (λ m. m.replays) s file known w.medium
            (kept s file known w d.recorded)
            w.medium.state.flushed order.within order.ascends header sector contents some one lost)
            (subst (λ n. AgreeTo n cut contents) (end_same r w at d.is long) agree),
      ) in
      (w.medium, here, both.0, both.1)
