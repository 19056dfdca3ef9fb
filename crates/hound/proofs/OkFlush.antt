-- An Ok flush, with the samples that the writer holds.
use Rattle.std.proofs.Common.{◌≡◌, List, [], ◌∷◌, ◌++◌, Ok, IsTrue, refl, ◌∙◌, ap}
use Rattle.std.specs.List.{AllByRecursion}
use Rattle.hound_spec.specs.declared.spec.WavSpecEx.{WavSpecEx}
use Rattle.hound_writer.specs.{AreKnown, Begun, Call, Finishes, Ghosts, Known, ReadsAs, Recorded, WriterState, accepted_samples, found_in, mark_of, publish, returned, start_of}
use Rattle.hound_writer.proofs.Recording.{call_at, ended, lead_more, leaves}
use Rattle.hound.specs.Headline.{HoldsAtEnd, accepted_by_all, accepted_of}
use Rattle.hound.proofs.Checkpoints.{accepted_after, ok_among, holds_at_end as read_at_end}
use Rattle.hound.proofs.Keeping.{accepts_calls, first_of, holds_at_end}
use Rattle.hound.proofs.Knowing.{publish_none}

module _ {W : Type 0} (kind : Ghosts W) (modelled : IsTrue kind.tells) where
  -- until the next call that publishes
  pub ok_now : (s : WavSpecEx) (file : Begun) (before after : List Known) (w : WriterState W)
      → Recorded kind s file (before ++ (returned publish (Ok tt) ∷ after)) w
      → AllByRecursion (λ (one : Known). one.asked ≡ publish → ⊥) after
      → (calls later : List Call) × AreKnown before calls × AreKnown after later
      × (accepted_samples kind.state w ≡ (found_in file ++ accepted_by_all calls) ++ accepted_by_all later)
      × ReadsAs s (start_of s file) (found_in file ++ accepted_by_all calls) (kind.state w.medium).contents
  unfolding Recorded
  ok_now s file before after w r none =
      let m = kind.state w.medium in
      let end = holds_at_end kind s file r.calls r.first w (first_of kind s file r.first r.opens) r.lead modelled in
      let (first, last, flush, parts, published, before_are, after_are, frames) =
      ok_among s file before after r.calls m end r.are_known in (
        first,
        last,
        before_are,
        after_are,
        accepts_calls kind modelled s file _ w r ∙ ap (λ l. found_in file ++ accepted_by_all l) parts
            ∙ accepted_after (found_in file) first (flush ∷ last)
            ∙ ap (λ asked. (found_in file ++ accepted_by_all first)
            ++ (accepted_of asked (mark_of flush.answer) ++ accepted_by_all last)) published.0,
        read_at_end s file r.calls m end first last flush parts published
            (publish_none after last after_are none) frames,
      )

  -- and of what an Ok end has left
  pub ok_end : (s : WavSpecEx) (file : Begun) (known : List Known) (w : WriterState W) (medium : W)
      → Recorded kind s file known w → Finishes kind w (Ok tt) medium
      → (calls : List Call) × AreKnown known calls
      × (accepted_samples kind.state w ≡ found_in file ++ accepted_by_all calls)
      × ReadsAs s (start_of s file) (found_in file ++ accepted_by_all calls) (kind.state medium).contents
  unfolding Recorded
  ok_end s file known w medium r finishes =
      let m = kind.state medium in
      let last = ended kind w medium in
      let call : Call = call_at kind publish (Ok tt) w in
      let lead = lead_more kind r.calls publish (Ok tt) r.first w last r.lead (leaves kind (Ok tt) w last finishes) in
      let end : HoldsAtEnd s file (r.calls ++ (call ∷ [])) m =
      holds_at_end kind s file (r.calls ++ (call ∷ [])) r.first last (first_of kind s file r.first r.opens) lead
      modelled in (
        r.calls,
        r.are_known,
        accepts_calls kind modelled s file known w r,
        read_at_end s file (r.calls ++ (call ∷ [])) m end r.calls [] call refl (refl, refl) tt
            (end.says r.calls [] call refl refl),
      )
