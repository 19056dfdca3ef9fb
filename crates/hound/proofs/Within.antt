-- What is left in the medium within a durable one.
use Rattle.std.proofs.lemmas.Grind.{common_steps}
use Rattle.std.proofs.Common.{◌≡◌, ◌≤◌, [], length, IsTrue, inr, sym, ap, subst, arith}
use Rattle.std.proofs.lemmas.Bool.{cond-true}
use Rattle.hound_medium.specs.{overlay, MediumState, WhereKeeps}
use Rattle.hound_durable.specs.{within, Ascends, SurvivesLoss, own, replays_own}
use Rattle.hound_durable.specs.declared.durable.Durable.{Durable}
use Rattle.hound_writer.specs.{Ghosts, found_in, start_of}
use Rattle.hound.specs.Headline.{LeftWithin, SurvivesAtEnd}
use Rattle.hound.proofs.InUse.{counted_after_loss}
use Rattle.hound.proofs.Keeping.{left_kept, survives_counted}

-- the state that a durable medium shows
abbrev pub shown : {M : Type 0} {g : Ghosts M} → Durable M g → MediumState
shown {M} {g} d = own g.keeps (g.state d.inner) d.faults d.flushed

-- what is known of a durable medium, by what is known of the one within
abbrev pub durable_kind : {M : Type 0} → (g : Ghosts M) → Ghosts (Durable M g)
durable_kind g = record { tells = g.tells; keeps = g.keeps; state = λ d. shown d }

module _ {M : Type 0} {g : Ghosts M} (d : Durable M g) (modelled : IsTrue g.tells) (kept : IsTrue g.keeps) where
  same_past : (shown d).past ≡ (within d).past
  same_past = cond-true g.keeps (within d).past [] kept

  -- the state within, seen from outside
  same_state : record (shown d) { flushed = (within d).flushed; faults = (within d).faults } ≡ within d
  same_state = grind (arith, common_steps)

  flushed_later : (shown d).flushed ≤ (within d).flushed
  flushed_later = omega (arith, d.marked modelled kept, cond-true g.keeps d.flushed 0 kept)

  flushed_within : (within d).flushed ≤ length (shown d).past
  flushed_within = omega (arith, d.known modelled kept, ap length same_past)

  ascends : Ascends (shown d).past (within d).flushed (length (shown d).past)
  ascends = subst (λ l. Ascends l (within d).flushed (length l)) (sym same_past) (d.ascends modelled kept)

pub left_within : {M : Type 0} {g : Ghosts M} → ((m : M) → WhereKeeps g.tells g.keeps
    ((g.state m).contents ≡ overlay (g.state m).start (g.state m).past))
    → IsTrue g.tells → IsTrue g.keeps → LeftWithin (durable_kind g)
left_within {M} {g} replays modelled kept s file known d left =
    let shows : (d : Durable M g) → (shown d).contents ≡ overlay (shown d).start (shown d).past =
    λ d. replays_own g.keeps (g.state d.inner) d.faults d.flushed kept (replays d.inner modelled kept) in
    let k = left_kept (durable_kind g) (λ d _ _. shows d) s file known d left modelled kept in
    let p = k.promised.promises in
    record {
      left = k.left;
      promised = k.promised;
      left_after = λ before after flush at has_all sector contents some one lost.
          let same = same_past d modelled kept in
          inr (inr (
            (within d).flushed,
            length (shown d).past,
            sector,
            omega (
              arith,
              p.flushed before after flush at has_all,
              flushed_later d modelled kept,
            ),
            flushed_within d modelled kept,
            omega arith,
            ascends d modelled kept,
            some,
            one,
            subst (λ l. SurvivesLoss sector (within d).start l (within d).flushed (length l) contents) (sym same) lost,
          ));
      survives = subst (SurvivesAtEnd s (start_of s file) (found_in file) k.left.recorded.calls)
          (same_state d modelled kept)
          (survives_counted s (start_of s file) (found_in file) k.left.recorded.calls (shown d)
          (within d).flushed (within d).faults p
          (flushed_later d modelled kept) (flushed_within d modelled kept) (ascends d modelled kept)
          (counted_after_loss (durable_kind g) modelled kept shows s file known d k
          (within d).flushed (flushed_within d modelled kept) (ascends d modelled kept)));
    }
