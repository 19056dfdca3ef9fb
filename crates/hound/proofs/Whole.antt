-- A whole run, from its beginning to its end.
use Rattle.std.proofs.lemmas.Grind.{common_steps}
use Rattle.std.proofs.Common.{◌≡◌, ℕ, ◌+◌, ◌<◌, ◌≤◌, max, Bool, List, [], ◌∷◌, ◌++◌, length, take, map, Result, Ok, Err, OnOk, IsTrue, refl, sym, ◌∙◌, ap, subst, arith, length-append}
use Rattle.std.proofs.lemmas.List.{take_all, length-take-le}
use Rattle.std.specs.Io.{StartsWith}
use Rattle.hound_spec.specs.declared.error.Error.{Error}
use Rattle.hound_spec.specs.declared.spec.WavSpecEx.{WavSpecEx}
use Rattle.hound_spec.specs.{data_start, canonical}
use Rattle.hound_spec.proofs.HeaderLemmas.{data_start_least, length-header}
use Rattle.hound_medium.specs.{WhereKeeps, overlay}
use Rattle.hound_medium.proofs.Overlays.{length-placed}
use Rattle.hound_writer.specs.{Ghosts, mark_of, Call, Lead, Left, Opens, Recorded, asked_by_all, made, new_file, publish, Finishes, WriterState, IsWhole}
use Rattle.hound_writer.proofs.Accepting.{length_overlay_max}
use Rattle.hound_writer.proofs.Recording.{ended, lead_more, leaves, left_by}
use Rattle.hound.specs.declared.session.Step.{Step}
use Rattle.hound.specs.declared.session.Begin.{Begin}
use Rattle.hound.specs.declared.session.Begin.TheVariants.{New}
use Rattle.hound.specs.declared.session.End.{End}
use Rattle.hound.specs.declared.session.End.TheVariants.{Finalize}
use Rattle.hound.specs.Headline.{NoFault, accepted_by_all, accepted_of}
use Rattle.hound.specs.Run.{BeginsAs, EndsAs, IsNotBegunAs, Ran, end_call, file_of, begun_spec, accepted_by_steps, asked_by}
use Rattle.hound.proofs.Calling.{went}
use Rattle.hound.proofs.Knowing.{known_steps}
use Rattle.hound.proofs.Keeping.{first_of, holds_at_end, keeps_promises}

-- a constructor that failed wrote less than the header
pub part_of_header : {M : Type 0} (kind : Ghosts M) (s : WavSpecEx)
    (old back : M) (e : Error) → IsTrue kind.tells → IsNotBegunAs kind (New s) old back e
    → (count : ℕ) × (count < data_start s)
    × (length (kind.state back).contents ≤ max (length (kind.state old).contents) ((kind.state old).place + count))
    × (IsTrue kind.keeps → length (kind.state back).past ≡ length (kind.state old).past + count)
part_of_header kind s old back e modelled given =
    grind (
      arith,
      common_steps,
      length-append,
      length-take-le,
      data_start_least,
      length-header,
      length-placed,
      length_overlay_max,
    )

-- the calls of steps accepted what the steps did, by their marks
calls_accept : (s : WavSpecEx) (steps : List Step) (calls : List Call) → asked_by_all calls ≡ map (asked_by s) steps
    → accepted_by_all calls ≡ accepted_by_steps s steps
    (map (λ (call : Call). mark_of call.answer) calls)
calls_accept s [] [] asked = refl
calls_accept s (step ∷ steps) (call ∷ calls) asked =
    let one : call.asked ≡ asked_by s step = cc in
    let rest : asked_by_all calls ≡ map (asked_by s) steps = cc in
    λ i. accepted_of (one i) (mark_of call.answer) ++ calls_accept s steps calls rest i
calls_accept s _ _ asked = cc

module _ {M : Type 0} (kind : Ghosts M) where
  run_spec : (begin : Begin) (old : M) (w : WriterState M) → BeginsAs kind begin old w → w.spec_ex ≡ begun_spec begin w
  run_spec begin old w begins = grind (arith, common_steps)

  run_beyond : (begin : Begin) (old : M) (w : WriterState M) → BeginsAs kind begin old w → 4 ≤ w.data_start
  run_beyond begin old w begins = grind (arith, common_steps)

  run_opens : (begin : Begin) (old : M) (w : WriterState M) → BeginsAs kind begin old w → IsWhole kind.state w
      → Opens kind (begun_spec begin w) (file_of kind.state begin old w) w
  run_opens begin old w begins whole = grind (arith, common_steps)

  -- the calls with that of the end
  pub all_lead : (calls : List Call) (first last : WriterState M)
      (finished : Result (Unit {0}) Error) (medium : M) → Lead kind calls first last
      → Finishes kind last finished medium
      → Lead kind (calls ++ (end_call kind.state last finished ∷ [])) first
      (ended kind last medium)
  all_lead calls first last finished medium lead ends =
      lead_more kind calls publish finished first last
      (ended kind last medium) lead
      (leaves kind finished last (ended kind last medium) ends)

  pub ran : (begin : Begin) (steps : List Step) (marks : List Bool) (end : End) (old : M)
      (answer finished : Result (Unit {0}) Error) (medium : M) (first last : WriterState M)
      (calls : List Call) → BeginsAs kind begin old first
      → Lead kind calls first last
      → asked_by_all calls ≡ map (asked_by first.spec_ex) steps
      → marks ≡ map (λ (call : Call). mark_of call.answer) calls
      → Finishes kind last finished medium → EndsAs end answer finished
      → ((m : M)
      → WhereKeeps kind.tells kind.keeps ((kind.state m).contents ≡ overlay (kind.state m).start (kind.state m).past))
      → Ran kind begin steps marks end old answer medium
  ran begin steps marks end old answer finished medium first last calls begins lead asked marked ends modelled replays =
      let all = calls ++ (end_call kind.state last finished ∷ []) in
      let w = ended kind last medium in
      let leads = all_lead calls first last finished medium lead ends in
      let s = begun_spec begin first in
      let file = file_of kind.state begin old first in
      record {
        first = first;
        last = last;
        calls = calls;
        finished = finished;
        begins = begins;
        lead = lead;
        asked = asked ∙ ap (λ s. map (asked_by s) steps) (run_spec begin old first begins);
        marked = marked;
        ends = ends;
        reported = modelled;
        front = λ modelled. (went kind modelled all first w leads).front (run_beyond begin old first begins);
        holds = λ modelled whole. holds_at_end kind s file all first w
            (first_of kind s file first (run_opens begin old first begins whole)) leads
            modelled;
        promises = λ modelled kept whole. keeps_promises kind s file all first w
            (first_of kind s file first (run_opens begin old first begins whole)) leads
            modelled kept (λ m. replays m modelled kept);
      }

-- a run over a new file
module _ {M : Type 0} {kind : Ghosts M} {s : WavSpecEx}
    {steps : List Step} {marks : List Bool} {end : End} {old medium : M}
    {answer : Result (Unit {0}) Error}
    (r : Ran kind (New s) steps marks end old answer medium) where
  pub steps_accepted : accepted_by_all r.calls ≡ accepted_by_steps s steps marks
  steps_accepted = grind (arith, common_steps, calls_accept)

  pub new_exact : IsTrue kind.tells → (kind.state old).contents ≡ [] → NoFault (kind.state old) (kind.state medium)
      → (kind.state medium).contents ≡ canonical s (accepted_by_steps s steps marks)
  new_exact modelled empty none =
      let exact = (r.holds modelled (r.begins.file modelled).whole).exact none r.calls
      (end_call kind.state r.last r.finished) refl refl in
      let c = canonical s (accepted_by_steps s steps marks) in
      let starts : take (length c) (kind.state medium).contents ≡ c =
      subst (λ l. StartsWith (kind.state medium).contents (canonical s l)) steps_accepted exact.0 in
      grind (arith, common_steps, take_all, steps_accepted)

  pub new_canonical : IsTrue kind.tells → end ≡ Finalize → OnOk answer
      (StartsWith (kind.state medium).contents (canonical s (accepted_by_steps s steps marks)))
  new_canonical modelled is_finalize =
      go answer (subst (λ e. EndsAs e answer r.finished) is_finalize r.reported)
    where
      go : (answer : Result (Unit {0}) Error) → answer ≡ r.finished → OnOk answer
          (StartsWith (kind.state medium).contents (canonical s (accepted_by_steps s steps marks)))
      go (Ok x) is =
          subst (λ l. StartsWith (kind.state medium).contents (canonical s l)) steps_accepted
          ((r.holds modelled (r.begins.file modelled).whole).canonical r.calls
          (end_call kind.state r.last r.finished) refl (refl, ap mark_of (sym is)))
      go (Err e) is = tt

  -- it leaves what its calls leave
  pub run_left : Left kind s (new_file (kind.state old))
      (map (λ step. made (asked_by s step)) steps ++ made publish ∷ []) medium
  unfolding Recorded
  run_left =
      left_by kind (made publish) r.finished s (new_file (kind.state old))
      (map (λ step. made (asked_by s step)) steps) r.last medium (refl, tt) r.ends
      (record {
        first = r.first;
        calls = r.calls;
        opens = r.begins;
        lead = r.lead;
        are_known = known_steps s steps r.calls r.asked;
      })
