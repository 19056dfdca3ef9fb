-- Sessions one after the other: the file that they leave, and what they return.
use Rattle.std.proofs.Common.{◌≡◌, ℕ, ◌≤◌, max, IsTrue, List, length, Result, Ok, refl, ap, subst, arith, ◌-◌, ◌<◌, true, Bor, [], ◌∷◌, ◌⊎◌, ◌++◌, Err, OnOk, IfErr, IsErrAnd, sym, ◌∙◌, inl, inr, length-take, append_assoc, not}
use Rattle.std.specs.List.{concat}
use Rattle.std.proofs.lemmas.Grind.{flat_map-append, common_steps}
use Rattle.std.proofs.lemmas.List.{append-nil, length-take-le, take_all}
use Rattle.std.specs.Io.{StartsWith}
use Rattle.hound_number.specs.{AreBytes}
use Rattle.hound_spec.specs.declared.error.Error.{Error}
use Rattle.hound_spec.specs.declared.spec.WavSpecEx.{WavSpecEx}
use Rattle.hound_spec.specs.{data_start, canonical, riff_size, IsWritable, greatest_u32}
use Rattle.hound_spec.specs.declared.error.Error.TheVariants.{IoError, Unsupported}
use Rattle.hound_spec.proofs.HeaderLemmas.{length-canonical, length-header, data_start_least}
use Rattle.hound_medium.specs.{MediumState, one_more}
use Rattle.hound_medium.proofs.Torn.{number_at_small}
use Rattle.hound_walk.proofs.Exists.{one_answer}
use Rattle.hound_walk.proofs.Unique.{heads_agree}
use Rattle.hound_writer.specs.{Ghosts, IsPublishing, IsIoError, mark_of, Does, Asked, publish, write, WriterState, data_length, HasHeader, IsWhole, IsBegun, accepted_samples, padded_end, field, Appends, IsAppendFault, AppendFault, appendable, faulty, Begins, Finishes, ReadsAs}
use Rattle.hound_writer.proofs.Answers.{all_marked, where_marked, no_io, rejected_of}
use Rattle.hound_writer.proofs.Accepting.{length_overlay_max}
use Rattle.hound_writer.proofs.AppendAnswers.{no_head_fault, one_append_answer}
use Rattle.hound_writer.proofs.Fresh.{none_accepted}
use Rattle.hound_writer.proofs.Heads.{head_field, head_inside}
use Rattle.hound_writer.proofs.Samples.{length_written, samples_out}
use Rattle.hound.specs.declared.session.Step.{Step}
use Rattle.hound.specs.Run.{AnswersStep, writer_after, AnswersAll, AnswersSession, IsReturned, RunsFrom, RunsOn, RunsOnce, RunsUntil, StopsAt, StopsEarly, all_steps, Takes, asked_by, accepted_by, containers_of}
use Rattle.hound.specs.declared.session.Begin.{Begin}
use Rattle.hound.specs.declared.session.Begin.TheVariants.{New, Append}
use Rattle.hound.specs.Headline.{NoFault, accepted_of}
use Rattle.hound.proofs.Calling.{call_faults, call_reach, call_went, length-concat-append}
use Rattle.hound.proofs.Later.{grows_reported, no_fault_parts}

-- a writer that returns what one of a file of this spec does which has accepted these samples
pub record IsAfter {W : Type 0} (s : WavSpecEx) (list : List (List ℕ)) (w : WriterState W) : Type 0 where
  pub spec : w.spec_ex ≡ s
  pub start : w.data_start ≡ data_start s
  pub size : data_length w ≡ length (concat list)

pub publishing_after : {W : Type 0} (s : WavSpecEx) (list : List (List ℕ)) (w : WriterState W)
    (answer : Result (Unit {0}) Error) → IsAfter s list w → IsPublishing answer w
    → IsPublishing answer (writer_after s list)
publishing_after s list w answer after is = grind (arith, common_steps)

-- a step's result is that of a writer of the same samples
pub step_answers : {M : Type 0} (kind : Ghosts M) (s : WavSpecEx)
    (old new : WriterState M) (list : List (List ℕ)) (step : Step) (answer : Result (Unit {0}) Error)
    → IsAfter s list old → Takes kind step answer old new
    → AnswersStep s list step answer
step_answers kind s old new list step answer after takes = grind (arith, common_steps)

-- sessions of a file of this spec, over a medium that began as `start`
module _ {M : Type 0} (kind : Ghosts M) (modelled : IsTrue kind.tells)
    (small : (m : M) → AreBytes (kind.state m).contents) (s : WavSpecEx) (writable : IsWritable s)
    (start : MediumState) where
  abbrev Answer : Type 0
  Answer = Result (Unit {0}) Error

  -- Contents that are the canonical file of these containers in whole frames, which can be appended to, followed only
  -- by what was there at the start; and no fault was met since then.
  record HoldsFile (list : List (List ℕ)) (contents : List ℕ) (faults : ℕ) : Type 0 where
    reads : ReadsAs s (data_start s) list contents
    size : reads.readable.len ≡ length (concat list)
    fits : riff_size (data_start s) (length (concat list)) ≤ greatest_u32
    header : HasHeader s contents
    file : StartsWith contents (canonical s list)
    none : faults ≡ start.faults
    reach : length contents ≤ max (length start.contents) (length (canonical s list))

  -- a writer of such a file
  record OnFile (list : List (List ℕ)) (w : WriterState M) : Type 0 where
    after : IsAfter s list w
    whole : IsWhole kind.state w
    begun : IsBegun kind.state w
    holds : accepted_samples kind.state w ≡ list
    none : (kind.state w.medium).faults ≡ start.faults
    reach : length (kind.state w.medium).contents ≤ max (length start.contents) (length (canonical s list))

  -- the writer of a new file
  on_new : (old : M) (w : WriterState M) → kind.state old ≡ start → (kind.state old).place ≡ 0
      → Begins kind s (kind.state old) w → OnFile [] w
  on_new old w same place b = grind (
    arith,
    common_steps,
    none_accepted,
    length_overlay_max,
    length-take-le,
    length-header,
    length-canonical,
  )

  -- the writer that appends to a file
  on_append : (list : List (List ℕ)) (old : M) (w : WriterState M)
      → HoldsFile list (kind.state old).contents (kind.state old).faults → Appends kind (kind.state old) w
      → OnFile list w
  on_append list old w file appends =
      let follows = appends.file modelled in
      let c = (kind.state old).contents in
      let h = data_start s in
      let read = file.reads in
      let agree = heads_agree c s w.spec_ex read.readable.len (data_length w) h w.data_start read.readable.head
      follows.head in
      let same = follows.puts.stays.contents in
      let at : w.data_start ≡ h = sym agree.2 in
      let size : data_length w ≡ length (concat list) = sym agree.1 ∙ file.size in
      record {
        after = record { spec = sym agree.0; start = at; size = size };
        whole = grind (arith, common_steps, length-take, length-canonical);
        begun = (
          subst (λ (x : WavSpecEx × List ℕ). HasHeader x.0 x.1) (λ i. (agree.0 i, sym same i)) file.header,
          at ∙ ap data_start agree.0,
        );
        holds = grind (arith, common_steps, length_written, samples_out);
        none = follows.faults ∙ file.none;
        reach = omega (arith, ap length same, file.reach);
      }

  -- after a call that met no fault
  on_call : (list : List (List ℕ)) (asked : Asked) (answer : Answer) (old new : WriterState M)
      → OnFile list old → Does kind asked answer old new
      → (kind.state new.medium).faults ≡ (kind.state old.medium).faults
      → length (kind.state new.medium).contents
      ≤ max (length (kind.state old.medium).contents) (padded_end new)
      → OnFile (list ++ accepted_of asked (mark_of answer)) new
  on_call list asked answer old new on does same reach =
      let t = call_went kind modelled answer old.batch_memory old new asked does in
      let more = accepted_of asked (mark_of answer) in
      let at : new.data_start ≡ data_start s = t.data_start ∙ on.after.start in
      let size : data_length new ≡ length (concat (list ++ more)) =
      omega (arith, t.size, on.after.size, length-concat-append list more) in
      record {
        after = record { spec = t.spec_ex ∙ on.after.spec; start = at; size = size };
        whole = t.whole on.whole;
        begun = t.begun on.begun;
        holds = t.accepted on.whole ∙ ap (λ l. l ++ more) on.holds;
        none = same ∙ on.none;
        reach = grind (arith, common_steps, length-canonical, length-concat-append);
      }

  -- a call that is another error changes nothing
  on_rejected : (list : List (List ℕ)) (asked : Asked) (e : Error) (old new : WriterState M)
      → (IsIoError e → ⊥) → OnFile list old → Does kind asked (Err e) old new
      → NoFault (kind.state old.medium) (kind.state new.medium) → OnFile list new
  on_rejected list (write asked) e old new no_io on does none =
      subst (OnFile list) (sym (rejected_of e no_io does.adds.rejected)) on
  on_rejected list publish e old new no_io on does none =
      subst (λ l. OnFile l new) (append-nil list)
      (on_call list publish (Err e) old new on does none.0
      ((call_went kind modelled (Err e) old.batch_memory old new publish does).reach none))

  -- an Ok end leaves a file that can be appended to
  holds_file : (list : List (List ℕ)) (w : WriterState M) (medium : M) → OnFile list w → Finishes kind w (Ok tt) medium
      → HoldsFile list (kind.state medium).contents (kind.state medium).faults
  holds_file list w medium on ends =
      let p = ends.publishes modelled in
      let c = (kind.state medium).contents in
      let h = data_start s in
      let spec = on.after.spec in
      let at = on.after.start in
      let size = on.after.size in
      let read : ReadsAs s h list c = subst (λ (x : WavSpecEx × (ℕ × List (List ℕ))). ReadsAs x.0 x.1.0 x.1.1 c)
      (λ i. (spec i, (at i, on.holds i))) (p.read on.whole) in
      let len = read.readable.len in
      let inside = head_inside c s len h read.readable.head in
      let riff : field 4 c ≡ riff_size h (length (concat list)) = p.riff_says ∙ (λ i. riff_size (at i) (size i)) in
      record {
        reads = read;
        size = sym (head_field c s len h read.readable.head) ∙ (λ i. field (sym at i - 4) c) ∙ p.length_says ∙ size;
        fits = omega (
          arith,
          riff,
          number_at_small 4 c (omega (arith, inside, data_start_least s)) (small medium),
        );
        header = subst (λ t. HasHeader t c) spec (p.begun on.begun);
        file = subst (λ (x : WavSpecEx × List (List ℕ)). StartsWith c (canonical x.0 x.1))
            (λ i. (spec i, on.holds i)) (p.canonical on.whole on.begun);
        none = p.faults ∙ on.none;
        reach = omega (arith, on.reach, p.reach, at, size, length-canonical s list);
      }

  -- an end that met no fault after an error leaves the file of all before
  stop_early : (list : List (List ℕ)) (after : List Step) (e : Error) (w : WriterState M)
      (answer : Answer) (medium : M) → OnFile list w → NoFault (kind.state w.medium) (kind.state medium)
      → Finishes kind w answer medium → (IsIoError e → ⊥) → StopsAt s list after e
      → StopsEarly s list after e (kind.state medium).contents
  stop_early list after e w answer medium on (same, few) ends no_fault why =
      let p = ends.publishes modelled in
      let c = (kind.state medium).contents in
      let all = sym (append-nil list) in
      record {
        no_fault = no_fault;
        before = [];
        after = after;
        whole = refl;
        file = grind (arith, common_steps, all_marked, where_marked);
        why = subst (λ l. StopsAt s l after e) all why;
      }

  -- What steps lead to after a file of these: an Ok, and the file with theirs; or an error, and the file with those of
  -- the first of all, unless the medium failed.
  abbrev Leads : List (List ℕ) → List Step → List Step → MediumState → Answer → Type 0
  Leads list steps all now (Ok x) =
      HoldsFile (list ++ containers_of s steps) now.contents now.faults
  Leads list steps all now (Err e) = NoFault start now → StopsEarly s list all e now.contents

  leads_later : (list more : List (List ℕ)) (first steps all : List Step) (now : MediumState)
      (answer : Answer) → containers_of s first ≡ more → Leads (list ++ more) steps all now answer
      → Leads list (first ++ steps) (first ++ all) now answer
  leads_later list more first steps all now answer is led = go answer led
    where
      parts : (steps : List Step) → (list ++ more) ++ containers_of s steps ≡ list ++ containers_of s (first ++ steps)
      parts steps =
          append_assoc list more (containers_of s steps)
          ∙ ap (λ l. list ++ l) (ap (λ l. l ++ containers_of s steps) (sym is)
          ∙ sym (flat_map-append (λ step. accepted_by s step true) first steps))

      go : (answer : Answer) → Leads (list ++ more) steps all now answer
          → Leads list (first ++ steps) (first ++ all) now answer
      go (Ok x) file = subst (λ l. HoldsFile l now.contents now.faults) (parts steps) file
      go (Err e) stops = λ clean. let r = stops clean in
          record {
            no_fault = r.no_fault;
            before = first ++ r.before;
            after = r.after;
            whole = ap (λ l. first ++ l) r.whole ∙ sym (append_assoc first r.before r.after);
            file = subst (λ l. StartsWith now.contents (canonical s l)) (parts r.before) r.file;
            why = subst (λ l. StopsAt s l r.after e) (parts r.before) r.why;
          }

  -- an end
  finish : (list : List (List ℕ)) (rest : List Step) (w : WriterState M) (answer : Answer)
      (medium : M) → OnFile list w → Finishes kind w answer medium
      → Leads list [] rest (kind.state medium) answer
  finish list rest w (Ok x) medium on ends =
      subst (λ l. HoldsFile l (kind.state medium).contents (kind.state medium).faults) (sym (append-nil list))
      (holds_file list w medium on ends)
  finish list rest w (Err e) medium on ends = λ (clean, few).
      let same : NoFault (kind.state w.medium) (kind.state medium) =
      (clean ∙ sym on.none, omega (arith, on.none, few)) in
      stop_early list rest e w (Err e) medium on same ends
      (no_io e (kind.state w.medium).faults same.1 (sym (ends.publishes modelled).faults ∙ same.0))
      (inl (publishing_after s list w (Err e) on.after ends.answers))

  -- steps up to the first error
  until : (list : List (List ℕ)) (steps rest : List Step) (w : WriterState M)
      (answer : Answer) (medium : M) → OnFile list w
      → RunsUntil kind steps w answer medium
      → Leads list steps (steps ++ rest) (kind.state medium) answer
      × AnswersSession s list steps answer
  until list [] rest w answer medium on ends = grind (arith, common_steps, publishing_after, finish)
  until list (step ∷ steps) rest w answer medium on (inl (e, new, dropped, is, takes, ends)) =
      let does = subst (λ x. Does kind (asked_by x step) (Err e) w new) on.after.spec takes in
      let t = call_went kind modelled (Err e) w.batch_memory w new (asked_by s step) does in
      let answers = step_answers kind s w new list step (Err e) on.after takes in
      subst (λ r. Leads list (step ∷ steps) (step ∷ (steps ++ rest)) (kind.state medium) r
      × AnswersSession s list (step ∷ steps) r) (sym is) (
        λ (clean, few).
            let parts = no_fault_parts (kind.state w.medium) (kind.state new.medium) (kind.state medium) t.faults
            (grows_reported dropped (kind.state new.medium) (kind.state medium) (ends.publishes modelled).faults)
            (clean ∙ sym on.none, omega (arith, on.none, few)) in
            let no_fault = no_io e (kind.state w.medium).faults parts.0.1
            (sym (call_faults kind modelled (Err e) w.batch_memory w new (asked_by s step) does) ∙ parts.0.0) in
            stop_early list (step ∷ (steps ++ rest)) e new dropped medium
            (on_rejected list (asked_by s step) e w new no_fault on does parts.0) parts.1 ends no_fault
            (inr (step, steps ++ rest, refl, answers)),
        inl (e, refl, answers),
      )
  until list (step ∷ steps) rest w answer medium on (inr (new, takes, runs)) =
      let does = subst (λ x. Does kind (asked_by x step) (Ok tt) w new) on.after.spec takes in
      let more = accepted_by s step true in
      let (led, answers) = until (list ++ more) steps rest new answer medium
      (on_call list (asked_by s step) (Ok tt) w new on does
      (call_faults kind modelled (Ok tt) w.batch_memory w new (asked_by s step) does)
      (call_reach kind modelled (Ok tt) w.batch_memory w new (asked_by s step) does)) runs in (
        leads_later list more (step ∷ []) steps (steps ++ rest) (kind.state medium) answer (append-nil more) led,
        inr (step_answers kind s w new list step (Ok tt) on.after takes, answers),
      )

  -- a session that begins with a writer of this file, or ends with a fault before that
  abbrev Starts : List (List ℕ) → List Step → Answer → M → Type 0
  Starts list steps answer medium =
      ((e : Error) × (answer ≡ Err e) × IsIoError e × ((kind.state medium).faults ≡ one_more start.faults))
      ⊎ ((w : WriterState M) × OnFile list w × RunsUntil kind steps w answer medium)

  -- the first session
  first : (steps : List Step) (old : M) (answer : Answer) (medium : M) → kind.state old ≡ start
      → (kind.state old).place ≡ 0 → RunsOnce kind (New s) steps old answer medium
      → Starts [] steps answer medium
  first steps old answer medium same place (inl (e, is, inl (unwritable, named, still))) =
      absurd (unwritable writable)
  first steps old answer medium same place (inl (e, is, inr (can, io, puts))) =
      inl (e, is, io, (puts modelled).faults ∙ ap (λ (m : MediumState). one_more m.faults) same)
  first steps old answer medium same place (inr (w, begins, runs)) =
      inr (w, on_new old w same place begins, runs)

  -- one more
  again : (list : List (List ℕ)) (steps : List Step) (old : M) (answer : Answer) (medium : M)
      → HoldsFile list (kind.state old).contents (kind.state old).faults
      → RunsOnce kind Append steps old answer medium → Starts list steps answer medium
  again list steps old answer medium file (inl (e, is, goes)) =
      inl (IoError e, is, tt, (goes modelled).faults ∙ ap one_more file.none)
  again list steps old answer medium before (inr (mid, goes, runs)) = go runs
    where
      file : HoldsFile list (kind.state mid).contents (kind.state mid).faults
      file = subst (λ (x : List ℕ × ℕ). HoldsFile list x.0 x.1)
          (λ i. (sym (goes modelled).stays.contents i, sym (goes modelled).faults i)) before

      never : (fault : AppendFault) → IsAppendFault (kind.state mid).contents fault → ⊥
      never fault is =
          let (answer, here, one) = one_append_answer (kind.state mid).contents
          (one_answer (kind.state mid).contents) in
          let a = one (faulty fault) is in
          let read = file.reads.readable in
          let b = one (appendable s read.len (data_start s)) (
            read.head,
            no_head_fault s read.len (data_start s) writable read.frames (omega (arith, file.size, file.fits)),
          ) in
          cc

      go : RunsFrom kind Append steps mid answer medium → Starts list steps answer medium
      go (inl (e, is, rejected)) = elim (rejected modelled).why [
        | inl (fault, here, names, same) ↦ absurd (never fault here)
        | inr (io, faults) ↦ inl (e, is, io, faults ∙ ap one_more file.none)
      ]
      go (inr (w, appends, runs)) = inr (w, on_append list mid w file appends, runs)

  -- what it comes to
  comes : (list : List (List ℕ)) (steps rest : List Step) (answer : Answer) (medium : M)
      → Starts list steps answer medium
      → Leads list steps (steps ++ rest) (kind.state medium) answer
      × (IsErrAnd answer IsIoError ⊎ AnswersSession s list steps answer)
  comes list steps rest answer medium (inl (e, is, io, faults)) =
      subst (λ r. Leads list steps (steps ++ rest) (kind.state medium) r
      × (IsErrAnd r IsIoError ⊎ AnswersSession s list steps r)) (sym is)
      (λ (same, few). absurd (omega (arith, faults, same, few)), inl io)
  comes list steps rest answer medium (inr (w, file, runs)) =
      let (led, answers) = until list steps rest w answer medium file runs in
      (led, inr answers)

  -- sessions, if each first one comes to what it may
  on : (begin : Begin) (list : List (List ℕ)) (sessions : List (Bor (List Step))) (old : M)
      (answer : Answer) (medium : M)
      → ((steps : List Step) (answer : Answer) (medium : M)
      → RunsOnce kind begin steps old answer medium → Starts list steps answer medium)
      → (length sessions ≡ 0 → HoldsFile list (kind.state old).contents (kind.state old).faults)
      → RunsOn kind begin sessions old answer medium
      → Leads list (all_steps sessions) (all_steps sessions) (kind.state medium) answer
      × AnswersAll s list sessions answer
  on begin list [] old answer medium once none (is, same) = grind (arith, common_steps, append-nil)
  on begin list (session ∷ sessions) old answer medium once none (inl (e, is, runs)) =
      let all = all_steps (session ∷ sessions) in
      let (led, answers) = comes list session.now (all_steps sessions) (Err e) medium
      (once session.now (Err e) medium runs) in
      subst (λ r. Leads list all all (kind.state medium) r × AnswersAll s list (session ∷ sessions) r)
      (sym is) (led, inl (e, refl, answers))
  on begin list (session ∷ sessions) old answer medium once none (inr (mid, runs, rest)) =
      let (file, answers) = comes list session.now (all_steps sessions) (Ok tt) mid
      (once session.now (Ok tt) mid runs) in
      let more = containers_of s session.now in
      let (led, others) = on Append (list ++ more) sessions mid answer medium
      (λ steps answer medium runs. again (list ++ more) steps mid answer medium file runs)
      (λ _. file) rest in grind (arith, common_steps, leads_later)

  all : (sessions : List (Bor (List Step))) (old : M) (answer : Answer) (medium : M)
      → kind.state old ≡ start → (kind.state old).place ≡ 0 → 0 < length sessions
      → RunsOn kind (New s) sessions old answer medium
      → Leads [] (all_steps sessions) (all_steps sessions) (kind.state medium) answer
      × AnswersAll s [] sessions answer
  all sessions old answer medium same place some are =
      on (New s) [] sessions old answer medium
      (λ steps answer medium runs. first steps old answer medium same place runs)
      (λ none. absurd (omega (arith, some, none))) are

module _ {M : Type 0} (kind : Ghosts M) (s : WavSpecEx) (old medium : M) where
  -- over every medium, the error for a spec that can't be written is returned, and nothing is done
  writable_or : (sessions : List (Bor (List Step))) (answer : Result (Unit {0}) Error)
      → 0 < length sessions → RunsOn kind (New s) sessions old answer medium
      → IsWritable s ⊎ ((answer ≡ Err Unsupported) × (medium ≡ old))
  writable_or [] answer some are = absurd (omega (arith, some))
  writable_or (session ∷ sessions) answer some (inl (e, is, inl (f, modelled, inl (why, name, same)))) =
      inr (is ∙ modelled ∙ ap (λ x. Err x) name, same)
  writable_or (session ∷ sessions) answer some (inl (e, is, inl (f, modelled, inr (can, io, puts)))) =
      inl can
  writable_or (session ∷ sessions) answer some (inl (e, is, inr (w, begins, runs))) =
      inl begins.begun.writable
  writable_or (session ∷ sessions) answer some (inr (mid, inl (f, modelled, not), rest)) = cc
  writable_or (session ∷ sessions) answer some (inr (mid, inr (w, begins, runs), rest)) =
      inl begins.begun.writable

  -- What sessions leave: the canonical file of all their steps at an Ok, and at an error, unless the medium failed,
  -- that of the first of them.
  pub record Leave (sessions : List (Bor (List Step))) (answer : Result (Unit {0}) Error) : Type 0
    where
      pub file : 0 < length sessions → let file = canonical s (containers_of s (all_steps sessions)) in
          OnOk answer (StartsWith (kind.state medium).contents file
          × ((kind.state old).contents ≡ [] → (kind.state medium).contents ≡ file))
      pub faults : OnOk answer ((kind.state medium).faults ≡ (kind.state old).faults)
      pub stops : IsWritable s → NoFault (kind.state old) (kind.state medium) →
          IfErr answer (λ e. StopsEarly s [] (all_steps sessions) e (kind.state medium).contents)
      pub first_error : IsWritable s → AnswersAll s [] sessions answer

  module _ (modelled : IsTrue kind.tells) (small : (m : M) → AreBytes (kind.state m).contents)
      (place : (kind.state old).place ≡ 0) where
    pub leave : (sessions : List (Bor (List Step))) (answer : Result (Unit {0}) Error)
        → RunsOn kind (New s) sessions old answer medium → Leave sessions answer
    leave [] answer (is, same) = subst (Leave []) (sym is) (record {
      file = λ some. absurd (omega (arith, some));
      faults = ap (λ m. (kind.state m).faults) same;
      stops = λ writable clean. tt;
      first_error = λ writable. refl;
    })
    leave (session ∷ sessions) (Err e) are = record {
      file = λ some. tt;
      faults = tt;
      stops = λ writable. (all kind modelled small s writable (kind.state old) (session ∷ sessions) old
          (Err e) medium refl place (omega arith) are).0;
      first_error = λ writable. (all kind modelled small s writable (kind.state old)
          (session ∷ sessions) old (Err e) medium refl place (omega arith) are).1;
    }
    leave (session ∷ sessions) (Ok x) are =
        let writable : IsWritable s = elim (writable_or (session ∷ sessions) (Ok tt) (omega arith) are) [
          | inl can ↦ can
          | inr (is, same) ↦ cc
        ] in
        let (holds, answers) = all kind modelled small s writable (kind.state old) (session ∷ sessions)
        old (Ok tt) medium refl place (omega arith) are in
        let file = canonical s (containers_of s (all_steps (session ∷ sessions))) in
        record {
          file = λ some. (
            holds.file,
            λ empty. sym (take_all (length file) (kind.state medium).contents
                (omega (arith, holds.reach, ap length empty))) ∙ holds.file,
          );
          faults = holds.none;
          stops = λ writable clean. tt;
          first_error = λ writable. answers;
        }

  -- what the result of sessions shows
  pub sessions_returned : (IsTrue kind.tells → (m : M) → AreBytes (kind.state m).contents)
      → (IsTrue kind.tells → (kind.state old).place ≡ 0) → (sessions : List (Bor (List Step)))
      (answer : Result (Unit {0}) Error)
      → RunsOn kind (New s) sessions old answer medium
      → IsReturned kind s sessions old answer medium
  sessions_returned small place sessions answer are = grind (arith, common_steps, writable_or, leave)
