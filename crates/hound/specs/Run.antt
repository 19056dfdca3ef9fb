-- A run of a writer: how it begins, its steps as calls, the containers of each, and how it ends.
use Rattle.std.specs.Prelude.{ℤ, ◌&&◌, ◌==◌, Bool, true, false, if◌then◌else◌, List, [], ◌∷◌, ◌++◌, Result, Err, ℕ, ◌≡◌, ◌⊎◌, replicate, length, map, Ok, ◌<◌, OnOk}
use Rattle.std.specs.List.{flat_map, concat}
use Rattle.hound_spec.specs.declared.error.Error.{Error}
use Rattle.hound_spec.specs.declared.spec.SampleFormat.{SampleFormat}
use Rattle.hound_spec.specs.declared.spec.SampleFormat.TheVariants.{Int, Float}
use Rattle.hound_spec.specs.declared.spec.WavSpec.{WavSpec}
use Rattle.hound_spec.specs.declared.spec.WavSpecEx.{WavSpecEx}
use Rattle.hound_sample.specs.{Rejection, unsupported, int_container, pattern_container}
use Rattle.hound_medium.specs.{MediumState, WhereTells, WhereKeeps, Goes}
use Rattle.hound_writer.specs.{Ghosts, container_in, containers_in, mark_of, Asked, Does, publish, write, Begun, Call, Lead, appended, asked_by_all, found_in, new_file, start_of, WriterState, ChangesSizesOnly, IsWhole, accepted_samples, Appends, IsNotAppended, Begins, IsNotBegun, Finishes, AcceptAnswer, IsIoError, IsPublishing}
use Rattle.hound.specs.Headline.{accepted_of, HoldsAtEnd, Promises}
use Rattle.hound.specs.declared.session.Step.{Step}
use Rattle.hound.specs.declared.session.Step.TheVariants.{Whole, Bits, Batch, Flush}
use Rattle.hound.specs.declared.session.Begin.{Begin}
use Rattle.hound.specs.declared.session.Begin.TheVariants.{New, Append}
use Rattle.hound.specs.declared.session.End.{End}
use Rattle.hound.specs.declared.session.End.TheVariants.{Finalize, Drop}
use Rattle.std.specs.Borrow.{Bor}
use Rattle.hound_spec.specs.declared.error.Error.TheVariants.{Unsupported, IoError}
use Rattle.hound_spec.specs.{data_start, IsWritable, canonical}
use Rattle.std.specs.Io.{StartsWith}
use Rattle.std.specs.declared.io.Error.{Error as IoFault}

-- whether samples are integers
abbrev pub is_int : SampleFormat → Bool
is_int Int = true
is_int Float = false

-- whether samples are integers of sixteen bits, which batches are for
abbrev pub is_sixteen : WavSpec → Bool
is_sixteen spec = is_int spec.sample_format && spec.bits_per_sample == 16

-- the containers of a batch, those of its values by their table, or why it has none
abbrev pub batch_containers : WavSpecEx → List ℤ → Result (List (List ℕ)) Rejection
batch_containers s values = if is_sixteen s.spec then containers_in int_container s values else Err unsupported

-- what a step asks of a writer: to accept its containers, one for each value of a batch, or to publish
abbrev pub asked_by : WavSpecEx → Step → Asked
asked_by s (Whole value) = write (container_in int_container s value)
asked_by s (Bits bits) = write (container_in pattern_container s bits.0)
asked_by s (Batch values) = write (batch_containers s values.now)
asked_by s Flush = publish

-- what a step does to its writer, by its result: what its call does
abbrev pub Takes : {M : Type 0} → Ghosts M → Step → Result (Unit {0}) Error → WriterState M → WriterState M → Type 0
Takes kind step answer old new = Does kind (asked_by old.spec_ex step) answer old new

-- what a step accepted, by its mark
abbrev pub accepted_by : WavSpecEx → Step → Bool → List (List ℕ)
accepted_by s step mark = accepted_of (asked_by s step) mark

-- what steps accepted, by their marks
abbrev pub accepted_by_steps : WavSpecEx → List Step → List Bool → List (List ℕ)
accepted_by_steps s [] marks = []
accepted_by_steps s (step ∷ steps) [] = []
accepted_by_steps s (step ∷ steps) (mark ∷ marks) = accepted_by s step mark ++ accepted_by_steps s steps marks

-- the containers of steps that were all accepted
abbrev pub containers_of : WavSpecEx → List Step → List (List ℕ)
containers_of s steps = flat_map (λ step. accepted_by s step true) steps

-- how a run begins: with a new file, or after the data of the existing one
abbrev pub BeginsAs : {M : Type 0} → Ghosts M → Begin → M → WriterState M → Type 0
BeginsAs kind (New spec_ex) medium w = Begins kind spec_ex (kind.state medium) w
BeginsAs kind Append medium w = Appends kind (kind.state medium) w

-- why it doesn't begin, with the medium as it is then
abbrev pub IsNotBegunAs : {M : Type 0} → Ghosts M → Begin → M → M → Error → Type 0
IsNotBegunAs kind (New spec_ex) medium back e = IsNotBegun kind spec_ex medium back e
IsNotBegunAs kind Append medium back e = WhereTells kind.tells (IsNotAppended (kind.state medium) (kind.state back) e)

-- the result of a run by that of its end: Ok at a drop, which publishes too
abbrev pub EndsAs : End → Result (Unit {0}) Error → Result (Unit {0}) Error → Type 0
EndsAs Finalize answer finished = answer ≡ finished
EndsAs Drop answer finished = answer ≡ Ok tt

-- the spec and the file of a run as its writer began it
abbrev pub begun_spec : {M : Type 0} → Begin → WriterState M → WavSpecEx
begun_spec (New spec_ex) first = spec_ex
begun_spec Append first = first.spec_ex

abbrev pub file_of : {M : Type 0} → (M → MediumState) → Begin → M → WriterState M → Begun
file_of state (New spec_ex) old first = new_file (state old)
file_of state Append old first = appended (state old) first.data_start (accepted_samples state first)

-- the call of an end
abbrev pub end_call : {M : Type 0} → (M → MediumState) → WriterState M → Result (Unit {0}) Error → Call
end_call state last finished = record { asked = publish; answer = finished; began = length (state last.medium).past }

-- A run that began, made the call of every step, and then that of its end: before the data only the two sizes changed,
-- and if all the data were there the medium has what any list of these calls promises.
pub record Ran {M : Type 0} (kind : Ghosts M) (begin : Begin)
    (steps : List Step) (marks : List Bool) (end : End) (old : M) (answer : Result (Unit {0}) Error)
    (medium : M) : Type 0 where
  pub first : WriterState M
  pub last : WriterState M
  pub calls : List Call
  pub finished : Result (Unit {0}) Error
  pub begins : BeginsAs kind begin old first
  pub lead : Lead kind calls first last
  pub asked : asked_by_all calls ≡ map (asked_by (begun_spec begin first)) steps
  pub marked : marks ≡ map (λ (call : Call). mark_of call.answer) calls
  pub ends : Finishes kind last finished medium
  pub reported : EndsAs end answer finished
  pub front : WhereTells kind.tells (ChangesSizesOnly first.data_start (kind.state first.medium).contents
      (kind.state medium).contents)
  pub holds : WhereTells kind.tells (IsWhole kind.state first →
      HoldsAtEnd (begun_spec begin first) (file_of kind.state begin old first)
      (calls ++ (end_call kind.state last finished ∷ [])) (kind.state medium))
  pub promises : WhereKeeps kind.tells kind.keeps (IsWhole kind.state first →
      let s = begun_spec begin first in let file = file_of kind.state begin old first in
      Promises s (start_of s file) (found_in file)
      (calls ++ (end_call kind.state last finished ∷ [])) (kind.state medium))

-- what `run_session` does; where the run doesn't begin no step is taken
abbrev pub IsSession : {M : Type 0} → Ghosts M → Begin → List Step →
    List Bool → End → M → Result (Unit {0}) Error → M → Type 0
IsSession kind begin steps marks end old answer medium =
    ((e : Error) × (answer ≡ Err e) × IsNotBegunAs kind begin old medium e × (marks ≡ replicate (length steps) false))
    ⊎ Ran kind begin steps marks end old answer medium

-- a writer of a file of this spec that has accepted these samples, as far as results depend on it
abbrev pub writer_after : WavSpecEx → List (List ℕ) → WriterState (Unit {0})
writer_after s list = record {
  medium = tt;
  spec_ex = s;
  data_start = data_start s;
  bytes_written = length (concat list);
  buffered = [];
  batch_memory = [];
}

-- what such a writer returns for a call
abbrev pub AnswersCall : WavSpecEx → List (List ℕ) → Asked → Result (Unit {0}) Error → Type 0
AnswersCall s list (write containers) answer = AcceptAnswer containers (writer_after s list) answer
AnswersCall s list publish answer = IsPublishing answer (writer_after s list)

-- what such a writer returns for a step
abbrev pub AnswersStep : WavSpecEx → List (List ℕ) → Step → Result (Unit {0}) Error → Type 0
AnswersStep s list step answer = AnswersCall s list (asked_by s step) answer

-- what a session returns whose writer has accepted these samples: the error of the first step that isn't Ok, else what
-- its end returns
abbrev pub AnswersSession : WavSpecEx → List (List ℕ) → List Step → Result (Unit {0}) Error → Type 0
AnswersSession s list [] answer = IsPublishing answer (writer_after s list)
AnswersSession s list (step ∷ steps) answer =
    ((e : Error) × (answer ≡ Err e) × AnswersStep s list step (Err e))
    ⊎ (AnswersStep s list step (Ok tt) × AnswersSession s (list ++ accepted_by s step true) steps answer)

-- what sessions return after a file of these samples: the error of the first that isn't Ok, which is that of the
-- session or an `IoError` before it began
abbrev pub AnswersAll : WavSpecEx → List (List ℕ) → List (Bor (List Step)) → Result (Unit {0}) Error → Type 0
AnswersAll s list [] answer = answer ≡ Ok tt
AnswersAll s list (session ∷ sessions) answer =
    ((e : Error) × (answer ≡ Err e) × (IsIoError e ⊎ AnswersSession s list session.now (Err e)))
    ⊎ (AnswersSession s list session.now (Ok tt) × AnswersAll s (list ++ containers_of s session.now) sessions answer)

-- What the result of sessions shows: over every medium, that the spec can't be written; else the first error; and at an
-- Ok, that no call of the medium failed.
pub record IsReturned {M : Type 0} (kind : Ghosts M) (s : WavSpecEx)
    (sessions : List (Bor (List Step))) (old : M) (answer : Result (Unit {0}) Error)
    (medium : M) : Type 0 where
  pub unwritable : 0 < length sessions → (IsWritable s → ⊥) → (answer ≡ Err Unsupported) × (medium ≡ old)
  pub first_error : WhereTells kind.tells (IsWritable s → AnswersAll s [] sessions answer)
  pub no_fault : WhereTells kind.tells (OnOk answer ((kind.state medium).faults ≡ (kind.state old).faults))

-- Steps up to the first error, which is then the result, whatever the end of the writer, a drop, came to; without an
-- error the result is that of `finalize_into`.
abbrev pub RunsUntil : {M : Type 0} → Ghosts M → List Step → WriterState M → Result (Unit {0}) Error → M → Type 0
RunsUntil kind [] w answer medium = Finishes kind w answer medium
RunsUntil {M} kind (step ∷ steps) w answer medium =
    ((e : Error) × (new : WriterState M) × (dropped : Result (Unit {0}) Error) × (answer ≡ Err e)
    × Takes kind step (Err e) w new × Finishes kind new dropped medium)
    ⊎ ((new : WriterState M) × Takes kind step (Ok tt) w new × RunsUntil kind steps new answer medium)

-- one session, up to its first error: it isn't begun, or its steps are taken
abbrev pub RunsFrom : {M : Type 0} → Ghosts M → Begin → List Step → M → Result (Unit {0}) Error → M → Type 0
RunsFrom {M} kind begin steps old answer medium =
    ((e : Error) × (answer ≡ Err e) × IsNotBegunAs kind begin old medium e)
    ⊎ ((w : WriterState M) × BeginsAs kind begin old w × RunsUntil kind steps w answer medium)

-- the same after the medium went to its beginning, if the session appends to the file
abbrev pub RunsOnce : {M : Type 0} → Ghosts M → Begin → List Step → M → Result (Unit {0}) Error → M → Type 0
RunsOnce kind (New s) steps old answer medium = RunsFrom kind (New s) steps old answer medium
RunsOnce {M} kind Append steps old answer medium =
    ((e : IoFault) × (answer ≡ Err (IoError e))
    × WhereTells kind.tells (Goes {T = Unit {0}} 0 (Err e) (kind.state old) (kind.state medium)))
    ⊎ ((mid : M)
    × WhereTells kind.tells (Goes {T = Unit {0}} {E = IoFault} 0 (Ok tt) (kind.state old) (kind.state mid))
    × RunsFrom kind Append steps mid answer medium)

-- what `run_sessions` does: sessions, the first of which begins so and the others append, each of them Ok except
-- perhaps the last one that was run, whose result is returned
abbrev pub RunsOn : {M : Type 0} → Ghosts M → Begin → List (Bor (List Step)) → M → Result (Unit {0}) Error → M → Type 0
RunsOn kind begin [] old answer medium = (answer ≡ Ok tt) × (medium ≡ old)
RunsOn {M} kind begin (session ∷ sessions) old answer medium =
    ((e : Error) × (answer ≡ Err e) × RunsOnce kind begin session.now old (Err e) medium)
    ⊎ ((mid : M) × RunsOnce kind begin session.now old (Ok tt) mid × RunsOn kind Append sessions mid answer medium)

-- all steps of sessions, in order
abbrev pub all_steps : List (Bor (List Step)) → List Step
all_steps sessions = flat_map (λ session. session.now) sessions

-- the error of a session whose writer had accepted these: its end gave it, or the next step did
abbrev pub StopsAt : WavSpecEx → List (List ℕ) → List Step → Error → Type 0
StopsAt s list after e =
    IsPublishing {T = Unit {0}} (Err e) (writer_after s list)
    ⊎ ((step : Step) × (rest : List Step) × (after ≡ step ∷ rest) × AnswersStep s list step (Err e))

-- Sessions after a file of these that stopped with an error though no call of the medium failed: it is no `IoError`,
-- the steps before it were accepted and their canonical file is there, and an end or the next step gave it.
pub record StopsEarly (s : WavSpecEx) (list : List (List ℕ)) (steps : List Step) (e : Error)
    (contents : List ℕ) : Type 0 where
  pub no_fault : IsIoError e → ⊥
  pub before : List Step
  pub after : List Step
  pub whole : steps ≡ before ++ after
  pub file : StartsWith contents (canonical s (list ++ containers_of s before))
  pub why : StopsAt s (list ++ containers_of s before) after e
