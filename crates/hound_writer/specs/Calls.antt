-- A list of calls of a writer, from its constructor on.
use Rattle.std.specs.Prelude.{◌≡◌, ℕ, ⊤, Bool, List, [], ◌∷◌, ◌++◌, length, Result}
use Rattle.hound_spec.specs.declared.error.Error.{Error}
use Rattle.hound_spec.specs.declared.spec.WavSpecEx.{WavSpecEx}
use Rattle.hound_spec.specs.{data_start}
use Rattle.hound_medium.specs.{MediumState, WhereTells}
use Rattle.hound_sample.specs.{Rejection}
use Rattle.hound_writer.specs.Accepting.{Accepts, mark_of}
use Rattle.hound_writer.specs.Appending.{Appends}
use Rattle.hound_writer.specs.Beginning.{Begins}
use Rattle.hound_writer.specs.Publishing.{LeavesWriter}
use Rattle.hound_writer.specs.Writer.{Ghosts, WriterState, IsWhole, accepted_samples}

-- What a call asks of a writer: to accept these containers, or none, with the reason; or to publish what was accepted,
-- by a flush or an end.
pub data Asked : Type 0 where
  write : Result (List (List ℕ)) Rejection → Asked
  publish : Asked

-- A call: what it asked, what it returned, and the length of the medium's past when it began.
pub record Call : Type 0 where
  pub asked : Asked
  pub answer : Result (Unit {0}) Error
  pub began : ℕ

-- what calls asked, in their order
abbrev pub asked_by_all : List Call → List Asked
asked_by_all [] = []
asked_by_all (call ∷ calls) = call.asked ∷ asked_by_all calls

-- What a caller has seen of a result: nothing, its mark, or the result itself.
pub data Seen : Type 0 where
  unseen : Seen
  mark_seen : Bool → Seen
  result_seen : Result (Unit {0}) Error → Seen

-- this was seen of a result
abbrev pub IsSeen : Seen → Result (Unit {0}) Error → Type 0
IsSeen unseen answer = ⊤
IsSeen (mark_seen mark) answer = mark_of answer ≡ mark
IsSeen (result_seen result) answer = answer ≡ result

-- What a caller knows of a call: what it asked, and what was seen of its result.
pub record Known : Type 0 where
  pub asked : Asked
  pub of_result : Seen

-- a call whose result wasn't seen
abbrev pub made : Asked → Known
made asked = record { asked = asked; of_result = unseen }

-- a call whose result has this mark
abbrev pub marked : Asked → Bool → Known
marked asked mark = record { asked = asked; of_result = mark_seen mark }

-- a call with this result
abbrev pub returned : Asked → Result (Unit {0}) Error → Known
returned asked answer = record { asked = asked; of_result = result_seen answer }

-- this is known of a call
abbrev pub IsKnown : Known → Call → Type 0
IsKnown known call = (call.asked ≡ known.asked) × IsSeen known.of_result call.answer

-- these are known of calls, in their order
abbrev pub AreKnown : List Known → List Call → Type 0
AreKnown [] [] = ⊤
AreKnown (one ∷ known) (call ∷ calls) = IsKnown one call × AreKnown known calls
AreKnown _ _ = ⊥

-- what a call did to its writer, by what it asked and what it returned
abbrev pub Does : {W : Type 0} → Ghosts W → Asked → Result (Unit {0}) Error → WriterState W → WriterState W → Type 0
Does kind (write containers) answer old new = Accepts kind containers answer old new
Does kind publish answer old new = LeavesWriter kind answer old new

-- the writer with this memory for batches
abbrev pub with_memory : {W : Type 0} → WriterState W → List ℕ → WriterState W
with_memory w memory = record w { batch_memory = memory }

-- These calls led from the one writer to the other, each from where the one before it ended; between them only the
-- memory for batches may have changed.
abbrev pub Lead : {W : Type 0} → Ghosts W → List Call → WriterState W → WriterState W → Type 0
Lead kind [] old new = (memory : List ℕ) × (new ≡ with_memory old memory)
Lead {W} kind (call ∷ calls) old new =
    (memory : List ℕ) × (mid : WriterState W) × (call.began ≡ length (kind.state old.medium).past)
    × Does kind call.asked call.answer (with_memory old memory) mid
    × Lead kind calls mid new

-- A file as its writer began it in a medium that was handed in with this state: a new one, or one whose data begin at a
-- place and which had these samples.
pub data Begun : Type 0 where
  new_file : MediumState → Begun
  appended : MediumState → ℕ → List (List ℕ) → Begun

-- the medium as it was handed in
abbrev pub handed_in : Begun → MediumState
handed_in (new_file old) = old
handed_in (appended old start found) = old

-- where its data begin
abbrev pub start_of : WavSpecEx → Begun → ℕ
start_of s (new_file old) = data_start s
start_of s (appended old start found) = start

-- the samples that it had
abbrev pub found_in : Begun → List (List ℕ)
found_in (new_file old) = []
found_in (appended old start found) = found

-- A file that was appended to in this medium has this spec, and had its data at this place, all of them there.
pub record HadData {W : Type 0} (kind : Ghosts W) (s : WavSpecEx)
    (old : MediumState) (start : ℕ) (found : List (List ℕ)) (first : WriterState W) : Type 0 where
  pub appends : Appends kind old first
  pub spec_is : first.spec_ex ≡ s
  pub start_is : first.data_start ≡ start
  pub whole : WhereTells kind.tells (IsWhole kind.state first)
  pub found_is : WhereTells kind.tells (accepted_samples kind.state first ≡ found)

-- the writer of such a file, as its constructor returned it
abbrev pub Opens : {W : Type 0} → Ghosts W → WavSpecEx → Begun → WriterState W → Type 0
Opens kind s (new_file old) first = Begins kind s old first
Opens kind s (appended old start found) first = HadData kind s old start found first

-- Calls of which these are known were made with the writer of such a file, and led to this one.
pub record RecordedBy {W : Type 0} (kind : Ghosts W) (s : WavSpecEx)
    (file : Begun) (known : List Known) (last : WriterState W) : Type 0 where
  pub first : WriterState W
  pub calls : List Call
  pub opens : Opens kind s file first
  pub lead : Lead kind calls first last
  pub are_known : AreKnown known calls

-- calls of which these are known were made with the writer of such a file, and led to this one: `RecordedBy` as a word
-- that a caller's proof doesn't open
unfoldable pub Recorded : {W : Type 0} → Ghosts W → WavSpecEx → Begun → List Known → WriterState W → Type 0
Recorded kind s file known last = RecordedBy kind s file known last

-- what is known of the calls of the one writer is known of those of the other
abbrev pub HasSameCalls : {W : Type 0} → Ghosts W → WriterState W → WriterState W → Type 0
HasSameCalls kind old new = (s : WavSpecEx) (file : Begun) (known : List Known) →
    Recorded kind s file known old → Recorded kind s file known new

-- a call appends this to what is known, by the spec of the file
abbrev pub Extends : {W : Type 0} → Ghosts W → (WavSpecEx → Known) → WriterState W → WriterState W → Type 0
Extends kind one old new = (s : WavSpecEx) (file : Begun) (known : List Known) → Recorded kind s file known old →
    Recorded kind s file (known ++ one s ∷ []) new

-- The medium of a writer to which calls led of which these are known; of an end the last of them is the end's own, to
-- publish.
pub record LeftBy {W : Type 0} (kind : Ghosts W) (s : WavSpecEx)
    (file : Begun) (known : List Known) (medium : W) : Type 0 where
  pub last : WriterState W
  pub recorded : RecordedBy kind s file known last
  pub is : medium ≡ last.medium

-- calls of which these are known led to a writer that left this medium: `LeftBy` as such a word
unfoldable pub Left : {W : Type 0} → Ghosts W → WavSpecEx → Begun → List Known → W → Type 0
Left kind s file known medium = LeftBy kind s file known medium

-- an end appends this to what is known, and leaves the medium
abbrev pub Ends : {W : Type 0} → Ghosts W → Known → WriterState W → W → Type 0
Ends kind one last medium = (s : WavSpecEx) (file : Begun) (known : List Known) → Recorded kind s file known last →
    Left kind s file (known ++ one ∷ []) medium
