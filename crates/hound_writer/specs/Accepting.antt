-- What a call for samples returns and leaves, whether it accepts them or not, for one or many.
use Rattle.std.specs.Prelude.{◌≡◌, ℕ, ◌+◌, ◌/◌, ⊤, nat_le, Bool, true, false, List, [], ◌∷◌, length, Result, Ok, Err, ◌≤◌, take, drop, max, ◌++◌, ℤ, IsOk}
use Rattle.std.specs.List.{concat, flat_map}
use Rattle.hound_spec.specs.declared.error.Error.{Error}
use Rattle.hound_spec.specs.declared.error.Error.TheVariants.{IoError, UnfinishedSample, TooLong}
use Rattle.hound_spec.specs.{riff_size, greatest_u32}
use Rattle.hound_sample.specs.{Rejection, containers, error_of, int_container, all_containers, joined_containers}
use Rattle.hound_medium.specs.{one_more, moment, MediumState, WhereTells, WhereKeeps, Span}
use Rattle.hound_writer.specs.Writer.{Ghosts, WriterState, AreFrames, data_length, Counts, IsWhole, IsCounted, accepted_samples, data_end}
use Rattle.hound_number.specs.{signed_bytes_of}
use Rattle.hound_spec.specs.declared.spec.WavSpecEx.{WavSpecEx}

-- the medium failed
abbrev pub IsIoError : Error → Type 0
IsIoError (IoError e) = ⊤
IsIoError _ = ⊥

-- P, unless the medium failed
abbrev pub UnlessFailed : {T : Type 0} → Result T Error → Type 0 → Type 0
UnlessFailed (Ok x) P = P
UnlessFailed (Err (IoError e)) P = ⊤
UnlessFailed (Err _) P = P

-- P for an error that is no fault of the medium
abbrev pub OnRejected : {T : Type 0} → Result T Error → Type 0 → Type 0
OnRejected (Ok x) P = ⊤
OnRejected (Err (IoError e)) P = ⊤
OnRejected (Err _) P = P

-- P, if all accepted samples were published: for an Ok and for `UnfinishedSample`
abbrev pub OnPublished : {T : Type 0} → Result T Error → Type 0 → Type 0
OnPublished (Ok x) P = P
OnPublished (Err UnfinishedSample) P = P
OnPublished (Err _) P = ⊤

-- the mark of a result: a sample or a batch was accepted, or all was published
abbrev pub mark_of : {T : Type 0} → Result T Error → Bool
mark_of (Ok x) = true
mark_of (Err UnfinishedSample) = true
mark_of (Err _) = false

-- the medium's faults after a call: one more at an `IoError`, else the same
abbrev pub faults_reported : {T : Type 0} → Result T Error → ℕ → ℕ
faults_reported (Err (IoError e)) faults = one_more faults
faults_reported _ faults = faults

-- the containers of a call with this mark: those that it has, or none
abbrev pub if_marked : Bool → Result (List (List ℕ)) Rejection → List (List ℕ)
if_marked false asked = []
if_marked true (Ok list) = list
if_marked true (Err rejection) = []

-- one container, or why there is none
abbrev pub one : Result (List ℕ) Rejection → Result (List (List ℕ)) Rejection
one (Ok container) = Ok (container ∷ [])
one (Err rejection) = Err rejection

-- the result for containers, by whether the RIFF size has room for them: Ok or an `IoError`, or that the file would be
-- too long
abbrev pub FitAnswer : {T : Type 0} → Bool → Result T Error → Type 0
FitAnswer true answer = OnRejected answer ⊥
FitAnswer false answer = answer ≡ Err TooLong

-- the result for a sample or a batch: the error of the type, or as above
abbrev pub AcceptAnswer : {T W : Type 0} → Result (List (List ℕ)) Rejection → WriterState W → Result T Error → Type 0
AcceptAnswer (Err rejection) w answer = answer ≡ Err (error_of rejection)
AcceptAnswer (Ok list) w answer =
    let size = riff_size w.data_start (data_length w + length (concat list)) in
    FitAnswer (nat_le size greatest_u32) answer

-- the result of a call that publishes: Ok exactly for whole frames, else `UnfinishedSample`; or an `IoError`
abbrev pub IsPublishing : {T W : Type 0} → Result T Error → WriterState W → Type 0
IsPublishing (Ok x) w = AreFrames w
IsPublishing (Err UnfinishedSample) w = AreFrames w → ⊥
IsPublishing (Err (IoError e)) w = ⊤
IsPublishing (Err _) w = ⊥

-- P stays true from one state of a medium to a later one: true after some byte, it is true after each later byte
abbrev pub StaysTrue : (List ℕ → Type 0) → MediumState → MediumState → Type 0
StaysTrue P old new = (k m : ℕ) → length old.past ≤ k → k ≤ m → m ≤ length new.past →
    P (moment new.start new.past k) → P (moment new.start new.past m)

-- of these bytes, whose first has its place at `start`, the part of length `len` from the a-th on is stored at its
-- place
abbrev pub IsStored : ℕ → List ℕ → ℕ → ℕ → List ℕ → Type 0
IsStored start bytes a len contents = take len (drop (start + a) contents) ≡ take len (drop a bytes)

-- each part of these bytes, once stored at its place, stays stored
abbrev pub StaysStored : ℕ → List ℕ → MediumState → MediumState → Type 0
StaysStored start bytes old new = (a len : ℕ) → a + len ≤ length bytes → StaysTrue (IsStored start bytes a len) old new

-- What a call with these containers did to its writer, by its result, over every medium: it accepts all of them or
-- none, and an error of the type or the size leaves the writer and its medium as they were.
pub record Adds {W : Type 0} (asked : Result (List (List ℕ)) Rejection)
    (answer : Result (Unit {0}) Error) (old new : WriterState W) : Type 0 where
  pub answers : AcceptAnswer asked old answer
  pub rejected : OnRejected answer (new ≡ old)
  pub spec_ex : new.spec_ex ≡ old.spec_ex
  pub data_start : new.data_start ≡ old.data_start
  pub data_length : data_length new ≡ data_length old + length (concat (if_marked (mark_of answer) asked))
  pub batch_memory : new.batch_memory ≡ old.batch_memory

-- What it left in the medium. A fault is counted exactly at an `IoError`; what is before the data stays, and unless the
-- medium failed what is after the accepted data. If the bytes in the medium were all there, they are so afterwards.
pub record AddsToFile {W : Type 0} (state : W → MediumState) (asked : Result (List (List ℕ)) Rejection)
    (answer : Result (Unit {0}) Error) (old new : WriterState W) : Type 0 where
  pub faults : (state new.medium).faults ≡ faults_reported answer (state old.medium).faults
  pub front : take old.data_start (state new.medium).contents ≡ take old.data_start (state old.medium).contents
  pub rest : UnlessFailed answer (drop (data_end new) (state new.medium).contents
      ≡ drop (data_end new) (state old.medium).contents)
  pub reach : UnlessFailed answer
      (length (state new.medium).contents ≤ max (length (state old.medium).contents) (data_end new))
  pub whole : IsWhole state old → IsWhole state new
  pub accepted : IsWhole state old →
      accepted_samples state new ≡ accepted_samples state old ++ if_marked (mark_of answer) asked
  pub counts : IsWhole state old → IsCounted state new

-- The intermediate states of such a call: the samples accepted before it count, nothing up to the end of the bytes in
-- the medium has changed, and of all accepted bytes those that are stored stay stored.
pub record AddsAtEach {W : Type 0} (state : W → MediumState) (old : WriterState W) (new : MediumState) : Type 0 where
  pub counts : IsWhole state old → Span (λ _. Counts old.spec_ex old.data_start (accepted_samples state old)) 0
      (state old.medium) new
  pub front : IsWhole state old → Span (λ _ c. take (old.data_start + old.bytes_written) c
      ≡ take (old.data_start + old.bytes_written) (state old.medium).contents)
      0 (state old.medium) new
  pub stored : IsWhole state old →
      StaysStored old.data_start (concat (accepted_samples state old)) (state old.medium) new

-- What a call with these containers does, by its result.
pub record Accepts {W : Type 0} (kind : Ghosts W)
    (asked : Result (List (List ℕ)) Rejection) (answer : Result (Unit {0}) Error)
    (old new : WriterState W) : Type 0 where
  pub adds : Adds asked answer old new
  pub file : WhereTells kind.tells (AddsToFile kind.state asked answer old new)
  pub moments : WhereKeeps kind.tells kind.keeps (AddsAtEach kind.state old (kind.state new.medium))

-- the containers in these bytes, in a file of this spec
abbrev pub whole_containers : WavSpecEx → List ℕ → Result (List (List ℕ)) Rejection
whole_containers s bytes = Ok (containers s.bytes_per_sample (length bytes / s.bytes_per_sample) bytes)

-- what a call with the containers in these bytes does, by its result
abbrev pub AcceptsBytes : {W : Type 0} → Ghosts W → List ℕ →
    Result (Unit {0}) Error → WriterState W → WriterState W → Type 0
AcceptsBytes kind bytes answer old new = Accepts kind (whole_containers old.spec_ex bytes) answer old new

-- the container of a sample in a file of this spec, by its type's table, or the error
abbrev pub container_in : {V : Type 0} → (V → ℕ → ℕ → Result (List ℕ) Rejection) → WavSpecEx → V →
    Result (List (List ℕ)) Rejection
container_in container s value = one (container value s.spec.bits_per_sample s.bytes_per_sample)

-- the containers of samples in a file of this spec, by their type's table, or the first error
abbrev pub containers_in : {V : Type 0} → (V → ℕ → ℕ → Result (List ℕ) Rejection) → WavSpecEx → List V →
    Result (List (List ℕ)) Rejection
containers_in container s values = all_containers (λ v. container v s.spec.bits_per_sample s.bytes_per_sample) values

-- the bytes of samples in a file of this spec
abbrev pub sample_bytes : {V : Type 0} → (V → ℕ → ℕ → Result (List ℕ) Rejection) → WavSpecEx → List V → List ℕ
sample_bytes container s values = joined_containers (λ v. container v s.spec.bits_per_sample s.bytes_per_sample) values

-- these integers have sixteen bits each
abbrev pub AreI16 : List ℤ → Type 0
AreI16 values = IsOk (all_containers (λ v. int_container v 16 2) values)

-- the bytes of integers of sixteen bits
abbrev pub i16_bytes : List ℤ → List ℕ
i16_bytes values = flat_map (signed_bytes_of 2) values

-- Samples that were written one by one, each where the one before ended, and all accepted.
abbrev pub AcceptsEach : {V W : Type 0} → Ghosts W →
    (V → ℕ → ℕ → Result (List ℕ) Rejection) → List V → WriterState W → WriterState W → Type 0
AcceptsEach kind container [] old new = new ≡ old
AcceptsEach {V} {W} kind container (value ∷ values) old new =
    (mid : WriterState W)
    × Accepts kind (container_in container old.spec_ex value) (Ok tt) old mid
    × AcceptsEach kind container values mid new
