-- How a new file begins.
use Rattle.std.specs.Prelude.{◌≡◌, ◌-◌, ◌<◌, ◌≤◌, ◌⊎◌, ℕ, max, Bool, true, false, IsTrue, List, [], ◌∷◌, drop, get_or, length, take, Option, None, Some, Result, Ok, Err, is_ok, MatchResult, OnOk}
use Rattle.std.specs.declared.io.Error.{Error as IoFault}
use Rattle.hound_spec.specs.declared.error.Error.{Error}
use Rattle.hound_spec.specs.declared.error.Error.TheVariants.{OutOfMemory, Unsupported}
use Rattle.hound_spec.specs.declared.spec.WavSpecEx.{WavSpecEx}
use Rattle.hound_spec.specs.{header, data_start, IsWritable}
use Rattle.hound_durable.specs.{SurvivesLoss}
use Rattle.hound_medium.specs.{Flushes, MediumState, PutsFirst, PutsAll, Stays, WhereTells, faults_after}
use Rattle.hound_writer.specs.Accepting.{IsIoError}
use Rattle.hound_writer.specs.Effects.{nth}
use Rattle.hound_writer.specs.Parts.{PutsAt}
use Rattle.hound_writer.specs.Writer.{Ghosts, WriterState, HasHeader, IsSound, IsWhole, IsCounted, field}
use Rattle.hound_writer.specs.declared.effects.BeginningEffect.{BeginningEffect}
use Rattle.hound_writer.specs.declared.effects.BeginningEffect.TheVariants.{Empty, Sync, SyncFolder, Header}
use Rattle.hound_writer.specs.declared.recorder.RecorderError.{RecorderError}
use Rattle.hound_writer.specs.declared.recorder.RecorderError.TheVariants.{NotWritable}

-- The whole header was written where the medium was, with both sizes 0, and nothing else; all that was accepted, which
-- is nothing, is there and counted.
pub record PutsHeader {W : Type 0} (kind : Ghosts W) (old : MediumState) (w : WriterState W) : Type 0 where
  pub puts : PutsFirst kind.keeps (header w.spec_ex 0 0) (length (header w.spec_ex 0 0)) old (kind.state w.medium)
  pub faults : (kind.state w.medium).faults ≡ old.faults
  pub header : HasHeader w.spec_ex (kind.state w.medium).contents
  pub reach : length (kind.state w.medium).contents ≤ max (length old.contents) w.data_start
  pub whole : IsWhole kind.state w
  pub counts : IsCounted kind.state w

-- A writer of a new file of this writable spec: nothing is accepted yet.
pub record HasBegun {W : Type 0} (spec_ex : WavSpecEx) (w : WriterState W) : Type 0 where
  pub writable : IsWritable spec_ex
  pub sound : IsSound w
  pub spec : w.spec_ex ≡ spec_ex
  pub start : w.data_start ≡ data_start spec_ex
  pub none_out : w.bytes_written ≡ 0
  pub none_buffered : w.buffered ≡ []
  pub batch_memory : w.batch_memory ≡ []

-- the result of creating a file on disk: it has begun, or why it hasn't
abbrev pub BeginsFile : {W : Type 0} → WavSpecEx → Result (WriterState W) Error → Type 0
BeginsFile spec_ex result =
    MatchResult result (HasBegun spec_ex)
    (λ e. (IsIoError e ⊎ (e ≡ OutOfMemory)) ⊎ ((e ≡ Unsupported) × (IsWritable spec_ex → ⊥)))

-- how it began: only its header was written
pub record Begins {W : Type 0} (kind : Ghosts W) (spec_ex : WavSpecEx) (old : MediumState)
    (w : WriterState W) : Type 0 where
  pub begun : HasBegun spec_ex w
  pub file : WhereTells kind.tells (PutsHeader kind old w)

-- Why no file is begun: a spec that can't be written, and the medium is as it was; or the medium failed, and a
-- beginning of the header was written.
abbrev pub IsNotBegun : {W : Type 0} → Ghosts W → WavSpecEx → W → W → Error → Type 0
IsNotBegun kind spec_ex old new e =
    ((IsWritable spec_ex → ⊥) × (e ≡ Unsupported) × (new ≡ old))
    ⊎ (IsWritable spec_ex × IsIoError e × WhereTells kind.tells
    (PutsAll {T = Unit {0}} kind.keeps (header spec_ex 0 0) (Err e) (kind.state old) (kind.state new)))

-- How a caller begins a file: its name is synced, it is emptied and synced, and the header is written, whose 44 or 68
-- bytes are two parts.
abbrev pub beginning : List BeginningEffect
beginning = SyncFolder ∷ Empty ∷ Sync ∷ Header 0 ∷ Header 40 ∷ []

-- the bytes of a header from one of them on, as many as an effect holds
abbrev pub header_part : WavSpecEx → ℕ → List ℕ
header_part s first = take 40 (drop first (header s 0 0))

-- the effect with this number, of a spec that can be written
abbrev pub BeginsWith : WavSpecEx → ℕ → Result (Option BeginningEffect) RecorderError → Type 0
BeginsWith s number (Ok next) = IsWritable s × (next ≡ nth beginning number)
BeginsWith s number (Err error) = (IsWritable s → ⊥) × (error ≡ NotWritable)

-- a file without bytes, to which nothing was written
pub record IsEmpty (keeps : Bool) (m : MediumState) : Type 0 where
  pub contents : m.contents ≡ []
  pub start : IsTrue keeps → m.start ≡ []
  pub past : IsTrue keeps → m.past ≡ []

-- what a cut at its first byte does to a file: it is empty then; at an Err it may be as it was
pub record Empties (keeps : Bool) (result : Result (Unit {0}) IoFault) (old new : MediumState) : Type 0 where
  pub leaves : IsEmpty keeps new ⊎ Stays old new
  pub done : OnOk result (IsEmpty keeps new)
  pub faults : new.faults ≡ faults_after result old.faults

-- What one of them does to a file, which records every byte written or not: a folder holds no byte of it.
abbrev pub DoesBeginning : Bool → WavSpecEx → BeginningEffect → Result (Unit {0}) IoFault → MediumState → MediumState
    → Type 0
DoesBeginning keeps s SyncFolder result old new = new ≡ record old { faults = faults_after result old.faults }
DoesBeginning keeps s Empty result old new = Empties keeps result old new
DoesBeginning keeps s Sync result old new = Flushes result old new
DoesBeginning keeps s (Header first) result old new = PutsAt keeps first (header_part s first) result old new

-- these were done, one after the other, up to the first that failed
abbrev pub DoesBeginnings : Bool → WavSpecEx → List BeginningEffect → Result (Unit {0}) IoFault → MediumState
    → MediumState → Type 0
DoesBeginnings keeps s [] result old new = (result ≡ Ok tt) × (new ≡ old)
DoesBeginnings keeps s (effect ∷ effects) result old new =
    (mid : MediumState) × (this : Result (Unit {0}) IoFault) × DoesBeginning keeps s effect this old mid
    × MatchResult this (λ _. DoesBeginnings keeps s effects result mid new)
    (λ fault. (result ≡ Err fault) × (new ≡ mid))

-- a medium as a caller begins a file in it, once that is emptied and synced
abbrev pub at_beginning : MediumState → MediumState
at_beginning m = record { contents = []; place = 0; faults = m.faults; start = []; past = []; flushed = 0 }

-- whether the file's name is stored once these are done
abbrev pub stores_name : List BeginningEffect → Bool
stores_name [] = false
stores_name (SyncFolder ∷ effects) = true
stores_name (effect ∷ effects) = stores_name effects

-- what a loss of power leaves of a file: its bytes, or, where its name isn't stored, no file
abbrev pub Remains : Bool → ℕ → MediumState → Option (List ℕ) → Type 0
Remains is_named sector m None = is_named ≡ false
Remains is_named sector m (Some left) = SurvivesLoss sector m.start m.past m.flushed (length m.past) left

-- at most the header of a file without samples: each byte is one of it, or zero, and the data length is 0
pub record HasAtMostHeader (s : WavSpecEx) (left : List ℕ) : Type 0 where
  pub long : length left ≤ data_start s
  pub bytes : (i : ℕ) → i < length left → (get_or left i 0 ≡ get_or (header s 0 0) i 0) ⊎ (get_or left i 0 ≡ 0)
  pub none : field (data_start s - 4) left ≡ 0

-- a file that may not be begun yet has at most its header, or there is none; once it is begun it is there
abbrev pub LeavesBeginning : {T E : Type 0} → Result T E → WavSpecEx → Option (List ℕ) → Type 0
LeavesBeginning result s None = is_ok result ≡ false
LeavesBeginning result s (Some left) = HasAtMostHeader s left
