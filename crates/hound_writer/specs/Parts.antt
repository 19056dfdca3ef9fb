-- What the parts of a writer's calls do to its medium, what becomes of the buffered samples, and what a writer's fields
-- keep true.
use Rattle.std.specs.Prelude.{◌≡◌, ℕ, ◌+◌, ◌-◌, ◌≤◌, List, ◌++◌, length, take, Bool, true, false, IsTrue, Result, Ok, Err, OnOk, max, [], drop, ℤ, ◌%◌, Option, None, Some}
use Rattle.hound_number.specs.{AreBytes, mix}
use Rattle.std.specs.declared.io.Error.{Error as IoFault}
use Rattle.hound_spec.specs.declared.error.Error.{Error}
use Rattle.hound_spec.specs.declared.error.Error.TheVariants.{IoError, UnfinishedSample}
use Rattle.hound_spec.specs.declared.spec.WavSpecEx.{WavSpecEx}
use Rattle.hound_medium.specs.{placed, overlay, MediumState, faults_after, Span, WhereTells, WhereKeeps}
use Rattle.hound_walk.specs.{Head}
use Rattle.hound_writer.specs.Publishing.{PutsLast, PutsFrom}
use Rattle.hound_writer.specs.Writer.{Ghosts, SameButSizes, block_length, field, with_sizes, WriterState, IsSound, IsWhole, IsCounted, accepted_samples, data_length}
use Rattle.hound_spec.specs.{riff_size, greatest_u32}
use Rattle.hound_writer.specs.Accepting.{AddsAtEach, i16_bytes}

-- these bytes were written at a place, or at an Err a beginning of them
pub record PutsAt {T E : Type 0} (keeps : Bool) (at : ℕ) (bytes : List ℕ) (result : Result T E)
    (old new : MediumState) : Type 0 where
  pub count : ℕ
  pub within : count ≤ length bytes
  pub whole : OnOk result (count ≡ length bytes)
  pub contents : new.contents ≡ overlay old.contents (placed at (take count bytes))
  pub place : OnOk result (new.place ≡ at + length bytes)
  pub start : new.start ≡ old.start
  pub past : IsTrue keeps → new.past ≡ old.past ++ placed at (take count bytes)
  pub flushed : new.flushed ≡ old.flushed
  pub faults : new.faults ≡ faults_after result old.faults

-- there are four bytes at p, after the RIFF size
pub record HasSize (p : ℕ) (contents : List ℕ) : Type 0 where
  pub beyond : 8 ≤ p
  pub inside : p + 4 ≤ length contents
  pub small : AreBytes contents

-- The contents while two sizes are written over a base, the RIFF size first: it has its i low bytes from the new number
-- and the others from the base, and the field at p its j low ones, which come only after the whole RIFF size. Nothing
-- else has changed.
pub record IsPatched (p size : ℕ) (base : List ℕ) (new j : ℕ) (contents : List ℕ) : Type 0 where
  pub same : SameButSizes p base contents
  pub riff : (i : ℕ) × (i ≤ 4) × (field 4 contents ≡ mix i (field 4 base) size)
  pub order : 1 ≤ j → field 4 contents ≡ size
  pub field : field p contents ≡ mix j (field p base) new

-- A patch: at an Ok both sizes are there, and the medium was flushed. A fault may have cut either size, and nothing
-- else has changed.
pub record Patches {T E : Type 0} (p size data_length : ℕ) (result : Result T E) (old new : MediumState) : Type 0 where
  pub contents : OnOk result (new.contents ≡ with_sizes p size data_length old.contents)
  pub half : (j : ℕ) × (j ≤ 4) × IsPatched p size old.contents data_length j new.contents
  pub flushed : OnOk result (new.flushed ≡ length new.past)
  pub faults : new.faults ≡ faults_after result old.faults

-- the intermediate states of a patch: the field at p has all four bytes of the new number at an Ok
pub record PatchesAtEach {T E : Type 0} (p size new : ℕ) (result : Result T E)
    (before after : MediumState) : Type 0 where
  pub split : ℕ
  pub span : Span (IsPatched p size before.contents new) split before after
  pub puts : PutsLast p split before after
  pub whole : OnOk result (length after.past ≡ split + 4)

-- a file between a writer's calls: its head is there, and the data length counts at most n bytes
pub record CountsAtMost (s : WavSpecEx) (start n : ℕ) (contents : List ℕ) : Type 0 where
  pub head : Head contents s (field (start - 4) contents) start
  pub counted : field (start - 4) contents ≤ n

-- the result of a call that has patched the header, or met a fault: Ok exactly for whole frames
abbrev pub IsPublishResult : Result (Unit {0}) IoFault → Bool → Result (Unit {0}) Error → Type 0
IsPublishResult (Err e) are_frames modelled = modelled ≡ Err (IoError e)
IsPublishResult (Ok x) true modelled = modelled ≡ Ok x
IsPublishResult (Ok x) false modelled = modelled ≡ Err UnfinishedSample

-- Ok if all were written, else an Err
abbrev pub all_out : Bool → Result (Unit {0}) (Unit {0})
all_out true = Ok tt
all_out false = Err tt

-- the result of a call of the medium, as callers get it
abbrev pub as_error : Result (Unit {0}) IoFault → Result (Unit {0}) Error
as_error (Ok done) = Ok done
as_error (Err fault) = Err (IoError fault)

-- a writer over this medium once the buffered samples are written, or else as it was
abbrev pub after_out : {W : Type 0} → Bool → W → WriterState W → WriterState W
after_out true medium w = record w { medium = medium; bytes_written = data_length w; buffered = [] }
after_out false medium w = record w { medium = medium }

-- What bytes after those in the medium, up to `end`, leave as is: the head is there, and nothing before them nor after
-- `end` has changed.
pub record StaysAround {W : Type 0} (state : W → MediumState) (end : ℕ) (old : WriterState W)
    (new : MediumState) : Type 0 where
  pub at_most : CountsAtMost old.spec_ex old.data_start old.bytes_written new.contents
  pub front : take old.data_start new.contents ≡ take old.data_start (state old.medium).contents
  pub bytes_written : IsWhole state old → take (old.data_start + old.bytes_written) new.contents
      ≡ take (old.data_start + old.bytes_written) (state old.medium).contents
  pub rest : drop end new.contents ≡ drop end (state old.medium).contents
  pub grows : length (state old.medium).contents ≤ length new.contents
  pub reach : length new.contents ≤ max (length (state old.medium).contents) end

-- what these bytes left in the medium, all of them or a beginning
pub record GoesToFile {W : Type 0} (state : W → MediumState) (end : ℕ) (all : Bool)
    (old new : WriterState W) : Type 0 where
  pub faults : (state new.medium).faults ≡ faults_after (all_out all) (state old.medium).faults
  pub around : StaysAround state end old (state new.medium)
  pub whole : IsWhole state old → IsWhole state new
  pub accepted : IsWhole state old → accepted_samples state new ≡ accepted_samples state old
  pub counts : IsWhole state old → IsCounted state new

-- the intermediate states meanwhile: nothing is written before the data
pub record GoesAtEach {W : Type 0} (state : W → MediumState) (old : WriterState W) (new : MediumState) : Type 0 where
  pub adds : AddsAtEach state old new
  pub front : Span (λ _ c. take old.data_start c ≡ take old.data_start (state old.medium).contents) 0
      (state old.medium) new
  pub beyond : PutsFrom old.data_start (state old.medium) new

-- The buffered samples are written, and then perhaps bytes up to `end`; or a beginning of all that if the medium fails,
-- and then all samples stay buffered.
pub record GoesOut {W : Type 0} (kind : Ghosts W) (end : ℕ) (all : Bool) (old new : WriterState W) : Type 0 where
  pub value : new ≡ after_out all new.medium old
  pub sound : IsSound old
  pub file : WhereTells kind.tells (GoesToFile kind.state end all old new)
  pub moments : WhereKeeps kind.tells kind.keeps (GoesAtEach kind.state old (kind.state new.medium))

-- Below this many buffered bytes there is room for a sample of any width: in the block, and in the file for a whole
-- block.
pub record IsLimit (start written limit : ℕ) : Type 0 where
  pub block : limit + 3 ≤ block_length
  pub file : 1 ≤ limit → riff_size start (written + block_length) ≤ greatest_u32

-- the value of a writer's fields
abbrev pub of_fields : {W : Type 0} → W → WavSpecEx → ℕ → ℕ → List ℕ → List ℕ → WriterState W
of_fields medium spec_ex start written buffered memory = record {
  medium = medium;
  spec_ex = spec_ex;
  data_start = start;
  bytes_written = written;
  buffered = buffered;
  batch_memory = memory;
}

-- What a writer keeps true between its calls: the samples in the medium are whole and so are the buffered ones, in one
-- block; the head of its file is there, the data length counts no more than the bytes in the medium, and the next ones
-- go after these.
pub record IsConsistent {W : Type 0} (kind : Ghosts W) (w : WriterState W)
    (may_have_moved : Bool) (limit : ℕ) : Type 0 where
  pub sound : IsSound w
  pub whole_written : w.bytes_written % w.spec_ex.bytes_per_sample ≡ 0
  pub whole_buffered : length w.buffered % w.spec_ex.bytes_per_sample ≡ 0
  pub block : length w.buffered ≤ block_length
  pub room : IsLimit w.data_start w.bytes_written limit
  pub at_most : WhereTells kind.tells
      (CountsAtMost w.spec_ex w.data_start w.bytes_written (kind.state w.medium).contents)
  pub place : WhereTells kind.tells
      (may_have_moved ≡ false → (kind.state w.medium).place ≡ w.data_start + w.bytes_written)

-- the bytes of the memory that a writer holds for its batches, if it has some
abbrev pub memory_bytes : {V : Type 0} → (V → List ℤ) → Option V → List ℕ
memory_bytes items None = []
memory_bytes items (Some memory) = i16_bytes (items memory)
