-- What contracts see of a batch of samples of sixteen bits.
use Rattle.std.specs.Prelude.{◌≡◌, ◌+◌, ◌++◌, ℕ, List, length, take}
use Rattle.std.specs.Borrow.{GName}
use Rattle.hound_writer.specs.declared.batch.BatchMemory.{Ghosts as MemoryGhosts}
use Rattle.hound_writer.specs.Accepting.{i16_bytes}
use Rattle.hound_writer.specs.Calls.{HasSameCalls}
use Rattle.hound_writer.specs.Writer.{Ghosts, WriterState}
use Rattle.hound_writer.specs.declared.batch.SampleWriter16.{SampleWriter16}

-- a writer of the same file: its medium and what was accepted are the same
pub record IsSameFile {W : Type 0} (old new : WriterState W) : Type 0 where
  pub medium : new.medium ≡ old.medium
  pub spec_ex : new.spec_ex ≡ old.spec_ex
  pub data_start : new.data_start ≡ old.data_start
  pub bytes_written : new.bytes_written ≡ old.bytes_written
  pub buffered : new.buffered ≡ old.buffered

module _ {W B : Type 0} {medium : Ghosts W} {memory : MemoryGhosts B} where
  -- the writer that a batch goes to, as it is now, with the memory that it has lent to the batch
  abbrev pub batch_writer : SampleWriter16 W B medium memory → WriterState W
  batch_writer batch = record batch.parent.now {
    batch_memory = i16_bytes (memory.samples batch.memory);
  }

  -- the ghost name of the reference to it
  abbrev pub batch_lender : SampleWriter16 W B medium memory → GName
  batch_lender batch = batch.parent.ghost_name

  -- the bytes of the samples that were written to a batch
  abbrev pub batch_bytes : SampleWriter16 W B medium memory → List ℕ
  batch_bytes batch = i16_bytes (take batch.written (memory.samples batch.memory))

  -- how many samples are still to be written
  abbrev pub remaining : SampleWriter16 W B medium memory → ℕ
  remaining batch = batch.left

  -- A sample with these bytes is written to a batch: one less is still to be written, and its writer stays as it is,
  -- with as much memory.
  pub record WritesToBatch (bytes : List ℕ) (old new : SampleWriter16 W B medium memory) : Type 0
    where
      pub lender : batch_lender new ≡ batch_lender old
      pub written : batch_bytes new ≡ batch_bytes old ++ bytes
      pub left : remaining new + 1 ≡ remaining old
      pub stays : IsSameFile (batch_writer old) (batch_writer new)
      pub kept : length (batch_writer new).batch_memory ≡ length (batch_writer old).batch_memory
      pub recorded : HasSameCalls medium (batch_writer old) (batch_writer new)
