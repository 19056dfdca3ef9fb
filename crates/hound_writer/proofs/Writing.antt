-- A sample that a writer shall accept.
use Rattle.std.proofs.lemmas.Grind.{common_steps}
use Rattle.std.proofs.Common.{◌≡◌, ℕ, ◌+◌, ◌/◌, ◌%◌, nat_le, Bool, false, List, length, Result, Ok, Err, refl, ap, arith}
use Rattle.std.specs.List.{concat}
use Rattle.hound_medium.specs.{overlay, WhereTells, WhereKeeps}
use Rattle.hound_spec.specs.declared.error.Error.{Error}
use Rattle.hound_spec.specs.declared.error.Error.TheVariants.{TooLong}
use Rattle.hound_spec.specs.{riff_size, greatest_u32}
use Rattle.std.specs.declared.io.Error.{Error as IoFault}
use Rattle.hound_sample.proofs.Reading.{same_error}
use Rattle.hound_sample.specs.{Rejection, error_of, error_of_sample, containers, IsEncoded, reason_of}
use Rattle.hound_writer.specs.Accepting.{AcceptsBytes, Accepts, one}
use Rattle.hound_writer.specs.Parts.{IsConsistent}
use Rattle.hound_writer.specs.Writer.{Ghosts, WriterState, HasRoom, IsCounted, IsWhole, data_length}
use Rattle.hound_writer.proofs.Accepting.{accepts_rejected, type_rejects}
use Rattle.hound_writer.proofs.Containers.{container_alone, joined_bytes}
use Rattle.hound_writer.proofs.Samples.{valid_of}

-- there is no room, as the test finds
pub no_room : {W : Type 0} (w : WriterState W) (n : ℕ) → (HasRoom w n → ⊥)
    → nat_le (riff_size w.data_start (data_length w + n)) greatest_u32 ≡ false
no_room w n none = grind (arith, common_steps)

-- the file has no room for this many bytes
pub bytes_too_long : {W : Type 0} (kind : Ghosts W) (w : WriterState W)
    (bytes : List ℕ) → WhereTells kind.tells (IsWhole kind.state w → IsCounted kind.state w)
    → WhereKeeps kind.tells kind.keeps
    ((kind.state w.medium).contents ≡ overlay (kind.state w.medium).start (kind.state w.medium).past)
    → length bytes % w.spec_ex.bytes_per_sample ≡ 0 → (HasRoom w (length bytes) → ⊥)
    → AcceptsBytes kind bytes (Err TooLong) w w
bytes_too_long kind w bytes counts replays whole none =
    let width = w.spec_ex.bytes_per_sample in
    let list = containers width (length bytes / width) bytes in
    accepts_rejected kind w (Ok list) TooLong counts replays refl (λ _. refl)
    (rw (no_room w (length (concat list))
    (λ room. none (omega (arith, room, ap length (joined_bytes width bytes whole))))) refl)

-- a sample, and what a writer keeps true
module _ {W : Type 0} (kind : Ghosts W) (moved : Bool) (limit : ℕ)
    (w : WriterState W) (known : IsConsistent kind w moved limit) where
  -- its type has no container for it
  pub sample_rejected : (asked : Result (List ℕ) Rejection) (e : Error) (fault : IoFault)
      → IsEncoded asked (Err e) → WhereKeeps kind.tells kind.keeps
      ((kind.state w.medium).contents ≡ overlay (kind.state w.medium).start (kind.state w.medium).past)
      → Accepts kind (one asked) (Err (error_of_sample (reason_of e) fault)) w w
  sample_rejected (Ok c) e fault is replays = cc
  sample_rejected (Err rejection) e fault is replays =
      let same : e ≡ error_of rejection = cc in
      rw (same, same_error rejection fault)
      (type_rejects kind w rejection (valid_of kind moved limit w known).counts replays)

  -- the call was for its container
  pub sample_accepts : (asked : Result (List ℕ) Rejection) (bytes : List ℕ)
      (answer : Result (Unit {0}) Error) (new : WriterState W) → asked ≡ Ok bytes
      → length bytes ≡ w.spec_ex.bytes_per_sample → AcceptsBytes kind bytes answer w new
      → Accepts kind (one asked) answer w new
  sample_accepts asked bytes answer new is size accepts = grind (arith, common_steps, container_alone)
