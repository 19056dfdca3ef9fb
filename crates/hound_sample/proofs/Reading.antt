-- Containers that were read, by the bytes that were taken.
use Rattle.std.proofs.lemmas.Grind.{common_steps}
use Rattle.std.proofs.Common.{◌≡◌, ℕ, ◌<◌, List, length, refl, sym, arith, drop_at, length-append, Option, Some, None, Result, Ok}
use Rattle.hound_spec.specs.declared.error.Error.{Error}
use Rattle.std.specs.Io.KnownBytes.{Consumes}
use Rattle.std.specs.declared.io.Error.{Error as IoFault}
use Rattle.hound_number.specs.{WhereKnown}
use Rattle.hound_number.proofs.KnownSteps.{known_from}
use Rattle.hound_sample.specs.Container.{Rejection, error_of, too_wide, unsupported}
use Rattle.hound_sample.specs.Reading.{ReadRejection, Reads, ReadsContainer, TakesContainer, TakesTooFew, error_of_sample, read_error, reason_of}

pub takes_container : {A : Type 0} (bytes : List ℕ) (old new : Option (List ℕ)) (width : ℕ)
    (meaning : List ℕ → A) (value : A) → Consumes old new bytes → length bytes ≡ width
    → value ≡ meaning bytes → WhereKnown old new (TakesContainer meaning width value)
takes_container bytes old new width meaning value taken whole is = grind (arith, common_steps)

pub takes_part : (bytes : List ℕ) (old new : Option (List ℕ)) (width : ℕ) → Consumes old new bytes
    → length bytes < width → WhereKnown old new (TakesTooFew width)
takes_part bytes old new width taken few =
    known_from bytes old new (TakesTooFew width) taken
    (λ ys. (
      length bytes,
      few,
      omega (arith, length-append bytes ys),
      sym (drop_at bytes ys (length bytes) refl),
    ))

-- a type that reads the samples has read a container
pub reads_container : {A : Type 0} (rejection : Option ReadRejection) (meaning : List ℕ → A) (width : ℕ)
    (old new : Option (List ℕ)) (result : Result A Error) → Ok tt ≡ read_error rejection
    → ReadsContainer meaning width old new result → Reads rejection meaning width old new result
reads_container None meaning width old new result is reads = reads
reads_container (Some rejection) meaning width old new result is reads = cc

-- a reason has the error that it is of, whichever fault was saved
pub same_error : (rejection : Rejection) (fault : IoFault)
    → error_of_sample (reason_of (error_of rejection)) fault ≡ error_of rejection
same_error too_wide fault = refl
same_error unsupported fault = refl
