-- What holds by the result of a call.
use Rattle.std.proofs.lemmas.Grind.{common_steps}
use Rattle.std.proofs.Common.{◌≡◌, ℕ, Bool, true, false, List, Result, Err, OnOk, IsErr, IsErrAnd, is_ok, ◌<◌, arith}
use Rattle.std.specs.declared.io.Error.{Error as IoFault}
use Rattle.hound_spec.specs.declared.error.Error.{Error}
use Rattle.hound_medium.specs.{faults_after}
use Rattle.hound_sample.specs.{Rejection}
use Rattle.hound_writer.specs.Accepting.{AcceptAnswer, IsIoError, IsPublishing, OnRejected, OnPublished, UnlessFailed, faults_reported, mark_of}
use Rattle.hound_writer.specs.Parts.{IsPublishResult}
use Rattle.hound_writer.specs.Writer.{WriterState, data_length}

-- an error is no Ok
pub not_ok : {T E : Type 0} (r : Result T E) → IsErr r → is_ok r ≡ false
not_ok r err = grind (arith, common_steps)

-- the error that `?` returns
pub is_error : {T E : Type 0} (r : Result T E) (e : E) → IsErrAnd r (λ d. d ≡ e) → r ≡ Err e
is_error r e is = grind (arith, common_steps)

-- what holds of a call that was done
pub where_done : {T E P : Type 0} (r : Result T E) → (is_ok r ≡ true → P) → OnOk r P
where_done r here = grind (arith, common_steps)

pub on_rejected : {T P : Type 0} (answer : Result T Error) → P → OnRejected answer P
on_rejected answer here = grind (arith, common_steps)

pub rejected_then : {T P Q : Type 0} (answer : Result T Error) → (P → Q) → OnRejected answer P → OnRejected answer Q
rejected_then answer f here = grind (arith, common_steps)

pub unless_failed : {T P : Type 0} (answer : Result T Error) → P → UnlessFailed answer P
unless_failed answer here = grind (arith, common_steps)

pub unless_then : {T P Q : Type 0} (answer : Result T Error) → (P → Q) → UnlessFailed answer P → UnlessFailed answer Q
unless_then answer then here = grind (arith, common_steps)

pub on_published_then : {T P Q : Type 0} (answer : Result T Error) → (P → Q) → OnPublished answer P
    → OnPublished answer Q
on_published_then answer then here = grind (arith, common_steps)

-- what holds after an Ok patch holds if its caller returns that all was published
pub published : (P : Type 0) (patched : Result (Unit {0}) IoFault) (are_frames : Bool)
    (outcome : Result (Unit {0}) Error) → IsPublishResult patched are_frames outcome → OnOk patched P
    → OnPublished outcome P
published P patched are_frames outcome is here = grind (arith, common_steps)

-- an Ok is returned only for whole frames
pub reported_ok : (P : Type 0) (patched : Result (Unit {0}) IoFault) (are_frames : Bool)
    (outcome : Result (Unit {0}) Error) → IsPublishResult patched are_frames outcome
    → (are_frames ≡ true → OnOk patched P) → OnOk outcome P
reported_ok P patched are_frames outcome is here = grind (arith, common_steps)

-- the faults that a result reports are those of the patch
pub reported_faults : (patched : Result (Unit {0}) IoFault) (are_frames : Bool)
    (outcome : Result (Unit {0}) Error) (old new : ℕ) → IsPublishResult patched are_frames outcome
    → new ≡ faults_after patched old → new ≡ faults_reported outcome old
reported_faults patched are_frames outcome old new is here = grind (arith, common_steps)

-- writers of as many bytes after the same head return the same for the same containers
pub accept_as : {V W : Type 0} (asked : Result (List (List ℕ)) Rejection)
    (answer : Result (Unit {0}) Error) (w : WriterState W) (v : WriterState V)
    → w.data_start ≡ v.data_start → data_length w ≡ data_length v
    → AcceptAnswer asked w answer → AcceptAnswer asked v answer
accept_as asked answer w v start size is = grind (arith, common_steps)

-- and so they do if they publish
pub publishing_as : {V W : Type 0} (answer : Result (Unit {0}) Error) (w : WriterState W)
    (v : WriterState V) → w.spec_ex ≡ v.spec_ex → data_length w ≡ data_length v
    → IsPublishing answer w → IsPublishing answer v
publishing_as answer w v spec size is = grind (arith, common_steps)

-- P, if a call with this mark published all
pub where_marked : {P : Type 0} (answer : Result (Unit {0}) Error) → mark_of answer ≡ true → OnPublished answer P → P
where_marked answer marked here = grind (arith, common_steps)

-- an error of a call that met no fault is no `IoError`
pub no_io : (e : Error) (f : ℕ) → f < 18446744073709551615 → faults_reported {T = Unit {0}} (Err e) f ≡ f
    → IsIoError e → ⊥
no_io e f small same io = grind (arith, common_steps)

-- what holds of an error that is no fault of the medium
pub rejected_of : {P : Type 0} (e : Error) → (IsIoError e → ⊥) → OnRejected {T = Unit {0}} (Err e) P → P
rejected_of e none here = grind (arith, common_steps)

-- a call that publishes and meets no fault has published all
pub all_marked : {M : Type 0} (answer : Result (Unit {0}) Error) (w : WriterState M) (f : ℕ)
    → f < 18446744073709551615 → faults_reported answer f ≡ f → IsPublishing answer w
    → mark_of answer ≡ true
all_marked answer w f small same is = grind (arith, common_steps)
