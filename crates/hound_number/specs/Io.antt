-- What the loops over read and write leave: the bytes, the count of failed reads and what no read changes, if these are
-- known, and the error at an early end.
use Rattle.std.specs.Prelude.{◌≡◌, ℕ, ◌+◌, ◌-◌, ◌^◌, min, ⊤, List, Option, None, Some, Result, Ok, Err, ◌<◌, length, take}
use Rattle.std.specs.IoError.{error_kind}
use Rattle.std.specs.declared.io.Error.{Error}
use Rattle.std.specs.declared.io.ErrorKind.TheVariants.{Other}
use Rattle.hound_number.specs.declared.input.ReadError.{ReadError}
use Rattle.hound_number.specs.declared.input.ReadError.TheVariants.{Failed, Ended}
use Rattle.std.specs.Io.KnownBytes.{Appends}

-- a read's own error, or one of kind `Other` for an early end
abbrev pub ReportsEnding : ReadError → Error → Type 0
ReportsEnding (Failed e) modelled = modelled ≡ e
ReportsEnding Ended modelled = error_kind modelled ≡ Other

-- P holds for the bytes that were left and those that are left now; known bytes stay known
abbrev pub WhereKnown : Option (List ℕ) → Option (List ℕ) → (List ℕ → List ℕ → Type 0) → Type 0
WhereKnown None new P = ⊤
WhereKnown (Some xs) None P = ⊥
WhereKnown (Some xs) (Some ys) P = P xs ys

-- What contracts see of an input besides the bytes left: how many reads failed, and what no read changes.
pub record Account (Kept : Type 0) : Type 0 where
  pub failures : ℕ
  pub kept : Kept

-- the same account with one failure more; it stays at the maximum of `u64`
abbrev pub one_failure_more : {Kept : Type 0} → Account Kept → Account Kept
one_failure_more a = record a { failures = min (a.failures + 1) (2 ^ 64 - 1) }

-- no read failed
abbrev pub NoneFailed : {Kept : Type 0} → Option (Account Kept) → Option (Account Kept) → Type 0
NoneFailed None new = ⊤
NoneFailed (Some a) None = ⊥
NoneFailed (Some a) (Some b) = b ≡ a

-- one read failed
abbrev pub OneFailed : {Kept : Type 0} → Option (Account Kept) → Option (Account Kept) → Type 0
OneFailed None new = ⊤
OneFailed (Some a) None = ⊥
OneFailed (Some a) (Some b) = b ≡ one_failure_more a

-- a read that is Err counts as failed, and no other does
abbrev pub CountsRead : {Kept A E : Type 0} → Option (Account Kept) → Option (Account Kept) → Result A E → Type 0
CountsRead old new (Ok x) = NoneFailed old new
CountsRead old new (Err e) = OneFailed old new

-- the same for several reads, which end at the first that fails
abbrev pub CountsReads : {Kept A : Type 0} → Option (Account Kept) → Option (Account Kept) → Result A ReadError → Type 0
CountsReads old new (Ok x) = NoneFailed old new
CountsReads old new (Err (Failed e)) = OneFailed old new
CountsReads old new (Err Ended) = NoneFailed old new

-- P, if the input ended early
abbrev pub IfEnded : ReadError → Type 0 → Type 0
IfEnded (Failed e) P = ⊤
IfEnded Ended P = P

-- the bytes were written in order: all of them at an Ok, a shorter beginning of them at an Err
abbrev pub Writes : {T E : Type 0} → List ℕ → Result T E → Option (List ℕ) → Option (List ℕ) → Type 0
Writes bytes (Ok x) old new = Appends old new bytes
Writes bytes (Err e) old new = (n : ℕ) × (n < length bytes) × Appends old new (take n bytes)
