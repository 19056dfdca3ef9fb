-- Counts of failed reads, step after step.
use Rattle.std.proofs.Common.{rules}
use Rattle.std.proofs.Common.{Option}
use Rattle.hound_number.specs.Io.{Account, NoneFailed}

pub NoneFailed-trans : {K : Type 0} (o m n : Option (Account K)) → NoneFailed o m → NoneFailed m n → NoneFailed o n
NoneFailed-trans o m n s t = search rules
