-- What opening the file in a source comes to.
use Rattle.std.proofs.lemmas.Grind.{common_steps}
use Rattle.std.proofs.Common.{arith}
use Rattle.std.proofs.Common.{Some, Err}
use Rattle.hound_medium.specs.{MediumState}
use Rattle.hound_spec.specs.declared.error.Error.{Error}
use Rattle.hound_walk.specs.{ReportsError, TakesAll, UnreadableAfter, unread}
use Rattle.hound_walk.specs.declared.cause.HeadError.{HeadError}
use Rattle.hound_reader.specs.Reader.{FindsSamples, IsNotOpened}

-- a walk that found no samples: for a cause, or since a read failed
pub not_opened : (stop : HeadError) (e : Error) (old new : MediumState) → ReportsError stop e
    → FindsSamples (Err stop) old new
    → TakesAll UnreadableAfter (Some (unread old)) (Some (unread new)) stop
    → IsNotOpened old new e
not_opened stop e old new modelled finds taken = grind (arith, common_steps)
