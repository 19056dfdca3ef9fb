use Rattle.std.proofs.lemmas.Grind.{common_steps}
use Rattle.std.proofs.Common.{arith}
use Rattle.hound_number.proofs.KnownSteps.{known_weaker}
use Rattle.hound_walk.specs.{Unreadable}
use Rattle.hound_reader.proofs.ReaderLemmas.{opens_ok, rejection_reported, opens_reported, no_fault_ok, fails_reported, is_reported}
use Rattle.hound_reader.proofs.reader.WavReader.new.Goals as goal

pub returns-in-Ok-clause-found : goal.returns-in-Ok-clause-found
returns-in-Ok-clause-found g c = grind (arith, common_steps, known_weaker)

pub returns-in-Ok-clause-readable : goal.returns-in-Ok-clause-readable
returns-in-Ok-clause-readable g c =
    rw c.over.ensures.view
    (opens_ok _ _ c.in-Ok.head.spec_ex c.in-Ok.num_samples c.in-Ok.head.data_start c.in-Ok.ensures.found)

pub returns-in-Err-clause-rejected : goal.returns-in-Err-clause-rejected
returns-in-Err-clause-rejected g c =
    rejection_reported _ _ c.in-Err.e c.error_of.result Unreadable c.error_of.ensures
    c.in-Err.ensures.rejected

pub returns-in-Err-clause-readable : goal.returns-in-Err-clause-readable
returns-in-Err-clause-readable g c =
    opens_reported _ _ c.in-Err.e c.error_of.result _ c.error_of.ensures c.in-Err.ensures.rejected

pub returns-in-Ok-clause-unreadable : goal.returns-in-Ok-clause-unreadable
returns-in-Ok-clause-unreadable g c =
    no_fault_ok _ _ c.in-Ok.head.spec_ex c.in-Ok.num_samples c.in-Ok.head.data_start c.in-Ok.ensures.found

pub returns-in-Err-clause-unreadable : goal.returns-in-Err-clause-unreadable
returns-in-Err-clause-unreadable g c =
    fails_reported _ _ c.in-Err.e c.error_of.result c.error_of.ensures c.in-Err.ensures.rejected

pub returns-in-Err-clause-reported : goal.returns-in-Err-clause-reported
returns-in-Err-clause-reported g c = is_reported c.in-Err.e c.error_of.result c.error_of.ensures
