use Rattle.hound_repair.proofs.Found.{fails_by_medium, found_again}
use Rattle.hound_repair.proofs.laws.a_look_finds_what_a_repair_does.Goals as goal

pub returns-clause-found : goal.returns-clause-found
returns-clause-found c = found_again

pub returns-clause-error : goal.returns-clause-error
returns-clause-error c = fails_by_medium
