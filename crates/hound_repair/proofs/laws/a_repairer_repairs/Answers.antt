use Rattle.hound_repair.proofs.Driving.{begins, ends_failed, fails_partly, finds, goes_on, rejects, requests, stops_partly}
use Rattle.hound_repair.proofs.laws.a_repairer_repairs.Goals as goal

pub returns-clause-begins : goal.returns-clause-begins
returns-clause-begins c = λ task n old. begins task n old old

pub returns-clause-goes_on : goal.returns-clause-goes_on
returns-clause-goes_on c = λ keeps task n old mid new state next action bytes report answer small size.
    goes_on keeps task n old small size mid new state next action bytes report answer

pub returns-clause-fails : goal.returns-clause-fails
returns-clause-fails c = λ task n old mid state next action bytes answer size.
    ends_failed task n old mid size state next action bytes answer

pub returns-clause-requests : goal.returns-clause-requests
returns-clause-requests c = requests

pub returns-clause-found : goal.returns-clause-found
returns-clause-found c = finds

pub returns-clause-rejected : goal.returns-clause-rejected
returns-clause-rejected c = rejects

pub returns-clause-failed : goal.returns-clause-failed
returns-clause-failed c = fails_partly

pub returns-clause-stopped : goal.returns-clause-stopped
returns-clause-stopped c = λ keeps task n old mid new state action bytes report.
    stops_partly task n old new keeps mid state action bytes report
