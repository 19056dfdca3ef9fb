use Rattle.hound.specs.{IsSoundFollower}
use Rattle.hound_caller_tests.proofs.following.look.Given as goal

abbrev pub invariant-loop : goal.invariant-loop
invariant-loop l = IsSoundFollower l.follower
