use Rattle.hound.specs.{IsSoundFollower}
use Rattle.hound_caller_tests.proofs.following.a_follower_counts_what_the_header_counts_after_each_byte.Given as goal

abbrev pub invariant-loop-k : goal.invariant-loop-k
invariant-loop-k g l = IsSoundFollower l.follower
