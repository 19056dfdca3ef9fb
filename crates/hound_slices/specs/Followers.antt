-- The follower of a recording that another program makes.
use Rattle.std.specs.Prelude.{◌≡◌, ℕ, ◌+◌, ◌≤◌, ◌<◌, ◌^◌, ◌==◌, ◌&&◌, nat_lt, if◌then◌else◌, List, min, take, Option, None, Some, Result, Ok, Err}
use Rattle.hound_spec.specs.{greatest_u32}
use Rattle.hound_spec.specs.declared.spec.WavSpecEx.{WavSpecEx}
use Rattle.hound_walk.specs.{part_length}
use Rattle.hound_follow.specs.{FollowsNext, first_walk}
use Rattle.hound_follow.specs.declared.follower.FollowError.{FollowError}
use Rattle.hound_follow.specs.declared.follower.FollowError.TheVariants as errors
use Rattle.hound_follow.specs.declared.follower.FollowStep.{FollowStep}
use Rattle.hound_follow.specs.declared.follower.FollowStep.TheVariants.{Reads, Grew, NothingNew}
use Rattle.hound_follow.specs.declared.follower.Follower.{Follower}
use Rattle.hound_follow.specs.declared.follower.Follower.TheVariants.{Walks, Looks}
use Rattle.hound_follow.specs.declared.follower.Look.{Look}
use Rattle.hound_follow.specs.declared.follower.Look.TheVariants.{Length, Byte}
use Rattle.hound_follow.specs.declared.follower.Recording.{Recording}
use Rattle.hound_writer.specs.declared.effects.Action.{Action}
use Rattle.hound_writer.specs.declared.effects.Action.TheVariants.{Read}
use Rattle.hound_slices.specs.Effects.{effect_of, report_of}
use Rattle.hound_slices.specs.Walks.{found_of, walk_with}
use Rattle.hound_slices.specs.Writing.{IsExplicit}
use Rattle.hound_slices.specs.declared.error.CallError.{CallError}
use Rattle.hound_slices.specs.declared.error.CallError.TheVariants.{Head, NotPerformed, TooLong, Truncated}
use Rattle.hound_slices.specs.declared.following.HoundFollower.{HoundFollower}

-- the recording whose spec is this, if its data begin where those of a file may
abbrev pub recording_with : HoundFollower → Option WavSpecEx → Option Recording
recording_with c None = None
recording_with c (Some s) =
    if nat_lt c.data_start 20 then None
    else if nat_lt (20 + greatest_u32) c.data_start then None
    else Some (record { spec_ex = s; data_start = c.data_start; counted = c.counted; last = c.last })

-- the recording that was found, if C's is one of a file
abbrev pub recording_of : HoundFollower → Option Recording
recording_of c = recording_with c (found_of c.spec)

-- what is requested of the data length, by its number
abbrev pub look_of : ℕ → ℕ → Look
look_of part above =
    if part == 5 && nat_lt above (256 ^ 3) then Byte 0 above
    else if part == 6 && nat_lt above (256 ^ 2) then Byte 1 above
    else if part == 7 && nat_lt above 256 then Byte 2 above
    else if part == 8 then Byte 3 0
    else Length

-- a follower that has found no recording begins anew
abbrev pub if_recording : HoundFollower → Option Recording → Follower
if_recording c None = Walks first_walk
if_recording c (Some recording) = Looks recording (look_of c.part c.above)

-- the follower that C's is
abbrev pub follower_of : HoundFollower → Follower
follower_of c =
    if nat_lt c.part 4 then Walks (walk_with c.spec c.taken c.part c.fmt_length)
    else if_recording c (recording_of c)

-- how many bytes a follower has asked for
abbrev pub count_asked : Follower → ℕ
count_asked (Walks walk) = part_length walk.part
count_asked (Looks recording Length) = 4
count_asked (Looks recording (Byte n above)) = 1

-- the bytes that were read of those
abbrev pub asked_bytes : HoundFollower → List ℕ
asked_bytes c = take (min (min c.effect.length 40) (count_asked (follower_of c))) c.effect.bytes

-- what is requested next, if something is
abbrev pub action_of : Result FollowStep FollowError → Option Action
action_of (Ok (Reads place n)) = Some (Read place n)
action_of _ = None

-- what a call returns for a step
abbrev pub outcome_of : Result FollowStep FollowError → Result ℕ CallError
outcome_of (Ok Grew) = Ok 0
outcome_of (Ok (Reads place n)) = Ok 1
outcome_of (Ok NothingNew) = Ok 2
outcome_of (Err (errors.Rejected cause)) = Err (Head cause)
outcome_of (Err errors.Truncated) = Err Truncated
outcome_of (Err errors.TooLong) = Err TooLong
outcome_of (Err errors.NotPerformed) = Err NotPerformed

-- The data of C's follower begin at 0 until all of the header was there, and then its spec has all of its numbers.
pub record HasFollowerNumbers (c : HoundFollower) : Type 0 where
  pub part : c.part ≤ 8
  pub none : c.part < 4 → (c.data_start ≡ 0) × (c.counted ≡ 0)
  pub found : 4 ≤ c.part → IsExplicit c.spec × (20 ≤ c.data_start)

-- What a step of a follower does: what the follower that it is does.
pub record StepsFollower (old new : HoundFollower) (outcome : Result ℕ CallError) : Type 0 where
  pub step : Result FollowStep FollowError
  pub next : FollowsNext (report_of old.effect) (asked_bytes old) (follower_of old) (follower_of new) step
  pub effect : new.effect ≡ effect_of (action_of step)
  pub outcome_is : outcome ≡ outcome_of step
  pub numbers : HasFollowerNumbers new
