-- A program that follows a recording while another one makes it.
use Rattle.std.specs.Prelude.{◌≡◌, ℕ, zero, suc, ◌+◌, ◌-◌, ◌*◌, ◌%◌, ◌^◌, ◌≤◌, ◌<◌, ⊤, max, nat_lt, ◌==◌, if◌then◌else◌, List, [], ◌∷◌, ◌++◌, length, take, drop, Option, None, Some, Result, Ok, Err}
use Rattle.hound_number.specs.{number}
use Rattle.hound_spec.specs.{greatest_u32, riff_size}
use Rattle.hound_spec.specs.declared.spec.WavSpecEx.{WavSpecEx}
use Rattle.hound_walk.specs.{IsAt, IsDataPlace, IsNearer, IsSoundOption, IsSoundSpec, LeadsTo, part_bytes, part_length, part_start, parts_left}
use Rattle.hound_walk.specs.declared.cause.Cause.{Cause}
use Rattle.hound_walk.specs.declared.cause.Cause.TheVariants.{Ended}
use Rattle.hound_walk.specs.declared.parts.HeadWalk.{HeadWalk}
use Rattle.hound_walk.specs.declared.parts.Part.TheVariants.{Front}
use Rattle.hound_walk.specs.declared.parts.Step.{Step}
use Rattle.hound_walk.specs.declared.parts.Step.TheVariants.{Next, Data}
use Rattle.hound_writer.specs.declared.effects.Report.{Report}
use Rattle.hound_writer.specs.declared.effects.Report.TheVariants.{Pending, Done, Failed}
use Rattle.hound_follow.specs.declared.follower.FollowError.{FollowError}
use Rattle.hound_follow.specs.declared.follower.FollowError.TheVariants.{Rejected, Truncated, TooLong, NotPerformed}
use Rattle.hound_follow.specs.declared.follower.FollowStep.{FollowStep}
use Rattle.hound_follow.specs.declared.follower.FollowStep.TheVariants.{Reads, Grew, NothingNew}
use Rattle.hound_follow.specs.declared.follower.Follower.{Follower}
use Rattle.hound_follow.specs.declared.follower.Follower.TheVariants.{Walks, Looks}
use Rattle.hound_follow.specs.declared.follower.Look.{Look}
use Rattle.hound_follow.specs.declared.follower.Look.TheVariants.{Length, Byte}
use Rattle.hound_follow.specs.declared.follower.Outcome.{Outcome}
use Rattle.hound_follow.specs.declared.follower.Recording.{Recording}

-- how many of so many bytes are whole frames of a spec
abbrev pub whole_bytes : WavSpecEx → ℕ → ℕ
whole_bytes s n = n - n % (s.spec.channels * s.bytes_per_sample)

-- the recording, once all of its header was there
abbrev pub recording_of : Follower → Option Recording
recording_of (Walks walk) = None
recording_of (Looks recording look) = Some recording

-- how many bytes of whole frames it has counted
abbrev pub counted_by : Follower → ℕ
counted_by (Walks walk) = 0
counted_by (Looks recording look) = recording.counted

-- Table: which bytes a follower requests (Follower, Bytes, Place).
-- | Walks | as many as the next part of the header has | after the parts before |
-- | Looks, at the Length | 4 | those of the data length |
-- | Looks, at a Byte | 1 | that of the data length with its number |
abbrev pub requested_by : Follower → ℕ × ℕ
requested_by (Walks walk) = (part_start walk.part walk.taken, part_length walk.part)
requested_by (Looks recording Length) = (recording.data_start - 4, 4)
requested_by (Looks recording (Byte n above)) = (recording.data_start - 4 + n, 1)

-- the bytes that it requests of a file
abbrev pub part_for : Follower → List ℕ → List ℕ
part_for follower file = let (place, n) = requested_by follower in take n (drop place file)

-- The number of the four bytes from a place on, where each of them is from contents of its own: the first byte from the
-- first of these, and so on (RIFF: "all numbers are little-endian").
abbrev pub number_from : ℕ → List ℕ → List ℕ → List ℕ → List ℕ → ℕ
number_from p first second third fourth =
    number (take 1 (drop p first) ++ (take 1 (drop (p + 1) second)
    ++ (take 1 (drop (p + 2) third) ++ take 1 (drop (p + 3) fourth))))

-- a walk at the first part of a header
abbrev pub first_walk : HeadWalk
first_walk = record { found = None; taken = 0; part = Front }

-- where the next look begins
abbrev pub begun_again : Follower → Follower
begun_again (Walks walk) = Walks first_walk
begun_again (Looks recording look) = Looks recording Length

-- a look that ends so, after which the next one begins
abbrev pub look_ended : Follower → Result FollowStep FollowError → Outcome
look_ended follower returned = record { follower = begun_again follower; returned = returned }

-- Table: what a follower does with what it requested (Follower, Report, It returns, The follower then).
-- | any | none | it requests the same again | as it was |
-- a look that continues with a request
abbrev pub look_requests : Follower → Outcome
look_requests follower =
    let (place, n) = requested_by follower in record { follower = follower; returned = Ok (Reads place n) }

-- a recording whose header was read
abbrev pub begun : WavSpecEx → ℕ → Recording
begun s start = record { spec_ex = s; data_start = start; counted = 0; last = 0 }

-- | Walks | done, and another part decides | it requests that part | at that part |
-- | Walks | done, and the data begin after it | Grew | at the Length of this recording, of which none is counted |
abbrev pub after_step : Step → Outcome
after_step (Next walk) = look_requests (Walks walk)
after_step (Data head) = look_ended (Looks (begun head.spec_ex head.data_start) Length) (Ok Grew)

-- | Walks | done, and the file ends before the data begin | NothingNew | at the first part |
-- | Walks | done, and the file isn't read | Rejected, with the cause | at the first part |
abbrev pub after_cause : Cause → Outcome
after_cause Ended = look_ended (Walks first_walk) (Ok NothingNew)
after_cause cause = look_ended (Walks first_walk) (Err (Rejected cause))

abbrev pub after_walk : Result Step Cause → Outcome
after_walk (Ok step) = after_step step
after_walk (Err cause) = after_cause cause

-- a step of the walk leads to fewer parts
abbrev pub IsNearerAfter : HeadWalk → Result Step Cause → Type 0
IsNearerAfter walk (Ok step) = IsNearer (parts_left walk.part walk.taken) step
IsNearerAfter walk (Err cause) = ⊤

-- what comes of a part of the header: where it leads in each file of which it is this part
abbrev pub TakesHeaderPart : HeadWalk → List ℕ → Outcome → Type 0
TakesHeaderPart walk bytes outcome = (step : Result Step Cause) × (outcome ≡ after_walk step) × IsNearerAfter walk step
    × ((file : List ℕ) → IsAt file walk → bytes ≡ part_bytes walk file → LeadsTo file step)

-- | Looks, at the Length | done, with the length that was read last | NothingNew | as it was |
-- | Looks, at the Length | done, with another length | it requests the last byte of the length | at that Byte |
abbrev pub after_length : Recording → List ℕ → Outcome
after_length recording bytes =
    if nat_lt (length bytes) 4 then look_ended (Looks recording Length) (Err Truncated)
    else if number (take 4 bytes) == recording.last then look_ended (Looks recording Length) (Ok NothingNew)
    else look_requests (Looks recording (Byte 3 0))

-- a recording after its data length was found to be n bytes: no fewer are counted than before
abbrev pub counted_to : Recording → ℕ → Recording
counted_to recording n =
    record recording { counted = max recording.counted (whole_bytes recording.spec_ex n); last = n }

-- | Looks, at Byte 0 | done, and the length is that of no file | TooLong | at the Length |
-- | Looks, at Byte 0 | done, and the length counts more whole frames | Grew | at the Length, with these counted |
-- | Looks, at Byte 0 | done, and it counts no more | NothingNew | at the Length |
abbrev pub after_count : Recording → ℕ → Outcome
after_count recording n =
    if nat_lt greatest_u32 (riff_size recording.data_start n) then look_ended (Looks recording Length) (Err TooLong)
    else if nat_lt recording.counted (whole_bytes recording.spec_ex n)
    then look_ended (Looks (counted_to recording n) Length) (Ok Grew)
    else look_ended (Looks (counted_to recording n) Length) (Ok NothingNew)

-- | Looks, at another Byte | done | it requests the byte before that one | at that Byte |
-- | Looks | done, with fewer bytes than were requested | Truncated | at the Length |
abbrev pub after_byte : Recording → ℕ → ℕ → List ℕ → Outcome
after_byte recording n above [] = look_ended (Looks recording Length) (Err Truncated)
after_byte recording zero above (b ∷ bytes) = after_count recording (above * 256 + b)
after_byte recording (suc n) above (b ∷ bytes) = look_requests (Looks recording (Byte n (above * 256 + b)))

-- what comes of what was requested and read
abbrev pub TakesRead : List ℕ → Follower → Outcome → Type 0
TakesRead bytes (Walks walk) outcome = TakesHeaderPart walk bytes outcome
TakesRead bytes (Looks recording Length) outcome = outcome ≡ after_length recording bytes
TakesRead bytes (Looks recording (Byte n above)) outcome = outcome ≡ after_byte recording n above bytes

-- | any | failed | NotPerformed | where the next look begins |
abbrev pub TakesReport : Report → List ℕ → Follower → Outcome → Type 0
TakesReport Pending bytes follower outcome = outcome ≡ look_requests follower
TakesReport Failed bytes follower outcome = outcome ≡ look_ended follower (Err NotPerformed)
TakesReport Done bytes follower outcome = TakesRead bytes follower outcome

-- what a call does, by how what was requested has ended
abbrev pub FollowsNext : Report → List ℕ → Follower → Follower → Result FollowStep FollowError → Type 0
FollowsNext report bytes old new result = TakesReport report bytes old (record { follower = new; returned = result })

-- a call leaves this follower, and returns this
abbrev pub LeavesLook : Outcome → Follower → Result FollowStep FollowError → Type 0
LeavesLook outcome new result = (new ≡ outcome.follower) × (result ≡ outcome.returned)

-- over every file: a spec that can be divided by, and a place after a header
abbrev pub IsSoundRecording : Recording → Type 0
IsSoundRecording recording = IsSoundSpec recording.spec_ex × IsDataPlace recording.data_start

-- a number of bytes that are above one of four
abbrev pub IsSoundLength : Look → Type 0
IsSoundLength Length = ⊤
IsSoundLength (Byte n above) = (n ≤ 3) × (above < 256 ^ (3 - n))

abbrev pub IsSoundFollower : Follower → Type 0
IsSoundFollower (Walks walk) = IsSoundOption walk.found
IsSoundFollower (Looks recording look) = IsSoundRecording recording × IsSoundLength look

-- how many reads a look still requests, at most
abbrev pub reads_left : Follower → ℕ
reads_left (Walks walk) = parts_left walk.part walk.taken
reads_left (Looks recording Length) = 5
reads_left (Looks recording (Byte n above)) = n + 1
