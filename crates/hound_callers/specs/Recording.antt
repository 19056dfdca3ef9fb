-- What a recorder asks of its writer, and what it sees; the checkpoints of a session.
use Rattle.std.specs.Prelude.{◌≡◌, ◌⊎◌, ℕ, suc, ◌+◌, ◌-◌, ◌*◌, ◌/◌, ◌%◌, ◌==◌, Bool, true, false, List, [], ◌∷◌, ◌++◌, Option, None, Some, Result, Ok, Err, IsOk, ◌<◌, ◌≤◌, drop, length, take}
use Rattle.std.specs.Borrow.{Bor}
use Rattle.std.specs.List.{All, concat, flat_map}
use Rattle.hound.specs.{Ghosts, Accepts, AreKnown, Asked, Begun, Call, Checkpoints, Error, HasPublished, HasRoom, IsFoundAt, IsWhole, KeptWithin, Known, MediumState, ReadsAs, Rejection, Repair, Repairs, SurvivesLoss, WavSpecEx, WriterState, accepted_samples, containers_in, accepted_by_all, data_start, found_in, frame_length, found_length, greatest_u32, if_marked, is_mended, made, marked, mended, moment, publish, riff_size, seen, start_of, write}
use Rattle.hound.specs.declared.Error.TheVariants.{OutOfMemory, TooLong}

-- a block is written, and if it is to be published a flush follows
abbrev pub block_asks : Result (List (List ℕ)) Rejection → Bool → List Known
block_asks containers false = made (write containers) ∷ []
block_asks containers true = made (write containers) ∷ made publish ∷ []

-- blocks are written in their order, with a flush after every fourth; so many were written before
abbrev pub recorder_asks : {V : Type 0} → (V → Result (List (List ℕ)) Rejection) → ℕ → List V → List Known
recorder_asks containers i [] = []
recorder_asks containers i (block ∷ blocks) =
    block_asks (containers block) (i % 4 == 3) ++ recorder_asks containers (suc i) blocks

-- the containers of a block of samples
abbrev pub containers_by : {V : Type 0} → (V → ℕ → ℕ → Result (List ℕ) Rejection) → WavSpecEx →
    Bor (List V) → Result (List (List ℕ)) Rejection
containers_by container s block = containers_in container s block.now

-- all that a recorder of blocks asks, with the end
abbrev pub all_asked : {V : Type 0} → (V → ℕ → ℕ → Result (List ℕ) Rejection) → WavSpecEx →
    List (Bor (List V)) → List Known
all_asked container s blocks = recorder_asks (containers_by container s) 0 blocks ++ made publish ∷ []

-- the marks of the calls of blocks that were published: a write and a flush of each
abbrev pub published_calls : {V : Type 0} → (V → Result (List (List ℕ)) Rejection) → List V → List (Asked × Bool)
published_calls containers blocks = flat_map (λ block. (write (containers block), true) ∷ (publish, true) ∷ []) blocks

-- The calls of a block at which a recorder stops: a write that accepted nothing, or a write that accepted the block and
-- a flush that didn't publish it.
abbrev pub IsStopped : Result (List (List ℕ)) Rejection → List Known → Type 0
IsStopped containers calls = (calls ≡ marked (write containers) false ∷ [])
    ⊎ (calls ≡ marked (write containers) true ∷ marked publish false ∷ [])

-- the calls with which a recorder stops where these blocks are left: none if there are no blocks, or else those of the
-- next one
abbrev pub StopsPublishing : {V : Type 0} → (V → Result (List (List ℕ)) Rejection) → List V → List Known → Type 0
StopsPublishing containers [] calls = calls ≡ []
StopsPublishing containers (block ∷ blocks) calls = IsStopped (containers block) calls

-- each of these blocks has containers, and these are all of them
abbrev pub HaveContainers : {V : Type 0} → (V → Result (List (List ℕ)) Rejection) → List V → List (List ℕ) → Type 0
HaveContainers containers blocks list =
    All (λ block. IsOk (containers block)) blocks
    × (list ≡ flat_map (λ block. if_marked true (containers block)) blocks)

-- So many of these blocks were published over a durable medium, each by a write and a flush; and then the calls stopped
-- at the next block, if there is one, and ended. A flush has published exactly the samples of these blocks, if there
-- are some; and all is kept that the calls promise, through a loss of power too.
abbrev pub PublishesBlocks : {V W : Type 0} → Ghosts W → (V → Result (List (List ℕ)) Rejection) →
    WavSpecEx → Begun → List V → ℕ → W → MediumState → Type 0
PublishesBlocks kind containers s file blocks n durable medium = (more : List Known)
    × StopsPublishing containers (drop n blocks) more
    × (kept : KeptWithin kind s file
    ((seen (published_calls containers (take n blocks)) ++ more) ++ made publish ∷ []) durable medium)
    × (0 < n → (before after : List Call) × (flush : Call)
    × (kept.left.recorded.calls ≡ before ++ (flush ∷ after)) × HasPublished flush
    × HaveContainers containers (take n blocks) (accepted_by_all before))

-- a writer whose data begin at `start` and have `len` bytes rejects a call: a sample has no container, or the sizes
-- would pass 32 bits
abbrev pub IsRejectedAfter : ℕ → ℕ → Result (List (List ℕ)) Rejection → Type 0
IsRejectedAfter start len (Err rejection) = Unit
IsRejectedAfter start len (Ok list) = greatest_u32 < riff_size start (len + length (concat list))

-- no block is left, or such a writer rejects the next one
abbrev pub TakesNoBlock : {V : Type 0} → (V → Result (List (List ℕ)) Rejection) → ℕ → ℕ → List V → Type 0
TakesNoBlock containers start len [] = Unit
TakesNoBlock containers start len (block ∷ blocks) = IsRejectedAfter start len (containers block)

-- how many bytes of data the containers of blocks are
abbrev pub bytes_of_blocks : {V : Type 0} → (V → Result (List (List ℕ)) Rejection) → List V → ℕ
bytes_of_blocks containers blocks = length (concat (flat_map (λ block. if_marked true (containers block)) blocks))

-- a new file has the first n of these blocks, and takes no more
abbrev pub HasAllThatFit : {V : Type 0} → (V → Result (List (List ℕ)) Rejection) → WavSpecEx → List V → ℕ → Type 0
HasAllThatFit containers s blocks n =
    TakesNoBlock containers (data_start s) (bytes_of_blocks containers (take n blocks)) (drop n blocks)

-- a call for samples that failed, or one that was Ok and a flush with this result
abbrev pub WritesAndFlushes : {M : Type 0} → Ghosts M →
    Result (List (List ℕ)) Rejection → Result (Unit {0}) Error → WriterState M → WriterState M → Type 0
WritesAndFlushes {M} kind asked answer old new =
    ((e : Error) × (answer ≡ Err e) × Accepts kind asked (Err e) old new)
    ⊎ ((mid : WriterState M) × Accepts kind asked (Ok tt) old mid × Checkpoints kind answer mid new)

-- why a batch of so many samples isn't made: it has no room in the file, or needs more memory than the writer has
abbrev pub IsNoBatch : {M : Type 0} → WriterState M → ℕ → Error → Type 0
IsNoBatch w count e = ((e ≡ TooLong) × (HasRoom w (2 * count) → ⊥))
    ⊎ ((e ≡ OutOfMemory) × (length w.batch_memory < 2 * count))

-- the samples of a call follow those that were accepted before, and the file is read as all of these
abbrev pub IsPublished : {M : Type 0} → (M → MediumState) → Result (List (List ℕ)) Rejection →
    WriterState M → WriterState M → Type 0
IsPublished state asked old new = (list : List (List ℕ)) × (asked ≡ Ok list)
    × ReadsAs old.spec_ex old.data_start (accepted_samples state old ++ list)
    (state new.medium).contents
    × IsWhole state new × (accepted_samples state new ≡ accepted_samples state old ++ list)

-- a sample that may be there, as an item
abbrev pub as_item : {A : Type 0} → Option A → Option (Result A Error)
as_item None = None
as_item (Some value) = Some (Ok value)

-- in each state of this medium, once so many bytes were written, the file is read as these samples: its own and those
-- that calls accepted of which these are known
abbrev pub ReadsSince : WavSpecEx → Begun → List Known → List (List ℕ) → ℕ → MediumState → Type 0
ReadsSince s file known samples from medium = (calls : List Call) × AreKnown known calls
    × (samples ≡ found_in file ++ accepted_by_all calls)
    × ((k : ℕ) → from ≤ k → k ≤ length medium.past → ReadsAs s (start_of s file)
    (found_in file ++ accepted_by_all calls) (moment medium.start medium.past k))

-- Of what a repair of these contents has left another one, to its end, finds the same frames, and where it mends the
-- file leaves what the first one would have left; or nothing was written.
abbrev pub IsDoneAgain : List ℕ → List ℕ → (ℕ → Type 0) → Type 0
IsDoneAgain old left premise = (left ≡ old)
    ⊎ ((found : Repair) × (len : ℕ) × (start : ℕ) × IsFoundAt false old found len start
    × (premise start → 1 ≤ frame_length found.spec_ex → (next new : MediumState) (other : Repair)
    → next.contents ≡ left → Repairs false next other new →
    (other.spec_ex ≡ found.spec_ex) × (other.frames ≡ found.frames)
    × (is_mended true other.state ≡ true → new.contents ≡ mended start (found_length found) old)))

-- So it is of what a loss of power leaves of a file that was flushed before, if each size is within one sector.
abbrev pub IsDoneAgainAfterLoss : MediumState → MediumState → Type 0
IsDoneAgainAfterLoss old new = (sector : ℕ) (left : List ℕ) → old.flushed ≡ length old.past → 8 ≤ sector
    → SurvivesLoss sector new.start new.past new.flushed (length new.past) left →
    IsDoneAgain old.contents left (λ start. (start - 4) / sector ≡ (start - 1) / sector)
