-- What a list of calls of a writer promises, whatever failed: counted in each state, published at a flush, canonical at
-- the end.
use Rattle.std.specs.Prelude.{◌≡◌, ℕ, ◌+◌, ◌-◌, ◌/◌, ◌%◌, ◌<◌, ◌≤◌, ◌⊎◌, ⊤, max, Bool, true, Result, Ok, Err, List, [], ◌∷◌, ◌++◌, length, map, take}
use Rattle.std.specs.List.{concat, flat_map, AllByRecursion}
use Rattle.std.specs.Io.{StartsWith}
use Rattle.hound_spec.specs.declared.error.Error.{Error}
use Rattle.hound_spec.specs.declared.error.Error.TheVariants.{UnfinishedSample}
use Rattle.hound_spec.specs.declared.spec.WavSpecEx.{WavSpecEx}
use Rattle.hound_spec.specs.{canonical, data_start}
use Rattle.hound_number.specs.{mix}
use Rattle.hound_medium.specs.{moment, MediumState}
use Rattle.hound_durable.specs.{Ascends, SurvivesLoss, place_of, within}
use Rattle.hound_durable.specs.declared.durable.Durable.{Durable}
use Rattle.hound_walk.specs.{Head, IsSoundSpec}
use Rattle.hound_writer.specs.{Ghosts, if_marked, mark_of, IsStored, Asked, Begun, Call, Known, Left, LeftBy, appended, found_in, handed_in, marked, new_file, publish, write, start_of, ChangesSizesOnly, Counts, field, HasHeader}

-- what a call accepted, by what it asked and its mark
abbrev pub accepted_of : Asked → Bool → List (List ℕ)
accepted_of (write containers) mark = if_marked mark containers
accepted_of publish mark = []

-- what calls accepted, in their order
abbrev pub accepted_by_all : List Call → List (List ℕ)
accepted_by_all calls = flat_map (λ call. accepted_of call.asked (mark_of call.answer)) calls

-- what is known of calls whose marks were seen
abbrev pub seen : List (Asked × Bool) → List Known
seen calls = map (λ (one : Asked × Bool). marked one.0 one.1) calls

-- what calls with these marks accepted, in their order
abbrev pub accepted_as_seen : List (Asked × Bool) → List (List ℕ)
accepted_as_seen calls = flat_map (λ (one : Asked × Bool). accepted_of one.0 one.1) calls

-- where the first of these calls began; without one, the end of this past
abbrev pub begins_at : List Call → List (ℕ × ℕ) → ℕ
begins_at [] past = length past
begins_at (call ∷ calls) past = call.began

-- a call that published all
abbrev pub HasPublished : Call → Type 0
HasPublished call = (call.asked ≡ publish) × (mark_of call.answer ≡ true)

-- No write of the field at p is cut in the state after k bytes: each byte that one of these calls wrote at p before k
-- was followed by three more, within the same call and before k.
abbrev pub IsUncut : ℕ → List Call → List (ℕ × ℕ) → ℕ → Type 0
IsUncut p calls past k = (before after : List Call) (call : Call) (i : ℕ) →
    calls ≡ before ++ (call ∷ after) → call.began ≤ i → i < begins_at after past → i < k →
    place_of past i ≡ p → (i + 4 ≤ begins_at after past) × (i + 4 ≤ k)

-- an Ok says that these samples are whole frames, and an `UnfinishedSample` that they aren't
abbrev pub SaysFrames : WavSpecEx → List (List ℕ) → Result (Unit {0}) Error → Type 0
SaysFrames s list (Ok x) = length list % s.spec.channels ≡ 0
SaysFrames s list (Err UnfinishedSample) = length list % s.spec.channels ≡ 0 → ⊥
SaysFrames s list (Err e) = ⊤

-- Calls with the writer of a file of this spec, whose data begin at `start` and which had these samples; and the medium
-- as it is after them.
module _ (s : WavSpecEx) (start : ℕ) (found : List (List ℕ)) (calls : List Call) (medium : MediumState) where
  -- the samples that the file has once these of the calls have returned
  abbrev pub accepted : List Call → List (List ℕ)
  accepted before = found ++ accepted_by_all before

  -- the contents after so many bytes were written
  abbrev pub contents_at : ℕ → List ℕ
  contents_at k = moment medium.start medium.past k

  -- After each byte written, the length field counts no more than the accepted samples that the medium holds, and
  -- reading then gives exactly the first ones it counts or rejects a length of no whole frames: in each state from
  -- where a call began to where it returned, these are the samples that were accepted before it.
  abbrev pub CountedAtEach : Type 0
  CountedAtEach = (before after : List Call) (call : Call) (k : ℕ) →
      calls ≡ before ++ (call ∷ after) → call.began ≤ k → k ≤ begins_at after medium.past →
      Counts s start (accepted before) (contents_at k)

  -- In each state the file has the head of its spec, with the length that its field says.
  abbrev pub HeadAtEach : Type 0
  HeadAtEach = (k : ℕ) → begins_at calls medium.past ≤ k → k ≤ length medium.past →
      Head (contents_at k) s (field (start - 4) (contents_at k)) start

  -- Before the data only the eight bytes of the two sizes change from any state to a later one.
  abbrev pub FrontAtEach : Type 0
  FrontAtEach = (k m : ℕ) → begins_at calls medium.past ≤ k → k ≤ m → m ≤ length medium.past →
      ChangesSizesOnly start (contents_at k) (contents_at m)

  -- And these change only in a patch: while a call writes samples, all bytes before the data stay.
  abbrev pub FrontInWrites : Type 0
  FrontInWrites = (before after : List Call) (call : Call) (k : ℕ) →
      calls ≡ before ++ (call ∷ after) → (call.asked ≡ publish → ⊥) → call.began ≤ k →
      k ≤ begins_at after medium.past →
      take start (contents_at k) ≡ take start (contents_at call.began)

  -- In a patch the length field has some low bytes of the new length, that of all accepted samples, and the others from
  -- the old one. Their number never falls, from 0 to 4, and is 4 at the return of an Ok or an `UnfinishedSample`.
  -- Before the first of them is written, all accepted bytes are there, and stored.
  abbrev pub MixedInPatches : Type 0
  MixedInPatches = (before after : List Call) (patch : Call) →
      calls ≡ before ++ (patch ∷ after) → patch.asked ≡ publish →
      let new = length (concat (accepted before)) in
      (count : ℕ → ℕ) × (count patch.began ≡ 0)
      × ((k m : ℕ) → k ≤ m → (count k ≤ count m) × (count m ≤ 4))
      × (HasPublished patch → count (begins_at after medium.past) ≡ 4)
      × ((k : ℕ) → patch.began ≤ k → k ≤ begins_at after medium.past → (field (start - 4) (contents_at k)
      ≡ mix (count k) (field (start - 4) (contents_at patch.began)) new)
      × (1 ≤ count k → start + new ≤ length (contents_at k))
      × (1 ≤ count k → IsStored start (concat (accepted before)) 0 new (contents_at k)))

  -- So it is the old length or the new one, in each state of a patch in which no write of it is cut.
  abbrev pub OldOrNewInPatches : Type 0
  OldOrNewInPatches = (before after : List Call) (patch : Call) (k : ℕ) →
      calls ≡ before ++ (patch ∷ after) → patch.asked ≡ publish → patch.began ≤ k →
      k ≤ begins_at after medium.past → IsUncut (start - 4) (patch ∷ after) medium.past k →
      (field (start - 4) (contents_at k) ≡ field (start - 4) (contents_at patch.began))
      ⊎ (field (start - 4) (contents_at k) ≡ length (concat (accepted before)))

  -- An Ok `flush` counts them all: from its return, over further calls that write samples only, to where the next one
  -- begins, the length field is that of all samples accepted before it.
  abbrev pub PublishedByFlushes : Type 0
  PublishedByFlushes = (before later after : List Call) (flush : Call) (k : ℕ) →
      calls ≡ before ++ (flush ∷ (later ++ after)) → HasPublished flush →
      AllByRecursion (λ call. call.asked ≡ publish → ⊥) later →
      begins_at (later ++ after) medium.past ≤ k → k ≤ begins_at after medium.past →
      field (start - 4) (contents_at k) ≡ length (concat (accepted before))

  -- What a flush has published is never undercut: from its return on the length field counts at least the samples
  -- accepted before it, in each state in which no write of it since then is cut.
  abbrev pub NeverLess : Type 0
  NeverLess = (before after : List Call) (flush : Call) (k : ℕ) →
      calls ≡ before ++ (flush ∷ after) → HasPublished flush → begins_at after medium.past ≤ k →
      k ≤ length medium.past → IsUncut (start - 4) after medium.past k →
      length (concat (accepted before)) ≤ field (start - 4) (contents_at k)

  -- What a flush has flushed stays so: the medium was flushed at its return or later.
  abbrev pub FlushedByFlushes : Type 0
  FlushedByFlushes = (before after : List Call) (flush : Call) →
      calls ≡ before ++ (flush ∷ after) → HasPublished flush → begins_at after medium.past ≤ medium.flushed

  -- What is stored of the accepted samples stays stored.
  abbrev pub StoredAtEach : Type 0
  StoredAtEach = (before after : List Call) (a len k m : ℕ) →
      calls ≡ before ++ after → begins_at after medium.past ≤ k → k ≤ m → m ≤ length medium.past →
      a + len ≤ length (concat (accepted before)) →
      IsStored start (concat (accepted before)) a len (contents_at k) →
      IsStored start (concat (accepted before)) a len (contents_at m)

  -- Each call began after those before it, within the past.
  abbrev pub BeginInOrder : Type 0
  BeginInOrder = (before later after : List Call) → calls ≡ before ++ (later ++ after) →
      (begins_at (later ++ after) medium.past ≤ begins_at after medium.past)
      × (begins_at after medium.past ≤ length medium.past)

  -- A loss of power leaves a file that counts. If a medium was flushed when f bytes had been written, the header among
  -- them, and then wrote bytes only at ascending places, a loss after k bytes may leave any mixture of sectors
  -- (`SurvivesLoss`). If the length field is within one sector, it counts no more than the samples accepted by then
  -- that these contents hold, and reading gives exactly the first ones it counts or rejects a length of no whole
  -- frames; and it is the length field of a state from f to k.
  abbrev pub CountedAfterLoss : Type 0
  CountedAfterLoss = (before after : List Call) (call : Call) (f k sector : ℕ) (contents : List ℕ) →
      calls ≡ before ++ (call ∷ after) → begins_at calls medium.past ≤ f → f ≤ k → call.began ≤ k →
      k ≤ begins_at after medium.past → Ascends medium.past f k → 1 ≤ sector →
      (start - 4) / sector ≡ (start - 1) / sector →
      SurvivesLoss sector medium.start medium.past f k contents →
      Counts s start (accepted before) contents
      × ((j : ℕ) × (f ≤ j) × (j ≤ k) × (field (start - 4) contents ≡ field (start - 4) (contents_at j)))
      × Head contents s (field (start - 4) contents) start

  -- The length field is that of a state since the medium was last flushed in which no write of it by these calls is
  -- cut.
  abbrev pub HasWholeLength : List Call → List ℕ → Type 0
  HasWholeLength after contents =
      (k : ℕ) × (medium.flushed ≤ k) × (k ≤ length medium.past)
      × (field (start - 4) contents ≡ field (start - 4) (contents_at k))
      × IsUncut (start - 4) after medium.past k

  -- These contents, which a loss of power left, have lost no published sample: their length field is that of a state
  -- since the medium was last flushed, and it counts at least the samples that were accepted before each flush, unless
  -- a write of it is cut in every such state.
  abbrev pub LosesNothing : List ℕ → Type 0
  LosesNothing contents =
      ((k : ℕ) × (medium.flushed ≤ k) × (k ≤ length medium.past)
      × (field (start - 4) contents ≡ field (start - 4) (contents_at k)))
      × ((before after : List Call) (flush : Call) → calls ≡ before ++ (flush ∷ after) →
      HasPublished flush → HasWholeLength after contents →
      length (concat (accepted before)) ≤ field (start - 4) contents)

  -- What an Ok `flush` has published lasts: after further calls that write samples only, the length field is that of
  -- all samples accepted before it.
  abbrev pub LastsToEnd : Type 0
  LastsToEnd = (before later : List Call) (flush : Call) → calls ≡ before ++ (flush ∷ later) → HasPublished flush →
      AllByRecursion (λ call. call.asked ≡ publish → ⊥) later →
      field (start - 4) medium.contents ≡ length (concat (accepted before))

  -- A call that publishes says by its result whether the samples accepted before it are whole frames.
  abbrev pub SaidByFlushes : Type 0
  SaidByFlushes = (before after : List Call) (flush : Call) → calls ≡ before ++ (flush ∷ after) →
      flush.asked ≡ publish → SaysFrames s (accepted before) flush.answer

  -- An end that published leaves the canonical file of all accepted samples.
  abbrev pub CanonicalAtEnd : Type 0
  CanonicalAtEnd = (before : List Call) (end : Call) → calls ≡ before ++ (end ∷ []) →
      HasPublished end → StartsWith medium.contents (canonical s (accepted before))

-- A loss of power at the end loses nothing of a medium that was flushed up to f, no earlier than by these calls, the
-- header before that, and has written bytes only at ascending places since. Calls that all fail from some point on are
-- those of a machine that lost its power there.
abbrev pub KeptAfterLoss : WavSpecEx → ℕ → List (List ℕ) → List Call → MediumState → Type 0
KeptAfterLoss s start found calls medium =
    (f sector : ℕ) (contents : List ℕ) → begins_at calls medium.past ≤ f → medium.flushed ≤ f →
    f ≤ length medium.past → Ascends medium.past f (length medium.past) → 1 ≤ sector →
    (start - 4) / sector ≡ (start - 1) / sector →
    SurvivesLoss sector medium.start medium.past f (length medium.past) contents →
    LosesNothing s start found calls (record medium { flushed = f }) contents

-- What calls promise of a medium that records every byte written, in each of its states since the first of them; the
-- last state is the medium as it is now.
pub record Promises (s : WavSpecEx) (start : ℕ) (found : List (List ℕ)) (calls : List Call)
    (medium : MediumState) : Type 0 where
  pub counted : CountedAtEach s start found calls medium
  pub head : HeadAtEach s start found calls medium
  pub front : FrontAtEach s start found calls medium
  pub front_in_writes : FrontInWrites s start found calls medium
  pub mixed : MixedInPatches s start found calls medium
  pub old_or_new : OldOrNewInPatches s start found calls medium
  pub published : PublishedByFlushes s start found calls medium
  pub never_less : NeverLess s start found calls medium
  pub flushed : FlushedByFlushes s start found calls medium
  pub stored : StoredAtEach s start found calls medium
  pub now : moment medium.start medium.past (length medium.past) ≡ medium.contents
  pub in_order : BeginInOrder s start found calls medium
  pub after_loss : CountedAfterLoss s start found calls medium
  pub kept_after_loss : KeptAfterLoss s start found calls medium

-- P for a file that was begun with the header of its spec, by this writer or by one before it
abbrev pub IfBegun : WavSpecEx → Begun → Type 0 → Type 0
IfBegun s (new_file old) P = P
IfBegun s (appended old start found) P = start ≡ data_start s → HasHeader s old.contents → P

-- no call of the medium failed between these; past the largest count of faults one more isn't visible
abbrev pub NoFault : MediumState → MediumState → Type 0
NoFault old new = (new.faults ≡ old.faults) × (old.faults < 18446744073709551615)

-- What calls leave in a medium whose bytes are known: it counts what they accepted, each sample as wide as its spec
-- says, and all that the last flush published if no other follows; and a file that was begun with its header is the
-- canonical one at an end that published, and of no more bytes than that or than were handed in if no call of the
-- medium failed.
pub record HoldsAtEnd (s : WavSpecEx) (file : Begun) (calls : List Call) (medium : MediumState) : Type 0 where
  pub sound : IsSoundSpec s
  pub wide : AllByRecursion (λ c. length c ≡ s.bytes_per_sample) (found_in file ++ accepted_by_all calls)
  pub counts : Counts s (start_of s file) (found_in file ++ accepted_by_all calls) medium.contents
  pub lasts : LastsToEnd s (start_of s file) (found_in file) calls medium
  pub says : SaidByFlushes s (start_of s file) (found_in file) calls medium
  pub exact : IfBegun s file (NoFault (handed_in file) medium →
      (before : List Call) (end : Call) → calls ≡ before ++ (end ∷ []) → end.asked ≡ publish →
      let list = canonical s (found_in file ++ accepted_by_all before) in
      StartsWith medium.contents list
      × (length medium.contents ≤ max (length (handed_in file).contents) (length list)))
  pub canonical : IfBegun s file (CanonicalAtEnd s (start_of s file) (found_in file) calls medium)

-- What calls promise of a medium that records every byte written, once they have led to it.
pub record Keeps (s : WavSpecEx) (file : Begun) (calls : List Call) (medium : MediumState) : Type 0 where
  pub at_end : HoldsAtEnd s file calls medium
  pub promises : Promises s (start_of s file) (found_in file) calls medium

-- What a writer has left in a medium whose bytes are known: calls of which these are known, each by its contract, led
-- to this medium; and what they leave there.
pub record Holds {W : Type 0} (kind : Ghosts W) (s : WavSpecEx)
    (file : Begun) (known : List Known) (medium : W) : Type 0 where
  pub left : LeftBy kind s file known medium
  pub at_end : HoldsAtEnd s file left.recorded.calls (kind.state medium)

-- The same over a medium that records every byte written: and all that these calls promise.
pub record Kept {W : Type 0} (kind : Ghosts W) (s : WavSpecEx)
    (file : Begun) (known : List Known) (medium : W) : Type 0 where
  pub left : LeftBy kind s file known medium
  pub promised : Keeps s file left.recorded.calls (kind.state medium)

-- What a loss of power at the end leaves of a medium that wrote bytes at ascending places only since it was flushed,
-- the header before that, as the medium within a `Durable` does: it counts, and has lost no published sample. A flush
-- that published has flushed the header.
pub record SurvivesAtEnd (s : WavSpecEx) (start : ℕ) (found : List (List ℕ)) (calls : List Call)
    (medium : MediumState) : Type 0 where
  pub header : (before after : List Call) (flush : Call) → calls ≡ before ++ (flush ∷ after) →
      HasPublished flush → begins_at calls medium.past ≤ medium.flushed
  pub after_loss : begins_at calls medium.past ≤ medium.flushed → (sector : ℕ) (contents : List ℕ) →
      1 ≤ sector → (start - 4) / sector ≡ (start - 1) / sector →
      SurvivesLoss sector medium.start medium.past medium.flushed (length medium.past) contents →
      Counts s start (found ++ accepted_by_all calls) contents
      × LosesNothing s start found calls medium contents

-- What is left at some point after so many bytes were written: the contents as they are now or in an earlier state, or
-- what a loss of power leaves of a medium that has written bytes at ascending places only since it was flushed, if the
-- length field lies within one sector.
abbrev pub IsLeftAfter : ℕ → ℕ → MediumState → List ℕ → Type 0
IsLeftAfter start from medium contents =
    (contents ≡ medium.contents)
    ⊎ ((k : ℕ) × (from ≤ k) × (k ≤ length medium.past) × (contents ≡ moment medium.start medium.past k))
    ⊎ ((f : ℕ) × (k : ℕ) × (sector : ℕ) × (from ≤ f) × (f ≤ k) × (k ≤ length medium.past)
    × Ascends medium.past f k × (1 ≤ sector) × ((start - 4) / sector ≡ (start - 1) / sector)
    × SurvivesLoss sector medium.start medium.past f k contents)

-- What a writer over a `Durable` has left: calls of which these are known led to it, each by its contract; all that
-- they promise; and what a loss of power leaves within it, after each flush.
pub record KeptWithin {W : Type 0} (kind : Ghosts W) (s : WavSpecEx)
    (file : Begun) (known : List Known) (durable : W) (medium : MediumState) : Type 0 where
  pub left : LeftBy kind s file known durable
  pub promised : Keeps s file left.recorded.calls (kind.state durable)
  pub survives : SurvivesAtEnd s (start_of s file) (found_in file) left.recorded.calls medium
  pub left_after : (before after : List Call) (flush : Call) →
      left.recorded.calls ≡ before ++ (flush ∷ after) → HasPublished flush →
      (sector : ℕ) (contents : List ℕ) → 1 ≤ sector →
      (start_of s file - 4) / sector ≡ (start_of s file - 1) / sector →
      SurvivesLoss sector medium.start medium.past medium.flushed (length medium.past) contents →
      IsLeftAfter (start_of s file) (begins_at after (kind.state durable).past) (kind.state durable) contents

-- what calls have left in a `Durable` is kept through a loss of power too
abbrev pub LeftWithin : {M : Type 0} {g : Ghosts M} → Ghosts (Durable M g) → Type 0
LeftWithin {M} {g} kind = (s : WavSpecEx) (file : Begun) (known : List Known) (durable : Durable M g)
    → Left kind s file known durable → KeptWithin kind s file known durable (within durable)
