-- What a call leaves that publishes the accepted samples.
use Rattle.std.specs.Prelude.{◌≡◌, ◌⊎◌, ℕ, ◌+◌, ◌-◌, ◌<◌, ◌≤◌, max, Bool, true, false, List, length, take, drop, Result, OnOk}
use Rattle.std.specs.List.{concat}
use Rattle.std.specs.Io.{StartsWith}
use Rattle.hound_number.specs.{mix}
use Rattle.hound_spec.specs.declared.error.Error.{Error}
use Rattle.hound_spec.specs.declared.spec.WavSpecEx.{WavSpecEx}
use Rattle.hound_spec.specs.{canonical, riff_size}
use Rattle.hound_sample.specs.{containers}
use Rattle.hound_medium.specs.{moment, MediumState, WhereTells, WhereKeeps, Span}
use Rattle.hound_durable.specs.{place_of}
use Rattle.hound_walk.specs.{Readable}
use Rattle.hound_writer.specs.Accepting.{IsPublishing, IsStored, OnPublished, faults_reported, StaysStored}
use Rattle.hound_writer.specs.Writer.{Ghosts, Counts, ChangesSizesOnly, field, WriterState, HasSameSamples, IsWhole, IsBegun, IsPadded, HasHeader, accepted_samples, data_end, data_length, padded_end}

-- The contents are read as exactly these samples, with this spec, from this place on.
pub record ReadsAs (s : WavSpecEx) (start : ℕ) (samples : List (List ℕ)) (contents : List ℕ) : Type 0 where
  pub readable : Readable contents s (length samples) start
  pub containers : containers s.bytes_per_sample (length samples) (drop start contents) ≡ samples

-- What a call that publishes leaves in the medium, by its result. In each case, before the data only the two sizes
-- changed, the bytes in the medium are there if they all were, what is after the accepted data and their pad byte
-- stays, and the data length counts no more than the accepted samples. If all was published both sizes are right, all
-- samples are there and so is the pad byte, the medium was flushed, and whole frames are read back; a file that was
-- begun with its header is then the canonical one.
pub record Publishes {W : Type 0} (state : W → MediumState) (w : WriterState W)
    (answer : Result (Unit {0}) Error) (end : W) : Type 0 where
  pub faults : (state end).faults ≡ faults_reported answer (state w.medium).faults
  pub front : ChangesSizesOnly w.data_start (state w.medium).contents (state end).contents
  pub bytes_written : IsWhole state w → take w.bytes_written (drop w.data_start (state end).contents)
      ≡ take w.bytes_written (drop w.data_start (state w.medium).contents)
  pub rest : drop (padded_end w) (state end).contents ≡ drop (padded_end w) (state w.medium).contents
  pub grows : length (state w.medium).contents ≤ length (state end).contents
  pub reach : length (state end).contents ≤ max (length (state w.medium).contents) (padded_end w)
  pub counts : IsWhole state w → Counts w.spec_ex w.data_start (accepted_samples state w) (state end).contents
  pub begun : IsBegun state w → HasHeader w.spec_ex (state end).contents
  pub flushed : OnPublished answer ((state end).flushed ≡ length (state end).past)
  pub riff_says : OnPublished answer (field 4 (state end).contents ≡ riff_size w.data_start (data_length w))
  pub length_says : OnPublished answer (field (w.data_start - 4) (state end).contents ≡ data_length w)
  pub stored : IsWhole state w → OnPublished answer (take (data_length w) (drop w.data_start (state end).contents)
      ≡ concat (accepted_samples state w))
  pub padded : OnPublished answer (IsPadded w (state end).contents)
  pub read : IsWhole state w →
      OnOk answer (ReadsAs w.spec_ex w.data_start (accepted_samples state w) (state end).contents)
  pub canonical : IsWhole state w → IsBegun state w → OnPublished answer
      (StartsWith (state end).contents (canonical w.spec_ex (accepted_samples state w)))

-- The file of a writer while its sizes are written: except for these all is as at first up to the end of the bytes in
-- the medium, and the data length has the j low bytes of the new one, and the others from the first.
pub record IsHalfPublished {W : Type 0} (w : WriterState W) (first : List ℕ) (j : ℕ) (contents : List ℕ) : Type 0 where
  pub front : ChangesSizesOnly w.data_start first contents
  pub bytes_written : w.data_start + w.bytes_written ≤ length first →
      take w.bytes_written (drop w.data_start contents) ≡ take w.bytes_written (drop w.data_start first)
  pub length_is : field (w.data_start - 4) contents ≡ mix j (field (w.data_start - 4) first) (data_length w)

-- no byte was written before this place
abbrev pub PutsFrom : ℕ → MediumState → MediumState → Type 0
PutsFrom p old new = (i : ℕ) → length old.past ≤ i → i < length new.past → p ≤ place_of new.past i

-- P for the contents after each byte, from the first one on that was written before this place
abbrev pub OncePutBefore : ℕ → (List ℕ → Type 0) → MediumState → MediumState → Type 0
OncePutBefore p P old new =
    (i k : ℕ) → length old.past ≤ i → i < length new.past → place_of new.past i < p → i ≤ k →
    k ≤ length new.past → P (moment new.start new.past k)

-- The last bytes written, from number `split` on, are at most four, and the first of them went to p.
pub record PutsLast (p split : ℕ) (before after : MediumState) : Type 0 where
  pub later : length before.past ≤ split
  pub within : length after.past ≤ split + 4
  pub first : split < length after.past → place_of after.past split ≡ p

-- this state is not between four bytes of the field at p
abbrev pub IsOutside : ℕ → MediumState → MediumState → ℕ → Type 0
IsOutside p old new k =
    (i : ℕ) → length old.past ≤ i → i < length new.past → place_of new.past i ≡ p → i < k →
    i + 4 ≤ k

-- the field at p has the one number or the other in each state that is not between its four bytes
abbrev pub IsOldOrNew : ℕ → ℕ → ℕ → MediumState → MediumState → Type 0
IsOldOrNew p before after old new =
    (k : ℕ) → length old.past ≤ k → k ≤ length new.past → IsOutside p old new k →
    (field p (moment new.start new.past k) ≡ before)
    ⊎ (field p (moment new.start new.past k) ≡ after)

-- The intermediate states of such a call: the accepted samples count, and the data length takes on the bytes of their
-- length one by one, the low one first, after byte `split`, all four if all was published. Once a byte was written
-- before the data all accepted bytes are there, and the pad byte. Of all accepted bytes those that are stored stay
-- stored.
pub record PublishesAtEach {W : Type 0} (state : W → MediumState) (w : WriterState W)
    (answer : Result (Unit {0}) Error) (end : W) : Type 0 where
  pub counts : IsWhole state w → Span (λ _. Counts w.spec_ex w.data_start (accepted_samples state w)) 0 (state w.medium)
      (state end)
  pub split : ℕ
  pub half : Span (IsHalfPublished w (state w.medium).contents) split (state w.medium) (state end)
  pub puts : PutsLast (w.data_start - 4) split (state w.medium) (state end)
  pub whole : OnPublished answer (length (state end).past ≡ split + 4)
  pub old_or_new : IsOldOrNew (w.data_start - 4)
      (field (w.data_start - 4) (state w.medium).contents) (data_length w) (state w.medium)
      (state end)
  pub padded : OncePutBefore w.data_start (IsPadded w) (state w.medium) (state end)
  pub there : IsWhole state w → OncePutBefore w.data_start (λ c. data_end w ≤ length c) (state w.medium) (state end)
  pub all_stored : IsWhole state w → OncePutBefore w.data_start
      (IsStored w.data_start (concat (accepted_samples state w)) 0 (data_length w)) (state w.medium) (state end)
  pub stored : IsWhole state w →
      StaysStored w.data_start (concat (accepted_samples state w)) (state w.medium) (state end)

-- What a call that publishes does, by its result: the writer keeps the same samples. If all was published its medium is
-- at this place.
pub record PublishesTo {W : Type 0} (kind : Ghosts W) (at : ℕ)
    (answer : Result (Unit {0}) Error) (old new : WriterState W) : Type 0 where
  pub answers : IsPublishing answer old
  pub samples : HasSameSamples old new
  pub publishes : WhereTells kind.tells (Publishes kind.state old answer new.medium)
  pub whole : WhereTells kind.tells (IsWhole kind.state old → IsWhole kind.state new)
  pub accepted : WhereTells kind.tells
      (IsWhole kind.state old → accepted_samples kind.state new ≡ accepted_samples kind.state old)
  pub place : WhereTells kind.tells (OnPublished answer ((kind.state new.medium).place ≡ at))
  pub moments : WhereKeeps kind.tells kind.keeps (PublishesAtEach kind.state old answer new.medium)

-- What such a call leaves of the writer, wherever the medium is then.
abbrev pub LeavesWriter : {W : Type 0} → Ghosts W → Result (Unit {0}) Error → WriterState W → WriterState W → Type 0
LeavesWriter kind answer old new = PublishesTo kind (kind.state new.medium).place answer old new

-- where the medium is then: at the end of the accepted data if the writer continues, or else where the data begin
abbrev pub place_after : {W : Type 0} → Bool → WriterState W → ℕ
place_after true w = data_end w
place_after false w = w.data_start

-- What `flush` does, by its result: it publishes, and the writer continues at the end of the data.
abbrev pub Checkpoints : {W : Type 0} → Ghosts W → Result (Unit {0}) Error → WriterState W → WriterState W → Type 0
Checkpoints kind answer old new = PublishesTo kind (data_end new) answer old new

-- What the end of a writer does, by its result: it publishes, and leaves the medium where the data begin.
abbrev pub Finishes : {W : Type 0} → Ghosts W → WriterState W → Result (Unit {0}) Error → W → Type 0
Finishes kind w answer end = PublishesTo kind w.data_start answer w (record w { medium = end })
