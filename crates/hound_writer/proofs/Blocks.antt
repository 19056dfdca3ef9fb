-- What the block of accepted samples changes: samples that join it, and its samples when it is written.
use Rattle.std.proofs.lemmas.Grind.{common_steps}
use Rattle.std.proofs.Common.{◌≡◌, ℕ, ◌+◌, ◌/◌, ◌%◌, ◌≤◌, Bool, true, false, IsTrue, List, [], ◌++◌, length, take, drop, Ok, refl, rules, sym, ◌∙◌, ap, arith, append_assoc, length-append, length-drop}
use Rattle.std.proofs.lemmas.List.{append-nil, length-take-le, nil_from_length}
use Rattle.std.specs.List.{concat}
use Rattle.hound_medium.specs.{overlay, MediumState, WhereTells, WhereKeeps}
use Rattle.hound_medium.proofs.Spans.{span_still, span_weaker}
use Rattle.hound_sample.specs.{containers}
use Rattle.hound_writer.specs.Accepting.{AcceptsBytes, AddsAtEach, StaysStored}
use Rattle.hound_writer.specs.Parts.{GoesAtEach, GoesOut, IsLimit, StaysAround, after_out, all_out, IsConsistent, CountsAtMost, PutsAt}
use Rattle.hound_writer.specs.Writer.{Ghosts, Counts, WriterState, block_length, HasRoom, IsSound, IsWhole, accepted_samples, data_length, data_end}
use Rattle.hound_writer.proofs.Accepting.{accepts_all, adds_nothing, around, at_each, goes_at_each, goes_beside, room_fits, sound_more, still}
use Rattle.hound_writer.proofs.Containers.{joined_bytes, none_whole, whole_more}
use Rattle.hound_writer.proofs.Counted.{counts_more}
use Rattle.hound_writer.proofs.Keeping.{consistent_moved, sound_with}
use Rattle.hound_writer.proofs.Samples.{counts_at, samples_append, valid_of}
use Rattle.hound_writer.proofs.AtMost.{at_most_more}
use Rattle.hound_writer.proofs.Storing.{joined_samples, puts_stored}

-- a writer over a medium that stays
module _ {W : Type 0} (kind : Ghosts W) (w : WriterState W)
    (moved : Bool) (limit : ℕ) (known : IsConsistent kind w moved limit)
    (bytes : List ℕ) (room : HasRoom w (length bytes))
    (whole_bytes : length bytes % w.spec_ex.bytes_per_sample ≡ 0) where
  abbrev sound : IsSound w
  sound = known.sound

  abbrev width : ℕ
  width = w.spec_ex.bytes_per_sample

  abbrev longer : WriterState W
  longer = record w { buffered = w.buffered ++ bytes }

  more : w.bytes_written + length (w.buffered ++ bytes) ≡ data_length w + length bytes
  more = omega (arith, length-append w.buffered bytes)

  sound_longer : IsSound (record w { buffered = w.buffered ++ bytes })
  sound_longer = grind (arith, common_steps, sound_with, more, whole_more)

  pub consistent_longer : length w.buffered + length bytes ≤ block_length
      → IsConsistent kind (record w { buffered = w.buffered ++ bytes }) moved limit
  consistent_longer few =
      let sound = sound_longer in
      let size = length-append w.buffered bytes in
      let whole = ap (λ n. n % width) size
      ∙ whole_more (length w.buffered) (length bytes) width known.whole_buffered whole_bytes in
      search rules

  -- samples join the buffered ones
  pub accepts_buffered : WhereKeeps kind.tells kind.keeps
      ((kind.state w.medium).contents ≡ overlay (kind.state w.medium).start (kind.state w.medium).past)
      → AcceptsBytes kind bytes (Ok tt) w (record w { buffered = w.buffered ++ bytes })
  accepts_buffered replays =
      let old = kind.state w.medium in
      record {
        adds = grind (arith, common_steps, room_fits, joined_bytes, more);
        file = λ modelled. let more = λ (whole : IsWhole kind.state w).
            samples_append kind.state w w.medium w.bytes_written (w.buffered ++ bytes) bytes sound whole more
            (sym (append_assoc (take w.bytes_written (drop w.data_start old.contents)) w.buffered bytes)) in
            let counts = counts_at kind.state longer sound_longer known.whole_written old.contents in
            search rules;
        moments = λ modelled kept. adds_nothing kind.state w
            ((valid_of kind moved limit w known).counts modelled) (replays modelled kept);
      }

-- the buffered samples are written after the bytes in the medium
module _ {W : Type 0} (kind : Ghosts W) (w : WriterState W)
    (moved : Bool) (limit : ℕ) (known : IsConsistent kind w moved limit)
    (replays : WhereKeeps kind.tells kind.keeps
    ((kind.state w.medium).contents ≡ overlay (kind.state w.medium).start (kind.state w.medium).past))
    (m : W) where
  abbrev at_most : WhereTells kind.tells
      (CountsAtMost w.spec_ex w.data_start w.bytes_written (kind.state w.medium).contents)
  at_most = known.at_most

  -- the writer without the buffered samples
  abbrev shorter : WriterState W
  shorter = record w { buffered = [] }

  abbrev old : MediumState
  old = kind.state w.medium

  abbrev wide : ℕ
  wide = w.spec_ex.bytes_per_sample

  abbrev end : ℕ
  end = w.data_start + w.bytes_written

  sound_shorter : IsSound (record w { buffered = [] })
  sound_shorter = grind (arith, common_steps)

  -- its samples are the first ones of the writer's
  samples_first : IsWhole kind.state w
      → accepted_samples kind.state w ≡ accepted_samples kind.state shorter ++ containers wide
      (length w.buffered / wide) w.buffered
  samples_first whole =
      samples_append kind.state shorter w.medium w.bytes_written w.buffered w.buffered sound_shorter whole
      (omega arith)
      (ap (λ l. l ++ w.buffered) (sym (append-nil (take w.bytes_written (drop w.data_start old.contents)))))

  moments : (IsWhole kind.state w
      → StaysStored w.data_start (concat (accepted_samples kind.state w)) (kind.state w.medium) (kind.state m))
      → AddsAtEach kind.state shorter (kind.state m) → AddsAtEach kind.state w (kind.state m)
  moments stored at_each = record {
    counts =
        λ whole. span_weaker (λ _. Counts w.spec_ex w.data_start (accepted_samples kind.state shorter))
        (λ _. Counts w.spec_ex w.data_start (accepted_samples kind.state w)) 0 old (kind.state m)
        (λ j c counts. rw (samples_first whole)
        (counts_more w.spec_ex w.data_start (accepted_samples kind.state shorter)
        (containers wide (length w.buffered / wide) w.buffered) c known.sound.width counts))
        (at_each.counts whole);
    front = at_each.front;
    stored = stored;
  }

  -- all of it, or a beginning
  module _ (all : Bool) (puts : WhereTells kind.tells
      (PutsAt kind.keeps (w.data_start + w.bytes_written) w.buffered (all_out all) (kind.state w.medium)
      (kind.state m)))
    where
      stored_out : IsTrue kind.tells → IsTrue kind.keeps → IsWhole kind.state w
          → StaysStored w.data_start (concat (accepted_samples kind.state w)) (kind.state w.medium) (kind.state m)
      stored_out modelled kept whole =
          let held = drop w.data_start old.contents in
          let size : w.data_start + length (take w.bytes_written held) ≡ end = ap (λ n. w.data_start + n)
          (length-take-le w.bytes_written held (omega (arith, whole, length-drop w.data_start old.contents))) in
          rw (joined_samples kind.state w known.sound whole)
          (puts_stored w.data_start end (take w.bytes_written held) w.buffered (puts modelled).count old (kind.state m)
          size ((puts modelled).past kept))

      moments_out : WhereKeeps kind.tells kind.keeps (GoesAtEach kind.state w (kind.state m))
      moments_out modelled kept =
          goes_at_each kind w at_most m w.buffered (all_out all) modelled (puts modelled) kept
          (replays modelled kept)
          (moments (stored_out modelled kept) (at_each kind shorter refl sound_shorter at_most m w.buffered
          (all_out all) modelled (puts modelled) kept (replays modelled kept)))

      stays_around : IsTrue kind.tells → StaysAround kind.state (data_end w) w (kind.state m)
      stays_around modelled =
          around kind w at_most m w.buffered (all_out all) modelled (puts modelled) (data_end w)
          (omega arith)

  pub goes_out : (all : Bool) → WhereTells kind.tells
      (PutsAt kind.keeps (w.data_start + w.bytes_written) w.buffered (all_out all) (kind.state w.medium) (kind.state m))
      → GoesOut kind (data_end w) all w (after_out all m w)
  goes_out true puts = record {
    value = refl;
    sound = known.sound;
    file = λ modelled. let f = (accepts_all kind shorter refl sound_shorter at_most m w.buffered
        (omega (arith, known.sound.fits)) known.whole_buffered puts replays).file modelled in
        let around = stays_around true puts modelled in
        let first = samples_first in
        search rules;
    moments = moments_out true puts;
  }
  goes_out false puts = record {
    value = refl;
    sound = known.sound;
    file = λ modelled.
        goes_beside kind.state (data_end w) false w m known.sound known.whole_written (puts modelled).faults
        (stays_around false puts modelled);
    moments = moments_out false puts;
  }

  -- what the writer has then
  sound_out : IsSound (after_out true m w)
  sound_out = grind (arith, common_steps)

  pub consistent_out : (next : ℕ) → IsLimit w.data_start (data_length w) next → WhereTells kind.tells
      (PutsAt kind.keeps (w.data_start + w.bytes_written) w.buffered (all_out true) (kind.state w.medium)
      (kind.state m))
      → IsConsistent kind (after_out true m w) false next
  consistent_out next room puts =
      let sound = sound_out in
      let none = none_whole wide in
      let at_most = λ (modelled : IsTrue kind.tells).
      at_most_more w.spec_ex w.data_start w.bytes_written (data_length w) (kind.state m).contents (omega arith)
      (stays_around true puts modelled).at_most in
      search rules

  pub consistent_cut : WhereTells kind.tells
      (PutsAt kind.keeps (w.data_start + w.bytes_written) w.buffered (all_out false) (kind.state w.medium)
      (kind.state m))
      → IsConsistent kind (record w { medium = m }) true limit
  consistent_cut puts =
      consistent_moved kind w m moved limit known (λ modelled. (stays_around false puts modelled).at_most)

-- if nothing is buffered nothing is written
pub goes_out_nothing : {W : Type 0} (kind : Ghosts W) (far : ℕ)
    (w : WriterState W) (moved : Bool) (limit : ℕ) → IsConsistent kind w moved limit
    → WhereKeeps kind.tells kind.keeps
    ((kind.state w.medium).contents ≡ overlay (kind.state w.medium).start (kind.state w.medium).past)
    → length w.buffered ≡ 0 → GoesOut kind far true w w
goes_out_nothing kind far w moved limit known replays none =
    let old = kind.state w.medium in
    let counts = (valid_of kind moved limit w known).counts in
    record {
      value = grind (arith, common_steps, nil_from_length);
      sound = known.sound;
      file = search rules;
      moments = grind (arith, common_steps, span_still, adds_nothing);
    }

-- containers are written at once, if nothing is buffered
module _ {W : Type 0} (kind : Ghosts W) (w : WriterState W)
    (moved : Bool) (limit : ℕ) (known : IsConsistent kind w moved limit)
    (none : w.buffered ≡ [])
    (m : W) (bytes : List ℕ) where
  pub cut_at_once : (all : Bool) → WhereTells kind.tells
      (PutsAt kind.keeps (w.data_start + w.bytes_written) bytes (all_out all) (kind.state w.medium) (kind.state m))
      → IsConsistent kind (record w { medium = m }) true limit
  cut_at_once all puts = grind (arith, common_steps, consistent_moved, still)

  pub kept_at_once : (next : ℕ) → IsLimit w.data_start (w.bytes_written + length bytes) next
      → HasRoom w (length bytes) → length bytes % w.spec_ex.bytes_per_sample ≡ 0
      → WhereTells kind.tells
      (PutsAt kind.keeps (w.data_start + w.bytes_written) bytes (all_out true) (kind.state w.medium) (kind.state m))
      → IsConsistent kind
      (record w { medium = m; bytes_written = w.bytes_written + length bytes }) false next
  kept_at_once next limit_next room whole puts =
      let sound = sound_more kind w none known.sound known.at_most m bytes room whole in
      let both = whole_more w.bytes_written (length bytes) w.spec_ex.bytes_per_sample known.whole_written whole in
      let at_most = λ (modelled : IsTrue kind.tells).
      at_most_more w.spec_ex w.data_start w.bytes_written (w.bytes_written + length bytes) (kind.state m).contents
      (omega arith) (still kind w known.at_most m bytes (all_out true) modelled (puts modelled)) in
      search rules
