-- A call that publishes: the buffered samples are written before, and the pad byte, and if that fails nothing is
-- patched.
use Rattle.std.proofs.lemmas.Grind.{common_steps}
use Rattle.std.proofs.Common.{◌≡◌, ℕ, ◌+◌, ◌-◌, ◌≤◌, inl, inr, true, false, IsTrue, ◌%◌, Result, Err, List, length, take, drop, refl, rules, sym, ◌∙◌, ap, arith}
use Rattle.std.proofs.lemmas.Bool.{cases_lt}
use Rattle.std.specs.List.{concat}
use Rattle.std.specs.declared.io.Error.{Error as IoFault}
use Rattle.hound_number.specs.{AreBytes, mix, number}
use Rattle.hound_number.proofs.Mixing.{mix_none}
use Rattle.hound_medium.specs.{moment, MediumState, WhereTells, Span}
use Rattle.hound_medium.proofs.Overlays.{front_part}
use Rattle.hound_medium.proofs.Spans.{join, moment_before, span_weaker}
use Rattle.hound_medium.proofs.Torn.{number_at_small}
use Rattle.hound_spec.specs.declared.error.Error.{Error}
use Rattle.hound_spec.specs.declared.error.Error.TheVariants.{IoError}
use Rattle.hound_writer.specs.Accepting.{IsStored, faults_reported}
use Rattle.hound_writer.specs.Parts.{GoesAtEach, GoesOut, StaysAround, after_out}
use Rattle.hound_writer.specs.Writer.{Ghosts, Counts, ChangesSizesOnly, field, WriterState, IsBegun, IsPadded, IsSound, HasHeader, accepted_samples, data_end, data_length, padded_end}
use Rattle.hound_durable.specs.{place_of}
use Rattle.hound_durable.proofs.Ascending.{place_before}
use Rattle.hound_writer.specs.Publishing.{PublishesTo, Finishes, IsHalfPublished, IsOldOrNew, OncePutBefore, Publishes, PublishesAtEach}
use Rattle.hound_writer.proofs.Answers.{publishing_as}
use Rattle.hound_writer.proofs.Later.{goes_further, length_same}
use Rattle.hound_writer.proofs.Publishing.{in_medium}
use Rattle.hound_writer.proofs.Sizes.{header_front, sizes_front, sizes_then, take_front}
use Rattle.hound_writer.proofs.Storing.{stored_join}

-- bytes before the data that stay
module _ {W : Type 0} (state : W → MediumState) (a : WriterState W) (sound : IsSound a) where
  abbrev start : ℕ
  start = a.data_start

  abbrev p : ℕ
  p = start - 4

  abbrev first : List ℕ
  first = (state a.medium).contents

  field_of : (c : List ℕ) → take start c ≡ take start first → field p c ≡ field p first
  field_of c same = ap number (front_part start p 4 c first (omega (arith, sound.after_head)) same)

  sizes_of : (c : List ℕ) → take start c ≡ take start first → ChangesSizesOnly start first c
  sizes_of c same = sizes_front start first c (omega (arith, sound.after_head)) same

  header_of : (c : List ℕ) → take start c ≡ take start first → IsBegun state a → HasHeader a.spec_ex c
  header_of c same (has, at) = header_front a.spec_ex start first c at same has

  data_of : (c : List ℕ) → take (start + a.bytes_written) c ≡ take (start + a.bytes_written) first
      → take a.bytes_written (drop start c) ≡ take a.bytes_written (drop start first)
  data_of c same = front_part (start + a.bytes_written) start a.bytes_written c first (omega arith) same

  -- while the buffered samples are written the data length is the old one
  module _ {far : ℕ} (small : AreBytes (state a.medium).contents) (m : MediumState)
      (around : StaysAround state far a m) (goes : GoesAtEach state a m) where
    there : start ≤ length first
    there = grind (arith, common_steps)

    none_yet : mix 0 (field p first) (data_length a) ≡ field p first
    none_yet = grind (arith, common_steps, mix_none, number_at_small, there)

    longer : length (state a.medium).past ≤ length m.past
    longer = grind (arith, common_steps)

    half_out : (split : ℕ) → length m.past ≤ split → Span (IsHalfPublished a first) split (state a.medium) m
    half_out split later = record {
      start = goes.front.start;
      added = goes.front.added;
      past = goes.front.past;
      flushed = goes.front.flushed;
      each = λ k from to. let c = moment m.start m.past k in
          let same = goes.front.each k from to in
          let none : k - split ≡ 0 = omega (arith, to, later) in
          let front = sizes_of c same in
          let bytes = data_of c in
          let length_is = field_of c same ∙ sym none_yet in
          rw none (search rules);
    }

-- nothing is published if they aren't written
module _ {W : Type 0} (kind : Ghosts W) (a : WriterState W) (m : W)
    (out : GoesOut kind (padded_end a) false a (after_out false m a))
    (e : IoFault) where
  publishes_cut : IsTrue kind.tells → Publishes kind.state a (Err (IoError e)) m
  publishes_cut modelled =
      let f = out.file modelled in
      let front = sizes_of kind.state a out.sound (kind.state m).contents f.around.front in
      let bytes = data_of kind.state a out.sound (kind.state m).contents in
      let begun = header_of kind.state a out.sound (kind.state m).contents f.around.front in
      search rules

  publishes_at_each_cut : IsTrue kind.tells → IsTrue kind.keeps → AreBytes (kind.state a.medium).contents
      → PublishesAtEach kind.state a (Err (IoError e)) m
  publishes_at_each_cut modelled kept small =
      let goes = out.moments modelled kept in
      let around = (out.file modelled).around in
      let split = length (kind.state m).past in
      record {
        counts = goes.adds.counts;
        split = split;
        half = half_out kind.state a out.sound small (kind.state m) around goes split (omega arith);
        puts = let later = longer kind.state a out.sound small (kind.state m) around goes in search rules;
        whole = tt;
        old_or_new = grind (arith, common_steps, field_of);
        padded =
            λ i k from to before later last. absurd (omega (arith, before, goes.beyond i from to));
        there =
            λ whole i k from to before later last.
            absurd (omega (arith, before, goes.beyond i from to));
        all_stored =
            λ whole i k from to before later last.
            absurd (omega (arith, before, goes.beyond i from to));
        stored = goes.adds.stored;
      }

  published_of : (at : ℕ) → WhereTells kind.tells (AreBytes (kind.state a.medium).contents)
      → PublishesTo kind at (Err (IoError e)) a (after_out false m a)
  published_of at small =
      in_medium kind at (Err (IoError e)) a m tt publishes_cut (λ _. tt)
      (λ modelled kept. publishes_at_each_cut modelled kept (small modelled))

-- the same for a writer as contracts see it
pub published_cut : {W : Type 0} (kind : Ghosts W) (far at : ℕ) (a b : WriterState W) (e : IoFault) → far ≤ padded_end a
    → GoesOut kind far false a b
    → WhereTells kind.tells (AreBytes (kind.state a.medium).contents)
    → PublishesTo kind at (Err (IoError e)) a b
published_cut kind far at a b e within out small =
    let further = goes_further kind far (padded_end a) false a b within out in
    rw out.value (published_of kind a b.medium (rw out.value at further) e at small)

-- what is published once all is written
module _ {W : Type 0} (kind : Ghosts W) (a : WriterState W) (m : W)
    (out : GoesOut kind (padded_end a) true a (after_out true m a)) where
  abbrev b : WriterState W
  b = after_out true m a

  abbrev sound : IsSound a
  sound = out.sound

  abbrev old : List ℕ
  old = (kind.state a.medium).contents

  abbrev mid : List ℕ
  mid = (kind.state m).contents

  same_length : data_length b ≡ data_length a
  same_length = length_same kind (padded_end a) a m out

  module _ (answer : Result (Unit {0}) Error) (end : W) where
    abbrev new : List ℕ
    new = (kind.state end).contents

    publishes_later : IsTrue kind.tells → Publishes kind.state b answer end → Publishes kind.state a answer end
    publishes_later modelled g =
        let f = out.file modelled in
        let around = f.around in
        let begun : IsBegun kind.state a → IsBegun kind.state b =
        λ is. (header_of kind.state a sound mid around.front is, is.1) in
        record {
          faults = g.faults ∙ ap (faults_reported answer) f.faults;
          front = sizes_then a.data_start old mid new (sizes_of kind.state a sound mid around.front) g.front;
          bytes_written = λ whole. take_front a.bytes_written (data_length a) (drop a.data_start mid)
              (drop a.data_start new) (omega arith) (g.bytes_written (f.whole whole))
              ∙ data_of kind.state a sound mid (around.bytes_written whole);
          rest = (rw same_length at g.rest) ∙ around.rest;
          grows = omega (arith, around.grows, g.grows);
          reach = omega (arith, around.reach, g.reach, ap (λ n. n % 2) same_length);
          counts = λ whole. rw (f.accepted whole) at (g.counts (f.whole whole));
          begun = λ is. g.begun (begun is);
          flushed = g.flushed;
          riff_says = rw same_length at g.riff_says;
          length_says = rw same_length at g.length_says;
          stored = λ whole. rw (f.accepted whole, same_length) at (g.stored (f.whole whole));
          padded = rw same_length at g.padded;
          read = λ whole. rw (f.accepted whole) at (g.read (f.whole whole));
          canonical = λ whole is. rw (f.accepted whole) at (g.canonical (f.whole whole) (begun is));
        }

    module _ (modelled : IsTrue kind.tells) (kept : IsTrue kind.keeps)
        (small : AreBytes (kind.state a.medium).contents) (g : PublishesAtEach kind.state b answer end) where
      goes : GoesAtEach kind.state a (kind.state m)
      goes = out.moments modelled kept

      field_same : field (a.data_start - 4) mid ≡ field (a.data_start - 4) old
      field_same = field_of kind.state a sound mid (out.file modelled).around.front

      half_later : (j : ℕ) (c : List ℕ) → IsHalfPublished b mid j c → IsHalfPublished a old j c
      half_later j c half = record {
        front = sizes_then a.data_start old mid c
            (sizes_of kind.state a sound mid (out.file modelled).around.front) half.front;
        bytes_written = λ whole. take_front a.bytes_written (data_length a) (drop a.data_start mid)
            (drop a.data_start c) (omega arith) (half.bytes_written ((out.file modelled).whole whole))
            ∙ data_of kind.state a sound mid ((out.file modelled).around.bytes_written whole);
        length_is = half.length_is ∙ (λ i. mix j (field_same i) (same_length i));
      }

      -- while it is written the field is the old one
      at_first : (k : ℕ) → length (kind.state a.medium).past ≤ k → k ≤ length (kind.state m).past
          → field (a.data_start - 4) (moment (kind.state end).start (kind.state end).past k) ≡ field
          (a.data_start - 4) old
      at_first k from to = grind (arith, common_steps, moment_before, field_of, goes)

      old_or_new_later : IsOldOrNew (a.data_start - 4) (field (a.data_start - 4) old)
          (data_length a) (kind.state a.medium) (kind.state end)
      old_or_new_later k from to outside =
          let sooner = longer kind.state a sound small (kind.state m) (out.file modelled).around goes in
          elim (cases_lt (length (kind.state m).past) k) [
            | inl later ↦ (rw (field_same, same_length) at g.old_or_new) k (omega (arith, later)) to
                (λ i low high. outside i (omega (arith, low, sooner)) high)
            | inr before ↦ inl (at_first k from before)
          ]

      -- no byte is written before the data meanwhile
      once_later : (P : List ℕ → Type 0) → OncePutBefore a.data_start P (kind.state m) (kind.state end)
          → OncePutBefore a.data_start P (kind.state a.medium) (kind.state end)
      once_later P once i k from to before later last =
          elim (cases_lt i (length (kind.state m).past)) [
            | inl sooner ↦ let same : place_of (kind.state end).past i ≡ place_of (kind.state m).past i =
                ap (λ l. place_of l i) g.half.past
                ∙ place_before (kind.state m).past g.half.added i sooner in
                absurd (omega (arith, before, same, goes.beyond i from sooner))
            | inr then ↦ once i k then to before later last
          ]

      publishes_at_each_later : PublishesAtEach kind.state a answer end
      publishes_at_each_later =
          let f = out.file modelled in
          record {
            counts =
                λ whole. join (λ _. Counts a.spec_ex a.data_start (accepted_samples kind.state a)) 0
                (kind.state a.medium) (kind.state m) (kind.state end) (goes.adds.counts whole)
                (rw (f.accepted whole) at (g.counts (f.whole whole)));
            split = g.split;
            half = join (IsHalfPublished a old) g.split (kind.state a.medium) (kind.state m) (kind.state end)
                (half_out kind.state a sound small (kind.state m) (out.file modelled).around goes g.split g.puts.later)
                (span_weaker (IsHalfPublished b mid) (IsHalfPublished a old) g.split (kind.state m)
                (kind.state end) half_later g.half);
            puts =
                let sooner = longer kind.state a sound small (kind.state m) (out.file modelled).around goes in
                search rules;
            whole = g.whole;
            old_or_new = old_or_new_later;
            padded = once_later (IsPadded a) (rw same_length at g.padded);
            there = λ whole. once_later (λ c. data_end a ≤ length c) (rw same_length at (g.there (f.whole whole)));
            all_stored = λ whole. once_later
                (IsStored a.data_start (concat (accepted_samples kind.state a)) 0 (data_length a))
                (rw (f.accepted whole, same_length) at (g.all_stored (f.whole whole)));
            stored =
                λ whole. stored_join a.data_start (concat (accepted_samples kind.state a))
                (kind.state a.medium) (kind.state m) (kind.state end) goes.front.added g.half.added goes.front.past
                g.half.start g.half.past (goes.adds.stored whole)
                (rw (f.accepted whole) at (g.stored (f.whole whole)));
          }

  published_after : (at : ℕ) (answer : Result (Unit {0}) Error) (c : WriterState W)
      → WhereTells kind.tells (AreBytes (kind.state a.medium).contents)
      → PublishesTo kind at answer b c → PublishesTo kind at answer a c
  published_after at answer c small g = record {
    answers = publishing_as answer b a refl same_length g.answers;
    samples = let same = same_length in search rules;
    publishes = λ modelled. publishes_later answer c.medium modelled (g.publishes modelled);
    whole = λ modelled whole. g.whole modelled ((out.file modelled).whole whole);
    accepted =
        λ modelled whole. g.accepted modelled ((out.file modelled).whole whole)
        ∙ (out.file modelled).accepted whole;
    place = g.place;
    moments =
        λ modelled kept. publishes_at_each_later answer c.medium modelled kept (small modelled)
        (g.moments modelled kept);
  }

-- the same for a writer as contracts see it
pub published_later : {W : Type 0} (kind : Ghosts W) (far at : ℕ)
    (a b c : WriterState W) (answer : Result (Unit {0}) Error) → far ≤ padded_end a
    → GoesOut kind far true a b → WhereTells kind.tells (AreBytes (kind.state a.medium).contents)
    → PublishesTo kind at answer b c → PublishesTo kind at answer a c
published_later kind far at a b c answer within out small g =
    let further = goes_further kind far (padded_end a) true a b within out in
    published_after kind a b.medium (rw out.value at further) at answer c small
    (rw out.value at g)

-- the same as the end of a writer
pub finishes_of : {W : Type 0} (kind : Ghosts W) (answer : Result (Unit {0}) Error) (w new : WriterState W)
    → PublishesTo kind new.data_start answer w new
    → Finishes kind w answer new.medium
finishes_of kind answer w new p = grind (arith, common_steps)
