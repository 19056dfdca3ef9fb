-- The intermediate states of a patch, part after part, and of a call that publishes.
use Rattle.std.proofs.lemmas.Grind.{common_steps}
use Rattle.std.proofs.Common.{◌≡◌, ℕ, ◌+◌, ◌-◌, ◌<◌, ◌^◌, inl, Bool, IsTrue, Result, OnOk, IsOk, List, [], ◌++◌, length, take, drop, rules, sym, ◌∙◌, ap, arith, length-append, length-take}
use Rattle.std.proofs.lemmas.Bool.{cases_lt}
use Rattle.std.proofs.lemmas.List.{take-take, length-take-le}
use Rattle.std.proofs.lemmas.Result.{on_ok_weaker}
use Rattle.std.specs.List.{concat}
use Rattle.std.specs.declared.io.Error.{Error as IoFault}
use Rattle.hound_number.specs.{bytes_of, mix, AreBytes}
use Rattle.hound_number.proofs.Mixing.{mix_none, mix_all}
use Rattle.hound_medium.specs.{placed, overlay, moment, MediumState, Stays, WhereTells, WhereKeeps, Span, FlushedSince}
use Rattle.hound_spec.specs.{riff_size}
use Rattle.hound_medium.proofs.Outcomes.{from_ok}
use Rattle.hound_medium.proofs.Spans.{span_puts, span_end_zero, span_weaker, join}
use Rattle.hound_medium.proofs.Torn.{number_at_small}
use Rattle.hound_spec.specs.declared.error.Error.{Error}
use Rattle.hound_writer.specs.Writer.{Ghosts, Counts, field, WriterState, AreFrames, IsPadded, IsSound, IsWhole, accepted_samples, data_length, data_end}
use Rattle.hound_writer.specs.Parts.{HasSize, IsPatched, Patches, PatchesAtEach, PutsAt, CountsAtMost, IsPublishResult}
use Rattle.hound_writer.specs.Accepting.{IsPublishing}
use Rattle.hound_durable.specs.{place_of}
use Rattle.hound_durable.proofs.Ascending.{length_put, place_after}
use Rattle.hound_writer.specs.Publishing.{PublishesTo, Publishes, IsHalfPublished, IsOldOrNew, PublishesAtEach, PutsLast}
use Rattle.hound_writer.proofs.Answers.{published}
use Rattle.hound_writer.proofs.Later.{drop_later}
use Rattle.hound_writer.proofs.Patching.{has_size, patched_field, patched_riff, riff_put}
use Rattle.hound_writer.proofs.Publishing.{in_medium, publishes}
use Rattle.hound_writer.proofs.Storing.{stored_same}
use Rattle.hound_writer.proofs.Samples.{concat-samples, counts_at, length_written, whole_written}
use Rattle.hound_writer.proofs.AtMost.{inside, at_most_patched}

-- the parts of a patch, all of their bytes or a beginning
module _ {T E : Type 0} (keeps : Bool) (p size new : ℕ) (result : Result T E)
    (a b : MediumState) (kept : IsTrue keeps) (replays : a.contents ≡ overlay a.start a.past) where
  -- the RIFF size is written, which comes before the field
  pub riff_span : HasSize p a.contents → PutsAt keeps 4 (bytes_of 4 size) result a b
      → Span (IsPatched p size a.contents new) (length b.past) a b
  riff_span has puts =
      let bytes = take puts.count (bytes_of 4 size) in
      let size_of : length bytes ≡ puts.count = length-take-le puts.count (bytes_of 4 size) puts.within in
      let long = ap length (puts.past kept) ∙ length_put a.past 4 bytes in
      span_puts (IsPatched p size a.contents new) (length b.past) a b 4 bytes replays puts.start
      (puts.past kept) (inl puts.flushed)
      (λ k within. let none : length a.past + k - length b.past ≡ 0 = omega (arith, within, long) in
      rw (none, take-take k puts.count (bytes_of 4 size) (omega (arith, within, size_of)))
      (patched_riff p size new a.contents has k (omega (arith, within, size_of, puts.within))))

  -- the field is written
  pub field_span : (base : List ℕ) → HasSize p base → AreBytes a.contents
      → IsPatched p size base new 0 a.contents → field 4 a.contents ≡ size
      → PutsAt keeps p (bytes_of 4 new) result a b
      → Span (IsPatched p size base new) (length a.past) a b
  field_span base has small so_far riff puts =
      let bytes = take puts.count (bytes_of 4 new) in
      let long : length bytes ≡ puts.count = length-take-le puts.count (bytes_of 4 new) puts.within in
      span_puts (IsPatched p size base new) (length a.past) a b p bytes replays puts.start
      (puts.past kept) (inl puts.flushed)
      (λ k within. let level : length a.past + k - length a.past ≡ k = omega arith in
      rw (level, take-take k puts.count (bytes_of 4 new) (omega (arith, within, long)))
      (patched_field p size new base has a.contents small so_far riff k (omega (arith, within, long, puts.within))))

-- the byte that begins what was added
first_added : (old new : List (ℕ × ℕ)) (p : ℕ) (bytes : List ℕ) → new ≡ old ++ placed p bytes
    → length old < length new → place_of new (length old) ≡ p
first_added old new p bytes is longer = grind (arith, common_steps, place_after, length_put)

-- a patch that ended before its field
pub patches_none : {V F : Type 0} (p size new : ℕ) (answer : Result V F) (a b : MediumState)
    → Span (IsPatched p size a.contents new) (length b.past) a b
    → OnOk answer (length b.past ≡ length b.past + 4) → PatchesAtEach p size new answer a b
patches_none p size new answer a b span all = grind (arith, common_steps)

-- both parts, one after the other
pub patches_both : {T E U F V G : Type 0} (keeps : Bool) (p size new : ℕ) (r : Result T E)
    (s : Result U F) (answer : Result V G) (a b c : MediumState) → IsTrue keeps
    → a.contents ≡ overlay a.start a.past → b.contents ≡ overlay b.start b.past
    → HasSize p a.contents → AreBytes b.contents
    → (first : PutsAt keeps 4 (bytes_of 4 size) r a b) → first.count ≡ 4 → size < 2 ^ 32
    → PutsAt keeps p (bytes_of 4 new) s b c → OnOk answer (IsOk s)
    → PatchesAtEach p size new answer a c
patches_both keeps p size new r s answer a b c kept replays then has small first four fits second all =
    let riff = riff_span keeps p size new r a b kept replays has first in
    let field = field_span keeps p size new s b c kept then a.contents has small
    (span_end_zero (IsPatched p size a.contents new) a b then riff)
    (riff_put keeps p size new r a b has first four fits) second in
    let bytes = take second.count (bytes_of 4 new) in
    let long : length c.past ≡ length b.past + second.count = grind (arith, common_steps, length-take-le, length_put) in
    record {
      split = length b.past;
      span = join (IsPatched p size a.contents new) (length b.past) a b c riff field;
      puts =
          let more = ap length riff.past ∙ length-append a.past riff.added in
          let added = first_added b.past c.past p bytes (second.past kept) in
          let few = second.within in
          search rules;
      whole = grind (arith, common_steps, on_ok_weaker, from_ok);
    }

-- a patch, and then a call that writes nothing
pub patches_still : {T E V F : Type 0} (p size new : ℕ) (result : Result T E) (answer : Result V F)
    (a b c : MediumState) → b.contents ≡ overlay b.start b.past → Stays b c → FlushedSince b c
    → OnOk answer (IsOk result) → PatchesAtEach p size new result a b
    → PatchesAtEach p size new answer a c
patches_still p size new result answer a b c replays stays flushed all patches = grind (arith, common_steps)

-- the field has the old or the new number in each state except those between its four bytes
old_or_new : (p size new split : ℕ) (a b : MediumState) → HasSize p a.contents → new < 2 ^ 32
    → Span (IsPatched p size a.contents new) split a b → PutsLast p split a b
    → IsOldOrNew p (field p a.contents) new a b
old_or_new p size new split a b has small span puts k from to outside =
    grind (arith, common_steps, cases_lt, mix_all, mix_none, number_at_small, inside)

-- each intermediate state of a patch of a writer's file, by the result of the call that does it
pub publishes_at_each : {W : Type 0} (state : W → MediumState) (w : WriterState W) (none : w.buffered ≡ []) → IsSound w
    → CountsAtMost w.spec_ex w.data_start w.bytes_written (state w.medium).contents
    → IsPadded w (state w.medium).contents → AreBytes (state w.medium).contents
    → (end : W) (patched : Result (Unit {0}) IoFault) (are_frames : Bool)
    (outcome : Result (Unit {0}) Error) → IsPublishResult patched are_frames outcome
    → PatchesAtEach (w.data_start - 4) (riff_size w.data_start w.bytes_written) w.bytes_written patched
    (state w.medium) (state end) → PublishesAtEach state w outcome end
publishes_at_each state w none sound at_most padded small end patched are_frames outcome is patches =
    let p = w.data_start - 4 in
    let old = (state w.medium).contents in
    let split = patches.split in
    let span = patches.span in
    let start : p + 4 ≡ w.data_start = omega (arith, sound.after_head) in
    let all : w.bytes_written ≡ data_length w = sym (length_written state w none) in
    let has = has_size p old (omega (arith, sound.after_head))
    (omega (arith, start, inside w.spec_ex w.data_start w.bytes_written old old at_most)) small in
    let samples : (c : List ℕ) → drop (p + 4) c ≡ drop (p + 4) old
    → take w.bytes_written (drop w.data_start c) ≡ take w.bytes_written (drop w.data_start old) =
    λ c same. ap (take w.bytes_written) (rw start at same) in
    let counts : IsWhole state w → (j : ℕ) (c : List ℕ) → IsPatched p (riff_size w.data_start w.bytes_written) old
    w.bytes_written j c → Counts w.spec_ex w.data_start (accepted_samples state w) c =
    λ whole j c at. counts_at state w sound (whole_written state w none sound) c whole
    (at_most_patched w.spec_ex w.data_start w.bytes_written old c at_most j at.same at.field)
    (samples c at.same.beyond) in
    let beyond : (c : List ℕ) → drop (p + 4) c ≡ drop (p + 4) old
    → drop (data_end w) c ≡ drop (data_end w) old = grind (arith, common_steps, drop_later) in
    let half : (j : ℕ) (c : List ℕ) → IsPatched p (riff_size w.data_start w.bytes_written) old w.bytes_written j c
    → IsHalfPublished w old j c = λ j c at.
    let out = samples c at.same.beyond in
    let length_is = at.field ∙ ap (mix j (field p old)) all in
    search rules in
    record {
      counts =
          λ whole.
          record {
            start = span.start;
            added = span.added;
            past = span.past;
            flushed = span.flushed;
            each = λ k from to. counts whole (k - split) (moment (state end).start (state end).past k)
                (span.each k from to);
          };
      split = split;
      half = span_weaker (IsPatched p (riff_size w.data_start w.bytes_written) old w.bytes_written)
          (IsHalfPublished w old) split (state w.medium) (state end) half span;
      puts = patches.puts;
      whole = published _ patched are_frames outcome is patches.whole;
      old_or_new = rw all at
          (old_or_new p (riff_size w.data_start w.bytes_written) w.bytes_written split (state w.medium) (state end) has
          (omega (arith, sound.fits, sound.after_head, all)) span patches.puts);
      padded = λ i k from more before later to.
          rw (beyond _ (span.each k (omega (arith, from, later)) to).same.beyond) padded;
      there = λ whole i k from more before later to.
          omega (arith, whole, all, (span.each k (omega (arith, from, later)) to).same.long);
      all_stored = λ whole i k from more before later to.
          let c = moment (state end).start (state end).past k in
          let n = w.bytes_written in
          let zero_more : w.data_start + 0 ≡ w.data_start = omega arith in
          ap (λ j. take j (drop (w.data_start + 0) c)) (sym all)
          ∙ ap (λ j. take n (drop j c)) zero_more
          ∙ samples c (span.each k (omega (arith, from, later)) to).same.beyond
          ∙ sym (take-take n n (drop w.data_start old) (omega arith))
          ∙ ap (take n) (sym (concat-samples state w none sound))
          ∙ ap (λ j. take j (concat (accepted_samples state w))) all;
      stored =
          λ whole. stored_same w.data_start w.bytes_written (concat (accepted_samples state w)) old
          (state w.medium) (state end)
          (omega (
            arith,
            ap length (concat-samples state w none sound),
            length-take w.bytes_written (drop w.data_start old),
          ))
          (λ k from to. samples (moment (state end).start (state end).past k) (span.each k from to).same.beyond);
    }

-- a call of a writer that patches, and its result by the frames
module _ {W : Type 0} (kind : Ghosts W) (w : WriterState W) (end : W) (none : w.buffered ≡ []) (sound : IsSound w)
    (at_most : WhereTells kind.tells
    (CountsAtMost w.spec_ex w.data_start w.bytes_written (kind.state w.medium).contents))
    (padded : WhereTells kind.tells (IsPadded w (kind.state w.medium).contents))
    (patched : Result (Unit {0}) IoFault) (are_frames : Bool) (outcome : Result (Unit {0}) Error)
    (is : IsPublishResult patched are_frames outcome)
    (new : WriterState W) (same : new ≡ record w { medium = end })
    (of_new : (IsTrue are_frames → AreFrames new) × (AreFrames new → IsTrue are_frames))
    (before : WhereTells kind.tells (AreBytes (kind.state w.medium).contents))
    (after : WhereTells kind.tells (AreBytes (kind.state end).contents))
    (patches : WhereTells kind.tells
    (Patches (w.data_start - 4) (riff_size w.data_start w.bytes_written) w.bytes_written patched (kind.state w.medium)
    (kind.state end)))
    (moments : WhereKeeps kind.tells kind.keeps
    (PatchesAtEach (w.data_start - 4) (riff_size w.data_start w.bytes_written) w.bytes_written patched
    (kind.state w.medium) (kind.state end))) where
  frames : (IsTrue are_frames → AreFrames w) × (AreFrames w → IsTrue are_frames)
  frames = grind (arith, common_steps)

  answers : IsPublishing outcome w
  answers = grind (arith, common_steps)

  published_all : WhereTells kind.tells (Publishes kind.state w outcome end)
  published_all known =
      publishes kind.state w none sound (at_most known)
      (padded known) end patched are_frames outcome is frames.0 (after known) (patches known)

  at_each : WhereKeeps kind.tells kind.keeps (PublishesAtEach kind.state w outcome end)
  at_each known kept =
      publishes_at_each kind.state w none sound (at_most known) (padded known)
      (before known) end patched are_frames outcome is (moments known kept)

  -- all was published, and the medium left somewhere
  pub publishes_to : (at : ℕ) → WhereTells kind.tells (OnOk patched ((kind.state end).place ≡ at))
      → PublishesTo kind at outcome w new
  publishes_to at place = grind (arith, common_steps, in_medium, answers, published_all, published, at_each)
