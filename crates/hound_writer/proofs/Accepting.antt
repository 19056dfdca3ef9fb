-- What bytes after the accepted ones change.
use Rattle.std.proofs.lemmas.Grind.{common_steps}
use Rattle.std.proofs.Common.{◌≡◌, ℕ, ◌+◌, ◌/◌, ◌%◌, ◌≤◌, max, nat_le, Bool, true, false, List, [], ◌++◌, length, take, drop, Result, Ok, Err, IfErr, IsTrue, inl, refl, rules, ap, arith, length-append, length-take, le-leb}
use Rattle.std.proofs.lemmas.List.{take_at, take_all, drop_at, drop-drop, append-nil, length-take-le}
use Rattle.std.proofs.Math.Seq.{take-add}
use Rattle.std.specs.List.{concat}
use Rattle.std.specs.declared.io.Error.{Error as IoFault}
use Rattle.hound_medium.specs.{placed, overlay, moment, faults_after, MediumState, WhereTells, WhereKeeps, Span}
use Rattle.hound_medium.proofs.Overlays.{overlay_is, take_overlay_before, length_overlay_le, front_part}
use Rattle.hound_medium.proofs.Spans.{span_puts, span_still}
use Rattle.hound_spec.specs.declared.error.Error.{Error}
use Rattle.hound_spec.specs.declared.error.Error.TheVariants.{IoError}
use Rattle.hound_spec.specs.{riff_size, greatest_u32}
use Rattle.hound_sample.specs.{Rejection, containers, error_of, too_wide, unsupported}
use Rattle.hound_writer.specs.Accepting.{AcceptsBytes, Accepts, AddsAtEach, AcceptAnswer, IsIoError, OnRejected, faults_reported, if_marked, mark_of}
use Rattle.hound_writer.specs.Parts.{all_out, GoesAtEach, GoesToFile, PutsAt, CountsAtMost, StaysAround}
use Rattle.hound_writer.specs.Writer.{Ghosts, Counts, WriterState, HasRoom, IsCounted, IsSound, IsWhole, accepted_samples, data_length}
use Rattle.hound_writer.proofs.Answers.{accept_as, on_rejected, rejected_then, unless_failed}
use Rattle.hound_writer.proofs.Containers.{joined_bytes}
use Rattle.hound_writer.proofs.PutsFrom.{puts_from}
use Rattle.hound_writer.proofs.Storing.{stored_same, stored_still}
use Rattle.hound_writer.proofs.Samples.{concat-samples, counts_at, samples_append, whole_written}
use Rattle.hound_writer.proofs.AtMost.{inside, at_most_front, at_most_more}
use Rattle.hound_writer.proofs.Sizes.{drop_overlay_after, take_front}
pub use Rattle.hound_writer.proofs.Sizes.{length_overlay_max}

-- a call that writes nothing
pub adds_nothing : {W : Type 0} (state : W → MediumState) (w : WriterState W) → (IsWhole state w → IsCounted state w)
    → (state w.medium).contents ≡ overlay (state w.medium).start (state w.medium).past
    → AddsAtEach state w (state w.medium)
adds_nothing state w counts replays = grind (arith, common_steps, span_still, stored_still)

-- an error before anything changes
pub accepts_rejected : {W : Type 0} (kind : Ghosts W)
    (w : WriterState W) (asked : Result (List (List ℕ)) Rejection) (e : Error)
    → WhereTells kind.tells (IsWhole kind.state w → IsCounted kind.state w)
    → WhereKeeps kind.tells kind.keeps
    ((kind.state w.medium).contents ≡ overlay (kind.state w.medium).start (kind.state w.medium).past)
    → mark_of {T = Unit {0}} (Err e) ≡ false
    → ((faults : ℕ) → faults ≡ faults_reported {T = Unit {0}} (Err e) faults)
    → AcceptAnswer {T = Unit {0}} asked w (Err e)
    → Accepts kind asked (Err e) w w
accepts_rejected kind w asked e counts replays mark faults answers =
    let old = kind.state w.medium in
    let nothing : if_marked (mark_of {T = Unit {0}} (Err e)) asked ≡ [] = ap (λ m. if_marked m asked) mark in
    let more = ap (λ l. length (concat l)) nothing in
    let none = append-nil (accepted_samples kind.state w) in
    record {
      adds = search (rules, on_rejected);
      file = λ modelled. let same = faults old.faults in search (rules, unless_failed);
      moments = λ modelled kept. adds_nothing kind.state w (counts modelled) (replays modelled kept);
    }

-- the type has no container
pub type_rejects : {W : Type 0} (kind : Ghosts W) (w : WriterState W)
    (rejection : Rejection) → WhereTells kind.tells (IsWhole kind.state w → IsCounted kind.state w)
    → WhereKeeps kind.tells kind.keeps
    ((kind.state w.medium).contents ≡ overlay (kind.state w.medium).start (kind.state w.medium).past)
    → Accepts kind (Err rejection) (Err (error_of rejection)) w w
type_rejects kind w too_wide counts replays =
    accepts_rejected kind w _ _ counts replays refl (λ _. refl) refl
type_rejects kind w unsupported counts replays =
    accepts_rejected kind w _ _ counts replays refl (λ _. refl) refl

-- whole containers for which there is room fit
pub room_fits : {W : Type 0} (w : WriterState W) (bytes : List ℕ) → HasRoom w (length bytes)
    → length bytes % w.spec_ex.bytes_per_sample ≡ 0
    → nat_le
    (riff_size w.data_start (data_length w + length (concat (containers w.spec_ex.bytes_per_sample
    (length bytes / w.spec_ex.bytes_per_sample) bytes)))) greatest_u32 ≡ true
room_fits w bytes room whole = grind (arith, common_steps, le-leb, joined_bytes)

-- bytes that are written after a writer's data, all or a beginning
module _ {W : Type 0} (kind : Ghosts W) (w : WriterState W) (at_most : WhereTells kind.tells
    (CountsAtMost w.spec_ex w.data_start w.bytes_written (kind.state w.medium).contents)) {T E : Type 0} (m : W)
    (bytes : List ℕ) (result : Result T E) (modelled : IsTrue kind.tells)
    (puts : PutsAt kind.keeps (w.data_start + w.bytes_written) bytes result (kind.state w.medium) (kind.state m)) where
  abbrev was : List ℕ
  was = (kind.state w.medium).contents

  abbrev now : List ℕ
  now = (kind.state m).contents

  abbrev at : ℕ
  at = w.data_start + w.bytes_written

  pub front_stays : (n : ℕ) → n ≤ at → n ≤ length was → take n now ≡ take n was
  front_stays n before there = grind (arith, common_steps, take_overlay_before)

  pub grows : length was ≤ length now
  grows = grind (arith, common_steps, length_overlay_le)

  there : w.data_start ≤ length was
  there = inside w.spec_ex w.data_start w.bytes_written was was (at_most modelled)

  pub front : take w.data_start now ≡ take w.data_start was
  front = front_stays w.data_start (omega arith) there

  pub data_stays : IsWhole kind.state w
      → take w.bytes_written (drop w.data_start now) ≡ take w.bytes_written (drop w.data_start was)
  data_stays whole = grind (arith, common_steps, front_part, front_stays)

  pub still : CountsAtMost w.spec_ex w.data_start w.bytes_written now
  still = at_most_front w.spec_ex w.data_start w.bytes_written was now (at_most modelled) front
      (omega (arith, there, grows))

  pub rest : drop (at + length bytes) now ≡ drop (at + length bytes) was
  rest = grind (arith, common_steps, drop_overlay_after, length-take)

  pub reach : length now ≤ max (length was) (at + length bytes)
  reach = grind (arith, common_steps, length-take, length_overlay_max)

  pub goes_at_each : IsTrue kind.keeps → was ≡ overlay (kind.state w.medium).start (kind.state w.medium).past
      → AddsAtEach kind.state w (kind.state m) → GoesAtEach kind.state w (kind.state m)
  goes_at_each kept replays adds =
      let bs = take puts.count bytes in
      let old = kind.state w.medium in
      record {
        adds = adds;
        front = grind (arith, common_steps, take_overlay_before, span_puts, there);
        beyond = puts_from w.data_start at bs old (kind.state m) (omega arith) (puts.past kept);
      }

  pub around : (far : ℕ) → w.data_start + w.bytes_written + length bytes ≡ far
      → StaysAround kind.state far w (kind.state m)
  around far is = grind (arith, common_steps, still, front, front_stays, rest, grows, reach)

-- a medium that changed only around the accepted bytes: all samples stay accepted, and count
pub goes_beside : {W : Type 0} (state : W → MediumState) (far : ℕ) (all : Bool)
    (w : WriterState W) (m : W) → IsSound w → w.bytes_written % w.spec_ex.bytes_per_sample ≡ 0
    → (state m).faults ≡ faults_after (all_out all) (state w.medium).faults
    → StaysAround state far w (state m) → GoesToFile state far all w (record w { medium = m })
goes_beside state far all w m sound whole_written faults stays = grind (arith, common_steps, front_part, counts_at)

-- a writer with an empty block, and a medium with bytes written after its data
module _ {W : Type 0} (kind : Ghosts W) (w : WriterState W) (none : w.buffered ≡ []) (sound : IsSound w)
    (at_most : WhereTells kind.tells
    (CountsAtMost w.spec_ex w.data_start w.bytes_written (kind.state w.medium).contents)) where
  abbrev old : MediumState
  old = kind.state w.medium

  abbrev width : ℕ
  width = w.spec_ex.bytes_per_sample

  abbrev end : ℕ
  end = w.data_start + w.bytes_written

  -- nothing up to the end of the data changed: the samples count
  counts_front : IsTrue kind.tells → IsWhole kind.state w → (c : List ℕ)
      → take (w.data_start + w.bytes_written) c ≡ take (w.data_start + w.bytes_written) (kind.state w.medium).contents
      → Counts w.spec_ex w.data_start (accepted_samples kind.state w) c
  counts_front modelled whole c same =
      let first : take w.data_start c ≡ take w.data_start old.contents =
      take_front w.data_start end old.contents c (omega arith) same in
      let long : w.data_start ≤ length c =
      omega (arith, ap length same, length-take end c, length-take-le end old.contents whole) in
      counts_at kind.state w sound (whole_written kind.state w none sound) c whole
      (at_most_front w.spec_ex w.data_start w.bytes_written old.contents c (at_most modelled) first long)
      (front_part end w.data_start w.bytes_written c old.contents (omega arith) same)

  -- bytes that are written, all or a beginning
  module _ {T E : Type 0} (m : W) (bytes : List ℕ) (result : Result T E) (modelled : IsTrue kind.tells)
      (puts : PutsAt kind.keeps (w.data_start + w.bytes_written) bytes result (kind.state w.medium) (kind.state m))
    where
      abbrev new : MediumState
      new = kind.state m

      pub at_each : IsTrue kind.keeps → old.contents ≡ overlay old.start old.past → AddsAtEach kind.state w new
      at_each kept replays =
          let bs = take puts.count bytes in
          let same : end ≤ length old.contents → (k : ℕ)
          → take end (overlay old.contents (placed end (take k bs))) ≡ take end old.contents =
          λ whole k. take_overlay_before (take k bs) end end old.contents (omega arith) whole in
          let fixed : IsWhole kind.state w → Span (λ _ c. take end c ≡ take end old.contents) 0 old new =
          λ whole. span_puts (λ _ c. take end c ≡ take end old.contents) 0 old new end bs replays puts.start
          (puts.past kept) (inl puts.flushed) (λ k within. same whole k) in
          record {
            counts =
                λ whole. span_puts
                (λ _. Counts w.spec_ex w.data_start
                (accepted_samples kind.state w)) 0 old new end bs replays puts.start (puts.past kept)
                (inl puts.flushed)
                (λ k within. counts_front modelled whole (overlay old.contents (placed end (take k bs)))
                (same whole k));
            front = fixed;
            stored =
                λ whole. stored_same w.data_start w.bytes_written
                (concat (accepted_samples kind.state w)) old.contents old new
                (omega (
                  arith,
                  ap length (concat-samples kind.state w none sound),
                  length-take w.bytes_written (drop w.data_start old.contents),
                ))
                (λ k from to. front_part end w.data_start w.bytes_written (moment new.start new.past k)
                old.contents (omega arith) ((fixed whole).each k from to));
          }

      -- all of them were written
      module _ (all : puts.count ≡ length bytes) where
        put : take puts.count bytes ≡ bytes
        put = take_all puts.count bytes (omega (arith, all))

        parts : IsWhole kind.state w → new.contents ≡ take end old.contents ++
            (bytes ++ drop (end + length bytes) old.contents)
        parts whole = grind (arith, common_steps, put, overlay_is)

        bytes_in_place : IsWhole kind.state w → take (length bytes) (drop end new.contents) ≡ bytes
        bytes_in_place whole = grind (arith, common_steps, parts, drop_at, length-take-le, take_at)

        pub bytes_inside : IsWhole kind.state w → w.data_start + (w.bytes_written + length bytes) ≤ length new.contents
        bytes_inside whole = grind (arith, common_steps, parts, length-append, length-take-le)

  -- the same file with other bytes in it and another batch
  abbrev pub after_put : W → ℕ → WriterState W
  after_put m written = record w { medium = m; bytes_written = written }

  module _ (m : W) (bytes : List ℕ) (room : HasRoom w (length bytes))
      (whole_bytes : length bytes % w.spec_ex.bytes_per_sample ≡ 0) where
    abbrev list : List (List ℕ)
    list = containers width (length bytes / width) bytes

    -- if the medium failed nothing is accepted
    pub accepts_none : (e : IoFault) → WhereTells kind.tells
        (PutsAt kind.keeps (w.data_start + w.bytes_written) bytes (all_out false) (kind.state w.medium) (kind.state m))
        → WhereKeeps kind.tells kind.keeps
        ((kind.state w.medium).contents ≡ overlay (kind.state w.medium).start (kind.state w.medium).past)
        → AcceptsBytes kind bytes (Err (IoError e)) w (after_put m w.bytes_written)
    accepts_none e puts replays = record {
      adds =
          let fits = room_fits w bytes room whole_bytes in
          search rules;
      file = λ modelled. let p = puts modelled in
          let f = goes_beside kind.state (end + length bytes) false w m sound (whole_written kind.state w none sound)
          p.faults (around kind w at_most m bytes (all_out false) modelled p (end + length bytes) refl) in
          let none = append-nil (accepted_samples kind.state w) in
          search rules;
      moments =
          λ modelled kept. at_each m bytes (all_out false) modelled (puts modelled) kept (replays modelled kept);
    }

    -- else all of it
    pub sound_more : IsSound (after_put m (w.bytes_written + length bytes))
    sound_more = grind (arith, common_steps)

    pub accepts_all : WhereTells kind.tells
        (PutsAt kind.keeps (w.data_start + w.bytes_written) bytes (all_out true) (kind.state w.medium) (kind.state m))
        → WhereKeeps kind.tells kind.keeps
        ((kind.state w.medium).contents ≡ overlay (kind.state w.medium).start (kind.state w.medium).past)
        → AcceptsBytes kind bytes (Ok tt) w (after_put m (w.bytes_written + length bytes))
    accepts_all puts replays = record {
      adds =
          let fits = room_fits w bytes room whole_bytes in
          let size = ap length (joined_bytes width bytes whole_bytes) in
          search rules;
      file = λ modelled. let p = puts modelled in
          let last = after_put m (w.bytes_written + length bytes) in
          let samples = drop w.data_start (kind.state m).contents in
          let more : IsWhole kind.state w → accepted_samples kind.state last ≡ accepted_samples kind.state w ++ list =
          λ whole. samples_append kind.state w m (w.bytes_written + length bytes) w.buffered bytes sound whole
          (omega (arith, ap length none)) (cc (
            take-add w.bytes_written (length bytes) samples,
            data_stays kind w at_most m bytes (all_out true) modelled p whole,
            drop-drop w.bytes_written w.data_start (kind.state m).contents,
            bytes_in_place m bytes (all_out true) modelled p p.whole whole,
            append-nil (take w.bytes_written (drop w.data_start old.contents) ++ bytes),
            append-nil (take w.bytes_written (drop w.data_start old.contents)),
          )) in
          let at_most_now =
          at_most_more w.spec_ex w.data_start w.bytes_written (w.bytes_written + length bytes) (kind.state m).contents
          (omega arith) (still kind w at_most m bytes (all_out true) modelled p) in
          let inside = bytes_inside m bytes (all_out true) modelled p p.whole in
          let counts = counts_at kind.state last sound_more (whole_written kind.state last none sound_more)
          (kind.state m).contents in
          let before = front kind w at_most m bytes (all_out true) modelled p in
          let long = reach kind w at_most m bytes (all_out true) modelled p in
          let size = ap length none in
          let at : end + length bytes ≡ w.data_start + (w.bytes_written + length bytes + length w.buffered) =
          omega (arith, size) in
          let beyond = rw at at (rest kind w at_most m bytes (all_out true) modelled p) in
          search rules;
      moments =
          λ modelled kept. at_each m bytes (all_out true) modelled (puts modelled) kept (replays modelled kept);
    }

pub not_rejected : {T : Type 0} (P : Type 0) (answer : Result T Error) → IfErr answer IsIoError → OnRejected answer P
not_rejected P answer failed = grind (arith, common_steps)

-- the same for writers that hold other memory, which the call leaves as it is
pub accepts_beside : {W : Type 0} (kind : Ghosts W)
    (asked : Result (List (List ℕ)) Rejection) (answer : Result (Unit {0}) Error)
    (a b : WriterState W) (memory : List ℕ) → Accepts kind asked answer a b
    → Accepts kind asked answer (record a { batch_memory = memory })
    (record b { batch_memory = memory })
accepts_beside kind asked answer a b memory accepts =
    let adds = accepts.adds in
    record {
      adds = grind (arith, common_steps, accept_as, rejected_then);
      file = search rules;
      moments = search rules;
    }
