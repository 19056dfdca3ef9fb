-- A call that continues once the buffered samples are written.
use Rattle.std.proofs.lemmas.Grind.{common_steps}
use Rattle.std.proofs.Common.{◌≡◌, ℕ, ◌+◌, ◌-◌, ◌≤◌, ◌%◌, Bool, true, false, IsTrue, Result, Err, IfErr, List, length, take, drop, rules, ap, subst, arith}
use Rattle.std.proofs.lemmas.List.{append-nil}
use Rattle.std.specs.List.{concat}
use Rattle.std.specs.declared.io.Error.{Error as IoFault}
use Rattle.hound_medium.specs.{MediumState}
use Rattle.hound_medium.proofs.Spans.{join, span_weaker}
use Rattle.hound_spec.specs.declared.error.Error.{Error}
use Rattle.hound_spec.specs.declared.error.Error.TheVariants.{IoError}
use Rattle.hound_sample.specs.{Rejection}
use Rattle.hound_sample.proofs.Many.{drop_further}
use Rattle.hound_writer.specs.Accepting.{AcceptsBytes, Accepts, AddsAtEach, IsIoError, faults_reported}
use Rattle.hound_writer.specs.Parts.{GoesOut, after_out, as_error}
use Rattle.hound_writer.specs.Writer.{Ghosts, Counts, WriterState, HasRoom, IsWhole, accepted_samples, data_length, data_end}
use Rattle.hound_writer.proofs.Accepting.{not_rejected, room_fits}
use Rattle.hound_writer.proofs.Answers.{accept_as, unless_then}
use Rattle.hound_writer.proofs.Sizes.{take_front}
use Rattle.hound_writer.proofs.Storing.{stored_join}

-- bytes after others that stay, stay
pub drop_later : (n m : ℕ) (a b : List ℕ) → n ≤ m → drop n a ≡ drop n b → drop m a ≡ drop m b
drop_later n m a b le same =
    let at : n + (m - n) ≡ m = omega (arith, le) in
    subst (λ k. drop k a ≡ drop k b) at (drop_further n (m - n) a b same)

-- all of it
module _ {W : Type 0} (kind : Ghosts W) (far : ℕ) (a : WriterState W)
    (m : W) (out : GoesOut kind far true a (after_out true m a)) where
  abbrev b : WriterState W
  b = after_out true m a

  pub length_same : data_length b ≡ data_length a
  length_same = omega arith

  abbrev first : List ℕ
  first = (kind.state a.medium).contents

  abbrev then : List ℕ
  then = (kind.state m).contents

  abbrev reach_out : ℕ
  reach_out = a.data_start + a.bytes_written

  -- what was up to the end of the bytes in the medium at first
  front_later : (modelled : IsTrue kind.tells) → IsWhole kind.state a → (c : List ℕ)
      → take (a.data_start + data_length a) c ≡ take (a.data_start + data_length a) then
      → take reach_out c ≡ take reach_out first
  front_later modelled whole c same = grind (arith, common_steps, take_front)

  at_each_later : (modelled : IsTrue kind.tells) → IsTrue kind.keeps → (new : MediumState)
      → AddsAtEach kind.state b new → AddsAtEach kind.state a new
  at_each_later modelled kept new at_each =
      let before = (out.moments modelled kept).adds in
      let f = out.file modelled in
      record {
        counts = λ whole. join (λ _. Counts a.spec_ex a.data_start (accepted_samples kind.state a)) 0
            (kind.state a.medium) (kind.state m) new (before.counts whole)
            (rw (f.accepted whole) at (at_each.counts (f.whole whole)));
        front = λ whole. join (λ _ c. take reach_out c ≡ take reach_out first) 0 (kind.state a.medium)
            (kind.state m) new (before.front whole)
            (span_weaker (λ _ c. take (a.data_start + data_length a) c ≡ take (a.data_start + data_length a) then)
            (λ _ c. take reach_out c ≡ take reach_out first) 0 (kind.state m) new
            (λ j c same. front_later modelled whole c same) (at_each.front (f.whole whole)));
        stored =
            λ whole.
            let out_span = before.front whole in
            let new_span = at_each.front (f.whole whole) in
            stored_join a.data_start (concat (accepted_samples kind.state a)) (kind.state a.medium) (kind.state m)
            new out_span.added new_span.added out_span.past new_span.start new_span.past
            (before.stored whole)
            (rw (f.accepted whole) at (at_each.stored (f.whole whole)));
      }

  accepts_after : far ≤ data_end a → (asked : Result (List (List ℕ)) Rejection) (answer : Result (Unit {0}) Error)
      (c : WriterState W) → IfErr answer IsIoError
      → Accepts kind asked answer b c
      → Accepts kind asked answer a c
  accepts_after near asked answer c failed accepts =
      let adds = accepts.adds in
      let end : data_end a ≤ data_end c = omega (arith, adds.data_start, adds.data_length, length_same) in
      record {
        adds = grind (arith, common_steps, not_rejected, accept_as, length_same);
        file = λ modelled. let f = out.file modelled in
            let g = accepts.file modelled in
            let faults = ap (faults_reported answer) f.faults in
            let rest = drop_later far (data_end c) then first (omega (arith, near, end)) f.around.rest in
            search (rules, unless_then);
        moments = λ modelled kept. at_each_later modelled kept (kind.state c.medium) (accepts.moments modelled kept);
      }

-- containers that are accepted once the buffered samples are written
pub accepts_later : {W : Type 0} (kind : Ghosts W) (a b c : WriterState W) (asked : Result (List (List ℕ)) Rejection)
    (answer : Result (Unit {0}) Error)
    → GoesOut kind (data_end a) true a b → IfErr answer IsIoError
    → Accepts kind asked answer (after_out true b.medium a) c
    → Accepts kind asked answer a c
accepts_later kind a b c asked answer out failed accepts =
    accepts_after kind (data_end a) a b.medium
    (rw out.value at out) (omega arith) asked answer c failed accepts

-- containers that aren't, since those weren't written
pub accepts_cut : {W : Type 0} (kind : Ghosts W) (far : ℕ)
    (a b : WriterState W) (bytes : List ℕ) (e : IoFault) → GoesOut kind far false a b
    → HasRoom a (length bytes) → length bytes % a.spec_ex.bytes_per_sample ≡ 0
    → AcceptsBytes kind bytes (Err (IoError e)) a b
accepts_cut kind far a b bytes e out room whole = grind (arith, common_steps, room_fits, append-nil)

-- an error of the medium is an IoError
pub kept_fails : (r : Result (Unit {0}) IoFault) → IfErr (as_error r) IsIoError
kept_fails r = grind (arith, common_steps)

-- bytes that reach no further than a place leave all the rest as it was
pub goes_further : {W : Type 0} (kind : Ghosts W) (near far : ℕ)
    (all : Bool) (a b : WriterState W) → near ≤ far → GoesOut kind near all a b
    → GoesOut kind far all a b
goes_further kind near far all a b le out = grind (arith, common_steps, drop_later)
