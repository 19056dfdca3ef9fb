-- What one call for samples and an end leave in a medium that was empty: exactly the canonical file.
use Rattle.std.proofs.lemmas.Grind.{common_steps}
use Rattle.std.proofs.Common.{◌≡◌, ℕ, ◌+◌, List, [], ◌++◌, length, take, Ok, IsTrue, sym, ◌∙◌, ap, arith}
use Rattle.std.proofs.lemmas.List.{take_all}
use Rattle.std.specs.Io.{StartsWith}
use Rattle.hound_spec.specs.declared.spec.WavSpecEx.{WavSpecEx}
use Rattle.hound_spec.specs.{data_start, canonical}
use Rattle.hound_spec.proofs.HeaderLemmas.{length-canonical}
use Rattle.hound_medium.specs.{MediumState}
use Rattle.hound_writer.specs.Accepting.{Accepts}
use Rattle.hound_writer.specs.Beginning.{Begins}
use Rattle.hound_writer.specs.Publishing.{Finishes}
use Rattle.hound_writer.specs.Writer.{Ghosts, WriterState, IsBegun, IsSound, accepted_samples, data_length}
use Rattle.hound_writer.proofs.Sizes.{header_front}

-- a writer with no accepted bytes has no samples
pub none_accepted : {M : Type 0} (state : M → MediumState) (w : WriterState M) → IsSound w
    → w.buffered ≡ [] → w.bytes_written ≡ 0 → accepted_samples state w ≡ []
none_accepted state w sound none empty = grind (arith, common_steps)

-- what is before the data stays, so the header does
pub begun_front : {M : Type 0} (state : M → MediumState) (old new : WriterState M)
    → new.spec_ex ≡ old.spec_ex → new.data_start ≡ old.data_start
    → take old.data_start (state new.medium).contents ≡ take old.data_start
    (state old.medium).contents
    → IsBegun state old → IsBegun state new
begun_front state old new spec start front (has, at) = grind (arith, common_steps, header_front)

module _ {W : Type 0} (kind : Ghosts W) (modelled : IsTrue kind.tells)
    (s : WavSpecEx) (old : MediumState) (first : WriterState W)
    (begins : Begins kind s old first) where
  -- a new file, one call for samples, and an end
  pub fresh_file : (last : WriterState W) (end : W) (list : List (List ℕ))
      → old.contents ≡ [] → Accepts kind (Ok list) (Ok tt) first last
      → Finishes kind last (Ok tt) end → (kind.state end).contents ≡ canonical s list
  fresh_file last end list empty accepts finishes =
      let b = begins.begun in
      let f = begins.file modelled in
      let a = accepts.file modelled in
      let p = finishes.publishes modelled in
      let whole = a.whole f.whole in
      let samples : accepted_samples kind.state last ≡ list =
      a.accepted f.whole ∙ ap (λ l. l ++ list) (none_accepted kind.state first b.sound b.none_buffered b.none_out) in
      let spec : last.spec_ex ≡ s = accepts.adds.spec_ex ∙ b.spec in
      let begun = begun_front kind.state first last accepts.adds.spec_ex accepts.adds.data_start a.front
      (f.header, b.start ∙ ap data_start (sym b.spec)) in
      let starts : StartsWith (kind.state end).contents (canonical s list) =
      rw (samples, spec) at (p.canonical whole begun) in
      let nothing : data_length first ≡ 0 = (λ i. b.none_out i + length (b.none_buffered i)) in
      grind (arith, common_steps, take_all, length-canonical)
