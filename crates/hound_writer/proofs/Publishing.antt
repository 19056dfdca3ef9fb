-- What a file is once its sizes are published.
use Rattle.std.proofs.lemmas.Grind.{common_steps}
use Rattle.std.proofs.Common.{◌≡◌, ℕ, ◌+◌, ◌-◌, ◌/◌, ◌%◌, ◌≤◌, Bool, true, List, [], ◌++◌, length, take, drop, Result, refl, rules, sym, ◌∙◌, ap, arith, append_assoc, length-append, length-drop, take-append-drop}
use Rattle.std.proofs.lemmas.List.{take_at, take-take, drop-drop, length-take-le}
use Rattle.std.specs.declared.io.Error.{Error as IoFault}
use Rattle.std.specs.Io.{StartsWith}
use Rattle.std.specs.List.{concat}
use Rattle.hound_number.specs.{bytes_of, AreBytes}
use Rattle.hound_medium.specs.{MediumState, WhereTells, WhereKeeps}
use Rattle.std.proofs.lemmas.Result.{on_ok_weaker}
use Rattle.hound_medium.proofs.Outcomes.{on_ok}
use Rattle.hound_medium.proofs.Torn.{bytes_at}
use Rattle.hound_spec.specs.declared.error.Error.{Error}
use Rattle.hound_spec.specs.declared.spec.WavSpecEx.{WavSpecEx}
use Rattle.hound_spec.specs.{riff_tag, data_start, header, riff_size, padding, canonical}
use Rattle.hound_spec.proofs.HeaderLemmas.{described, header-parts, length-header, length-described}
use Rattle.hound_sample.specs.{containers}
use Rattle.hound_writer.specs.Parts.{IsConsistent, IsPublishResult, Patches, CountsAtMost}
use Rattle.hound_writer.specs.Writer.{Ghosts, SameButSizes, with_sizes, field, Counts, WriterState, AreFrames, IsPadded, IsSound, IsWhole, IsBegun, HasHeader, accepted_samples, data_length, data_end, padded_end}
use Rattle.hound_writer.specs.Accepting.{IsPublishing, OnPublished}
use Rattle.hound_writer.specs.Publishing.{Publishes, PublishesAtEach, PublishesTo, ReadsAs}
use Rattle.hound_writer.proofs.Answers.{published, reported_faults, reported_ok}
use Rattle.hound_writer.proofs.Keeping.{consistent_moved}
use Rattle.hound_writer.proofs.Later.{drop_later}
use Rattle.hound_writer.proofs.Samples.{concat-samples, counts_at, length-samples, length_written, whole_written}
use Rattle.hound_writer.proofs.Patching.{riff_size_of_sizes, data_length_of_sizes}
use Rattle.hound_writer.proofs.Heads.{in_parts}
use Rattle.hound_writer.proofs.AtMost.{inside, at_most_patched}

-- a file that begins with the header of a spec, once other sizes are in it
module _ (s : WavSpecEx) (size length_before : ℕ) (start p : ℕ) (before : p + 4 ≡ start)
    (is_start : data_start s ≡ start) (c : List ℕ)
    (begins : take start c ≡ header s size length_before) where
  described_size : length (described s) + 12 ≡ start
  described_size = length-described s ∙ is_start

  begins_with_riff : take 4 c ≡ riff_tag
  begins_with_riff = grind (arith, common_steps, take-take, described_size, header-parts)

  goes_on_with_fmt : drop 8 (take p c) ≡ described s
  goes_on_with_fmt =
      let front = (riff_tag ++ bytes_of 4 size) ++ described s in
      let whole : take start c ≡ front ++ bytes_of 4 length_before = begins ∙ header-parts s size length_before in
      let long : length front ≡ p = grind (arith, common_steps, length-append, described, described_size) in
      ap (drop 8) (sym (take-take p start c (omega arith)) ∙ ap (take p) whole
      ∙ take_at front (bytes_of 4 length_before) p long)

  pub header_with : (n data_length : ℕ) → with_sizes p n data_length c ≡ header s n data_length ++ drop start c
  unfolding with_sizes
  header_with n data_length =
      grind (arith, common_steps, append_assoc, described, header-parts, begins_with_riff, goes_on_with_fmt)

-- this much data after a header with its sizes, and their pad byte, are the canonical file of its containers
pub canonical_begins : (s : WavSpecEx) (containers : List (List ℕ)) (n start : ℕ)
    (samples contents : List ℕ) → data_start s ≡ start → n ≤ length samples
    → concat containers ≡ take n samples → StartsWith (drop n samples) (padding n)
    → contents ≡ header s (riff_size start n) n ++ samples
    → StartsWith contents (canonical s containers)
canonical_begins s containers n start samples contents is_start enough joined padded is =
    let size : length (concat containers) ≡ n = ap length joined ∙ length-take-le n samples enough in
    let rest = drop (length (padding n)) (drop n samples) in
    let data_now = concat containers ++ padding (length (concat containers)) in
    let file : contents ≡ canonical s containers ++ rest =
    grind (arith, common_steps, append_assoc, take-append-drop) in
    ap (take (length (canonical s containers))) file
    ∙ take_at (canonical s containers) rest (length (canonical s containers)) refl

-- the contents once only the two sizes changed, as these sizes
sizes_of : (p : ℕ) (old new : List ℕ) → 8 ≤ p → p + 4 ≤ length new → AreBytes new
    → SameButSizes p old new → new ≡ with_sizes p (field 4 new) (field p new) old
unfolding with_sizes
sizes_of p old new beyond inside small same =
    in_parts p new beyond
    ∙ (λ i. same.front i ++ (sym (bytes_at 4 new (omega (arith, beyond, inside)) small) i ++
    (same.middle i ++ (sym (bytes_at p new inside small) i ++ same.beyond i))))

-- a file that was begun with the header of a spec still has it, whatever its sizes
pub begun_still : (s : WavSpecEx) (start : ℕ) (old new : List ℕ) → data_start s ≡ start → 12 ≤ start
    → start ≤ length new → AreBytes new → SameButSizes (start - 4) old new → HasHeader s old
    → HasHeader s new
begun_still s start old new is_start beyond inside small same (size, length_before, begins) =
    let p = start - 4 in
    let r = field 4 new in
    let n = field p new in
    let front : take start old ≡ header s size length_before =
    ap (λ k. take k old) (sym (length-header s size length_before ∙ is_start)) ∙ begins in
    let whole : new ≡ header s r n ++ drop start old =
    sizes_of p old new (omega (arith, beyond)) (omega (arith, beyond, inside)) small same
    ∙ header_with s size length_before start p (omega (arith, beyond)) is_start old front r n in
    grind (arith, common_steps, take_at)

-- if the data length counts all of some samples, which are whole frames, they are read back
pub reads_all : (s : WavSpecEx) (start n : ℕ) (samples : List (List ℕ)) (contents : List ℕ)
    → n % s.bytes_per_sample ≡ 0 → n / s.bytes_per_sample % s.spec.channels ≡ 0
    → length samples ≡ n / s.bytes_per_sample → field (start - 4) contents ≡ n
    → Counts s start samples contents → ReadsAs s start samples contents
reads_all s start n samples contents whole frames size says counts = grind (arith, common_steps)

-- a writer's file with its sizes
module _ {W : Type 0} (state : W → MediumState) (w : WriterState W) (none : w.buffered ≡ [])
    (sound : IsSound w) (at_most : CountsAtMost w.spec_ex w.data_start w.bytes_written (state w.medium).contents)
    (padded : IsPadded w (state w.medium).contents) (end : W) where
  abbrev p : ℕ
  p = w.data_start - 4

  abbrev size : ℕ
  size = riff_size w.data_start w.bytes_written

  before : p + 4 ≡ w.data_start
  before = omega (arith, sound.after_head)

  all : w.bytes_written ≡ data_length w
  all = sym (length_written state w none)

  abbrev old : List ℕ
  old = (state w.medium).contents

  there : p + 4 ≤ length old
  there = omega (arith, before, inside w.spec_ex w.data_start w.bytes_written old old at_most)

  module _ (put : (state end).contents ≡ with_sizes (w.data_start - 4)
      (riff_size w.data_start w.bytes_written) w.bytes_written (state w.medium).contents) where
    riff_says : field 4 (state end).contents ≡ riff_size w.data_start (data_length w)
    riff_says = grind (arith, common_steps, riff_size_of_sizes, there, all)

    length_says : field p (state end).contents ≡ w.bytes_written
    length_says = grind (arith, common_steps, data_length_of_sizes, there, all)

    -- the pad byte, seen from the first data byte on
    pad_in_place : StartsWith (drop w.bytes_written (drop w.data_start old)) (padding w.bytes_written)
    pad_in_place = rw (drop-drop w.bytes_written w.data_start old, all) padded

    is_canonical : IsWhole state w → IsBegun state w
        → StartsWith (state end).contents (canonical w.spec_ex (accepted_samples state w))
    is_canonical whole ((size_before, length_before, begins), at) =
        let long : length (header w.spec_ex size_before length_before) ≡ w.data_start =
        length-header w.spec_ex size_before length_before ∙ sym at in
        let front : take w.data_start old ≡ header w.spec_ex size_before length_before =
        ap (λ n. take n old) (sym long) ∙ begins in
        canonical_begins w.spec_ex (accepted_samples state w) w.bytes_written w.data_start
        (drop w.data_start old) (state end).contents (sym at)
        (omega (arith, whole, length-drop w.data_start old))
        (concat-samples state w none sound) pad_in_place
        (put ∙ header_with w.spec_ex size_before length_before w.data_start p before
        (sym at) old front size w.bytes_written)

  -- What a patch leaves, and the result of a call that has done one.
  pub publishes : (patched : Result (Unit {0}) IoFault) (are_frames : Bool)
      (outcome : Result (Unit {0}) Error) → IsPublishResult patched are_frames outcome
      → (are_frames ≡ true → AreFrames w) → AreBytes (state end).contents
      → Patches (w.data_start - 4) (riff_size w.data_start w.bytes_written) w.bytes_written patched (state w.medium)
      (state end) → Publishes state w outcome end
  publishes patched are_frames outcome is frames small patches =
      let half = patches.half.2 in
      let same = half.same in
      let long : w.data_start ≤ length (state end).contents = omega (arith, before, there, same.long) in
      let samples = rw before at same.beyond in
      let still = at_most_patched w.spec_ex w.data_start w.bytes_written old
      (state end).contents at_most patches.half.0 same half.field in
      let counts : IsWhole state w → Counts w.spec_ex w.data_start (accepted_samples state w) (state end).contents =
      grind (arith, common_steps, counts_at, whole_written) in
      let beyond = drop_later w.data_start (data_end w) (state end).contents old (omega arith) samples in
      record {
        faults = grind (arith, common_steps, reported_faults);
        front = search rules;
        bytes_written = λ _. ap (take w.bytes_written) samples;
        rest = drop_later (data_end w) (padded_end w) (state end).contents old (omega arith) beyond;
        grows = omega (arith, same.long);
        reach = omega (arith, same.long);
        counts = counts;
        begun = grind (arith, common_steps, begun_still);
        flushed = published _ patched are_frames outcome is patches.flushed;
        riff_says = published _ patched are_frames outcome is (on_ok_weaker patched riff_says patches.contents);
        length_says = published _ patched are_frames outcome is
            (on_ok_weaker patched (λ put. length_says put ∙ all) patches.contents);
        stored = grind (arith, common_steps, on_ok, published, concat-samples, all);
        padded = published _ patched are_frames outcome is (on_ok patched (rw beyond padded));
        read = λ whole. reported_ok _ patched are_frames outcome is (λ yes. on_ok_weaker patched
            (λ put. reads_all w.spec_ex w.data_start w.bytes_written (accepted_samples state w)
            (state end).contents (whole_written state w none sound)
            (ap (λ n. n / w.spec_ex.bytes_per_sample % w.spec_ex.spec.channels) all ∙ frames yes)
            (length-samples state w none sound) (length_says put)
            (counts whole)) patches.contents);
        canonical =
            λ whole begun. published _ patched are_frames outcome is
            (on_ok_weaker patched (λ put. is_canonical put whole begun) patches.contents);
      }

-- what a writer keeps true after a patch, which a fault may have cut
pub consistent_patched : {W : Type 0} (kind : Ghosts W) (w : WriterState W)
    (end : W) (may_have_moved : Bool) (limit : ℕ) (riff : ℕ) (result : Result (Unit {0}) IoFault)
    → IsConsistent kind w may_have_moved limit
    → WhereTells kind.tells
    (Patches (w.data_start - 4) riff w.bytes_written result (kind.state w.medium) (kind.state end))
    → IsConsistent kind (record w { medium = end }) true limit
consistent_patched kind w end may_have_moved limit riff result before patches =
    consistent_moved kind w end may_have_moved limit before
    (λ outcome. let half = (patches outcome).half in at_most_patched w.spec_ex w.data_start w.bytes_written
    (kind.state w.medium).contents (kind.state end).contents (before.at_most outcome) half.0 half.2.same half.2.field)

-- a call that publishes, of a writer of which only the medium changes
pub in_medium : {W : Type 0} (kind : Ghosts W) (at : ℕ)
    (answer : Result (Unit {0}) Error) (w : WriterState W) (end : W) → IsPublishing answer w
    → WhereTells kind.tells (Publishes kind.state w answer end)
    → WhereTells kind.tells (OnPublished answer ((kind.state end).place ≡ at))
    → WhereKeeps kind.tells kind.keeps (PublishesAtEach kind.state w answer end)
    → PublishesTo kind at answer w (record w { medium = end })
in_medium kind at answer w end answers publishes place moments = search rules
