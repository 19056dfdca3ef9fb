-- A file that begins: its header is written, and nothing else.
use Rattle.std.proofs.lemmas.Grind.{common_steps}
use Rattle.std.proofs.Common.{◌≡◌, ℕ, ◌+◌, ◌-◌, ◌≤◌, max, List, [], ◌++◌, length, take, drop, Ok, refl, rules, ◌∙◌, ap, arith, append_assoc, length-append, length-drop}
use Rattle.std.proofs.lemmas.List.{take_at, take_all, drop_at}
use Rattle.hound_number.specs.{bytes_of, number}
use Rattle.hound_medium.specs.{MediumState, PutsAll}
use Rattle.hound_medium.proofs.Overlays.{overlay_is}
use Rattle.hound_spec.specs.declared.spec.WavSpecEx.{WavSpecEx}
use Rattle.hound_spec.specs.{riff_tag, data_start, header, IsWritable}
use Rattle.hound_spec.proofs.HeaderLemmas.{described, header-parts, length-header, length-described, data_start_least}
use Rattle.hound_walk.proofs.WrittenLemmas.{header_head}
use Rattle.std.specs.declared.io.Error.{Error as IoFault}
use Rattle.hound_writer.specs.Beginning.{PutsHeader}
use Rattle.hound_writer.specs.Parts.{of_fields, CountsAtMost}
use Rattle.hound_writer.specs.Writer.{Ghosts, field, IsSound, IsWhole, HasHeader}
use Rattle.hound_writer.proofs.Samples.{counts_at, whole_written}

-- the data length of a header with 0 in it
field-header : (s : WavSpecEx) (p : ℕ) (rest : List ℕ) → p + 4 ≡ data_start s → field p (header s 0 0 ++ rest) ≡ 0
field-header s p rest at =
    let front = riff_tag ++ (bytes_of 4 0 ++ described s) in
    let long : length front ≡ p = grind (arith, common_steps, length-append, described, length-described) in
    let whole : header s 0 0 ++ rest ≡ front ++ (bytes_of 4 0 ++ rest) =
    ap (λ l. l ++ rest) (header-parts s 0 0) ∙ append_assoc front (bytes_of 4 0) rest in
    ap (λ l. number (take 4 (drop p l))) whole
    ∙ ap (λ l. number (take 4 l)) (drop_at front (bytes_of 4 0 ++ rest) p long)

-- a writer of a writable spec that has accepted nothing
pub sound_begin : {W : Type 0} (medium : W) (s : WavSpecEx) (start : ℕ) → IsWritable s
    → start ≡ data_start s → IsSound (of_fields medium s start 0 [] [])
sound_begin medium s start writable is = grind (arith, common_steps)

-- what a constructor has written
module _ {W : Type 0} (kind : Ghosts W) (s : WavSpecEx) (old : MediumState)
    (medium : W) (writable : IsWritable s) (begins : old.place ≡ 0)
    (puts : PutsAll {T = Unit {0}} {E = IoFault} kind.keeps (header s 0 0) (Ok tt) old (kind.state medium))
  where
    abbrev rest : List ℕ
    rest = drop (length (header s 0 0)) old.contents

    -- the header, and what was after it before
    contents_begin : (kind.state medium).contents ≡ header s 0 0 ++ rest
    contents_begin = grind (arith, common_steps, take_all, overlay_is)

    -- its file
    pub at_most_begin : CountsAtMost s (length (header s 0 0)) 0 (kind.state medium).contents
    at_most_begin =
        let size = length-header s 0 0 in
        let p = length (header s 0 0) - 4 in
        let none : field p (kind.state medium).contents ≡ 0 = ap (field p) contents_begin
        ∙ field-header s p rest (omega (arith, size, data_start_least s)) in
        record {
          head = rw (none, size, contents_begin) (header_head s 0 0 rest writable (omega arith));
          counted = omega (arith, none);
        }

    pub header_file : PutsHeader kind old (of_fields medium s (length (header s 0 0)) 0 [] [])
    header_file =
        let h = header s 0 0 in
        let w = of_fields medium s (length h) 0 [] [] in
        let sound = sound_begin medium s (length h) writable (length-header s 0 0) in
        let whole : IsWhole kind.state w = omega (arith, ap length contents_begin, length-append h rest) in
        let put = rw puts.whole at puts.takes in
        let has : HasHeader s (kind.state medium).contents =
        (0, 0, ap (take (length h)) contents_begin ∙ take_at h rest (length h) refl) in
        let reach : length (kind.state medium).contents ≤ max (length old.contents) (length h) = omega (
          arith,
          ap length contents_begin,
          length-append h rest,
          length-drop (length h) old.contents,
        ) in
        let counts = counts_at kind.state w sound (whole_written kind.state w refl sound)
        (kind.state medium).contents whole at_most_begin refl in
        search rules
