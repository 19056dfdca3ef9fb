-- The head of a file while its two sizes change.
use Rattle.std.proofs.lemmas.Grind.{common_steps}
use Rattle.std.proofs.Common.{◌≡◌, ℕ, ◌+◌, ◌-◌, ◌≤◌, List, ◌++◌, length, take, drop, refl, ◌∙◌, ap, arith, append_assoc, length-append, length-drop, take-append-drop}
use Rattle.std.proofs.lemmas.List.{take_at, drop_at, drop-drop, length-take-le}
use Rattle.std.proofs.lemmas.Slice.{between_is}
use Rattle.hound_number.specs.{number}
use Rattle.hound_spec.specs.declared.spec.WavSpecEx.{WavSpecEx}
use Rattle.hound_spec.specs.{riff_tag, wave_tag, data_tag}
use Rattle.hound_walk.specs.{Head, joined}
use Rattle.hound_writer.specs.Writer.{field}
use Rattle.hound_writer.proofs.Sizes.{take_front}

-- contents as their four bytes at 4 and at p, and what is before, between and after these
pub in_parts : (p : ℕ) (c : List ℕ) → 8 ≤ p → c ≡ take 4 c ++
    (take 4 (drop 4 c) ++ (drop 8 (take p c) ++ (take 4 (drop p c) ++ drop (p + 4) c)))
in_parts p c beyond =
    let at_p : drop (p - 8) (drop 8 c) ≡ drop p c =
    drop-drop (p - 8) 8 c ∙ ap (λ n. drop n c) (let e : 8 + (p - 8) ≡ p = omega arith in e) in
    cc (
      take-append-drop 4 c,
      take-append-drop 4 (drop 4 c),
      drop-drop 4 4 c,
      take-append-drop (p - 8) (drop 8 c),
      between_is c 8 p,
      take-append-drop 4 (drop p c),
      drop-drop 4 p c,
    )

module _ (old : List ℕ) (s : WavSpecEx) (len h : ℕ) (head : Head old s len h) where
  split : old ≡ (riff_tag ++ (head.walk.size ++ (wave_tag ++ (joined head.chunks ++ data_tag)))) ++
      (head.size ++ head.rest)
  split = simp append_assoc head.walk.whole

  long : length (riff_tag ++ (head.walk.size ++ (wave_tag ++ (joined head.chunks ++ data_tag)))) + 4 ≡ h
  long = grind (arith, common_steps)

  -- the data begin after the first twelve bytes and a chunk's header
  pub head_beyond : 20 ≤ h
  head_beyond = omega (arith, head.place)

  pub head_inside : h ≤ length old
  head_inside = grind (arith, common_steps)

  -- the data length is the number in the field
  pub head_field : field (h - 4) old ≡ len
  head_field =
      ap (λ l. number (take 4 (drop (h - 4) l))) split
      ∙ ap (λ l. number (take 4 l))
      (drop_at (riff_tag ++ (head.walk.size ++ (wave_tag ++ (joined head.chunks ++ data_tag))))
      (head.size ++ head.rest) (h - 4) (omega (arith, long)))
      ∙ ap number (take_at head.size head.rest 4 head.four)
      ∙ head.data_len

  begins : take 4 old ≡ riff_tag
  begins = ap (take 4) head.walk.whole

  between : drop 8 (take (h - 4) old) ≡ wave_tag ++ (joined head.chunks ++ data_tag)
  between =
      let f = head.walk.size ++ (wave_tag ++ (joined head.chunks ++ data_tag)) in
      ap (λ l. drop 8 (take (h - 4) l)) split
      ∙ ap (drop 8) (take_at (riff_tag ++ f) (head.size ++ head.rest) (h - 4) (omega (arith, long)))
      ∙ drop_at (riff_tag ++ head.walk.size) (wave_tag ++ (joined head.chunks ++ data_tag)) 8
      (omega (arith, head.walk.four, length-append riff_tag head.walk.size))

  -- contents with the same bytes except for the two sizes have the same head, with the length in their field
  pub head_with : (new : List ℕ) → h ≤ length new → take 4 new ≡ take 4 old
      → drop 8 (take (h - 4) new) ≡ drop 8 (take (h - 4) old) → Head new s (field (h - 4) new) h
  head_with new inside same_front same_middle =
      let p = h - 4 in
      let z = take 4 (drop p new) ++ drop (p + 4) new in
      let j = joined head.chunks in
      let whole : new ≡ riff_tag ++ (take 4 (drop 4 new) ++ (wave_tag ++ (j ++ (data_tag ++ z)))) =
      grind (arith, common_steps, append_assoc, in_parts, begins, between) in
      record {
        chunks = head.chunks;
        size = take 4 (drop p new);
        rest = drop (p + 4) new;
        walk = record {
          size = take 4 (drop 4 new);
          four = length-take-le 4 (drop 4 new) (omega (arith, inside, head.place, length-drop 4 new));
          whole = whole;
          each = head.walk.each;
        };
        four = length-take-le 4 (drop p new) (omega (arith, inside, head.place, length-drop p new));
        data_len = refl;
        limit = head.limit;
        spec_is = head.spec_is;
        place = head.place;
      }

  -- so have contents with the same front
  pub head_front : (new : List ℕ) → take h new ≡ take h old → h ≤ length new → Head new s (field (h - 4) new) h
  head_front new same inside =
      head_with new inside
      (take_front 4 h old new (omega (arith, head.place)) same)
      (ap (drop 8) (take_front (h - 4) h old new (omega arith) same))
