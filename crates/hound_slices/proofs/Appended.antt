-- Files that were appended to.
use Rattle.std.proofs.lemmas.Grind.{common_steps}
use Rattle.std.proofs.Common.{◌≡◌, ℕ, ◌+◌, ◌-◌, ◌*◌, ◌/◌, ◌%◌, ◌^◌, ◌==◌, ◌≤◌, ◌<◌, true, List, ◌++◌, length, take, drop, None, refl, sym, ◌∙◌, ap, subst, arith, take-append-drop, length-append, length-drop}
use Rattle.std.specs.List.{concat}
use Rattle.std.proofs.lemmas.List.{take_at, drop_at, take-take, drop-take, drop-append-le, length-take-le}
use Rattle.std.proofs.Math.Nat.{add-mul-mod_self_right, mul-div_left}
use Rattle.hound_spec.specs.declared.spec.WavSpecEx.{WavSpecEx}
use Rattle.hound_sample.specs.{containers}
use Rattle.hound_sample.proofs.Containers.{containers_append, containers_front, length-containers}
use Rattle.hound_walk.specs.{Head, data_fault}
use Rattle.hound_writer.specs.{ReadsAs, ChangesSizesOnly, SameButSizes, field, with_sizes}
use Rattle.hound_writer.proofs.Containers.{none_whole}
use Rattle.hound_writer.proofs.Heads.{head_with}
use Rattle.hound_writer.proofs.Patching.{data_length_of_sizes}
use Rattle.hound_repair.proofs.RightSizes.{field_before, same_sizes}
use Rattle.hound_slices.proofs.Puts.{put, take_put, take_before, length_put}

-- so many samples are whole, and whole frames if they are that
pub sound_of : (s : WavSpecEx) (count : ℕ) → 0 < s.bytes_per_sample → count % s.spec.channels ≡ 0
    → data_fault s (count * s.bytes_per_sample) ≡ None
sound_of s count some frames =
    let w = s.bytes_per_sample in
    let same : count * w ≡ 0 + count * w = omega arith in
    let none : count * w % w ≡ 0 = ap (λ n. n % w) same ∙ add-mul-mod_self_right 0 count w ∙ none_whole w in
    let whole : (count * w % w == 0) ≡ true = ap (λ n. n == 0) none in
    let many : count * w / w ≡ count = mul-div_left count some in
    let even : (count * w / w % s.spec.channels == 0) ≡ true =
    ap (λ n. n % s.spec.channels == 0) many ∙ ap (λ n. n == 0) frames in
    rw (whole, even) refl

-- The two steps: the new samples with their pad byte after the data, and the sizes.
module _ (s : WavSpecEx) (samples h used n k riff : ℕ) (list : List (List ℕ)) (file added pad : List ℕ)
    (data_is : added ≡ concat list ++ pad) (size : length added ≡ k) (front : 20 ≤ h)
    (within : h + samples * s.bytes_per_sample ≤ used) (inside : used ≤ length file)
    (n_is : n ≡ h + samples * s.bytes_per_sample + k) (room : n ≤ length file)
    (small : (samples + length list) * s.bytes_per_sample < 2 ^ 32) where
  abbrev w : ℕ
  w = s.bytes_per_sample

  abbrev at : ℕ
  at = h + samples * w

  abbrev dl : ℕ
  dl = (samples + length list) * w

  abbrev one : List ℕ
  one = put at k file added

  abbrev pub two : List ℕ
  two = with_sizes (h - 4) riff dl one

  fits : at + k ≤ length file
  fits = omega (arith, n_is, room)

  long : length one ≡ length file
  long = length_put at k file added size fits

  same : SameButSizes (h - 4) one two
  same = same_sizes (h - 4) riff dl one (omega (arith, front)) (omega (arith, front, fits, long))

  new_long : length (take n two) ≡ n
  new_long = length-take-le n two (omega (arith, room, long, same.long))

  -- after the header nothing changes in the second step
  beyond : drop h two ≡ drop h one
  beyond = grind (arith, common_steps, same)

  pub sizes_only : ChangesSizesOnly h (take used file) (take n two)
  sizes_only = record {
    front = take-take 4 n two (omega (arith, n_is, front)) ∙ same.front
        ∙ take_before at k file added size fits 4 (omega (arith, front))
        ∙ sym (take-take 4 used file (omega (arith, within, front)));
    middle = ap (drop 8) (take-take (h - 4) n two (omega (arith, n_is))) ∙ same.middle
        ∙ ap (drop 8) (take_before at k file added size fits (h - 4) (omega arith))
        ∙ sym (ap (drop 8) (take-take (h - 4) used file (omega (arith, within))));
  }

  says : field (h - 4) (take n two) ≡ dl
  says =
      sym (field_before (h - 4) (take n two) (drop n two) (omega (arith, n_is, front, new_long)))
      ∙ ap (field (h - 4)) (take-append-drop n two)
      ∙ data_length_of_sizes (h - 4) riff dl one (omega (arith, front)) (omega (arith, front, fits, long)) small

  follows : drop h (take n two) ≡ take (samples * w) (drop h file) ++ added
  follows =
      let e : n ≡ h + (n - h) = omega (arith, n_is) in
      ap (λ m. drop h (take m two)) e ∙ drop-take h (n - h) two ∙ ap (take (n - h)) beyond
      ∙ sym (drop-take h (n - h) one) ∙ sym (ap (λ m. drop h (take m one)) e)
      ∙ ap (drop h) (take_put at k file added size fits n n_is)
      ∙ drop-append-le h (take at file) added (omega (arith, length-take-le at file (omega (arith, fits))))
      ∙ ap (λ l. l ++ added) (drop-take h (samples * w) file)

  -- the samples that were there, and the new ones
  there : ((rest : List ℕ) → containers w (length list) (concat list ++ rest) ≡ list)
      → containers w (samples + length list) (drop h (take n two))
      ≡ containers w samples (drop h file) ++ list
  there back =
      let old = take (samples * w) (drop h file) in
      let z = concat list ++ pad in
      let size : length old ≡ samples * w =
      length-take-le (samples * w) (drop h file) (omega (arith, within, inside, length-drop h file)) in
      ap (containers w (samples + length list)) (follows ∙ ap (λ l. old ++ l) data_is)
      ∙ containers_append w samples (length list) (old ++ z)
      ∙ (λ i. containers_front w samples (old ++ z) (drop h file) (take_at old z (samples * w) size) i
      ++ (ap (containers w (length list)) (drop_at old z (samples * w) size) ∙ back pad) i)

  pub reads : (len : ℕ) → Head (take used file) s len h → 0 < w → (samples + length list) % s.spec.channels ≡ 0
      → ((rest : List ℕ) → containers w (length list) (concat list ++ rest) ≡ list)
      → ReadsAs s h (containers w samples (drop h file) ++ list) (take n two)
  reads len head some frames back =
      let all = samples + length list in
      let count : length (containers w samples (drop h file) ++ list) ≡ all =
      length-append (containers w samples (drop h file)) list
      ∙ ap (λ m. m + length list) (length-containers w samples (drop h file)) in
      record {
        readable = record {
          len = dl;
          head = subst (λ m. Head (take n two) s m h) says
              (head_with (take used file) s len h head (take n two) (omega (arith, new_long, n_is))
              sizes_only.front sizes_only.middle);
          frames = sound_of s all some frames;
          count = count ∙ sym (mul-div_left all some);
        };
        containers = ap (λ m. containers w m (drop h (take n two))) count ∙ there back;
      }
