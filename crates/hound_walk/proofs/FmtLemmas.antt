-- The definitions of a fmt chunk at bytes in pieces.
use Rattle.std.proofs.lemmas.Grind.{common_steps}
use Rattle.std.proofs.Common.{◌≡◌, ◌+◌, ℕ, ◌-◌, ◌≤◌, true, ◌||◌, List, ◌++◌, length, take, refl, ap, ◌∙◌, arith, take_at, drop_at, length-append, le-ltb, Ok, ◌==◌}
use Rattle.hound_spec.specs.declared.spec.WavSpecEx.{WavSpecEx}
use Rattle.hound_number.specs.{number}
use Rattle.hound_spec.specs.{fmt_fields, extension}
use Rattle.hound_walk.specs.Grammar.{◌>>=◌, wave_format, fmt_len, fmt_said, fmt_of, wave_format_pcm, wave_format_extensible, by_subformat, by_tag}
use Rattle.std.proofs.Math.Seq.{take-append-add}

pub pcm_forty : (len : ℕ) (found : WavSpecEx) (after : List ℕ) → len ≡ 40 → length after ≡ 24
    → (found.spec.bits_per_sample == 8 || found.spec.bits_per_sample == 16 ||
    found.spec.bits_per_sample == 24) ≡ true → wave_format_pcm len found after ≡ Ok found
unfolding wave_format_pcm
pcm_forty len found after e l b = rw (e, l, b) refl

pub extensible_at : (len : ℕ) (found : WavSpecEx) (size rest : List ℕ) → 40 ≤ len → length size ≡ 2
    → length rest ≡ 22 → number size ≡ 22
    → wave_format_extensible len found (size ++ rest) ≡ by_subformat found (extension rest)
unfolding wave_format_extensible
extensible_at len found size rest big two more is =
    let long = le-ltb len 40 big in
    let all : length (size ++ rest) ≡ 24 = omega (arith, length-append size rest) in
    let front = take_at size rest 2 two in
    let back = drop_at size rest 2 two in
    rw (long, all, front, back, is) refl

-- what was read of a content, and the rest of it
pub fmt_and_rest : (len : ℕ) (xs rest : List ℕ) → fmt_len len ≤ length xs
    → fmt_of len (take (fmt_len len) xs ++ rest) ≡ fmt_of len xs
fmt_and_rest len xs rest l = grind (arith, common_steps)

-- the first sixteen bytes of a content, and those after them
pub fmt_head : (len : ℕ) (h zs : List ℕ) → 16 ≤ len → length h ≡ 16 → fmt_of len (h ++ zs) ≡
    (wave_format (fmt_fields h) >>= λ found. by_tag (fmt_fields h).tag len found (take (fmt_len len - 16) zs))
unfolding fmt_said
fmt_head len h zs big l =
    let n = fmt_len len in
    let long : n ≡ length h + (n - 16) = omega (arith, big, l) in
    let cut : take n (h ++ zs) ≡ h ++ take (n - 16) zs =
    ap (λ i. take i (h ++ zs)) long ∙ take-append-add h zs (n - 16) in
    let rest = take (n - 16) zs in
    let big_enough = le-ltb len 16 big in
    let enough = le-ltb (length (h ++ rest)) 16 (omega (arith, length-append h rest)) in
    let front = take_at h rest 16 l in
    let back = drop_at h rest 16 l in
    rw (cut, big_enough, enough, front, back) refl
