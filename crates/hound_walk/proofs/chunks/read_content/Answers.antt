use Rattle.std.proofs.lemmas.Grind.{common_steps}
use Rattle.std.proofs.Common.{◌≡◌, ◌+◌, ◌≤◌, ℕ, List, ◌++◌, Some, Ok, take, drop, length, refl, ◌∙◌, arith, rules, length-append, length-take-le}
use Rattle.hound_spec.specs.declared.spec.WavSpecEx.{WavSpecEx}
use Rattle.hound_number.proofs.Counting.{NoneFailed-trans}
use Rattle.hound_walk.specs.Grammar.{fmt_len, fmt_of, spec_after}
use Rattle.hound_walk.proofs.FmtLemmas.{fmt_and_rest}
use Rattle.hound_spec.specs.{padded}
use Rattle.hound_walk.specs.Walking.{ReadsContent}
use Rattle.hound_walk.specs.declared.chunks.ChunkRead.TheVariants.{Other}
use Rattle.hound_number.proofs.KnownSteps.{known_both, known_from}
use Rattle.hound_walk.proofs.chunks.read_content.Goals as goal

-- the used part of a fmt chunk, and the rest
fmt_whole : (len : ℕ) (found : WavSpecEx) (rest xs ys zs : List ℕ)
    → (fmt_of len xs ≡ Ok found) × (fmt_len len ≤ length xs) × (ys ≡ drop (fmt_len len) xs)
    → ys ≡ rest ++ zs → length rest + fmt_len len ≡ padded len → (content : List ℕ)
    × (length content ≡ padded len) × (fmt_of len content ≡ Ok found) × (xs ≡ content ++ zs)
fmt_whole len found rest xs ys zs p e whole =
    let n = fmt_len len in (
      take n xs ++ rest,
      omega (arith, length-append (take n xs) rest, length-take-le n xs p.1, whole),
      fmt_and_rest len xs rest p.1 ∙ p.0,
      grind (arith, common_steps, p.2, e),
    )

pub returns-in_ok-skip_bytes-in-Fmt : goal.returns-in_ok-skip_bytes-in-Fmt
unfolding spec_after
returns-in_ok-skip_bytes-in-Fmt g c =
    let tag = c.args.tag.now in
    let len = c.args.chunk_len in
    let did = rw c.in-Fmt.is at c.in_ok-spec_ex.ensures in
    let is_fmt = did.says.1 in
    let other = did.says.0 in
    let found = c.in_ok-spec_ex-in-Fmt.spec_ex in
    let (rest, taken, l) = c.in_ok-skip_bytes-in-Fmt.ensures.ok in
    record {
      sound = search rules;
      failures = NoneFailed-trans _ _ _ c.in_ok-spec_ex-in-Fmt.ensures.failures
          c.in_ok-skip_bytes-in-Fmt.ensures.failures;
      ok = known_both _ _ _ _ (λ ys zs. ys ≡ rest ++ zs) (ReadsContent c.args.taken c.args.found tag len
          (Other (Some found) (c.args.taken + 8 + padded len))) c.in_ok-spec_ex-in-Fmt.ensures.gives
          (known_from rest _ _ (λ ys zs. ys ≡ rest ++ zs) taken (λ ys. refl))
          (λ xs ys zs p e.
          let (content, n, read, is) = fmt_whole len found rest xs ys zs p e (omega (arith, l)) in (
            content,
            n,
            other,
            rw (is_fmt, read) refl,
            omega arith,
            rw (is_fmt, read) refl,
            omega (arith, n),
            is,
          ));
      err = tt;
      taken = tt;
    }

pub returns-in_ok-skip_bytes-in-Other : goal.returns-in_ok-skip_bytes-in-Other
unfolding spec_after
returns-in_ok-skip_bytes-in-Other g c = grind (arith, common_steps, known_from)
