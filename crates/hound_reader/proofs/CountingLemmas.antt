-- What a counting reader has given, read after read.
use Rattle.std.proofs.lemmas.Grind.{common_steps}
use Rattle.std.proofs.Common.{◌≡◌, ℕ, ◌+◌, ◌-◌, ◌^◌, min, List, length, drop, ap, sym, ◌∙◌, arith, length-append, drop_at, take, ◌≤◌, Option, Some}
use Rattle.std.proofs.lemmas.List.{drop-drop, length-take-le}
use Rattle.std.specs.Io.KnownBytes.{Consumes}
use Rattle.hound_reader.specs.Reader.{HasGiven}

-- a read gave more, to the front of a buffer
pub given_read : (first old new : Option (List ℕ)) (given count sum : ℕ) (buf : List ℕ)
    → count ≤ length buf → HasGiven first given old → Consumes old new (take count buf)
    → sum ≡ min (given + count) (2 ^ 64 - 1) → HasGiven first sum new
given_read (Some xs) (Some ys) (Some zs) given count sum buf few h t s =
    let n = length xs - length ys in
    let size = length-take-le count buf few in
    let e : length ys ≡ count + length zs = omega (arith, size, ap length t ∙ length-append (take count buf) zs) in
    let tail : zs ≡ drop count ys = sym (ap (drop count) t ∙ drop_at (take count buf) zs count size) in
    let same : n + count ≡ length xs - length zs = omega (arith, e, h.0) in (
      omega (arith, e, h.0),
      tail ∙ ap (drop count) h.1 ∙ drop-drop count n xs ∙ ap (λ i. drop i xs) same,
      omega (arith, e, h.0, h.2, s),
    )
given_read _ _ _ given count sum buf few h t s = grind (arith, common_steps)
