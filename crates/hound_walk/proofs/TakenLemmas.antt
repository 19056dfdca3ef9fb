-- How many bytes are taken if the bytes are rejected, piece after piece.
use Rattle.std.proofs.lemmas.Grind.{common_steps}
use Rattle.std.proofs.Common.{◌≡◌, ℕ, ◌+◌, ◌≤◌, List, ◌++◌, length, drop, sym, subst, arith, inr, slice_range, append_assoc, length-append, Option, Some, Result, Err}
use Rattle.std.proofs.Math.Seq.{drop-append-add}
use Rattle.std.specs.Io.KnownBytes.{Consumes}
use Rattle.hound_number.specs.{WhereKnown, number}
use Rattle.hound_number.proofs.KnownSteps.{known_both, known_then, known_weaker}
use Rattle.hound_walk.specs.Walking.{Rejects, RejectedAfter, UnreadableAfter, TakesAll, TakesFor, chunk_taken, content_taken, Walked, AreTaken}
use Rattle.hound_walk.specs.Grammar.{Head, Rejected as Rejected', chunk_fault, data_fault, joined, by_subformat, wave_format}
use Rattle.hound_spec.specs.{riff_tag, wave_tag, FmtFields, Extension, fmt_fields, greatest_u32}
use Rattle.std.specs.Prelude.{IfErr}
use Rattle.hound_spec.specs.declared.spec.WavSpecEx.{WavSpecEx}
use Rattle.hound_walk.specs.declared.cause.Cause.{Cause}
use Rattle.hound_walk.specs.declared.cause.Cause.TheVariants.{Unsupported}
use Rattle.hound_walk.specs.declared.cause.HeadError.{HeadError}
use Rattle.hound_walk.specs.declared.cause.HeadError.TheVariants.{Failed, Rejected}

-- h was taken, and then n bytes
pub taken_then : (h ys zs : List ℕ) (n : ℕ) → AreTaken n ys zs → AreTaken (length h + n) (h ++ ys) zs
taken_then h ys zs n t = grind (arith, common_steps, length-append, drop-append-add)

-- h was taken, and then what an error takes, for a cause that P holds for
pub takes_after : (h : List ℕ) (o m n : Option (List ℕ)) (f g : Cause → List ℕ → ℕ)
    (P : Cause → Type 0) (e : HeadError) → Consumes o m h → Rejects e P
    → ((c : Cause) (ys : List ℕ) → P c → g c (h ++ ys) ≡ length h + f c ys)
    → TakesFor m n f e → TakesFor o n g e
takes_after h o m n f g P (Failed e) taken is same t = tt
takes_after h o m n f g P (Rejected c) taken is same t =
    known_then h o m n (λ xs ys. AreTaken (f c xs) xs ys) (λ xs ys. AreTaken (g c xs) xs ys) taken t
    (λ ys zs p. subst (λ i. AreTaken i (h ++ ys) zs) (sym (same c ys is)) (taken_then h ys zs (f c ys) p))

-- exactly h was taken
pub takes_these : (h : List ℕ) (o n : Option (List ℕ)) (g : Cause → List ℕ → ℕ) (c : Cause)
    → Consumes o n h → ((ys : List ℕ) → g c (h ++ ys) ≡ length h)
    → WhereKnown o n (λ xs ys. AreTaken (g c xs) xs ys)
takes_these h o n g c taken same = grind (arith, common_steps)

-- an extension has no fault except another subformat
pub subformat_fails : (found : WavSpecEx) (e : Extension) (c : Cause) → by_subformat found e ≡ Err c → c ≡ Unsupported
subformat_fails found e c is = grind (arith, common_steps)

-- the checks of every format tag take the first sixteen bytes
pub wave_format_takes : (f : FmtFields) (tag len : ℕ) (c : Cause) (n : ℕ) → wave_format f ≡ Err c
    → content_taken tag len c n ≡ 16
unfolding wave_format
wave_format_takes f tag len c n is = grind (arith, common_steps)

-- h was taken, and then what a call takes that returns an error
pub takes_more : {A : Type 0} (h : List ℕ) (o m n : Option (List ℕ)) (f g : Cause → List ℕ → ℕ)
    (r : Result A HeadError) → Consumes o m h
    → ((c : Cause) (ys : List ℕ) → g c (h ++ ys) ≡ length h + f c ys)
    → IfErr r (TakesFor m n f) → IfErr r (TakesFor o n g)
takes_more h o m n f g r taken same t = grind (arith, common_steps, takes_after)

-- a chunk whose header is h takes that, and of its content what the table says
pub chunk_takes : (c len : ℕ) (h ys : List ℕ) (cause : Cause) → length h ≡ 8 → c + 8 ≤ greatest_u32
    → len ≡ number (slice_range h 4 8)
    → chunk_taken c cause (h ++ ys)
    ≡ length h + content_taken (fmt_fields ys).tag len cause (length ys)
chunk_takes c len h ys cause eight room is = grind (arith, common_steps)

-- P and Q for the same bytes
pub known_and : (o n : Option (List ℕ)) (P Q : List ℕ → List ℕ → Type 0) → WhereKnown o n P → WhereKnown o n Q
    → WhereKnown o n (λ xs ys. P xs ys × Q xs ys)
known_and o n P Q p q = grind (arith, common_steps)

-- whole chunks, and then a fault
pub walk_takes : (o m n : Option (List ℕ)) (found : Option WavSpecEx) (taken : ℕ) (e : HeadError)
    → WhereKnown o m (λ xs ys. Walked xs ys found taken)
    → Rejects e (λ c. WhereKnown m n (λ xs ys. chunk_fault taken found xs ≡ Some c))
    → TakesFor m n (chunk_taken taken) e → TakesAll RejectedAfter o n e
walk_takes o m n found taken (Failed e) walked fault t = tt
walk_takes o m n found taken (Rejected c) walked fault t =
    known_both o m n (λ xs ys. Walked xs ys found taken)
    (λ ys zs. (chunk_fault taken found ys ≡ Some c) × AreTaken (chunk_taken taken c ys) ys zs)
    (λ xs zs. (k : ℕ) × RejectedAfter xs c k × AreTaken k xs zs) walked
    (known_and m n _ _ fault t) (λ xs ys zs w p.
    let body = joined w.chunks in
    let front = riff_tag ++ (w.walk.size ++ (wave_tag ++ body)) in
    let k = chunk_taken taken c ys in
    let parted : riff_tag ++ (w.walk.size ++ (wave_tag ++ (body ++ ys))) ≡ front ++ ys = simp append_assoc in (
      12 + taken + k,
      inr (
        w.chunks,
        ys,
        w.walk,
        cc (w.taken_is, w.found_is, p.0),
        cc w.taken_is,
      ),
      grind (arith, common_steps, w.walk.whole, parted, w.walk.four, w.taken_is, taken_then front ys zs k p.1),
    ))

-- what is taken of bytes without a head shows why they have none
pub rejected_for : (o n : Option (List ℕ)) (e : HeadError) → TakesAll RejectedAfter o n e
    → Rejects e (λ c. WhereKnown o n (λ xs ys. Rejected' xs c))
rejected_for o n e t = grind (arith, common_steps)

-- a head is complete
pub head_is_there : (bytes : List ℕ) (spec : WavSpecEx) (len h : ℕ) → Head bytes spec len h → h ≤ length bytes
head_is_there bytes spec len h head = grind (arith, common_steps)

-- a head, and a data length at fault
pub length_takes : (o n : Option (List ℕ)) (spec : WavSpecEx) (len h : ℕ) (c : Cause) → data_fault spec len ≡ Some c
    → WhereKnown o n (λ xs ys. Head xs spec len h × (ys ≡ drop h xs))
    → WhereKnown o n (λ xs ys. (k : ℕ) × UnreadableAfter xs c k × AreTaken k xs ys)
length_takes o n spec len h c fault head = grind (arith, common_steps, known_weaker, head_is_there)
