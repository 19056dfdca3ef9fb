-- Batches of samples of sixteen bits.
use Rattle.std.proofs.lemmas.Grind.{common_steps}
use Rattle.std.proofs.Common.{◌≡◌, ℕ, ℤ, ◌*◌, ◌≤◌, List, [], ◌∷◌, ◌++◌, length, Option, unwrap_or, Result, Ok, Err, IsOk, FitsSigned, w16, refl, ◌∙◌, arith, length-append}
use Rattle.std.proofs.lemmas.List.{append-nil}
use Rattle.hound_number.specs.{signed_bytes_of}
use Rattle.hound_spec.specs.declared.error.Error.{Error}
use Rattle.hound_sample.specs.{Rejection, int_container, all_containers, bytes_in, joined_containers, contained, int_container-in_width}
use Rattle.hound_writer.specs.Accepting.{AcceptsBytes, Accepts, AreI16, containers_in, sample_bytes, i16_bytes}
use Rattle.hound_writer.specs.Parts.{memory_bytes}
use Rattle.hound_writer.specs.Writer.{Ghosts, WriterState}
use Rattle.hound_writer.proofs.Accepting.{accepts_beside}
use Rattle.hound_writer.proofs.AcceptingMany.{asked_is}
use Rattle.hound_sample.proofs.Joined.{head_ok, ok_append, tail_ok}

-- each takes two bytes
pub length-i16_bytes : (values : List ℤ) → length (i16_bytes values) ≡ 2 * length values
length-i16_bytes [] = refl
length-i16_bytes (v ∷ values) =
    length-append (signed_bytes_of 2 v) (i16_bytes values)
    ∙ omega (arith, length-i16_bytes values)

-- a number of sixteen bits has a container of them
i16_ok : (v : ℤ) → FitsSigned w16 v → IsOk (int_container v 16 2)
unfolding int_container
i16_ok v fit = grind (arith, common_steps)

-- and so have those after which it comes
pub i16s_more : (values : List ℤ) (v : ℤ) → AreI16 values → FitsSigned w16 v → AreI16 (values ++ v ∷ [])
i16s_more values v fits fit = grind (arith, common_steps, ok_append, i16_ok)

bytes_of_i16 : (v : ℤ) (asked : Result (List ℕ) Rejection) → int_container v 16 2 ≡ asked
    → IsOk asked → bytes_in asked ≡ signed_bytes_of 2 v
bytes_of_i16 v (Err rejection) is have = cc
bytes_of_i16 v (Ok c) is have =
    let (_, _, same) = contained v 16 2 c is in same ∙ append-nil (signed_bytes_of 2 v)

-- their containers, joined
pub joined_i16s : (values : List ℤ) → AreI16 values
    → joined_containers (λ v. int_container v 16 2) values ≡ i16_bytes values
joined_i16s [] fits = refl
joined_i16s (v ∷ values) fits =
    let container : ℤ → Result (List ℕ) Rejection = λ v. int_container v 16 2 in
    λ i. bytes_of_i16 v (container v) refl
    (head_ok (container v) (all_containers container values) fits) i
    ++ joined_i16s values (tail_ok (container v) (all_containers container values) fits) i

-- a batch whose samples were accepted as those of a slice, beside the writer's memory
pub batch_accepted : {W : Type 0} (kind : Ghosts W)
    (answer : Result (Unit {0}) Error) (a b : WriterState W) (values : List ℤ) (memory : List ℕ)
    → AreI16 values → a.spec_ex.spec.bits_per_sample ≡ 16 → a.spec_ex.bytes_per_sample ≡ 2
    → Accepts kind (containers_in int_container a.spec_ex values) answer a b
    → AcceptsBytes kind (i16_bytes values) answer (record a { batch_memory = memory })
    (record b { batch_memory = memory })
batch_accepted kind answer a b values memory fits bits width accepts =
    let s = a.spec_ex in
    let have : IsOk (containers_in int_container s values) = rw (bits, width) fits in
    let bytes : sample_bytes int_container s values ≡ i16_bytes values = rw (bits, width) (joined_i16s values fits) in
    let some : 1 ≤ s.bytes_per_sample = omega (arith, width) in
    accepts_beside kind _ answer a b memory
    (rw (← bytes, asked_is int_container int_container-in_width values s some have) accepts)

-- the memory that is kept for batches, or a new one
pub kept_or_new : {V : Type 0} (items : V → List ℤ) (kept taken : Option V) (new memory : V)
    → taken ≡ kept → memory ≡ unwrap_or taken new → items new ≡ []
    → i16_bytes (items memory) ≡ memory_bytes items kept
kept_or_new items kept taken new memory same is empty = grind (arith, common_steps)
