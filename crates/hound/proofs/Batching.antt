-- What a batch accepts, and its values one by one.
use Rattle.std.proofs.lemmas.Grind.{common_steps}
use Rattle.std.proofs.Common.{◌≡◌, ℕ, ℤ, ◌/◌, true, List, [], ◌∷◌, ◌++◌, length, map, Result, Ok, Err, IsTrue, sym, ◌∙◌, ap, subst, refl, arith}
use Rattle.std.proofs.lemmas.Bool.Decides.{nat_tests}
use Rattle.std.proofs.lemmas.List.{append-nil}
use Rattle.std.proofs.lemmas.List.Concat.{concat_is}
use Rattle.std.proofs.lemmas.List.Folds.{flat_map-map}
use Rattle.std.specs.List.{AllByRecursion, concat, flat_map}
use Rattle.hound_sample.proofs.Joined.{containers-concat, length-concat}
use Rattle.hound_number.specs.{signed_bytes_of}
use Rattle.hound_sample.specs.{Rejection, containers, int_bytes, int_container, contained}
use Rattle.hound_writer.specs.{Ghosts, Accepts, AcceptAnswer, if_marked, one, AcceptsEach, i16_bytes, IsSameFile, write, WriterState, IsWhole, data_length, accepted_samples}
use Rattle.hound_writer.proofs.Recording.{same_but_memory}
use Rattle.hound.proofs.Calling.{Went, call_went, went_still, went_then}

-- the bytes of a batch's values are those of its containers, two to each
joined : (values : List ℤ) → flat_map (signed_bytes_of 2) values ≡ concat (map (signed_bytes_of 2) values)
joined values = grind (arith, common_steps, concat_is, flat_map-map)

wide : (values : List ℤ) → AllByRecursion (λ c. length c ≡ 2) (map (signed_bytes_of 2) values)
wide [] = tt
wide (v ∷ values) = (refl, wide values)

-- a number that fits in sixteen bits has its two bytes as its container
i16_container : (v : ℤ) (bits width : ℕ) (c : List ℕ) → bits ≡ 16
    → int_container v bits width ≡ Ok c → c ≡ signed_bytes_of 2 v
i16_container v bits width c sixteen is =
    let (pair, _, same) = contained v 16 width c (ap (λ b. int_container v b width) (sym sixteen) ∙ is) in
    let two : width ≡ 2 = grind (arith, nat_tests) in
    same ∙ ap (int_bytes v 16) two

-- what an Ok accepts of one value
one_taken : {M : Type 0} (w : WriterState M) (container : Result (List ℕ) Rejection) (bytes : List ℕ)
    → ((c : List ℕ) → container ≡ Ok c → c ≡ bytes)
    → AcceptAnswer (one container) w (Ok (tt {0}))
    → if_marked true (one container) ≡ bytes ∷ []
one_taken w (Ok c) bytes same answers = ap (λ (x : List ℕ). x ∷ []) (same c refl)
one_taken w (Err rejection) bytes same answers = cc

module _ {M : Type 0} (kind : Ghosts M) (modelled : IsTrue kind.tells) where
  -- values that were all Ok one by one
  each_went : (values : List ℤ) (old new : WriterState M) → old.spec_ex.spec.bits_per_sample ≡ 16
      → AcceptsEach kind int_container values old new
      → Went kind modelled (map (signed_bytes_of 2) values) old new
  each_went [] old new sixteen same =
      subst (Went kind modelled [] old) (sym same)
      (went_still kind modelled old old.batch_memory)
  each_went (v ∷ values) old new sixteen (mid, accepts, each) =
      let s = old.spec_ex in
      let container = int_container v s.spec.bits_per_sample s.bytes_per_sample in
      let first = call_went kind modelled (Ok tt) old.batch_memory old mid (write (one container)) accepts in
      let bytes = signed_bytes_of 2 v in
      went_then kind modelled (bytes ∷ []) (map (signed_bytes_of 2) values) old mid new
      (subst (λ l. Went kind modelled l old mid) (one_taken old container bytes
      (λ c. i16_container v s.spec.bits_per_sample s.bytes_per_sample c sixteen)
      accepts.adds.answers) first)
      (each_went values mid new (ap (λ x. x.spec.bits_per_sample) first.spec_ex ∙ sixteen) each)

  -- a batch, and its values one by one, from writers of one file
  pub same_samples : (values : List ℤ) (first a b c : WriterState M) → IsWhole kind.state first
      → first.spec_ex.spec.bits_per_sample ≡ 16 → first.spec_ex.bytes_per_sample ≡ 2
      → IsSameFile first a
      → Accepts kind
      (Ok (containers a.spec_ex.bytes_per_sample
      (length (i16_bytes values) / a.spec_ex.bytes_per_sample) (i16_bytes values))) (Ok tt) a b
      → AcceptsEach kind int_container values first c
      → (accepted_samples kind.state b ≡ accepted_samples kind.state c) × (data_length b ≡ data_length c)
  same_samples values first a b c whole sixteen two stays batch each =
      let bytes = i16_bytes values in
      let each_two = map (signed_bytes_of 2) values in
      let count : length bytes / 2 ≡ length each_two =
      omega (arith, ap length (joined values), length-concat 2 each_two (wide values)) in
      let width : a.spec_ex.bytes_per_sample ≡ 2 = ap (λ x. x.bytes_per_sample) stays.spec_ex ∙ two in
      let list = containers a.spec_ex.bytes_per_sample (length bytes / a.spec_ex.bytes_per_sample) bytes in
      let same : list ≡ each_two = (λ i. containers (width i) (length bytes / width i) bytes)
      ∙ (λ i. containers 2 (count i) ((joined values ∙ sym (append-nil (concat each_two))) i))
      ∙ containers-concat 2 each_two [] (wide values) in
      let t = went_then kind modelled [] list first a b
      (subst (Went kind modelled [] first) (same_but_memory first a stays)
      (went_still kind modelled first a.batch_memory))
      (call_went kind modelled (Ok tt) a.batch_memory a b (write (Ok list)) batch) in
      let l = each_went values first c sixteen each in (
        t.accepted whole ∙ ap (λ x. accepted_samples kind.state first ++ x) same ∙ sym (l.accepted whole),
        omega (arith, t.size, l.size, ap (λ x. length (concat x)) same),
      )
