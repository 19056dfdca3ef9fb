-- Samples of a block, and the same ones written one by one.
use Rattle.std.proofs.lemmas.Grind.{common_steps}
use Rattle.std.proofs.Common.{◌≡◌, ℕ, ◌+◌, IsTrue, List, [], ◌∷◌, ◌++◌, length, Result, Ok, Err, refl, rules, sym, ◌∙◌, ap, append_assoc, length-append, arith}
use Rattle.std.proofs.lemmas.List.{append-nil}
use Rattle.std.specs.List.{concat}
use Rattle.hound_medium.specs.{MediumState}
use Rattle.hound_sample.specs.{Rejection, and_more}
use Rattle.hound_writer.specs.Accepting.{Accepts, one, AcceptsEach, containers_in}
use Rattle.hound_writer.specs.Writer.{Ghosts, WriterState, IsWhole, accepted_samples, data_length}

-- a writer that accepted these containers, over a medium that has the accepted samples
pub record HasMore {W : Type 0} (state : W → MediumState) (list : List (List ℕ))
    (old new : WriterState W) : Type 0 where
  pub samples : accepted_samples state new ≡ accepted_samples state old ++ list
  pub size : data_length new ≡ data_length old + length (concat list)

-- an Ok accepted all containers of its call, which are there
pub all_accepted : {W : Type 0} (kind : Ghosts W)
    (asked : Result (List (List ℕ)) Rejection) (old new : WriterState W) → IsTrue kind.tells
    → IsWhole kind.state old → Accepts kind asked (Ok tt) old new
    → (list : List (List ℕ)) × (asked ≡ Ok list) × HasMore kind.state list old new
all_accepted kind asked old new modelled whole accepts = grind (arith, common_steps)

module _ {V W : Type 0} (kind : Ghosts W)
    (container : V → ℕ → ℕ → Result (List ℕ) Rejection) (modelled : IsTrue kind.tells) where
  -- all that were written one by one
  each_accepted : (values : List V) (old new : WriterState W) → IsWhole kind.state old
      → AcceptsEach kind container values old new
      → (list : List (List ℕ)) × (containers_in container old.spec_ex values ≡ Ok list)
      × HasMore kind.state list old new
  each_accepted [] old new whole same =
      let none = append-nil (accepted_samples kind.state old) in ([], refl, search rules)
  each_accepted (value ∷ values) old new whole (mid, accepts, each) =
      go (container value old.spec_ex.spec.bits_per_sample old.spec_ex.bytes_per_sample) refl accepts
      (each_accepted values mid new ((accepts.file modelled).whole whole) each)
    where
      go : (asked : Result (List ℕ) Rejection)
          → container value old.spec_ex.spec.bits_per_sample old.spec_ex.bytes_per_sample ≡ asked
          → Accepts kind (one asked) (Ok tt) old mid
          → (list : List (List ℕ)) × (containers_in container mid.spec_ex values ≡ Ok list)
          × HasMore kind.state list mid new
          → (list : List (List ℕ))
          × (containers_in container old.spec_ex (value ∷ values) ≡ Ok list)
          × HasMore kind.state list old new
      go (Err rejection) is accepts rest = let h = accepts.adds.answers in absurd (cc h)
      go (Ok c) is accepts (list, list_is, more) = (
        c ∷ list,
        (λ i. and_more (is i) ((ap (λ s. containers_in container s values) (sym accepts.adds.spec_ex) ∙ list_is) i)),
        let samples = append_assoc (accepted_samples kind.state old) (c ∷ []) list in
            let one = length-append c [] in
            let all = length-append c (concat list) in
            let accepted = (accepts.file modelled).accepted whole in
            search rules,
      )

  pub block_is_samples : (values : List V) (a b c : WriterState W) → IsWhole kind.state a
      → Accepts kind (containers_in container a.spec_ex values) (Ok tt) a b
      → AcceptsEach kind container values a c
      → (accepted_samples kind.state b ≡ accepted_samples kind.state c) × (data_length b ≡ data_length c)
  block_is_samples values a b c whole block each = grind (arith, common_steps, all_accepted, each_accepted)
