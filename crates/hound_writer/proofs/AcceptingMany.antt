-- Many samples that a writer shall accept, by the bytes of their containers.
use Rattle.std.proofs.lemmas.Grind.{common_steps}
use Rattle.std.proofs.Common.{◌≡◌, ℕ, ◌*◌, ◌/◌, ◌%◌, ◌≤◌, ◌<◌, Bool, List, [], length, Result, Ok, Err, IsOk, refl, sym, subst, ◌∙◌, ap, arith}
use Rattle.std.proofs.lemmas.List.{append-nil}
use Rattle.std.proofs.Math.Nat.{mul-div_cancel_left, mul-le-mul_right, mul-mod_right}
use Rattle.std.specs.List.{concat}
use Rattle.std.specs.declared.io.Error.{Error as IoFault}
use Rattle.hound_medium.specs.{overlay, WhereKeeps, WhereTells}
use Rattle.hound_sample.specs.{Rejection, answer_of, containers, first_reason}
use Rattle.hound_sample.specs.declared.item.SampleError.{SampleError}
use Rattle.hound_spec.specs.declared.error.Error.{Error}
use Rattle.hound_spec.specs.declared.error.Error.TheVariants.{TooLong}
use Rattle.hound_spec.specs.declared.spec.WavSpecEx.{WavSpecEx}
use Rattle.hound_spec.specs.{greatest_u32}
use Rattle.hound_writer.specs.Accepting.{AcceptsBytes, whole_containers, Accepts, containers_in, sample_bytes}
use Rattle.hound_writer.specs.Parts.{IsConsistent}
use Rattle.hound_writer.specs.Writer.{Ghosts, WriterState, HasRoom, IsCounted, IsWhole}
use Rattle.hound_writer.proofs.Accepting.{type_rejects}
use Rattle.hound_sample.proofs.Joined.{joined, joined_size}
use Rattle.hound_sample.proofs.Reading.{same_error}
use Rattle.hound_writer.proofs.Samples.{valid_of}
use Rattle.hound_writer.proofs.Writing.{bytes_too_long}

-- values of a type with this table, whose containers have the requested number of bytes
module _ {V : Type 0} (container : V → ℕ → ℕ → Result (List ℕ) Rejection)
    (sized : (v : V) (bits width : ℕ) (c : List ℕ) → container v bits width ≡ Ok c
    → (length c ≡ width) × (1 ≤ width) × (width ≤ 4)) (values : List V) where
  -- in a file of this spec they have these bytes, whole containers, for which there is room
  pub record Fit {W : Type 0} (w : WriterState W) : Type 0 where
    pub size : length (sample_bytes container w.spec_ex values) ≡ w.spec_ex.bytes_per_sample * length values
    pub whole : length (sample_bytes container w.spec_ex values) % w.spec_ex.bytes_per_sample ≡ 0
    pub room : HasRoom w (length (sample_bytes container w.spec_ex values))

  pub size_of : (s : WavSpecEx) → IsOk (containers_in container s values)
      → length (sample_bytes container s values) ≡ s.bytes_per_sample * length values
  size_of s have = grind (arith, common_steps, joined_size)

  pub fit : {W : Type 0} (w : WriterState W) → IsOk (containers_in container w.spec_ex values)
      → HasRoom w (w.spec_ex.bytes_per_sample * length values) → Fit w
  fit w have room = grind (arith, common_steps, size_of, mul-mod_right)

  -- a call for their bytes
  abbrev pub AcceptsAll : {W : Type 0} → Ghosts W → Result (Unit {0}) Error → WriterState W → WriterState W → Type 0
  AcceptsAll kind answer w new =
      AcceptsBytes kind (sample_bytes container w.spec_ex values) answer w new

  -- these containers are those of the samples
  pub asked_is : (s : WavSpecEx) → 1 ≤ s.bytes_per_sample → IsOk (containers_in container s values)
      → whole_containers s (sample_bytes container s values) ≡ containers_in container s values
  asked_is s some have =
      go (containers_in container s values) refl have
    where
      go : (all : Result (List (List ℕ)) Rejection) → containers_in container s values ≡ all → IsOk all
          → whole_containers s (sample_bytes container s values) ≡ containers_in container s values
      go (Err rejection) is none = cc
      go (Ok list) is one =
          let all = joined (λ v. container v s.spec.bits_per_sample s.bytes_per_sample) s.bytes_per_sample
          (λ v c has. (sized v s.spec.bits_per_sample s.bytes_per_sample c has).0) values list is in
          let count : length (sample_bytes container s values) / s.bytes_per_sample ≡ length list =
          ap (λ n. n / s.bytes_per_sample) all.size ∙ mul-div_cancel_left (length values) some ∙ sym all.count in
          ap Ok ((λ i. containers s.bytes_per_sample (count i)
          ((all.bytes ∙ sym (append-nil (concat list))) i)) ∙ all.back [])
          ∙ sym is

  -- a writer, and what it keeps true
  module _ {W : Type 0} (kind : Ghosts W) (moved : Bool) (limit : ℕ)
      (w : WriterState W) (known : IsConsistent kind w moved limit) where
    pub many_asked : (answer : Result (Unit {0}) Error) (new : WriterState W)
        → IsOk (containers_in container w.spec_ex values)
        → AcceptsAll kind answer w new
        → Accepts kind (containers_in container w.spec_ex values) answer w new
    many_asked answer new have = grind (arith, common_steps, asked_is)

    module _ (replays : WhereKeeps kind.tells kind.keeps
        ((kind.state w.medium).contents ≡ overlay (kind.state w.medium).start (kind.state w.medium).past)) where
      counts : WhereTells kind.tells (IsWhole kind.state w → IsCounted kind.state w)
      counts = (valid_of kind moved limit w known).counts

      -- one of them has no container
      pub many_rejected : (outcome : Result (Unit {0}) SampleError) (fault : IoFault)
          → outcome ≡ first_reason (containers_in container w.spec_ex values)
          → (IsOk (containers_in container w.spec_ex values) → ⊥)
          → Accepts kind (containers_in container w.spec_ex values) (answer_of outcome fault) w w
      many_rejected outcome fault is none = rw is (go (containers_in container w.spec_ex values) none)
        where
          go : (asked : Result (List (List ℕ)) Rejection) → (IsOk asked → ⊥)
              → Accepts kind asked (answer_of (first_reason asked) fault) w w
          go (Ok list) none = absurd (none refl)
          go (Err rejection) none = rw (same_error rejection fault) (type_rejects kind w rejection counts replays)

      -- the file has no room for all of them
      pub many_too_long : IsOk (containers_in container w.spec_ex values)
          → (HasRoom w (length values * w.spec_ex.bytes_per_sample) → ⊥)
          → Accepts kind (containers_in container w.spec_ex values)
          (Err TooLong) w w
      many_too_long have none =
          let size = size_of w.spec_ex have in
          let long : length (sample_bytes container w.spec_ex values) ≡ length values * w.spec_ex.bytes_per_sample =
          omega (arith, size) in
          many_asked (Err TooLong) w have
          (bytes_too_long kind w (sample_bytes container w.spec_ex values) counts replays
          (ap (λ n. n % w.spec_ex.bytes_per_sample) size ∙ mul-mod_right w.spec_ex.bytes_per_sample (length values))
          (λ room. none (subst (HasRoom w) long room)))

      -- a sample takes a byte at least
      pub too_many : IsOk (containers_in container w.spec_ex values) → greatest_u32 < length values
          → Accepts kind (containers_in container w.spec_ex values)
          (Err TooLong) w w
      too_many have many =
          let wide : 1 * length values ≤ w.spec_ex.bytes_per_sample * length values =
          mul-le-mul_right (length values) known.sound.width in
          many_too_long have (λ room. omega (arith, many, room, wide))
