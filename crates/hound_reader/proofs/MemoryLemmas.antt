-- Samples that were decoded of bytes in memory, as samples that were read of them.
use Rattle.std.proofs.lemmas.Grind.{common_steps}
use Rattle.std.proofs.Common.{◌≡◌, ℕ, min, ◌+◌, ◌*◌, ◌/◌, ◌<◌, ◌≤◌, List, [], ◌∷◌, ◌++◌, map, length, take, drop, sym, ap, ◌∙◌, subst, arith, Option, None, Some, Result, Ok, Err}
use Rattle.std.specs.Prelude.{IfErr}
use Rattle.std.proofs.lemmas.List.{length-map, length-take-le, take-append-drop, take-take, take_at}
use Rattle.std.specs.IoError.{error_kind}
use Rattle.std.specs.declared.io.Error.{Error as IoFault}
use Rattle.std.specs.declared.io.ErrorKind.TheVariants.{Other}
use Rattle.hound_sample.proofs.Containers.{containers_front, length-containers}
use Rattle.hound_sample.proofs.Many.{containers_read, part_read}
use Rattle.hound_sample.specs.{ReadRejection, ReadsEach, answer_of, containers, read_error}
use Rattle.hound_sample.specs.declared.item.SampleError.{SampleError}
use Rattle.hound_sample.specs.declared.item.SampleError.TheVariants.{Failed}
use Rattle.hound_spec.specs.declared.spec.SampleFormat.{SampleFormat}
use Rattle.hound_spec.specs.declared.spec.WavSpecEx.{WavSpecEx}
use Rattle.hound_reader.specs.Blocks.{IsCauseOf, IsCutAfter, IsReasonOf}
use Rattle.hound_reader.specs.Reader.{rejection_at}
use Rattle.hound_spec.specs.declared.error.Error.TheVariants.{IoError}

-- a type whose check is Ok reads the samples
no_rejection : (rejection : Option ReadRejection) → Ok tt ≡ read_error rejection → rejection ≡ None
no_rejection rejection is = grind (arith, common_steps)

-- where a type reads the samples, no more of them came since the bytes end
pub reason_is_cut : (rejection : SampleFormat → ℕ → ℕ → Option ReadRejection) (s : WavSpecEx) (count : ℕ)
    (bytes : List ℕ) (reason : SampleError) → Ok tt ≡ read_error (rejection_at rejection s)
    → IsReasonOf rejection s count bytes reason → (reason ≡ Failed) × IsCutAfter s count bytes
reason_is_cut rejection s count bytes reason checked why = grind (arith, common_steps)

-- and so for whatever ended a block
pub cause_of_end : (rejection : SampleFormat → ℕ → ℕ → Option ReadRejection) (s : WavSpecEx) (count : ℕ)
    (bytes : List ℕ) (answer : Result (Unit {0}) SampleError) (fault : IoFault) → error_kind fault ≡ Other
    → IfErr answer (IsReasonOf rejection s count bytes)
    → IfErr (answer_of answer fault) (IsCauseOf rejection s count bytes)
cause_of_end rejection s count bytes answer fault kind why = grind (arith, common_steps)

-- as many containers as are requested, or as there are, are whole
pub are_whole : (count room size width : ℕ) → count ≡ min room (size / width) → count * width ≤ size
are_whole count room size width is = grind (arith, common_steps)

-- where there are fewer than are requested, the next one is cut
pub next_is_cut : (count room size width : ℕ) → 1 ≤ width → count ≡ min room (size / width)
    → (count ≡ room → ⊥) → size < (count + 1) * width
next_is_cut count room size width some is fewer = grind (arith, common_steps)

module _ {A : Type 0} (meaning : List ℕ → A) (width count : ℕ) (bytes : List ℕ)
    (whole : count * width ≤ length bytes) where
  -- a front of whole containers has these containers
  front_has : containers width count (take (count * width) bytes) ≡ containers width count bytes
  front_has = grind (arith, common_steps, take-take, containers_front)

  -- samples that were decoded into the front of a slice
  pub front_decoded : (xs values : List A) → count ≤ length xs
      → values ≡ map meaning (containers width (length (take count xs)) (take (count * width) bytes))
      → take count (values ++ drop count xs) ≡ map meaning (containers width count bytes)
  front_decoded xs values fits is =
      grind (arith, common_steps, length-map, length-take-le, take_at, length-containers, front_has)

  module _ (values : List A) (is : values ≡ map meaning (containers width count bytes)) where
    -- they are as many as the containers
    pub are_long : length values ≡ count
    are_long = ap length is ∙ length-map (containers width count bytes) meaning ∙ length-containers width count bytes

    -- they are the first samples
    pub are_first : (length values * width ≤ length bytes)
        × (values ≡ map meaning (containers width (length values) bytes))
    are_first = (
      omega (arith, ap (λ n. n * width) are_long, whole),
      is ∙ ap (λ n. map meaning (containers width n bytes)) (sym are_long),
    )

    module _ (rejection : Option ReadRejection) (checked : Ok tt ≡ read_error rejection) (rest : List ℕ) where
      -- and they were read, one after the other
      pub are_read : 1 ≤ count → rest ≡ drop (count * width) bytes
          → ReadsEach rejection meaning width (map Ok values) (Some bytes) (Some rest)
      are_read some left =
          subst (λ r. ReadsEach r meaning width (map Ok values) (Some bytes) (Some rest))
          (sym (no_rejection rejection checked))
          (subst (λ items. ReadsEach None meaning width items (Some bytes) (Some rest))
          (ap (map Ok) (ap (map meaning) front_has ∙ sym is))
          (containers_read meaning width count (take (count * width) bytes) (Some bytes) (Some rest) some
          (length-take-le (count * width) bytes whole)
          (sym (take-append-drop (count * width) bytes) ∙ ap (λ l. take (count * width) bytes ++ l) (sym left))))

      -- and then a part of the next container was taken
      pub are_read_before_part : (fault : IoFault) (taken : ℕ) → taken ≤ length bytes → count * width ≤ taken
          → taken < (count + 1) * width → rest ≡ drop taken bytes
          → ReadsEach rejection meaning width (map Ok values ++ (Err (IoError fault) ∷ [])) (Some bytes) (Some rest)
      are_read_before_part fault taken within enough cut left =
          let size = length-take-le taken bytes within in
          let same : containers width count (take taken bytes) ≡ containers width count bytes =
          containers_front width count (take taken bytes) bytes (take-take (count * width) taken bytes enough) in
          subst (λ r. ReadsEach r meaning width (map Ok values ++ (Err (IoError fault) ∷ [])) (Some bytes) (Some rest))
          (sym (no_rejection rejection checked))
          (subst (λ items. ReadsEach None meaning width (map Ok items ++ (Err (IoError fault) ∷ [])) (Some bytes)
          (Some rest))
          (ap (map meaning) same ∙ sym is)
          (part_read meaning width count (take taken bytes) (Some bytes) (Some rest) fault (omega (arith, enough, size))
          (omega (arith, cut, size))
          (sym (take-append-drop taken bytes) ∙ ap (λ l. take taken bytes ++ l) (sym left))))
