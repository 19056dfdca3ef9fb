-- Samples that are checked.
use Rattle.std.proofs.Common.{◌≡◌, ℕ, List, Result, Ok, Err, inl, inr, refl}
use Rattle.std.specs.Result.{IsOk}
use Rattle.hound_spec.specs.{IsWritable}
use Rattle.hound_spec.specs.declared.spec.SampleFormat.{SampleFormat}
use Rattle.hound_spec.specs.declared.spec.WavSpecEx.{WavSpecEx}
use Rattle.hound_sample.specs.{Rejection}
use Rattle.hound_slices.specs.Writing.{IsEncodeError, IsRejectedBy, IsUnencoded, IsWriteError}
use Rattle.hound_slices.specs.declared.error.CallError.{CallError}
use Rattle.hound_slices.specs.declared.error.CallError.TheVariants.{OtherFormat, TooWide, NotWritable}

-- samples that pass it have containers
pub passed : {T : Type 0} (all : Result T Rejection) → IsOk all → (list : T) × (all ≡ Ok list)
passed (Ok list) is = (list, refl)
passed (Err why) is = absurd (cc is)

-- why they don't pass it is why they are not encoded, written or appended
module _ {V : Type 0} (format : SampleFormat) (container : V → ℕ → ℕ → Result (List ℕ) Rejection)
    (s : WavSpecEx) (values : List V) where
  pub not_encoded : (room : ℕ) (error : CallError) → IsUnencoded format container s values error
      → IsEncodeError format container s values room error
  not_encoded room OtherFormat why = why
  not_encoded room NotWritable why = why
  not_encoded room TooWide why = why
  not_encoded room _ why = absurd why

  pub not_written : (room : ℕ) (error : CallError) → IsUnencoded format container s values error
      → IsWriteError format container s values room error
  not_written room OtherFormat why = why
  not_written room NotWritable (inl no_pair) = inl (λ (is : IsWritable s). no_pair is.pair)
  not_written room NotWritable (inr none) = inr none
  not_written room TooWide why = why
  not_written room _ why = absurd why

  pub not_appended : (samples start used room : ℕ) (error : CallError) → IsUnencoded format container s values error
      → IsRejectedBy format container s samples start values used room error
  not_appended samples start used room OtherFormat why = why
  not_appended samples start used room NotWritable why = why
  not_appended samples start used room TooWide why = why
  not_appended samples start used room _ why = absurd why
