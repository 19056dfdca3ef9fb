-- What is written is read back.
use Rattle.std.proofs.lemmas.Grind.{common_steps}
use Rattle.std.proofs.Common.{◌≡◌, ℕ, zero, suc, ◌/◌, ◌^◌, ◌<◌, List, ◌++◌, arith}
use Rattle.hound_number.specs.{number, bytes_of}
use Rattle.hound_spec.specs.Header.{FmtFields, fmt_bytes, fmt_fields}

-- the number of the bytes of a number
pub number-bytes_of : (k n : ℕ) → n < 256 ^ k → number (bytes_of k n) ≡ n
number-bytes_of zero n h = omega (arith, h)
number-bytes_of (suc k) n h = let less : n / 256 < 256 ^ k = omega (arith, h) in
    omega (arith, number-bytes_of k (n / 256) less)

-- Numbers that fit in these bytes.
pub record FieldsFit (f : FmtFields) : Type 0 where
  pub tag : f.tag < 256 ^ 2
  pub channels : f.channels < 256 ^ 2
  pub rate : f.rate < 256 ^ 4
  pub byte_rate : f.byte_rate < 256 ^ 4
  pub align : f.align < 256 ^ 2
  pub bits : f.bits < 256 ^ 2

-- what is written is read back, whatever comes after it
pub fields_written : (f : FmtFields) (rest : List ℕ) → FieldsFit f → fmt_fields (fmt_bytes f ++ rest) ≡ f
fields_written f rest fit = grind (arith, common_steps)
