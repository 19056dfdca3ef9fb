-- What a head is found as, by what the file holds.
use Rattle.std.proofs.Common.{◌≡◌, ℕ, true, false, Some}
use Rattle.hound_spec.specs.declared.spec.WavSpecEx.{WavSpecEx}
use Rattle.hound_spec.specs.{is_pair}
use Rattle.hound_walk.specs.declared.cause.Cause.TheVariants.{Unsupported}
use Rattle.hound_writer.specs.{by_bytes}
use Rattle.hound_repair.specs.Repairing.{repair_fault, size_fault}

-- a spec that is written leaves the check of the size
pub written : (s : WavSpecEx) (len start n : ℕ)
    → is_pair s.spec.sample_format s.spec.bits_per_sample s.bytes_per_sample ≡ true
    → repair_fault s len start n ≡ size_fault s len start n
unfolding repair_fault
written s len start n pair = rw pair

-- one that isn't has its error
pub not_written : (s : WavSpecEx) (len start n : ℕ)
    → is_pair s.spec.sample_format s.spec.bits_per_sample s.bytes_per_sample ≡ false
    → repair_fault s len start n ≡ Some (by_bytes Unsupported)
unfolding repair_fault
not_written s len start n pair = rw pair
