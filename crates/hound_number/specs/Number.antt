-- Numbers as bytes, the low byte first (RIFF: "all numbers are little-endian").
use Rattle.std.specs.Prelude.{ℕ, ℤ, pos, negsuc, zero, suc, ◌+◌, ◌-◌, ◌-ℤ◌, ◌*◌, ◌/◌, ◌%◌, ◌^◌, ◌<◌, List, [], ◌∷◌, ◌++◌, length, take, drop, slice_index, nat_lt, if◌then◌else◌}

-- the number of these bytes: the sum of each times its power of 256
abbrev pub number : List ℕ → ℕ
number [] = 0
number (b ∷ bytes) = b + 256 * number bytes

-- the k low bytes of a number
abbrev pub bytes_of : ℕ → ℕ → List ℕ
bytes_of zero n = []
bytes_of (suc k) n = n % 256 ∷ bytes_of k (n / 256)

-- a number of four bytes half overwritten by another: the k low bytes of new, and the other bytes of old
abbrev pub mix : ℕ → ℕ → ℕ → ℕ
mix k old new = number (take k (bytes_of 4 new) ++ drop k (bytes_of 4 old))

-- two's complement in k bytes: a negative number counts from 256 ^ k downwards
abbrev pub twos_complement : ℕ → ℤ → ℕ
twos_complement k (pos n) = n
twos_complement k (negsuc n) = 256 ^ k - (n + 1)

-- the k bytes of a signed number
abbrev pub signed_bytes_of : ℕ → ℤ → List ℕ
signed_bytes_of k z = bytes_of k (twos_complement k z)

-- the signed number of k bytes: negative from half of 256 ^ k on
abbrev pub signed_of : ℕ → ℕ → ℤ
signed_of k n = if nat_lt (2 * n) (256 ^ k) then pos n else (pos n -ℤ pos (256 ^ k))

abbrev pub signed_number : List ℕ → ℤ
signed_number bytes = signed_of (length bytes) (number bytes)

-- each is below 256
abbrev pub AreBytes : List ℕ → Type 0
AreBytes bytes = (i : ℕ) → slice_index bytes i < 256
