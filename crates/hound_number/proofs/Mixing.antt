-- Numbers of four bytes, and one that overwrites another, byte after byte, the low one first.
use Rattle.std.proofs.Common.{◌≡◌, ℕ, zero, suc, ◌+◌, ◌*◌, ◌/◌, ◌%◌, ◌^◌, ◌<◌, ◌≤◌, List, [], ◌∷◌, ◌++◌, length, take, drop, refl, ◌∙◌, ap, arith}
use Rattle.hound_number.specs.Number.{bytes_of, number, mix, AreBytes}

pub length-bytes_of : (k n : ℕ) → length (bytes_of k n) ≡ k
length-bytes_of zero n = refl
length-bytes_of (suc k) n = ap suc (length-bytes_of k (n / 256))

-- bytes are the bytes of their number
pub bytes_of-number : (bytes : List ℕ) → AreBytes bytes → bytes_of (length bytes) (number bytes) ≡ bytes
bytes_of-number [] small = refl
bytes_of-number (b ∷ bytes) small =
    let low : b < 256 = small 0 in
    let here : (b + 256 * number bytes) % 256 ≡ b = omega arith in
    let there : (b + 256 * number bytes) / 256 ≡ number bytes = omega arith in
    (λ i. here i ∷ bytes_of (length bytes) (there i))
    ∙ ap (λ (l : List ℕ). b ∷ l) (bytes_of-number bytes (λ i. small (suc i)))

-- four bytes encode a number of 32 bits
pub number_small : (bytes : List ℕ) → length bytes ≡ 4 → AreBytes bytes → number bytes < 2 ^ 32
number_small (a ∷ b ∷ c ∷ d ∷ []) four small = omega (arith, small 0, small 1, small 2, small 3)
number_small [] four small = absurd (omega (arith, four))
number_small (a ∷ []) four small = absurd (omega (arith, four))
number_small (a ∷ b ∷ []) four small = absurd (omega (arith, four))
number_small (a ∷ b ∷ c ∷ []) four small = absurd (omega (arith, four))
number_small (a ∷ b ∷ c ∷ d ∷ e ∷ bytes) four small = absurd (omega (arith, four))

number_le : (k n : ℕ) → number (bytes_of k n) ≤ n
number_le zero n = omega arith
number_le (suc k) n = omega (arith, number_le k (n / 256))

-- the low bytes of a number, and the other ones of a smaller number
mix_le_of : (k m old new : ℕ) → old ≤ new → number (take k (bytes_of m new) ++ drop k (bytes_of m old)) ≤ new
mix_le_of zero m old new h = omega (arith, h, number_le m old)
mix_le_of (suc k) zero old new h = omega arith
mix_le_of (suc k) (suc m) old new h =
    omega (arith, h, mix_le_of k m (old / 256) (new / 256) (omega (arith, h)))

-- over a smaller number: no intermediate state is more than the new one
pub mix_le : (k old new : ℕ) → old ≤ new → mix k old new ≤ new
mix_le k old new h = mix_le_of k 4 old new h

-- before the first byte
pub mix_none : (old new : ℕ) → old < 2 ^ 32 → mix 0 old new ≡ old
mix_none old new small = omega (arith, small)

-- after the last
pub mix_all : (old new : ℕ) → new < 2 ^ 32 → mix 4 old new ≡ new
mix_all old new small = omega (arith, small)
