-- Integers that are read from their containers.
use Rattle.std.proofs.lemmas.Grind.{common_steps}
use Rattle.std.proofs.Common.{◌≡◌, ℕ, zero, suc, ℤ, pos, negsuc, ◌+◌, ◌-◌, ◌*◌, ◌^◌, ◌<◌, ◌≤◌, ◌-ℤ◌, true, List, None, Ok, IsTrue, refl, ◌∙◌, ap, arith, rules}
use Rattle.std.proofs.lemmas.Bool.{ltb-true, lt-ltb}
use Rattle.hound_number.specs.{number, bytes_of, signed_of, signed_number, signed_bytes_of}
use Rattle.hound_number.proofs.Mixing.{length-bytes_of}
use Rattle.hound_spec.proofs.FmtLemmas.{number-bytes_of}
use Rattle.hound_spec.proofs.WritableLemmas.{of_pair}
use Rattle.hound_spec.specs.declared.spec.SampleFormat.TheVariants.{Int}
use Rattle.hound_sample.specs.Container.{fits, int_bytes, int_container, offset_byte}
use Rattle.hound_sample.specs.ContainerLaws.{contained}
use Rattle.hound_sample.specs.Reading.{int_meaning, int_rejection}

-- a number below half of the range is itself
signed_of-pos : (k n : ℕ) → 2 * n < 256 ^ k → signed_of k n ≡ pos n
signed_of-pos k n h = rw (lt-ltb (2 * n) (256 ^ k) h) refl

-- a number less a larger one
minus : (a p n : ℕ) → a + (n + 1) ≡ p → pos a -ℤ pos p ≡ negsuc n
minus a zero n e = absurd (omega (arith, e))
minus a (suc p) n e = let less : a < suc p = omega (arith, e) in
    rw (lt-ltb a (suc p) less) (ap negsuc (omega (arith, e)))

-- a number from half of the range on counts from its end downwards
signed_of-negsuc : (k n : ℕ) → 2 * (n + 1) ≤ 256 ^ k → signed_of k (256 ^ k - (n + 1)) ≡ negsuc n
signed_of-negsuc k n h = grind (arith, common_steps)

-- whole bytes of signed bits
signed_back : (k bits : ℕ) (v : ℤ) → 2 * 2 ^ (bits - 1) ≡ 256 ^ k → IsTrue (fits bits v)
    → signed_number (signed_bytes_of k v) ≡ v
signed_back k bits (pos n) whole h =
    let few : n < 2 ^ (bits - 1) = ltb-true n (2 ^ (bits - 1)) h in
    (λ i. signed_of (length-bytes_of k n i) (number-bytes_of k n (omega (arith, few, whole)) i))
    ∙ signed_of-pos k n (omega (arith, few, whole))
signed_back k bits (negsuc n) whole h =
    let few : n < 2 ^ (bits - 1) = ltb-true n (2 ^ (bits - 1)) h in
    let m = 256 ^ k - (n + 1) in
    (λ i. signed_of (length-bytes_of k m i) (number-bytes_of k m (omega (arith, few, whole)) i))
    ∙ signed_of-negsuc k n (omega (arith, few, whole))

-- the unsigned byte of a number of eight bits means that number
offset_back : (v : ℤ) → fits 8 v ≡ true → int_meaning 1 8 (offset_byte v) ≡ v
offset_back (pos n) h =
    let few : n < 128 = ltb-true n 128 h in
    let e : number (bytes_of 1 (128 + n)) ≡ 128 + n = omega (arith, few) in
    ap (λ x. pos x -ℤ pos 128) e ∙ search rules
offset_back (negsuc n) h =
    let few : n < 128 = ltb-true n 128 h in
    let e : number (bytes_of 1 (127 - n)) ≡ 127 - n = omega (arith, few) in
    ap (λ x. pos x -ℤ pos 128) e ∙ minus (127 - n) 128 n (omega (arith, few))

-- samples of the bits and bytes of every container are read as 32 bits
pub integers_taken : (v : ℤ) (bits width : ℕ) (c : List ℕ) → int_container v bits width ≡ Ok c
    → int_rejection 4 Int width bits ≡ None
integers_taken v bits width c is =
    of_pair (λ b w. int_rejection 4 Int w b ≡ None) Int bits width
    (refl, (refl, (refl, (refl, (refl, tt))))) (contained v bits width c is).0

-- the number of every container is the one it was made from
pub integers_same : (v : ℤ) (bits width : ℕ) (c : List ℕ) → int_container v bits width ≡ Ok c
    → int_meaning width bits c ≡ v
integers_same v bits width c is =
    let (pair, fit, same) = contained v bits width c is in
    ap (int_meaning width bits) same
    ∙ of_pair (λ b w. IsTrue (fits b v) → int_meaning w b (int_bytes v b w) ≡ v) Int bits width (
      offset_back v,
      (
        signed_back 2 16 v refl,
        (signed_back 3 24 v refl, (signed_back 3 24 v refl, (signed_back 4 32 v refl, tt))),
      ),
    ) pair
    fit
