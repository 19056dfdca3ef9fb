-- Data as containers.
use Rattle.std.proofs.lemmas.Grind.{common_steps}
use Rattle.std.proofs.Common.{◌≡◌, ℕ, zero, suc, ◌+◌, ◌*◌, ◌/◌, ◌%◌, ◌≤◌, List, [], ◌∷◌, ◌++◌, length, take, drop, refl, sym, ◌∙◌, ap, arith}
use Rattle.std.proofs.lemmas.List.{take-take, take_all, take-append-le, drop_at}
use Rattle.std.proofs.lemmas.Nat.{div-add-mod'}
use Rattle.std.proofs.Math.Nat.{add-mod, div_self, mod_self, mul-add-div_right}
use Rattle.std.proofs.Math.Seq.{take-add}
use Rattle.std.specs.List.{concat}
use Rattle.hound_sample.specs.{containers}
pub use Rattle.hound_sample.proofs.Containers.{containers_append, containers_front}
pub use Rattle.std.proofs.Math.Nat.{zero-mod as none_whole, zero-div as zero_div}

-- the containers joined are the bytes
pub concat-containers : (width count : ℕ) (bytes : List ℕ)
    → concat (containers width count bytes) ≡ take (count * width) bytes
concat-containers width zero bytes =
    ap (λ n. take n bytes) (let e : 0 ≡ 0 * width = omega arith in e)
concat-containers width (suc count) bytes =
    ap (λ l. take width bytes ++ l) (concat-containers width count (drop width bytes))
    ∙ sym (take-add width (count * width) bytes)
    ∙ ap (λ n. take n bytes) (let e : width + count * width ≡ suc count * width = omega arith in e)

-- whole containers: as many bytes as their count says
pub count_bytes : (n width : ℕ) → n % width ≡ 0 → n / width * width ≡ n
count_bytes n width whole = omega (arith, div-add-mod' n width, whole)

pub whole_more : (n more width : ℕ) → n % width ≡ 0 → more % width ≡ 0 → (n + more) % width ≡ 0
whole_more n more width whole then = grind (arith, common_steps, add-mod, none_whole)

-- the bytes of one container are whole
pub one_whole : (width n : ℕ) → n ≡ width → n % width ≡ 0
one_whole width n is = ap (λ k. k % width) is ∙ mod_self width

-- the count of whole containers of two parts
pub count_append : (n more width : ℕ) → 1 ≤ width → n % width ≡ 0 → (n + more) / width ≡ n / width + more / width
count_append n more width some whole =
    ap (λ k. k / width)
    (let e : n + more ≡ n / width * width + more = omega
    (arith, count_bytes n width whole) in e) ∙ mul-add-div_right some (n / width) more

-- fewer containers are the first ones
pub containers_first : (width few count : ℕ) (bytes : List ℕ) → few ≤ count
    → containers width few bytes ≡ take few (containers width count bytes)
containers_first width zero count bytes le = refl
containers_first width (suc few) zero bytes le = absurd (omega (arith, le))
containers_first width (suc few) (suc count) bytes le =
    ap (λ (l : List (List ℕ)). take width bytes ∷ l)
    (containers_first width few count (drop width bytes) (omega (arith, le)))

-- data that end where the containers do have the same ones
pub containers_cut : (n width : ℕ) (bytes : List ℕ) → n % width ≡ 0
    → containers width (n / width) (take n bytes) ≡ containers width (n / width) bytes
containers_cut n width bytes whole = grind (arith, common_steps, take-take, containers_front, count_bytes)

-- bytes of one container are that container
pub container_alone : (width : ℕ) (bytes : List ℕ) → 1 ≤ width → length bytes ≡ width
    → containers width (length bytes / width) bytes ≡ bytes ∷ []
container_alone width bytes some is = grind (arith, common_steps, div_self, take_all)

-- whole containers of two lists of bytes, one after the other
pub containers_join : (width : ℕ) (a b : List ℕ) → 1 ≤ width → length a % width ≡ 0
    → containers width ((length a + length b) / width) (a ++ b) ≡ containers width
    (length a / width) a ++ containers width (length b / width) b
containers_join width a b some whole =
    let few = length a / width in
    let size : few * width ≡ length a = count_bytes (length a) width whole in
    let front : take (few * width) (a ++ b) ≡ take (few * width) a =
    take-append-le (few * width) a b (omega (arith, size)) in
    ap (λ n. containers width n (a ++ b)) (count_append (length a) (length b) width some whole)
    ∙ containers_append width few (length b / width) (a ++ b)
    ∙ (λ i. containers_front width few (a ++ b) a front i ++ containers width (length b / width)
    (drop_at a b (few * width) (sym size) i))

-- the joined containers of whole samples are their bytes
pub joined_bytes : (width : ℕ) (bytes : List ℕ) → length bytes % width ≡ 0
    → concat (containers width (length bytes / width) bytes) ≡ bytes
joined_bytes width bytes whole = grind (arith, common_steps, concat-containers, take_all, count_bytes)
