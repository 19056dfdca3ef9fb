-- Data as containers.
use Rattle.std.proofs.Common.{◌≡◌, ℕ, zero, suc, ◌+◌, ◌*◌, List, ◌∷◌, ◌++◌, length, take, drop, refl, sym, ◌∙◌, ap, arith}
use Rattle.std.proofs.lemmas.List.{take-take, drop-take, drop-drop}
use Rattle.hound_sample.specs.Container.{containers}

-- the same front has the same containers
pub containers_front : (width count : ℕ) (a b : List ℕ) → take (count * width) a ≡ take (count * width) b
    → containers width count a ≡ containers width count b
containers_front width zero a b same = refl
containers_front width (suc count) a b same =
    let e : suc count * width ≡ width + count * width = omega arith in
    let all : take (width + count * width) a ≡ take (width + count * width) b =
    ap (λ n. take n a) (sym e) ∙ same ∙ ap (λ n. take n b) e in
    let first : take width a ≡ take width b =
    sym (take-take width (width + count * width) a (omega arith)) ∙ ap (take width) all
    ∙ take-take width (width + count * width) b (omega arith) in
    let rest : take (count * width) (drop width a) ≡ take (count * width) (drop width b) =
    sym (drop-take width (count * width) a) ∙ ap (drop width) all ∙ drop-take width (count * width) b in
    λ i. first i ∷ containers_front width count (drop width a) (drop width b) rest i

-- more whole containers than one
pub containers_append : (w few more : ℕ) (bytes : List ℕ)
    → containers w (few + more) bytes ≡ containers w few bytes ++ containers w more
    (drop (few * w) bytes)
containers_append w zero more bytes =
    λ i. containers w (let e : 0 + more ≡ more = omega arith in e i)
    (drop (let e : 0 ≡ 0 * w = omega arith in e i) bytes)
containers_append w (suc few) more bytes =
    ap (λ n. containers w n bytes) (let e : suc few + more ≡ suc (few + more) = omega arith in e)
    ∙ ap (λ (l : List (List ℕ)). take w bytes ∷ l)
    (containers_append w few more (drop w bytes) ∙ ap (λ l. containers w few (drop w bytes) ++ containers w more l)
    (drop-drop (few * w) w bytes
    ∙ ap (λ n. drop n bytes) (let e : w + few * w ≡ suc few * w = omega arith in e)))

pub length-containers : (width count : ℕ) (bytes : List ℕ) → length (containers width count bytes) ≡ count
length-containers width zero bytes = refl
length-containers width (suc count) bytes =
    ap suc (length-containers width count (drop width bytes))
