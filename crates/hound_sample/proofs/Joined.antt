-- The containers of many samples.
use Rattle.std.proofs.Common.{◌≡◌, ℕ, zero, suc, ◌+◌, ◌*◌, ◌<◌, ◌≤◌, Bool, true, false, ◌&&◌, List, [], ◌∷◌, ◌++◌, length, take, drop, get_or, Result, Ok, Err, IsOk, is_ok, refl, sym, ◌∙◌, ap, subst, arith, length-append, append_assoc, replicate, ◌-◌}
use Rattle.std.proofs.lemmas.List.{drop_at, take_at, length-take-le, take-append-drop}
use Rattle.std.proofs.lemmas.Grind.{flat_map-append, common_steps}
use Rattle.std.proofs.Math.Bool.{and_assoc}
use Rattle.std.specs.List.{concat, AllByRecursion}
use Rattle.hound_spec.specs.declared.error.Error.{Error}
use Rattle.hound_sample.specs.Container.{Rejection, containers, IsEncoded, error_of, all_containers, and_more, bytes_in, joined_containers}
use Rattle.hound_sample.specs.Reading.{first_reason, reason_of}

-- there is a list if both results are Ok
and_more-ok : (first : Result (List ℕ) Rejection) (more : Result (List (List ℕ)) Rejection)
    → is_ok (and_more first more) ≡ (is_ok first && is_ok more)
and_more-ok (Err rejection) more = refl
and_more-ok (Ok container) (Err rejection) = refl
and_more-ok (Ok container) (Ok list) = refl

and-true : (b : Bool) → (b && true) ≡ b
and-true true = refl
and-true false = refl

pub head_ok : (first : Result (List ℕ) Rejection) (more : Result (List (List ℕ)) Rejection)
    → IsOk (and_more first more) → IsOk first
head_ok (Err rejection) more have = cc
head_ok (Ok container) more have = refl

pub tail_ok : (first : Result (List ℕ) Rejection) (more : Result (List (List ℕ)) Rejection)
    → IsOk (and_more first more) → IsOk more
tail_ok (Err rejection) more have = cc
tail_ok (Ok container) (Err rejection) have = cc
tail_ok (Ok container) (Ok list) have = refl

both_ok : (first : Result (List ℕ) Rejection) (more : Result (List (List ℕ)) Rejection)
    → IsOk first → IsOk more → IsOk (and_more first more)
both_ok (Err rejection) more one rest = cc
both_ok (Ok container) (Err rejection) one rest = cc
both_ok (Ok container) (Ok list) one rest = refl

module _ {V : Type 0} (container : V → Result (List ℕ) Rejection) where
  -- whether values have containers, and one after them
  pub ok_append : (values : List V) (value : V) → is_ok (all_containers container (values ++ value ∷ []))
      ≡ (is_ok (all_containers container values) && is_ok (container value))
  ok_append [] value = and_more-ok (container value) (Ok []) ∙ and-true (is_ok (container value))
  ok_append (first ∷ values) value =
      and_more-ok (container first) (all_containers container (values ++ value ∷ []))
      ∙ ap (λ b. is_ok (container first) && b) (ok_append values value)
      ∙ sym (and_assoc (is_ok (container first)) (is_ok (all_containers container values)) (is_ok (container value)))
      ∙ ap (λ b. b && is_ok (container value))
      (sym (and_more-ok (container first) (all_containers container values)))

  pub ok_more : (values : List V) (i : ℕ) (value : V) → i < length values → value ≡ get_or values i value
      → is_ok (all_containers container (take (i + 1) values))
      ≡ (is_ok (all_containers container (take i values)) && is_ok (container value))
  ok_more values i value inside is = grind (arith, common_steps, ok_append)

  -- the first error is that of all
  rejected_after : (before after : List V) (value : V) (rejection : Rejection)
      → IsOk (all_containers container before) → container value ≡ Err rejection
      → all_containers container (before ++ value ∷ after) ≡ Err rejection
  rejected_after [] after value rejection have is =
      ap (λ r. and_more r (all_containers container after)) is
  rejected_after (first ∷ before) after value rejection have is =
      go (container first) (all_containers container before)
      (all_containers container (before ++ value ∷ after)) have
      (λ rest. rejected_after before after value rejection rest is)
    where
      go : (one : Result (List ℕ) Rejection) (rest all : Result (List (List ℕ)) Rejection)
          → IsOk (and_more one rest) → (IsOk rest → all ≡ Err rejection)
          → and_more one all ≡ Err rejection
      go (Err other) rest all have rejected = cc
      go (Ok c) (Err other) all have rejected = cc
      go (Ok c) (Ok list) all have rejected = ap (λ r. and_more (Ok c) r) (rejected refl)

  pub first_rejected : (values : List V) (i : ℕ) (value : V) (rejection : Rejection)
      → i < length values → value ≡ get_or values i value
      → IsOk (all_containers container (take i values)) → container value ≡ Err rejection
      → all_containers container values ≡ Err rejection
  first_rejected values i value rejection inside is have rejected =
      ap (all_containers container)
      (parted values i inside ∙ (λ j. take i values ++ sym is j ∷ drop (suc i) values))
      ∙ rejected_after (take i values) (drop (suc i) values) value rejection have rejected
    where
      parted : (values : List V) (i : ℕ) → i < length values
          → values ≡ take i values ++ get_or values i value ∷ drop (suc i) values
      parted [] i inside = absurd (omega (arith, inside))
      parted (first ∷ values) zero inside = refl
      parted (first ∷ values) (suc i) inside =
          ap (λ (l : List V). first ∷ l) (parted values i (omega (arith, inside)))

  -- if all values have containers, each has one
  pub each_has : (values : List V) (i : ℕ) (value : V) → i < length values
      → value ≡ get_or values i value → IsOk (all_containers container values)
      → IsOk (container value)
  each_has [] i value inside is have = absurd (omega (arith, inside))
  each_has (first ∷ values) zero value inside is have =
      subst (λ v. IsOk (container v)) (sym is)
      (head_ok (container first) (all_containers container values) have)
  each_has (first ∷ values) (suc i) value inside is have =
      each_has values i value (omega (arith, inside)) is
      (tail_ok (container first) (all_containers container values) have)

  -- and so does each part of them
  have_rest : (values : List V) (i : ℕ) → IsOk (all_containers container values)
      → IsOk (all_containers container (drop i values))
  have_rest values zero have = have
  have_rest [] (suc i) have = refl
  have_rest (first ∷ values) (suc i) have =
      have_rest values i (tail_ok (container first) (all_containers container values) have)

  have_first : (values : List V) (n : ℕ) → IsOk (all_containers container values)
      → IsOk (all_containers container (take n values))
  have_first values zero have = refl
  have_first [] (suc n) have = refl
  have_first (first ∷ values) (suc n) have =
      both_ok (container first) (all_containers container (take n values))
      (head_ok (container first) (all_containers container values) have)
      (have_first values n (tail_ok (container first) (all_containers container values) have))

  pub have_part : (values : List V) (i n : ℕ) → IsOk (all_containers container values)
      → IsOk (all_containers container (take n (drop i values)))
  have_part values i n have = have_first (drop i values) n (have_rest values i have)

  -- the joined containers of one value more
  pub joined_more : (values : List V) (i : ℕ) (value : V) (c : List ℕ) → i < length values
      → value ≡ get_or values i value → container value ≡ Ok c
      → joined_containers container (take (i + 1) values)
      ≡ joined_containers container (take i values) ++ c
  joined_more values i value c inside is has = grind (arith, common_steps)

  -- values that all have containers, each of one width
  module _ (width : ℕ) (sized : (value : V) (c : List ℕ) → container value ≡ Ok c → length c ≡ width) where
    -- the list of containers, its bytes and their number
    pub record Joined (values : List V) (list : List (List ℕ)) : Type 0 where
      pub bytes : joined_containers container values ≡ concat list
      pub size : length (joined_containers container values) ≡ width * length values
      pub count : length list ≡ length values
      pub back : (rest : List ℕ) → containers width (length list) (concat list ++ rest) ≡ list

    pub joined : (values : List V) (list : List (List ℕ))
        → all_containers container values ≡ Ok list → Joined values list
    joined [] list is = let none : [] ≡ list = cc in subst (Joined []) none (record {
      bytes = refl;
      size = omega arith;
      count = refl;
      back = λ rest. refl;
    })
    joined (first ∷ values) list is =
        go (container first) refl (all_containers container values)
        (λ others others_are. joined values others others_are) is
      where
        go : (one : Result (List ℕ) Rejection) → container first ≡ one → (more : Result (List (List ℕ)) Rejection)
            → ((others : List (List ℕ)) → more ≡ Ok others → Joined values others)
            → and_more one more ≡ Ok list → Joined (first ∷ values) list
        go (Err rejection) first_is more others_are is = cc
        go (Ok c) first_is (Err rejection) others_are is = cc
        go (Ok c) first_is (Ok others) others_are is =
            let same : c ∷ others ≡ list = cc in
            let rest = others_are others refl in
            let wide : length c ≡ width = sized first c first_is in
            subst (Joined (first ∷ values)) same (record {
              bytes = (λ i. bytes_in (first_is i) ++ rest.bytes i);
              size = ap (λ r. length (bytes_in r ++ joined_containers container values)) first_is
                  ∙ (let e : length (c ++ joined_containers container values)
                  ≡ width * length (first ∷ values) = omega
                  (arith, length-append c (joined_containers container values), wide, rest.size)
                  in e);
              count = ap suc rest.count;
              back = λ after. ap (λ l. containers width (suc (length others)) l) (append_assoc c (concat others) after)
                  ∙ (λ i. take_at c (concat others ++ after) width wide i ∷ (containers width (length others)
                  (drop_at c (concat others ++ after) width wide i)))
                  ∙ ap (λ (l : List (List ℕ)). c ∷ l) (rest.back after);
            })

    -- they have as many bytes as their number says
    pub joined_size : (values : List V) → IsOk (all_containers container values)
        → length (joined_containers container values) ≡ width * length values
    joined_size values have = go (all_containers container values) refl have
      where
        go : (all : Result (List (List ℕ)) Rejection) → all_containers container values ≡ all
            → IsOk all → length (joined_containers container values) ≡ width * length values
        go (Ok list) is have = (joined values list is).size
        go (Err rejection) is have = cc

    -- the bytes of the values from one on
    pub joined_rest : (values : List V) (i : ℕ) → i ≤ length values → IsOk (all_containers container values)
        → drop (width * i) (joined_containers container values)
        ≡ joined_containers container (drop i values)
    joined_rest values i inside have =
        let front = joined_containers container (take i values) in
        let size : length front ≡ width * i = joined_size (take i values) (have_first values i have)
        ∙ ap (λ n. width * n) (length-take-le i values inside) in
        ap (λ l. drop (width * i) (joined_containers container l)) (sym (take-append-drop i values))
        ∙ ap (drop (width * i))
        (flat_map-append (λ v. bytes_in (container v)) (take i values) (drop i values))
        ∙ drop_at front (joined_containers container (drop i values)) (width * i) size

-- containers of one width, joined
pub length-concat : (w : ℕ) (list : List (List ℕ)) → AllByRecursion (λ c. length c ≡ w) list
    → length (concat list) ≡ length list * w
length-concat w [] each = omega arith
length-concat w (c ∷ list) (one, each) = let more = length-concat w list each in
    omega (arith, one, more, length-append c (concat list))

-- are these containers
pub containers-concat : (w : ℕ) (list : List (List ℕ)) (rest : List ℕ) → AllByRecursion (λ c. length c ≡ w) list
    → containers w (length list) (concat list ++ rest) ≡ list
containers-concat w [] rest each = refl
containers-concat w (c ∷ list) rest (one, each) =
    let bytes = concat list ++ rest in
    ap (containers w (suc (length list))) (append_assoc c (concat list) rest)
    ∙ ap (λ t. t ∷ containers w (length list) (drop w (c ++ bytes))) (take_at c bytes w one)
    ∙ ap (λ t. c ∷ containers w (length list) t) (drop_at c bytes w one)
    ∙ ap (λ t. c ∷ t) (containers-concat w list rest each)

-- `encode` makes a container of each value that has one
pub encoded_ok : (asked : Result (List ℕ) Rejection) (answer : Result (List ℕ) Error)
    → IsEncoded asked answer → is_ok answer ≡ is_ok asked
encoded_ok (Ok container) answer is = ap is_ok is
encoded_ok (Err rejection) answer is = ap is_ok is

-- the first error that `encode` returns is that of all
pub rejected_as : {T : Type 0} (asked : Result (List ℕ) Rejection) (all : Result T Rejection) (e : Error)
    → IsEncoded asked (Err e) → ((rejection : Rejection) → asked ≡ Err rejection → all ≡ Err rejection)
    → first_reason all ≡ Err (reason_of e)
rejected_as (Ok container) all e is first = cc
rejected_as (Err rejection) all e is first =
    let same : error_of rejection ≡ e = cc in
    ap first_reason (first rejection refl) ∙ ap (λ e. Err (reason_of e)) same

-- a container is what is before the zeros
pub cut : (width : ℕ) (container array : List ℕ)
    → array ≡ container ++ replicate (4 - length container) 0 → length container ≡ width
    → take width array ≡ container
cut width container array padded size =
    ap (take width) padded ∙ take_at container (replicate (4 - length container) 0) width size

-- the first bytes of what `encode` makes are the container
pub encoded_bytes : (asked : Result (List ℕ) Rejection) (array : List ℕ) (width : ℕ)
    → ((c : List ℕ) → asked ≡ Ok c → length c ≡ width) → IsEncoded asked (Ok array)
    → asked ≡ Ok (take width array)
encoded_bytes (Ok c) array width sized is =
    let padded : array ≡ c ++ replicate (4 - length c) 0 = cc in
    ap Ok (sym (cut width c array padded (sized c refl)))
encoded_bytes (Err rejection) array width sized is = cc
