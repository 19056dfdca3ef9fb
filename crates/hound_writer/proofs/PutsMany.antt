-- The bytes of samples that are written by several calls.
use Rattle.std.proofs.Common.{◌≡◌, ℕ, ◌+◌, ◌*◌, ◌-◌, ◌≤◌, Bool, List, ◌++◌, length, take, drop, Result, Ok, Err, IsErr, IsOk, rules, sym, subst, ◌∙◌, ap, arith, length-drop}
use Rattle.std.proofs.lemmas.Bool.{false≢true}
use Rattle.std.proofs.lemmas.List.{length-take-le, take-append-drop, take-append-le}
use Rattle.std.proofs.Math.Nat.{mul-le-mul_left}
use Rattle.std.proofs.lemmas.Grind.{flat_map-append, common_steps}
use Rattle.hound_medium.specs.{MediumState, PutsAll, PutsFirst, one_more}
use Rattle.hound_medium.proofs.Taking.{takes_more}
use Rattle.hound_sample.specs.{Rejection, all_containers, bytes_in, joined_containers}
use Rattle.hound_sample.proofs.Joined.{have_part, joined_rest, joined_size}

-- bytes that begin alike: the first n of the one are those of the other
puts_front : (keeps : Bool) (a b : List ℕ) (n : ℕ) (old new : MediumState)
    → take n a ≡ take n b → PutsFirst keeps a n old new → PutsFirst keeps b n old new
puts_front keeps a b n old new same puts = search rules

-- values that all have containers, each of one width, of which the first `done` were written
module _ {V : Type 0} (container : V → Result (List ℕ) Rejection) (width : ℕ)
    (sized : (value : V) (c : List ℕ) → container value ≡ Ok c → length c ≡ width) (keeps : Bool)
    (values : List V) (have : IsOk (all_containers container values)) (done next : ℕ)
    (later : done ≤ next) (inside : next ≤ length values) (old mid new : MediumState)
    (so_far : PutsFirst keeps (joined_containers container values) (width * done) old mid)
    (piece : List ℕ)
    (is : piece ≡ joined_containers container (take (next - done) (drop done values))) where
  abbrev all : List ℕ
  all = joined_containers container values

  abbrev count : ℕ
  count = next - done

  size_all : length all ≡ width * length values
  size_all = joined_size container width sized values have

  size_piece : length piece ≡ width * count
  size_piece = grind (arith, common_steps, joined_size, have_part, length-take-le, length-drop)

  rest_is : drop (width * done) all ≡ piece ++ joined_containers container (drop count (drop done values))
  rest_is =
      joined_rest container width sized values done (omega (arith, inside)) have
      ∙ ap (joined_containers container) (sym (take-append-drop count (drop done values)))
      ∙ flat_map-append (λ v. bytes_in (container v)) (take count (drop done values))
      (drop count (drop done values))
      ∙ ap (λ l. l ++ joined_containers container (drop count (drop done values))) (sym is)

  size_next : width * done + width * count ≡ width * next
  size_next = omega (arith, ap (λ n. width * n) (let e : done + count ≡ next = omega arith in e))

  more : (n : ℕ) → n ≤ length piece → PutsFirst keeps piece n mid new → PutsFirst keeps all (width * done + n) old new
  more n few puts =
      takes_more keeps all (width * done) n old mid new
      (omega (arith, size_next, mul-le-mul_left width inside, size_all)) so_far
      (puts_front keeps piece (drop (width * done) all) n mid new
      (sym (take-append-le n piece (joined_containers container (drop count (drop done values))) few)
      ∙ ap (take n) (sym rest_is)) puts)

  -- this many more
  pub piece_out : {T E : Type 0} (x : T) → PutsAll {T = T} {E = E} keeps piece (Ok x) mid new
      → PutsFirst keeps all (width * next) old new
  piece_out x puts =
      subst (λ n. PutsFirst keeps all n old new)
      (let e : width * done + puts.count ≡ width * next = omega
      (arith, puts.whole, size_piece, size_next) in e) (more puts.count puts.within puts.takes)

  -- or a part of them, if the medium failed
  pub piece_cut : {T E T' E' : Type 0} (e : E) (outcome : Result T' E') → IsErr outcome
      → mid.faults ≡ old.faults → PutsAll {T = T} {E = E} keeps piece (Err e) mid new
      → PutsAll keeps all outcome old new
  piece_cut e (Ok x) failed none puts = absurd (false≢true failed)
  piece_cut e (Err outcome) failed none puts = let most = mul-le-mul_left width inside in record {
    count = width * done + puts.count;
    within = omega (arith, most, size_next, puts.within, size_piece, size_all);
    whole = tt;
    part = omega (arith, most, size_next, puts.part, size_piece, size_all);
    takes = more puts.count puts.within puts.takes;
    faults = puts.faults ∙ ap one_more none;
  }
