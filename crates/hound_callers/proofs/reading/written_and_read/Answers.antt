use Rattle.std.proofs.Common.{arith, ◌≡◌, ◌⊎◌, ℕ, ℤ, Option, None, Some, List, ◌++◌, Result, Ok, Err, IfErr, IfOk, MatchResult, inl, length, refl, replicate, ◌-◌, rules, subst, sym, take, to_z, of_z, w32, ◌∙◌, ap}
use Rattle.std.proofs.Math.Facts.{to_z-of_z}
use Rattle.std.proofs.lemmas.List.{take_all, take_at}
use Rattle.hound.specs.{Error, IsEncoded, IsIoError, Reads, ReadsContainer, Rejection, int_container, int_container-in_width, int_meaning, int_rejection}
use Rattle.hound.specs.declared.Error.TheVariants.{IoError}
use Rattle.hound.specs.declared.SampleFormat.TheVariants.{Int}
use Rattle.hound_callers.proofs.reading.written_and_read.Goals as goal

-- the first bytes of what `encode` makes are the container
front : (asked : Result (List ℕ) Rejection) (array : List ℕ) (width : ℕ)
    → ((c : List ℕ) → asked ≡ Ok c → length c ≡ width) → IsEncoded asked (Ok array)
    → asked ≡ Ok (take width array)
front (Ok c) array width sized is =
    let padded : array ≡ c ++ replicate (4 - length c) 0 = cc in
    ap Ok (sym (ap (take width) padded ∙ take_at c (replicate (4 - length c) 0) width (sized c refl)))
front (Err rejection) array width sized is = cc

-- what is read of a container alone
read_back : (v : ℤ) (meaning : List ℕ → ℤ) (width : ℕ) (c : List ℕ) (new : Option (List ℕ)) (r : Result ℤ Error)
    → length c ≡ width → meaning c ≡ v → ReadsContainer meaning width (Some c) new r
    → MatchResult r (λ x. x ≡ v) IsIoError
read_back v meaning width c None (Ok x) size same reads = absurd reads
read_back v meaning width c (Some ys) (Ok x) size same (fits, is, rest) =
    is ∙ ap meaning (take_all width c (omega (arith, size))) ∙ same
read_back v meaning width c new (Err (IoError e)) size same reads = tt
read_back v meaning width c new (Err e) size same reads = absurd reads

-- what is read of a container that `encode` made
came_back : (v : ℤ) (bits width : ℕ) (array : List ℕ) (new : Option (List ℕ)) (r : Result ℤ Error)
    → IsEncoded (int_container v bits width) (Ok array)
    → ((c : List ℕ) → int_container v bits width ≡ Ok c → int_rejection 4 Int width bits ≡ None)
    → ((c : List ℕ) → int_container v bits width ≡ Ok c → int_meaning width bits c ≡ v)
    → Reads (int_rejection 4 Int width bits) (int_meaning width bits) width (Some (take width array)) new r
    → MatchResult r (λ x. x ≡ v) IsIoError
came_back v bits width array new r is taken same reads =
    let c = take width array in
    let sized : (c : List ℕ) → int_container v bits width ≡ Ok c → length c ≡ width =
    λ c has. (int_container-in_width v bits width c has).0 in
    let has = front (int_container v bits width) array width sized is in
    read_back v (int_meaning width bits) width c new r (sized c has) (same c has)
    (subst (λ rejection. Reads rejection (int_meaning width bits) width (Some c) new r) (taken c has) reads)

ok_is : (r : Result ℤ Error) (v w : ℤ) → w ≡ v → MatchResult r (λ x. x ≡ w) IsIoError → IfOk r (λ x. x ≡ v)
ok_is (Ok x) v w same is = is ∙ same
ok_is (Err e) v w same is = tt

err_is : (r : Result ℤ Error) (w : ℤ) (P : Error → Type 0) → MatchResult r (λ x. x ≡ w) IsIoError
    → IfErr r (λ e. IsIoError e ⊎ P e)
err_is (Ok x) w P is = tt
err_is (Err e) w P is = inl is

-- what is read, with the value as it was passed on
read_as : (c : goal.After-read) → MatchResult c.read.result (λ x. x ≡ to_z w32 (of_z w32 c.args.value)) IsIoError
read_as c =
    let v = to_z w32 (of_z w32 c.args.value) in
    let laws = c.integers_come_back.ensures in
    came_back v c.args.bits c.args.width c.in_ok-container.container _ c.read.result c.in_ok-container.ensures
    (laws.taken v c.args.bits c.args.width) (laws.same v c.args.bits c.args.width) c.read.ensures.reads

pub returns-clause-same : goal.returns-clause-same
returns-clause-same c =
    ok_is c.read.result c.args.value (to_z w32 (of_z w32 c.args.value)) (to_z-of_z {w = w32} (search rules)) (read_as c)

pub returns-clause-err : goal.returns-clause-err
returns-clause-err c =
    err_is c.read.result (to_z w32 (of_z w32 c.args.value))
    (λ e. IsEncoded (int_container c.args.value c.args.bits c.args.width) (Err e)) (read_as c)
