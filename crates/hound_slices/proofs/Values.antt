-- The number of a container, by its bytes.
use Rattle.std.proofs.Common.{◌≡◌, ℕ, ℤ, pos, negsuc, Bool, true, false, cond, List, Result, Ok, Err, refl, subst}
use Rattle.hound_spec.specs.{is_pair}
use Rattle.hound_spec.specs.declared.error.Error.{Error}
use Rattle.hound_spec.specs.declared.spec.SampleFormat.TheVariants.{Int}
use Rattle.hound_sample.specs.{IsEncoded, Rejection, fits, int_bytes, int_container, too_wide, unsupported}
use Rattle.hound_slices.specs.Reading.{IsNumberOf, MakesContainer}
use Rattle.hound_slices.specs.declared.error.CallError.{CallError}

by : (container : Result (List ℕ) Rejection) (encoded : Result (List ℕ) Error) (outcome : Result ℕ CallError)
    → (container ≡ Err unsupported → ⊥) → IsEncoded container encoded → IsNumberOf encoded outcome
    → MakesContainer container outcome
by (Ok bytes) encoded outcome supported is number = subst (λ e. IsNumberOf e outcome) is number
by (Err too_wide) encoded outcome supported is number = subst (λ e. IsNumberOf e outcome) is number
by (Err unsupported) encoded outcome supported is number = absurd (supported refl)

-- a pair of bits and bytes is supported
supported : (value : ℤ) (bits width : ℕ) → is_pair Int bits width ≡ true
    → int_container value bits width ≡ Err unsupported → ⊥
unfolding int_container
supported value bits width pair is = go (is_pair Int bits width) (fits bits value) pair is
  where
    go : (p f : Bool) → p ≡ true
        → cond p (cond f (Ok (int_bytes value bits width)) (Err too_wide)) (Err unsupported) ≡ Err unsupported → ⊥
    go true true h e = cc
    go true false h e = cc
    go false f h e = cc

pub makes_container : (value : ℤ) (bits width : ℕ) (encoded : Result (List ℕ) Error) (outcome : Result ℕ CallError)
    → is_pair Int bits width ≡ true → IsEncoded (int_container value bits width) encoded → IsNumberOf encoded outcome
    → MakesContainer (int_container value bits width) outcome
makes_container value bits width encoded outcome pair =
    by (int_container value bits width) encoded outcome (supported value bits width pair)

-- a container of 24 bits in three bytes, with zeros after it, is one in four
pub in_three : (value : ℤ) (encoded : Result (List ℕ) Error)
    → IsEncoded (int_container value 24 4) encoded → IsEncoded (int_container value 24 3) encoded
unfolding int_container
in_three (pos n) encoded is = go (fits 24 (pos n)) is
  where
    go : (b : Bool) → IsEncoded (cond b (Ok (int_bytes (pos n) 24 4)) (Err too_wide)) encoded
        → IsEncoded (cond b (Ok (int_bytes (pos n) 24 3)) (Err too_wide)) encoded
    go true e = e
    go false e = e
in_three (negsuc n) encoded is = go (fits 24 (negsuc n)) is
  where
    go : (b : Bool) → IsEncoded (cond b (Ok (int_bytes (negsuc n) 24 4)) (Err too_wide)) encoded
        → IsEncoded (cond b (Ok (int_bytes (negsuc n) 24 3)) (Err too_wide)) encoded
    go true e = e
    go false e = e
