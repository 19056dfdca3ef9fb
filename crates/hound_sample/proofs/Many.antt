-- Samples that were read one after the other.
use Rattle.std.proofs.lemmas.Grind.{common_steps}
use Rattle.std.proofs.Common.{◌≡◌, ℕ, zero, suc, ◌+◌, ◌*◌, ◌<◌, ◌≤◌, List, [], ◌∷◌, ◌++◌, map, length, take, drop, refl, sym, ap, ◌∙◌, subst, arith, Option, None, Some, Result, Ok, Err}
use Rattle.std.proofs.lemmas.List.{take-append-drop, length-take-le, length-drop, append_assoc, take_all, drop-drop}
use Rattle.std.proofs.lemmas.Slice.{take-put_mid}
use Rattle.std.specs.Io.KnownBytes.{Consumes}
use borrow.Rule.Slice.PartMut.{put_mid}
use Rattle.std.specs.declared.io.Error.{Error as IoFault}
use Rattle.hound_spec.specs.declared.error.Error.{Error}
use Rattle.hound_spec.specs.declared.error.Error.TheVariants.{IoError}
use Rattle.hound_sample.specs.Container.{containers}
use Rattle.hound_sample.specs.Reading.{ReadRejection, ReadsEach, Reads}
use Rattle.hound_sample.proofs.Containers.{containers_front, length-containers}
use Rattle.hound_sample.proofs.Reading.{takes_container, takes_part}

-- samples, and then more of them
pub each_append : {A : Type 0} (rejection : Option ReadRejection) (meaning : List ℕ → A) (width : ℕ)
    (few more : List (Result A Error)) (old mid new : Option (List ℕ))
    → ReadsEach rejection meaning width few old mid → ReadsEach rejection meaning width more mid new
    → ReadsEach rejection meaning width (few ++ more) old new
each_append rejection meaning width [] more old mid new before after =
    subst (λ m. ReadsEach rejection meaning width more m new) before after
each_append rejection meaning width (item ∷ few) more old mid new (first, read, before) after =
    (first, read, each_append rejection meaning width few more first mid new before after)

-- samples, and then one more
pub each_more : {A : Type 0} (rejection : Option ReadRejection) (meaning : List ℕ → A) (width : ℕ)
    (few : List (Result A Error)) (item : Result A Error) (old mid new : Option (List ℕ))
    → ReadsEach rejection meaning width few old mid → Reads rejection meaning width mid new item
    → ReadsEach rejection meaning width (few ++ (item ∷ [])) old new
each_more rejection meaning width few item old mid new before read =
    each_append rejection meaning width few (item ∷ []) old mid new before (new, read, refl)

-- lists that are the same from a place on are so from a later place on
pub drop_further : {A : Type 0} (n more : ℕ) (xs ys : List A) → drop n xs ≡ drop n ys
    → drop (n + more) xs ≡ drop (n + more) ys
drop_further n more xs ys same =
    sym (drop-drop more n xs) ∙ ap (drop more) same ∙ drop-drop more n ys

-- what was taken in one piece was taken in two
split_taken : (n : ℕ) (bytes : List ℕ) (old new : Option (List ℕ)) → Consumes old new bytes
    → (mid : Option (List ℕ)) × Consumes old mid (take n bytes) × Consumes mid new (drop n bytes)
split_taken n bytes None new taken = (None, tt, tt)
split_taken n bytes (Some xs) None taken = absurd taken
split_taken n bytes (Some xs) (Some ys) taken = (
  Some (drop n bytes ++ ys),
  taken ∙ ap (λ l. l ++ ys) (sym (take-append-drop n bytes)) ∙ append_assoc (take n bytes) (drop n bytes) ys,
  refl,
)

module _ {A : Type 0} (meaning : List ℕ → A) (width : ℕ) where
  -- the samples of the first containers of bytes
  abbrev samples_of : ℕ → List ℕ → List (Result A Error)
  samples_of count bytes = map Ok (map meaning (containers width count bytes))

  -- a container that was taken is a sample that was read
  one_read : (bytes : List ℕ) (old new : Option (List ℕ)) → width ≤ length bytes
      → Consumes old new bytes → (mid : Option (List ℕ))
      × Reads None meaning width old mid (Ok (meaning (take width bytes)))
      × Consumes mid new (drop width bytes)
  one_read bytes old new enough taken =
      let (mid, first, rest) = split_taken width bytes old new taken in (
        mid,
        takes_container (take width bytes) old mid width meaning _ first (length-take-le width bytes enough) refl,
        rest,
      )

  -- containers that were taken are samples that were read
  pub containers_read : (count : ℕ) (bytes : List ℕ) (old new : Option (List ℕ)) → 1 ≤ count
      → length bytes ≡ count * width → Consumes old new bytes
      → ReadsEach None meaning width (samples_of count bytes) old new
  containers_read zero bytes old new some size taken = absurd (omega (arith, some))
  containers_read (suc zero) bytes old new some size taken =
      let size' : length bytes ≡ width = omega (arith, size) in (
        new,
        takes_container bytes old new width meaning _ taken size'
            (ap meaning (take_all width bytes (omega (arith, size')))),
        refl,
      )
  containers_read (suc (suc count)) bytes old new some size taken =
      let (mid, first, rest) = one_read bytes old new (omega (arith, size)) taken in (
        mid,
        first,
        containers_read (suc count) (drop width bytes) mid new (omega arith)
            (length-drop width bytes ∙ omega (arith, size)) rest,
      )

  -- so are those before a part of one, and then an error ended it
  pub part_read : (count : ℕ) (bytes : List ℕ) (old new : Option (List ℕ)) (e : IoFault)
      → count * width ≤ length bytes → length bytes < count * width + width
      → Consumes old new bytes
      → ReadsEach None meaning width (samples_of count bytes ++ (Err (IoError e) ∷ [])) old new
  part_read zero bytes old new e enough few taken =
      (new, takes_part bytes old new width taken (omega (arith, few)), refl)
  part_read (suc count) bytes old new e enough few taken =
      let (mid, first, rest) = one_read bytes old new (omega (arith, enough)) taken in (
        mid,
        first,
        part_read count (drop width bytes) mid new e (omega (arith, enough, length-drop width bytes))
            (omega (arith, enough, few, length-drop width bytes)) rest,
      )

  -- values decoded from a front of the bytes are those of its containers
  pub decoded : (count : ℕ) (values : List A) (part : List A) (from bytes : List ℕ)
      → values ≡ map meaning (containers width (length part) from) → length part ≡ count
      → take (count * width) from ≡ take (count * width) bytes
      → values ≡ map meaning (containers width count bytes)
  decoded count values part from bytes is size same = grind (arith, common_steps, containers_front)

  all_of : (at k count : ℕ) (bytes : List ℕ) (xs values : List A) → at ≤ length xs
      → values ≡ map meaning (containers width count bytes)
      → map Ok (take (at + count) (put_mid at k xs values)) ≡ map Ok (take at xs) ++ samples_of count bytes
  all_of at k count bytes xs values within is = grind (arith, common_steps, length-containers, take-put_mid)

  -- samples appended to others were read after them
  pub each_beyond : (at k count : ℕ) (bytes : List ℕ) (xs values : List A)
      (old mid new : Option (List ℕ)) → at ≤ length xs → 1 ≤ count
      → length bytes ≡ count * width → Consumes mid new bytes
      → values ≡ map meaning (containers width count bytes)
      → ReadsEach None meaning width (map Ok (take at xs)) old mid
      → ReadsEach None meaning width (map Ok (take (at + count) (put_mid at k xs values))) old new
  each_beyond at k count bytes xs values old mid new within some size taken is before =
      subst (λ items. ReadsEach None meaning width items old new)
      (sym (all_of at k count bytes xs values within is))
      (each_append None meaning width _ _ old mid new before (containers_read count bytes mid new some size taken))

  -- and so with an error that ended it
  pub each_ended : (at k count : ℕ) (bytes : List ℕ) (xs values : List A) (e : IoFault)
      (old mid new : Option (List ℕ)) → at ≤ length xs → count * width ≤ length bytes
      → length bytes < count * width + width → Consumes mid new bytes
      → values ≡ map meaning (containers width count bytes)
      → ReadsEach None meaning width (map Ok (take at xs)) old mid
      → ReadsEach None meaning width
      (map Ok (take (at + count) (put_mid at k xs values)) ++ (Err (IoError e) ∷ [])) old new
  each_ended at k count bytes xs values e old mid new within enough few taken is before =
      subst (λ items. ReadsEach None meaning width items old new)
      (sym (ap (λ l. l ++ (Err (IoError e) ∷ [])) (all_of at k count bytes xs values within is)
      ∙ append_assoc (map Ok (take at xs)) (samples_of count bytes) (Err (IoError e) ∷ [])))
      (each_append None meaning width _ _ old mid new before (part_read count bytes mid new e enough few taken))
