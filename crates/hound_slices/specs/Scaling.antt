-- Floats whose full scale is 1 as integers of a file; and floats of 32 bits as those of 64, and back.
use Rattle.std.specs.Prelude.{◌≡◌, ℕ, ℤ, Bool, ◌*◌, ◌&&◌, ◌<◌, List, length, take, drop, map, not, Result, Ok, Err}
use Rattle.std.specs.Float.{Float, binary32, float_is_finite, round_to_format}
use Rattle.std.specs.List.{count_by}
use Rattle.hound_spec.specs.{IsPair}
use Rattle.hound_spec.specs.declared.spec.SampleFormat.TheVariants.{Int}
use Rattle.hound_spec.specs.declared.spec.WavSpecEx.{WavSpecEx}
use Rattle.hound_sample.specs.{fits, int_container, scaled, scaled_to, state_after}
use Rattle.hound_slices.specs.Writing.{Encodes}
use Rattle.hound_slices.specs.declared.error.CallError.{CallError}
use Rattle.hound_slices.specs.declared.error.CallError.TheVariants.{NoRoom, NotWritable, OtherFormat}

-- the integers of a spec that values are as floats: times full scale, the nearest, and clipped
abbrev pub integers : {A : Type 0} → (A → Float) → WavSpecEx → List A → List ℤ
integers float s values = map (λ x. scaled_to s.spec.bits_per_sample (float x)) values

-- how many of them are clipped
abbrev pub clipped_among : {A : Type 0} → (A → Float) → WavSpecEx → List A → ℕ
clipped_among float s values =
    count_by (λ x. not (fits s.spec.bits_per_sample (scaled s.spec.bits_per_sample (float x)))) values

-- why so many integers of a spec aren't encoded into so many bytes
abbrev pub IsNoInteger : WavSpecEx → ℕ → ℕ → CallError → Type 0
IsNoInteger s count room OtherFormat = s.spec.sample_format ≡ Int → ⊥
IsNoInteger s count room NotWritable = IsPair s.spec.sample_format s.spec.bits_per_sample s.bytes_per_sample → ⊥
IsNoInteger s count room NoRoom = room < count * s.bytes_per_sample
IsNoInteger s count room _ = ⊥

-- a call counts what was clipped, and at an error leaves the count
abbrev pub CountsClipped : ℕ → ℕ → ℕ → Result ℕ CallError → Type 0
CountsClipped clipped before count (Ok n) = count ≡ clipped
CountsClipped clipped before count (Err error) = count ≡ before

-- what a call does that encodes floats as integers of a spec, and counts those that are clipped
abbrev pub EncodesFloats : {A : Type 0} → (A → Float) → WavSpecEx → List A → List ℕ → List ℕ → ℕ → ℕ
    → Result ℕ CallError → Type 0
EncodesFloats float s values old new before count outcome =
    Encodes Int int_container s (integers float s values) old new outcome
    × CountsClipped (clipped_among float s values) before count outcome

-- a call takes a state of the noise for each value, and at an error none
abbrev pub TakesNumbers : ℕ → ℕ → ℕ → Result ℕ CallError → Type 0
TakesNumbers count old new (Ok n) = new ≡ state_after count old
TakesNumbers count old new (Err error) = new ≡ old

-- what widening floats does: each is the same number
abbrev pub WidensFloats : List Float → List Float → List Float → Result ℕ CallError → Type 0
WidensFloats values old new (Ok n) = (n ≡ length values) × (take n new ≡ values) × (drop n new ≡ drop n old)
WidensFloats values old new (Err error) = (new ≡ old) × (error ≡ NoRoom) × (length old < length values)

-- whether the nearest float of 32 bits is infinite though a number isn't
abbrev pub becomes_infinite : Float → Bool
becomes_infinite x = float_is_finite x && not (float_is_finite (round_to_format binary32 x))

-- what narrowing floats does: each is the nearest float of 32 bits; and so many became infinite
abbrev pub NarrowsFloats : List Float → List Float → List Float → ℕ → ℕ → Result ℕ CallError → Type 0
NarrowsFloats values old new before count (Ok n) = (n ≡ length values)
    × (take n new ≡ map (round_to_format binary32) values) × (drop n new ≡ drop n old)
    × (count ≡ count_by becomes_infinite values)
NarrowsFloats values old new before count (Err error) = (new ≡ old) × (count ≡ before)
    × (error ≡ NoRoom) × (length old < length values)
