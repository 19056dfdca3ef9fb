-- What a machine asks its caller to do, as C has it.
use Rattle.std.specs.Prelude.{◌≡◌, ℕ, ◌-◌, ◌==◌, if◌then◌else◌, List, ◌++◌, length, replicate, Option, None, Some, Result, Ok, Err}
use Rattle.hound_number.specs.{bytes_of}
use Rattle.hound_spec.specs.declared.spec.WavSpecEx.{WavSpecEx}
use Rattle.hound_writer.specs.{BeginsWith, header_part}
use Rattle.hound_writer.specs.declared.effects.BeginningEffect.{BeginningEffect}
use Rattle.hound_writer.specs.declared.effects.BeginningEffect.TheVariants as beginnings
use Rattle.hound_writer.specs.declared.recorder.RecorderError.{RecorderError}
use Rattle.hound_writer.specs.declared.effects.Action.{Action}
use Rattle.hound_writer.specs.declared.effects.Action.TheVariants.{Read, Perform, WriteBlock, Shorten}
use Rattle.hound_writer.specs.declared.effects.Effect.TheVariants.{Sync, Pad, Size}
use Rattle.hound_writer.specs.declared.effects.Report.{Report}
use Rattle.hound_writer.specs.declared.effects.Report.TheVariants.{Pending, Done, Failed}
use Rattle.hound_slices.specs.declared.effect.HoundEffect.{HoundEffect}

-- an effect of this kind, which isn't reported and has these bytes
abbrev pub effect_with : ℕ → ℕ → ℕ → List ℕ → HoundEffect
effect_with kind at len bytes = record { place = at; length = len; kind = kind; report = 0; bytes = bytes }

-- what is requested, as C has it
abbrev pub effect_of : Option Action → HoundEffect
effect_of None = effect_with 0 0 0 (replicate 40 0)
effect_of (Some (Read at len)) = effect_with 1 at len (replicate 40 0)
effect_of (Some (Perform (Pad at))) = effect_with 2 at 1 (replicate 40 0)
effect_of (Some (Perform (Size at size))) = effect_with 2 at 4 (bytes_of 4 size ++ replicate 36 0)
effect_of (Some (WriteBlock at len)) = effect_with 3 at len (replicate 40 0)
effect_of (Some (Perform Sync)) = effect_with 4 0 0 (replicate 40 0)
effect_of (Some (Shorten at)) = effect_with 5 at 0 (replicate 40 0)

-- what begins a file, as C has it
abbrev pub beginning_of : WavSpecEx → Option BeginningEffect → HoundEffect
beginning_of s None = effect_with 0 0 0 (replicate 40 0)
beginning_of s (Some (beginnings.Header first)) =
    let bytes = header_part s first in
    effect_with 2 first (length bytes) (bytes ++ replicate (40 - length bytes) 0)
beginning_of s (Some beginnings.Sync) = effect_with 4 0 0 (replicate 40 0)
beginning_of s (Some beginnings.Empty) = effect_with 5 0 0 (replicate 40 0)
beginning_of s (Some beginnings.SyncFolder) = effect_with 6 0 0 (replicate 40 0)

-- what the call for one of these does: the effect is the one with this number, or stays if the spec can't be written
abbrev pub GivesBeginning : WavSpecEx → ℕ → HoundEffect → HoundEffect
    → Result (Option BeginningEffect) RecorderError → Type 0
GivesBeginning s number old new (Ok next) = BeginsWith s number (Ok next) × (new ≡ beginning_of s next)
GivesBeginning s number old new (Err error) = BeginsWith s number (Err error) × (new ≡ old)

-- how what was requested has ended: a caller reports 1 or 2, and nothing else counts
abbrev pub report_of : HoundEffect → Report
report_of effect =
    if effect.kind == 0 then Pending
    else if effect.report == 1 then Done else if effect.report == 2 then Failed else Pending
