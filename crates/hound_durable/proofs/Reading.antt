-- A `get` as a `read`, if the bytes are known.
use Rattle.std.proofs.lemmas.Grind.{common_steps}
use Rattle.std.proofs.Common.{arith}
use Rattle.std.proofs.Common.{ℕ, List, Result, Bool}
use Rattle.std.specs.Io.KnownBytes.{ReadConsumes}
use Rattle.hound_medium.specs.{MediumState, Gets, WhereTells}
use Rattle.hound_medium.proofs.Reading.{get_consumes}
use Rattle.hound_durable.specs.Losses.{left_of}

-- what `get` does to what is left, as the contract of `read` says it
pub get_consumes_left : {E : Type 0} (tells : Bool) (buf : List ℕ) (result : Result ℕ E)
    (old new : MediumState) → WhereTells tells (Gets buf result old new)
    → ReadConsumes (left_of tells old) (left_of tells new) result buf
get_consumes_left tells buf result old new gets = grind (arith, common_steps, get_consumes)
