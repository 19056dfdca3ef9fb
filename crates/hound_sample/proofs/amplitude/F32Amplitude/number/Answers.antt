use mathlib.Core.Path.{◌≡◌, refl, sym, ◌∙◌}
use Rattle.std.proofs.Common.{true}
use Rattle.std.proofs.lemmas.Bool.{false≢true}
use lib.Ieee.{Float, fin, inf, is_nan, nan}
use Rattle.hound_sample.proofs.amplitude.F32Amplitude.number.Goals as goal

no_number : (x : Float) → is_nan x ≡ true → nan ≡ x
unfolding is_nan
no_number nan h = refl
no_number (inf s) h = absurd (false≢true h)
no_number (fin s m e) h = absurd (false≢true h)

pub returns-then-is_nan : goal.returns-then-is_nan
returns-then-is_nan c = no_number c.args.self (sym c.is_nan.ensures.value ∙ c.if-is_nan.true)
