use Rattle.std.proofs.lemmas.Grind.{common_steps}
use Rattle.std.proofs.Common.{ℕ, ◌<◌, ◌≤◌, arith, decimal, length, length-append}
use Rattle.std.proofs.lemmas.Fmt.{length-decimal-le}
use Rattle.hound_text.proofs.lines.Lines.push_integer.Goals as goal

few_digits : (n : ℕ) → n < 4294967296 → length (decimal n) ≤ 10
few_digits n small = length-decimal-le 10 n (omega arith) (omega (arith, small)) (omega (arith, small))

pub push-requires-2 : goal.push-requires-2
push-requires-2 c = grind (arith, common_steps, few_digits, length-append)
