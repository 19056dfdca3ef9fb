use Rattle.std.proofs.Common.{inr}
use Rattle.hound.proofs.runs.run_until_error.Goals as goal

pub returns-in-Ok-take_until_error : goal.returns-in-Ok-take_until_error
returns-in-Ok-take_until_error g c =
    inr (
      c.in-Ok.writer,
      c.in-Ok.ensures,
      c.in-Ok-take_until_error.ensures _ _ c.finalize_into.ensures.finishes,
    )

pub returns-in-Err-take_until_error : goal.returns-in-Err-take_until_error
returns-in-Err-take_until_error g c =
    let (dropped, finishes) = c.drop_into.ensures.finishes in
    inr (c.in-Ok.writer, c.in-Ok.ensures, c.in-Err-take_until_error.ensures dropped _ finishes)
