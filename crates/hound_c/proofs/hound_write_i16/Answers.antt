use Rattle.std.proofs.Common.{rules, sym}
use Rattle.hound_c.proofs.hound_write_i16.Goals as goal

pub returns : goal.returns
returns c = rw (sym c.spec_from_c.ensures) (search rules)
