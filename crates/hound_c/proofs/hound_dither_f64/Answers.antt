use Rattle.std.proofs.Common.{rules, sym}
use Rattle.hound_c.proofs.hound_dither_f64.Goals as goal

pub returns-clause-encodes : goal.returns-clause-encodes
returns-clause-encodes c = rw (sym c.spec_from_c.ensures) (search rules)
