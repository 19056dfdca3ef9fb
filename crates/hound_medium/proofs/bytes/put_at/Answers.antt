use Rattle.std.proofs.Common.{rules, arith}
use Rattle.hound_medium.proofs.Overlays.{overlay_at_end}
use Rattle.hound_medium.proofs.bytes.put_at.Goals as goal

pub returns-then-at-len-clause-ok : goal.returns-then-at-len-clause-ok
returns-then-at-len-clause-ok c =
    rw (overlay_at_end c.args.bytes.now.items c.args.at c.args.new.now (omega arith)) (search rules)
