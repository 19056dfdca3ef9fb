use Rattle.std.proofs.Common.{◌∙◌, arith}
use Rattle.hound_repair.proofs.Chunking.{no_tag, tag_is}
use Rattle.hound_repair.proofs.look.has_known_tag.Goals as goal

pub returns-then-bytes-lt4 : goal.returns-then-bytes-lt4
returns-then-bytes-lt4 c = no_tag c.args.bytes.now (omega (arith, c.if-bytes-lt4.true))

pub returns : goal.returns
returns c = c.contains.ensures.value ∙ tag_is c.args.bytes.now _ c.copy_from_slice.ensures.after
