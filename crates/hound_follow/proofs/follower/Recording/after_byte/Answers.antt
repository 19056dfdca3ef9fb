use Rattle.std.proofs.Common.{◌<◌, arith, slice_index_or}
use Rattle.hound_follow.proofs.Bytes.{fits, one_more}
use Rattle.hound_follow.proofs.follower.Recording.after_byte.Goals as goal

pub overflow_mul-from_here : goal.overflow_mul-from_here
overflow_mul-from_here c =
    let all = fits c.args.above 0 (omega arith) c.args.number c.requires.above.0 c.requires.above.1 in
    omega (arith, all)

pub overflow_add-from_here : goal.overflow_add-from_here
overflow_add-from_here c =
    let byte : slice_index_or c.args.bytes.now 0 0 < 256 = omega (arith, c.type_inv.bytes 0) in
    let all = fits c.args.above _ byte c.args.number c.requires.above.0 c.requires.above.1 in omega (arith, all)

pub requests-requires : goal.requests-requires
requests-requires c =
    let byte : slice_index_or c.args.bytes.now 0 0 < 256 = omega (arith, c.type_inv.bytes 0) in
    let all = one_more c.args.above _ byte c.args.number c.if-number-eq0.false c.requires.above.0 c.requires.above.1 in
    (c.requires.sound, (omega (arith, c.requires.above.0), all))
