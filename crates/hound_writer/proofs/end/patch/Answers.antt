use Rattle.std.proofs.Common.{arith, rules, ◌∙◌, ap, refl}
use Rattle.hound_medium.specs.{one_more}
use Rattle.hound_medium.proofs.Outcomes.{on_ok, on_ok_self}
use Rattle.hound_medium.proofs.Spans.{flushed_since}
use Rattle.hound_writer.proofs.Patching.{cut, first_half, has_size, patched, second_half, with_bytes}
use Rattle.hound_writer.proofs.PatchMoments.{patches_none, patches_both, patches_still, riff_span}
use Rattle.hound_writer.proofs.end.patch.Goals as goal

pub returns-in_err-put_all_at-clause-patches : goal.returns-in_err-put_all_at-clause-patches
returns-in_err-put_all_at-clause-patches g c tells =
    let first = (with_bytes c.le_u32.ensures (c.in_err-put_all_at.ensures tells)) in
    let has = has_size c.args.data_len_offset _ c.requires.beyond (c.requires.inside tells)
    (g.met.M.Placed.bytes c.args.medium.now tells) in
    cut _ _ _ 0 _ _ _ c.from_residual.ensures.0 (omega arith)
    (first_half g.M.Placed.keeps _ _ c.args.data_length _ _ _ has first) first.faults

pub returns-in_err-put_all_at-2-clause-patches : goal.returns-in_err-put_all_at-2-clause-patches
returns-in_err-put_all_at-2-clause-patches g c tells =
    let first = (with_bytes c.le_u32.ensures (c.in_ok-put_all_at.ensures tells)) in
    let second = (with_bytes c.le_u32-2.ensures (c.in_err-put_all_at-2.ensures tells)) in
    let has = has_size c.args.data_len_offset _ c.requires.beyond (c.requires.inside tells)
    (g.met.M.Placed.bytes c.args.medium.now tells) in
    cut _ _ _ second.count _ _ _ c.from_residual-in_err-put_all_at-2.ensures.0 second.within
    (second_half g.M.Placed.keeps _ _ c.args.data_length _ _ _ has first _ _
    (g.met.M.Placed.bytes c.put_all_at.new.medium tells) first.whole (search rules) second)
    (second.faults ∙ ap one_more first.faults)

pub returns-clause-patches : goal.returns-clause-patches
returns-clause-patches g c tells =
    let first = (with_bytes c.le_u32.ensures (c.in_ok-put_all_at.ensures tells)) in
    let second = (with_bytes c.le_u32-2.ensures (c.in_ok-put_all_at-2.ensures tells)) in
    let has = has_size c.args.data_len_offset _ c.requires.beyond (c.requires.inside tells)
    (g.met.M.Placed.bytes c.args.medium.now tells) in
    patched g.M.Placed.keeps c.args.data_len_offset c.args.riff_size c.args.data_length _ _
    c.flush.result _ _ _ _ has (g.met.M.Placed.bytes c.put_all_at.new.medium tells)
    first second first.whole second.whole (search rules) (second.faults ∙ first.faults)
    (c.flush.ensures tells)

pub returns-in_err-put_all_at-clause-moments : goal.returns-in_err-put_all_at-clause-moments
returns-in_err-put_all_at-clause-moments g c tells keeps =
    let p = c.args.data_len_offset in
    let old = g.M.Placed.state c.args.medium.now in
    let has = has_size p old.contents c.requires.beyond (c.requires.inside tells)
    (g.met.M.Placed.bytes c.args.medium.now tells) in
    patches_none p c.args.riff_size c.args.data_length c.from_residual.result old
    (g.M.Placed.state c.put_all_at.new.medium)
    (riff_span g.M.Placed.keeps p c.args.riff_size c.args.data_length c.put_all_at.result _ _ keeps
    (g.met.M.Medium.replays c.args.medium.now tells keeps) has
    (with_bytes c.le_u32.ensures (c.put_all_at.ensures tells))) (search rules)

pub returns-in_err-put_all_at-2-clause-moments : goal.returns-in_err-put_all_at-2-clause-moments
returns-in_err-put_all_at-2-clause-moments g c tells keeps =
    let bytes = g.met.M.Placed.bytes in
    let replays = g.met.M.Medium.replays in
    let has = has_size c.args.data_len_offset _ c.requires.beyond (c.requires.inside tells)
    (bytes c.args.medium.now tells) in
    let first = (with_bytes c.le_u32.ensures (c.in_ok-put_all_at.ensures tells)) in
    patches_both g.M.Placed.keeps c.args.data_len_offset c.args.riff_size c.args.data_length _ _
    c.from_residual-in_err-put_all_at-2.result _ _ _ keeps
    (replays c.args.medium.now tells keeps) (replays c.put_all_at.new.medium tells keeps) has
    (bytes c.put_all_at.new.medium tells) first first.whole (search rules)
    (with_bytes c.le_u32-2.ensures (c.in_err-put_all_at-2.ensures tells)) (search rules)

pub returns-clause-moments : goal.returns-clause-moments
returns-clause-moments g c tells keeps =
    let bytes = g.met.M.Placed.bytes in
    let replays = g.met.M.Medium.replays in
    let has = has_size c.args.data_len_offset _ c.requires.beyond (c.requires.inside tells)
    (bytes c.args.medium.now tells) in
    let first = (with_bytes c.le_u32.ensures (c.in_ok-put_all_at.ensures tells)) in
    let second = (with_bytes c.le_u32-2.ensures (c.in_ok-put_all_at-2.ensures tells)) in
    let flush = c.flush.ensures tells in
    patches_still c.args.data_len_offset c.args.riff_size c.args.data_length c.flush.result
    c.flush.result _ _ _ (replays c.put_all_at-2.new.medium tells keeps) flush.stays
    (flushed_since c.flush.result _ _ flush) (on_ok_self c.flush.result)
    (patches_both g.M.Placed.keeps c.args.data_len_offset c.args.riff_size c.args.data_length _ _
    c.flush.result _ _ _ keeps
    (replays c.args.medium.now tells keeps) (replays c.put_all_at.new.medium tells keeps) has
    (bytes c.put_all_at.new.medium tells) first first.whole (search rules) second
    (on_ok c.flush.result refl))
