use Rattle.std.proofs.Common.{Ok}
use Rattle.hound_writer.specs.Accepting.{sample_bytes}
use Rattle.hound_writer.proofs.Answers.{is_error}
use Rattle.hound_writer.proofs.AcceptingMany.{fit}
use Rattle.hound_writer.proofs.Later.{accepts_cut, accepts_later, kept_fails}
use Rattle.hound_writer.proofs.output.Output.accept_encoded.Goals as goal

pub returns-in_err-put_block : goal.returns-in_err-put_block
returns-in_err-put_block g c =
    let W = g.W.Placed in
    let w = c.args.self.now in
    let values = c.args.samples.now in
    let fits = fit g.S.Sample.container g.met.S.Sample.in_width values w c.requires.have c.requires.room in
    rw (is_error _ _ c.from_residual.ensures.1)
    (accepts_cut W _ w _ (sample_bytes g.S.Sample.container w.spec_ex values)
    _ c.in_err-put_block.ensures fits.room fits.whole)

pub returns-then-num_bytes-gt-BLOCK_LENGTH : goal.returns-then-num_bytes-gt-BLOCK_LENGTH
returns-then-num_bytes-gt-BLOCK_LENGTH g c =
    let W = g.W.Placed in
    let out = c.in_ok-put_block.ensures in
    let once = c.accept_samples_at_once in
    accepts_later W _ _ _ _ _ out (kept_fails once.result)
    (rw out.value at once.ensures)

pub returns : goal.returns
returns g c =
    let W = g.W.Placed in
    let out = c.in_ok-put_block.ensures in
    accepts_later W _ _ _ _ (Ok tt) out tt
    (rw out.value at c.accept_samples_in_block-2.ensures)
