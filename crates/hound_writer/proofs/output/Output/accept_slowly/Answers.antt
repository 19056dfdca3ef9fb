use Rattle.std.proofs.Common.{◌≡◌, Ok, ap, arith, rules, sym, ◌∙◌, length, take}
use Rattle.std.proofs.lemmas.Bool.{false≢true}
use Rattle.hound_writer.proofs.Containers.{one_whole}
use Rattle.hound_writer.proofs.Later.{accepts_cut, accepts_later}
use Rattle.hound_writer.proofs.Writing.{bytes_too_long}
use Rattle.hound_writer.proofs.output.Output.accept_slowly.Goals as goal

pub returns-then-not-has_room : goal.returns-then-not-has_room
returns-then-not-has_room g c =
    let W = g.W.Placed in
    let w = c.args.self.now in
    let wide = w.spec_ex.bytes_per_sample in
    let same : wide ≡ c.self.inside.spec_ex.bytes_per_sample =
    ap (λ w. w.spec_ex.bytes_per_sample) (sym c.self.view_is) in
    let size : length (take wide c.args.container) ≡ wide = search rules in
    bytes_too_long W w (take wide c.args.container) c.has_room.ensures.valid.counts
    (g.met.W.Medium.replays w.medium) (one_whole _ _ size)
    (λ room. absurd (false≢true (sym c.if-not-has_room.true
    ∙ c.has_room.ensures.room.1 (omega (arith, room, size, same)))))

pub returns-in-Err : goal.returns-in-Err
returns-in-Err g c =
    let W = g.W.Placed in
    let w = c.args.self.now in
    let bytes = take w.spec_ex.bytes_per_sample c.args.container in
    let size : length bytes ≡ w.spec_ex.bytes_per_sample = search rules in
    let room = c.has_room.ensures.room.0 c.if-not-has_room.false in
    accepts_cut W _ w _ bytes c.in-Err.error c.in-Err.ensures
    (search (rules, room, size)) (one_whole _ _ size)

pub returns-in-Ok : goal.returns-in-Ok
returns-in-Ok g c =
    let W = g.W.Placed in
    let out = rw (← c.self.view_is) at c.in-Ok.ensures in
    rw (← c.self.view_is)
    (accepts_later W _ _ _ _ (Ok tt) out tt (rw out.value at c.accept_in_block-in-Ok.ensures))
