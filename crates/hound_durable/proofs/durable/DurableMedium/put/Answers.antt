use Rattle.std.proofs.lemmas.Grind.{common_steps}
use Rattle.std.proofs.Common.{◌≡◌, ◌∙◌, ap, ◌+◌, ◌-◌, length, take, arith, length-take-le}
use Rattle.hound_durable.specs.Losses.{place_of}
use Rattle.hound_durable.proofs.Ascending.{length_put, below_more, ascends_more, place_after}
use Rattle.hound_durable.proofs.durable.DurableMedium.put.Goals as goal

pub invariant_of-self-2-clause-counts : goal.invariant_of-self-2-clause-counts
invariant_of-self-2-clause-counts g c tells keeps =
    let d = c.args.self.now in
    let old = g.M.Placed.state d.inner in
    let bytes = take c.in_ok-n.n c.args.bytes.now in
    omega (
      arith,
      ap length (((rw c.in_ok-n.ensures.same at c.put.ensures.puts) tells).takes.past keeps),
      length_put old.past old.place bytes,
      length-take-le c.in_ok-n.n c.args.bytes.now (rw c.in_ok-n.ensures.same at c.put.ensures.bound).1,
      d.counts tells keeps,
    )

pub invariant_of-self-2-clause-covered : goal.invariant_of-self-2-clause-covered
invariant_of-self-2-clause-covered g c tells keeps =
    let d = c.args.self.now in
    let old = g.M.Placed.state d.inner in
    let puts = (rw c.in_ok-n.ensures.same at c.put.ensures.puts) tells in
    let bytes = take c.in_ok-n.n c.args.bytes.now in
    let end : old.place + length bytes ≡ d.place + c.in_ok-n.n = omega (
      arith,
      d.is_there tells,
      length-take-le c.in_ok-n.n c.args.bytes.now (rw c.in_ok-n.ensures.same at c.put.ensures.bound).1,
    ) in
    rw (← end, puts.takes.past keeps, puts.takes.flushed)
    (below_more old.past old.place d.end old.flushed bytes (d.covered tells keeps)
    (omega (arith, d.after, d.is_there tells)))

pub invariant_of-self-2-clause-last : goal.invariant_of-self-2-clause-last
invariant_of-self-2-clause-last g c tells keeps before =
    let d = c.args.self.now in
    let old = g.M.Placed.state d.inner in
    let puts = (rw c.in_ok-n.ensures.same at c.put.ensures.puts) tells in
    let bytes = take c.in_ok-n.n c.args.bytes.now in
    let size = length-take-le c.in_ok-n.n c.args.bytes.now (rw c.in_ok-n.ensures.same at c.put.ensures.bound).1 in
    let some = (rw c.in_ok-n.ensures.same at c.put.ensures.bound).0 in
    let i = length old.past + c.in_ok-n.n - 1 in
    let long = ap length (puts.takes.past keeps) ∙ length_put old.past old.place bytes in (
      omega (arith, puts.takes.flushed, d.known tells keeps, some, long, size),
      omega (
        arith,
        d.is_there tells,
        ap (λ n. place_of (g.M.Placed.state c.put.new.self).past (n - 1)) (long ∙ ap (λ n. length old.past + n) size),
        ap (λ past. place_of past i) (puts.takes.past keeps),
        place_after old.past old.place bytes i (omega (arith, some)) (omega (arith, some, size)),
        some,
      ),
    )

pub invariant_of-self-2-clause-ascends : goal.invariant_of-self-2-clause-ascends
invariant_of-self-2-clause-ascends g c tells keeps =
    let d = c.args.self.now in
    let old = g.M.Placed.state d.inner in
    let puts = (rw c.in_ok-n.ensures.same at c.put.ensures.puts) tells in
    rw (puts.takes.past keeps, puts.takes.flushed)
    (ascends_more old.past old.place d.end old.flushed (take c.in_ok-n.n c.args.bytes.now)
    (d.covered tells keeps) (omega (arith, d.after, d.is_there tells)) (d.ascends tells keeps))

pub invariant_of-self-2-clause-known : goal.invariant_of-self-2-clause-known
invariant_of-self-2-clause-known g c = grind (arith, common_steps)
