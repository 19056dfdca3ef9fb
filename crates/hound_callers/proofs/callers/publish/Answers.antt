use Rattle.std.proofs.Common.{◌≡◌, ◌∙◌, ℕ, List, rules, subst}
use Rattle.hound.specs.{ReadsAs, WavSpecEx, sample_count}
use Rattle.hound_callers.proofs.callers.publish.Goals as goal

pub returns-clause-counted : goal.returns-clause-counted
returns-clause-counted g c modelled s file known recorded =
    let state = g.M.Placed.state in
    let contents = (state c.flush.new.self.medium).contents in
    let (spec, start, whole, (calls, are, samples, count)) =
    c.a_writer_holds_its_calls.ensures modelled s file known c.args.writer.now recorded in
    let all : c.len.result ≡ sample_count c.args.writer.now = search rules in
    let read = (c.in_ok-flush.ensures.checkpoints.publishes modelled).read whole in (
      calls,
      are,
      all ∙ count,
      subst (λ (x : WavSpecEx × ℕ × List (List ℕ)). ReadsAs x.0 x.1 x.2 contents)
          (λ i. (spec i, start i, samples i)) read,
    )
