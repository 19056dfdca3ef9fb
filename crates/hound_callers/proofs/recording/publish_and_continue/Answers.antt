use Rattle.std.proofs.Common.{[], ◌∷◌, ◌++◌, Ok, true, length, refl, subst, append_assoc}
use Rattle.hound.specs.{Call, Recorded, returned, containers_in, made, marked, publish, seen, write}
use Rattle.hound_callers.proofs.recording.publish_and_continue.Goals as goal

pub returns-clause-lasts : goal.returns-clause-lasts
returns-clause-lasts g c modelled s file before recorded =
    let M = g.M.Placed in
    let w = c.write_samples.new.self in
    let call = made (write (containers_in g.S.Sample.container s c.args.samples.now)) in
    let known = seen before ++ (marked publish true ∷ (call ∷ [])) in
    let all : Recorded M s file known w = subst (λ l. Recorded M s file l w)
    (append_assoc (seen before) (marked publish true ∷ []) (call ∷ []))
    (c.write_samples.ensures.recorded s file _ (c.in_ok-flush.ensures.marked s file _ recorded)) in
    let holds = c.what_is_kept.ensures.at_end modelled s file known w.medium
    (c.what_is_kept.ensures.so_far s file known w all) in
    c.what_is_known.ensures.lasts s file before (call ∷ []) holds.left.recorded.calls (M.state w.medium)
    holds.at_end holds.left.recorded.are_known ((λ same. cc), tt)

pub returns-clause-reads : goal.returns-clause-reads
returns-clause-reads g c modelled s file known recorded =
    let M = g.M.Placed in
    let w = c.write_samples.new.self in
    let call = made (write (containers_in g.S.Sample.container s c.args.samples.now)) in
    let all : Recorded M s file (known ++ (returned publish (Ok tt) ∷ (call ∷ []))) w =
    subst (λ l. Recorded M s file l w) (append_assoc known (returned publish (Ok tt) ∷ []) (call ∷ []))
    (c.write_samples.ensures.recorded s file _ (c.in_ok-flush.ensures.returned s file _ recorded)) in
    let (calls, later, are, later_are, holds, reads) =
    c.an_ok_flush_is_kept.ensures.now modelled s file known (call ∷ []) w all ((λ same. cc), tt) in
    (calls, later, are, holds, reads)

pub returns-clause-calls : goal.returns-clause-calls
returns-clause-calls g c =
    let M = g.M.Placed in
    let mid = c.flush.new.self in
    let w = c.write_samples.new.self in
    let call : Call = record {
      asked = write (containers_in g.S.Sample.container mid.spec_ex c.args.samples.now);
      answer = c.write_samples.result;
      began = length (M.state mid.medium).past;
    } in (
      mid,
      c.write_samples.result,
      c.in_ok-flush.ensures.checkpoints,
      c.write_samples.ensures.accepts,
      λ modelled keeps s file known recorded. c.an_ok_flush_is_kept.ensures.at_each modelled keeps s file known mid w
          (call ∷ []) (c.in_ok-flush.ensures.returned s file known recorded)
          (mid.batch_memory, w, refl, c.write_samples.ensures.accepts, (w.batch_memory, refl)) ((λ same. cc), tt),
    )
