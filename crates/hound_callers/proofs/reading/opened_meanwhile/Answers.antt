use Rattle.std.proofs.Common.{◌≡◌, ◌-◌, ◌++◌, length, arith, sym, subst}
use Rattle.std.proofs.lemmas.Result.{IfOk-weaker}
use Rattle.std.specs.List.{concat}
use Rattle.hound.specs.{ReadsAs, accepted_by_all, field, found_in, mix, moment, start_of}
use Rattle.hound_callers.proofs.reading.opened_meanwhile.Goals as goal

pub returns-clause-mixed : goal.returns-clause-mixed
returns-clause-mixed c =
    let m = c.args.journal.now in
    let k = c.args.k in
    IfOk-weaker c.bytes_after.result _ _
    (λ bytes is s file calls kept before after patch same asked from to.
    let (count, none, few, whole, mixed) = kept.promises.mixed before after patch same asked in
    let at = start_of s file - 4 in
    let new = length (concat (found_in file ++ accepted_by_all before)) in (
      count k,
      (few k k (omega arith)).1,
      subst (λ b. field at b ≡ mix (count k) (field at (moment m.start.items m.past.items patch.began)) new)
          (sym is) (mixed k from to).0,
    )) c.bytes_after.ensures.moment

pub returns-clause-checkpoint : goal.returns-clause-checkpoint
returns-clause-checkpoint c =
    IfOk-weaker c.bytes_after.result _ _
    (λ bytes is s file calls keeps before later after flush same published none from to frames.
    subst (ReadsAs s (start_of s file) (found_in file ++ accepted_by_all before)) (sym is)
    (c.a_checkpoint_holds.ensures.at_each s file calls _ keeps before later after flush c.args.k same published none
    from
    to frames)) c.bytes_after.ensures.moment
