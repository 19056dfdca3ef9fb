use Rattle.std.proofs.Common.{◌≡◌, ℤ, [], ◌∷◌, true, Ok, Err, Result, arith, inl, inr, length, of_z, refl, rules, subst, sym, to_z, w32}
use Rattle.std.proofs.Math.Facts.{to_z-of_z}
use Rattle.hound.specs.{Ghosts, Call, Error, WriterState, canonical, Finishes, Ran, Takes, asked_by, containers_of}
use Rattle.hound.specs.declared.session.Begin.TheVariants.{New}
use Rattle.hound.specs.declared.session.End.TheVariants.{Finalize}
use Rattle.hound.specs.declared.session.Step.TheVariants.{Whole}
use Rattle.hound.proofs.Running.{is_ok}
use Rattle.hound_callers.proofs.recording.pack_one.Goals as goal

-- what a value is taken as is so of one that is the same
as_value : {M : Type 0} (kind : Ghosts M) (answer : Result (Unit {0}) Error) (a b : WriterState M)
    (v w : ℤ) → v ≡ w → Takes kind (Whole v) answer a b → Takes kind (Whole w) answer a b
as_value kind answer a b v w same takes = subst (λ v. Takes kind (Whole v) answer a b) same takes

pub returns-in-Err-clause-err : goal.returns-in-Err-clause-err
returns-in-Err-clause-err g c =
    let M = g.M.Placed in
    let (end, finishes) = c.drop_into.ensures.finishes in
    inr (
      c.in_ok-writer.writer,
      c.write_sample.new.self,
      c.in_ok-writer.ensures.begins,
      inl (
        as_value M _ _ _ (to_z w32 (of_z w32 c.args.value)) c.args.value (to_z-of_z {w = w32} (search rules))
            c.in-Err.ensures.accepts,
        end,
        finishes,
      ),
    )

pub returns-in_default-Err-clause-err : goal.returns-in_default-Err-clause-err
returns-in_default-Err-clause-err g c =
    let M = g.M.Placed in
    inr (
      c.in_ok-writer.writer,
      c.write_sample.new.self,
      c.in_ok-writer.ensures.begins,
      inr (
        as_value M _ _ _ (to_z w32 (of_z w32 c.args.value)) c.args.value (to_z-of_z {w = w32} (search rules))
            (subst (λ r. Takes M (Whole (to_z w32 (of_z w32 c.args.value))) r c.in_ok-writer.writer
            c.write_sample.new.self) (is_ok c.write_sample.result c.in_default.not-Err) c.write_sample.ensures.accepts),
        subst (λ e. Finishes M c.write_sample.new.self (Err e) c.finalize_into.result.0) (sym c.in_default-Err.error-is)
            (subst (λ r. Finishes M c.write_sample.new.self r c.finalize_into.result.0) c.in_default-Err.is-1
            c.finalize_into.ensures.finishes),
      ),
    )

pub returns-in_default-Ok : goal.returns-in_default-Ok
returns-in_default-Ok g c =
    let W = g.M.Placed in
    let s = c.args.spec_ex in
    let first = c.in_ok-writer.writer in
    let write = c.write_sample in
    let last = write.new.self in
    let end = c.finalize_into in
    let same = to_z w32 (of_z w32 c.args.value) in
    let back : same ≡ c.args.value = to_z-of_z {w = w32} (search rules) in
    let takes : Takes W (Whole same) (Ok tt) first last = subst (λ r. Takes W (Whole same) r first last)
    (is_ok write.result c.in_default.not-Err) write.ensures.accepts in
    let finishes : Finishes W last (Ok tt) end.result.0 =
    subst (λ r. Finishes W last r end.result.0) c.in_default-Ok.is-1 end.ensures.finishes in
    let call : Call = record {
      asked = asked_by first.spec_ex (Whole same);
      answer = Ok tt;
      began = length (W.state first.medium).past;
    } in
    record {
      run = subst (λ v. Ran W (New s) (Whole v ∷ []) (true ∷ []) Finalize c.args.medium (Ok tt) end.result.0) back
          (c.calls_are_a_run.ensures (New s) Finalize c.args.medium end.result.0 first last
          (call ∷ []) (Ok tt) (Ok tt) c.in_ok-writer.ensures.begins
          (first.batch_memory, last, refl, takes, (last.batch_memory, refl)) refl finishes refl);
      exact = λ modelled. subst
          (λ v. (W.state end.result.0).contents ≡ canonical s (containers_of s (Whole v ∷ []))) back
          (c.sessions_leave_one_file.ensures modelled c.args.medium end.result.0 (c.requires.place modelled)
          c.requires.empty (omega arith)
          (inr (
            end.result.0,
            inr (first, c.in_ok-writer.ensures.begins, inr (last, takes, finishes)),
            (refl, refl),
          )));
      err = tt;
    }
