use Rattle.std.proofs.Common.{◌≡◌, ℕ, List, [], Option, Result, Ok, subst}
use Rattle.std.specs.Io.KnownBytes.{Appends, Keeps}
use Rattle.hound_number.specs.{Writes}
use Rattle.hound_commands.proofs.Outputs.{appends-kept, appends-none, part-written}
use Rattle.hound_commands.proofs.ShowAnswers.{err_is, file_shown, file_stops, head_stops, part_stops, stopped}
use Rattle.hound_spec.specs.declared.spec.WavSpecEx.{WavSpecEx}
use Rattle.hound_commands.specs.Commands.{failure_of, ReportsSamples}
use Rattle.hound_commands.specs.declared.error.CommandError.{CommandError}
use Rattle.hound_commands.specs.declared.error.CommandError.TheVariants.{InputOrOutput}
use Rattle.hound_commands.proofs.showing.show.Goals as goal

-- what was shown, once the result is known
answered : (s : WavSpecEx) (n : ℕ) (r known : Result (Unit {0}) CommandError) (left old new : Option (List ℕ))
    (first last : List ℕ)
    → r ≡ known → ReportsSamples s n r left old new first last → ReportsSamples s n known left old new first last
answered s n r known left old new first last is holds =
    subst (λ r. ReportsSamples s n r left old new first last) is holds

-- all was written, and then flushed
wrote : {T E : Type 0} (text : List ℕ) (r : Result T E) (x : T) (old mid new : Option (List ℕ)) → r ≡ Ok x
    → Writes text r old mid → Keeps mid new → Appends old new text
wrote text r x old mid new is writes keeps =
    appends-kept old mid new text (subst (λ r. Writes text r old mid) is writes) keeps

pub returns-in_err-reader-clause-until : goal.returns-in_err-reader-clause-until
returns-in_err-reader-clause-until g c =
    err_is _ c.from_residual.result (failure_of c.in_err-reader.field-0.0) c.from_residual.ensures.1
    (head_stops _ _ c.in_err-reader.field-0.0 c.in_err-reader.ensures.rejected)

pub returns-in_err-written-clause-until : goal.returns-in_err-written-clause-until
returns-in_err-written-clause-until g c =
    let reader = c.in_ok-reader.reader in
    let contents = g.O.Write.contents in
    let written = subst (λ r. Writes c.show_samples-result.new.lines r (contents c.show_samples-result.new.output)
    (contents c.write_to-written.new.output)) c.in_err-written.was c.write_to-written.ensures.written in
    err_is _ c.from_residual-in_err-written.result InputOrOutput c.from_residual-in_err-written.ensures.1
    (file_stops (g.R.Read.remaining c.args.input.now) _ reader.spec_ex reader.num_samples InputOrOutput
    c.spec.result c.len.result _ _ _ _ _ [] c.spec.ensures c.len.ensures c.in_ok-reader.ensures.found
    c.new-lines.ensures c.in_ok-push_spec.ensures
    (part_stops _ _ _ _ _ _ _ _
    (stopped _ _ c.show_samples-result.result _ _ _ _ _ c.show_samples-result.ensures) (part-written _ _ _ written))
    (appends-kept _ _ _ _ (appends-none _) c.flush-flushed.ensures.bytes))

pub returns-in_err-result-clause-until : goal.returns-in_err-result-clause-until
returns-in_err-result-clause-until g c =
    let reader = c.in_ok-reader.reader in
    let contents = g.O.Write.contents in
    let failure = c.in_err-result.field-0.0 in
    let stops = answered _ _ _ _ _ _ _ _ _ c.in_err-result.was c.show_samples-result.ensures in
    err_is _ c.from_residual-in_err-result.result failure c.from_residual-in_err-result.ensures.1
    (file_stops (g.R.Read.remaining c.args.input.now) _ reader.spec_ex reader.num_samples failure
    c.spec.result c.len.result _ _ _ _ _ _ c.spec.ensures c.len.ensures c.in_ok-reader.ensures.found
    c.new-lines.ensures c.in_ok-push_spec.ensures stops
    (wrote _ c.write_to-written.result _ _ _ _ c.in_ok-written.was c.write_to-written.ensures.written
    c.flush-flushed.ensures.bytes))

pub returns-in_err-flushed-clause-until : goal.returns-in_err-flushed-clause-until
returns-in_err-flushed-clause-until g c =
    let reader = c.in_ok-reader.reader in
    let contents = g.O.Write.contents in
    err_is _ c.from_residual-in_err-flushed.result InputOrOutput c.from_residual-in_err-flushed.ensures.1
    (file_stops (g.R.Read.remaining c.args.input.now) _ reader.spec_ex reader.num_samples InputOrOutput
    c.spec.result c.len.result _ _ _ _ _ _ c.spec.ensures c.len.ensures c.in_ok-reader.ensures.found
    c.new-lines.ensures c.in_ok-push_spec.ensures
    (stopped _ _ c.show_samples-result.result _ _ _ _ _ c.show_samples-result.ensures)
    (wrote _ c.write_to-written.result _ _ _ _ c.in_ok-written.was c.write_to-written.ensures.written
    c.flush-flushed.ensures.bytes))

pub returns-clause-shown : goal.returns-clause-shown
returns-clause-shown g c =
    let reader = c.in_ok-reader.reader in
    let contents = g.O.Write.contents in
    let shown = answered _ _ _ _ _ _ _ _ _ c.in_ok-result.was c.show_samples-result.ensures in
    file_shown (g.R.Read.remaining c.args.input.now) _ reader.spec_ex reader.num_samples
    c.spec.result c.len.result _ _ _ _ _ _ c.spec.ensures c.len.ensures c.in_ok-reader.ensures.found
    c.new-lines.ensures c.in_ok-push_spec.ensures shown
    (wrote _ c.write_to-written.result _ _ _ _ c.in_ok-written.was c.write_to-written.ensures.written
    c.flush-flushed.ensures.bytes)
