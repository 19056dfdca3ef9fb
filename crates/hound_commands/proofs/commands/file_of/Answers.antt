use Rattle.std.proofs.Common.{refl, sym, ◌∙◌, ap}
use Rattle.hound_spec.specs.{with_default_width}
use Rattle.hound_commands.specs.Commands.{failure_of, containers_of}
use Rattle.hound_commands.proofs.PackAnswers.{end_named, file_made, write_rejected}
use Rattle.hound_commands.proofs.ShowAnswers.{err_is}
use Rattle.hound_commands.proofs.commands.file_of.Goals as goal

pub returns-in_err-write_samples-clause-rejected : goal.returns-in_err-write_samples-clause-rejected
returns-in_err-write_samples-clause-rejected c =
    let begun = c.in_ok-writer.ensures.begins.begun in
    let error = c.in_err-write_samples.field-0.0 in
    err_is _ c.from_residual-in_err-write_samples.result (failure_of error)
    c.from_residual-in_err-write_samples.ensures.1
    (write_rejected (with_default_width c.args.spec) c.requires.integers c.args.numbers.now
    c.in_ok-writer.writer begun _ (ap (λ s. containers_of s c.args.numbers.now) (sym begun.spec)) _
    c.in_err-write_samples.ensures.accepts.adds.answers)

pub returns-clause-made : goal.returns-clause-made
returns-clause-made c =
    let begins = c.in_ok-writer.ensures.begins in
    file_made (with_default_width c.args.spec) c.requires.integers
    c.args.numbers.now _ c.in_ok-writer.writer c.write_samples.new.self _ begins _
    (ap (λ s. containers_of s c.args.numbers.now) (sym begins.begun.spec))
    c.in_ok-write_samples.ensures.accepts _ c.finalize_into-file.ensures.finishes refl
    (c.new-tape.ensures.contents ∙ c.new.ensures.items) c.new-tape.ensures.place c.in_ok-result.was

pub returns-in_err-result-clause-rejected : goal.returns-in_err-result-clause-rejected
returns-in_err-result-clause-rejected c =
    let begins = c.in_ok-writer.ensures.begins in
    let error = c.in_err-result.field-0.0 in
    err_is _ c.from_residual-in_err-result.result (failure_of error) c.from_residual-in_err-result.ensures.1
    (end_named (with_default_width c.args.spec) c.requires.integers
    c.args.numbers.now _ c.in_ok-writer.writer c.write_samples.new.self _ begins _
    (ap (λ s. containers_of s c.args.numbers.now) (sym begins.begun.spec))
    c.in_ok-write_samples.ensures.accepts _ c.finalize_into-file.ensures.finishes error
    c.in_err-result.was)
