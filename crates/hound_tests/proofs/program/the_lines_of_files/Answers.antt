use Rattle.std.proofs.Common.{refl}
use Rattle.std.specs.Fmt.{digits}
use Rattle.hound_tests.proofs.program.the_lines_of_files.Goals as goal

pub returns-clause-spec : goal.returns-clause-spec
unfolding digits
returns-clause-spec c = refl

pub returns-clause-integers : goal.returns-clause-integers
unfolding digits
returns-clause-integers c = refl
