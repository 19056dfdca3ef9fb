use Rattle.hound_writer.proofs.Acting.{directing_asked, directing_cut, directing_failed, directing_handed, directing_new, directing_performed, directing_resumed, directing_saved, directing_wrote}
use Rattle.hound_writer.proofs.Mending.{mended}
use Rattle.hound_writer.proofs.laws.a_recorder_directs.Goals as goal

pub returns-clause-new : goal.returns-clause-new
returns-clause-new c = directing_new

pub returns-clause-resumed : goal.returns-clause-resumed
returns-clause-resumed c = directing_resumed

pub returns-clause-mended : goal.returns-clause-mended
returns-clause-mended c = mended

pub returns-clause-asked : goal.returns-clause-asked
returns-clause-asked c = directing_asked

pub returns-clause-performed : goal.returns-clause-performed
returns-clause-performed c = directing_performed

pub returns-clause-wrote : goal.returns-clause-wrote
returns-clause-wrote c = directing_wrote

pub returns-clause-cut : goal.returns-clause-cut
returns-clause-cut c = directing_cut

pub returns-clause-handed : goal.returns-clause-handed
returns-clause-handed c = directing_handed

pub returns-clause-saved : goal.returns-clause-saved
returns-clause-saved c = directing_saved

pub returns-clause-failed : goal.returns-clause-failed
returns-clause-failed c = directing_failed
