use Rattle.hound_writer.specs.{found_in, start_of}
use Rattle.hound.proofs.Recovering.{none_lost}
use Rattle.hound.proofs.laws.a_repair_loses_no_published_sample.Goals as goal

pub returns : goal.returns
returns x s file calls left kept before after flush looks cut mended found same has_all at repairs alone =
    none_lost s (start_of s file) (found_in file) calls left kept.promises kept.at_end.sound
    kept.at_end.wide before after flush same has_all looks cut mended found at repairs alone
