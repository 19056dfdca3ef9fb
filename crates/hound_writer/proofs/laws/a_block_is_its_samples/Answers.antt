use Rattle.hound_writer.proofs.OneByOne.{block_is_samples}
use Rattle.hound_writer.proofs.laws.a_block_is_its_samples.Goals as goal

pub returns : goal.returns
returns g x modelled samples a b c whole block each =
    block_is_samples g.M.Placed g.S.Sample.container modelled
    samples a b c whole block each
