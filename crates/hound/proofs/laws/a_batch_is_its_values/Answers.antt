use Rattle.hound.proofs.Batching.{same_samples}
use Rattle.hound.proofs.laws.a_batch_is_its_values.Goals as goal

pub returns : goal.returns
returns g x tells first a b c whole sixteen two same batch each =
    same_samples g.M.Placed tells x.args.values.now first
    a b c whole sixteen two same batch each
