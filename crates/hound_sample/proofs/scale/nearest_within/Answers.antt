use Rattle.hound_sample.proofs.Floats.{can_cast, narrow_fits, narrow_is_nearest, narrow_within, rest_fits}
use Rattle.hound_sample.proofs.scale.nearest_within.Goals as goal

pub float_to_int-result : goal.float_to_int-result
float_to_int-result c = can_cast c.args.number c.args.limit c.requires.most c.requires.above c.requires.below

pub overflow_sub-result : goal.overflow_sub-result
overflow_sub-result c = rest_fits c.args.number c.args.limit c.requires.most c.requires.above c.requires.below

pub overflow_cast-result : goal.overflow_cast-result
overflow_cast-result c = narrow_fits c.args.number c.args.limit c.requires.most c.requires.above c.requires.below

pub returns-clause-value : goal.returns-clause-value
returns-clause-value c = narrow_is_nearest c.args.number c.args.limit c.requires.most c.requires.above c.requires.below

pub returns-clause-within : goal.returns-clause-within
returns-clause-within c = narrow_within c.args.number c.args.limit c.requires.most c.requires.above c.requires.below
