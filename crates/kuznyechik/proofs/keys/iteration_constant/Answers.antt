use mathlib.Core.Path.{sym, ap, ◌∙◌}
use Rattle.kuznyechik_spec.specs.Kuznyechik.{iteration_constant, transform_l}
use Rattle.kuznyechik_spec.proofs.Rounds.{block_of-small}
use Rattle.kuznyechik.proofs.keys.iteration_constant.Goals as goal

pub returns : goal.returns
unfolding iteration_constant
returns c = c.transform_l.ensures ∙ ap transform_l (sym (block_of-small c.args.i c.ranges.i.fits))
