-- `table::bounds::all_within` meets its contract: every number is looked at. Assumes nothing.
use native.Mathlib.Omega.{arith}
use Rattle.std.proofs.lemmas.Grind.{common_steps}
use Rattle.lists.proofs.Chains.{all_fold}
use Rattle.real.specs.Scalar.{within}
use Rattle.table.specs.Bounds.{all_within}
use Rattle.table.proofs.bounds.all_within.Goals as goal

pub returns : goal.returns
unfolding all_within
returns c = all_fold (within c.args.most) _ (grind (arith, common_steps))
