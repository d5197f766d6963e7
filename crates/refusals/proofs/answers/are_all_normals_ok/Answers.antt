-- `refusals::answers::are_all_normals_ok` meets its contract: the chain asks each answer. Assumes nothing.
use borrow.Author.Rules.{rules}
use lib.Ieee.{binary32}
use Rattle.lists.proofs.Chains.{every_slice}
use Rattle.wheel.specs.declared.RayAnswer.TheVariants.{Nothing}
use Rattle.refusals.specs.Normals.{normals_ok, all_normals_ok}
use Rattle.refusals.proofs.answers.are_all_normals_ok.Goals as goal

pub returns : goal.returns
unfolding all_normals_ok
returns c = every_slice (normals_ok binary32) Nothing c.all.ensures.ran c.iter.ensures.rest (λ x b q k. search rules)
