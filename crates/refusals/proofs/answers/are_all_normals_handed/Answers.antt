-- `refusals::answers::are_all_normals_handed` meets its contract: the chain asks each answer. Assumes nothing.
use borrow.Author.Rules.{rules}
use Rattle.lists.proofs.Chains.{every_slice}
use Rattle.wheel.specs.declared.RayAnswer.TheVariants.{Nothing}
use Rattle.refusals.specs.Handed.{normals_handed, all_normals_handed}
use Rattle.refusals.proofs.answers.are_all_normals_handed.Goals as goal

pub returns : goal.returns
unfolding all_normals_handed
returns c = every_slice normals_handed Nothing c.all.ensures.ran c.iter.ensures.rest (λ x b q k. search rules)
