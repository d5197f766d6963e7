-- `refusals::answers::are_answers_ok` meets its contract: the chain asks each answer. Assumes nothing.
use borrow.Author.Rules.{rules}
use Rattle.lists.proofs.Chains.{every_slice}
use Rattle.wheel.specs.declared.RayAnswer.TheVariants.{Nothing}
use Rattle.refusals.specs.Handed.{answer_ok, answers_ok}
use Rattle.refusals.proofs.answers.are_answers_ok.Goals as goal

pub returns : goal.returns
unfolding answers_ok
returns c = every_slice (answer_ok c.args.bodies) Nothing c.all.ensures.ran c.iter.ensures.rest (λ x b q k. search rules)
