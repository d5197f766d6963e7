-- `ground::Answers::grounded_wheels` meets its contract: the grounded answers counted, by their places. Assumes nothing.
use borrow.Author.Rules.{rules}
use Rattle.lists.proofs.Counts.{count_chain}
use Rattle.wheel.specs.declared.RayAnswer.TheVariants.{Nothing}
use Rattle.wheel.specs.Ray.{is_grounded}
use Rattle.ground.specs.Frame.{grounded_at, grounded_wheels}
use Rattle.ground.proofs.Answers.grounded_wheels.Goals as goal

pub returns : goal.returns
unfolding grounded_wheels grounded_at
returns c = count_chain is_grounded Nothing _ c.args.self.list.now (search rules)
