-- `passes::chassis::are_admitted` meets its contract: the chain asks each wheel. Assumes nothing.
use borrow.Author.Rules.{rules}
use mathlib.Core.Path.{refl}
use Rattle.lists.proofs.Chains.{every_range}
use Rattle.passes.specs.Passes.{demands_admitted}
use Rattle.passes.proofs.chassis.are_admitted.Goals as goal

pub returns : goal.returns
unfolding demands_admitted
returns c = every_range _ _ c.all.ensures.ran refl (λ x b q k. search rules) (λ x b q l k. search rules)
