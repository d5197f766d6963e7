-- `refusals::wheels::are_wheels_in_range` meets its contract: the chain asks each wheel. Assumes nothing.
use borrow.Author.Rules.{rules}
use mathlib.Core.Path.{refl}
use lib.Ieee.{binary32}
use Rattle.lists.proofs.Chains.{every_range}
use Rattle.ranges.specs.Ranges.{wheel_in_range, stored_in_range}
use Rattle.refusals.proofs.wheels.are_wheels_in_range.Goals as goal

pub returns : goal.returns
unfolding stored_in_range
returns c = every_range (wheel_in_range binary32 c.args.table.now) c.args.n c.all.ensures.ran refl (λ x b q k. search rules) (λ x b q l k. search rules)
