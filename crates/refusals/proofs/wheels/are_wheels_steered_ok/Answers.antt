-- `refusals::wheels::are_wheels_steered_ok` meets its contract: the chain asks each wheel. Assumes nothing.
use borrow.Author.Rules.{rules}
use mathlib.Core.Path.{refl}
use lib.Ieee.{binary32}
use Rattle.lists.proofs.Chains.{every_range}
use Rattle.table.specs.Rows.{wheel_at}
use Rattle.refusals.specs.Steered.{wheel_steered_ok, all_steered_ok}
use Rattle.refusals.proofs.wheels.are_wheels_steered_ok.Goals as goal

pub returns : goal.returns
unfolding all_steered_ok
returns c =
    every_range (λ i. wheel_steered_ok binary32 (wheel_at c.args.table.now i)) c.args.n c.all.ensures.ran refl (λ x b q k. search rules) (λ x b q l k. search rules)
