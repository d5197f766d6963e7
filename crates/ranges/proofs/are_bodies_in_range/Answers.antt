-- `ranges::are_bodies_in_range` meets its contract: each body is looked at. Assumes nothing.
use mathlib.Core.Path.{refl}
use borrow.Author.Rules.{rules}
use borrow.Author.Tests.{tests}
use Rattle.lists.proofs.Chains.{every_range}
use Rattle.ranges.specs.Ranges.{bodies_in_range, body_in_range}
use Rattle.ranges.proofs.are_bodies_in_range.Goals as goal

pub returns : goal.returns
unfolding bodies_in_range body_in_range
returns c = every_range _ _ c.all.ensures.ran refl (λ x b q k. search (rules, tests)) (λ x b q l k. search (rules, tests))
