-- `ranges::are_not_negative` meets its contract: each number is looked at. Assumes nothing.
use borrow.Author.Rules.{rules}
use borrow.Author.Tests.{tests}
use Rattle.lists.proofs.Chains.{all_slice}
use Rattle.ranges.proofs.are_not_negative.Goals as goal

pub returns : goal.returns
returns c = all_slice _ c.all.ensures.ran (cc) (λ x b q k. search (rules, tests))
