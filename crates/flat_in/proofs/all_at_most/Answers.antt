-- `flat_in::all_at_most` meets its contract: each number is looked at. Assumes nothing.
use borrow.Author.Rules.{rules}
use borrow.Author.Tests.{tests}
use Rattle.lists.proofs.Chains.{all_slice}
use Rattle.flat_in.specs.Lists.{at_most}
use Rattle.flat_in.proofs.all_at_most.Goals as goal

pub returns : goal.returns
unfolding at_most
returns c = all_slice (at_most c.args.most) c.all.ensures.ran (cc) (λ x b q k. search (rules, tests))
