-- `lines::places` meets its contract: the digits of the rest and those counted are those of n. Assumes nothing.
use borrow.Author.Rules.{rules}
use native.Mathlib.Omega.{arith}
use Rattle.lines.proofs.Digits.{one_counted, next_counted, all_counted}
use Rattle.lines.proofs.places.Goals as goal

pub loop-rest-init : goal.loop-rest-init
loop-rest-init c = one_counted _ (search rules)

pub loop-rest-preserved : goal.loop-rest-preserved
loop-rest-preserved c = next_counted c.loop-rest.invariant (omega arith)

pub returns : goal.returns
returns c = all_counted c.loop-rest.invariant (omega arith)
