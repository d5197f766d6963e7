-- `flat_out::put_sights` meets its contract: a turn for each wheel. Assumes nothing.
use borrow.Author.Rules.{rules}
use native.Mathlib.Omega.{arith}
use Rattle.flat_out.proofs.Sights.{sighted_start, sighted_again, sighted_done}
use Rattle.flat_out.proofs.put_sights.Goals as goal

pub loop-i-init : goal.loop-i-init
loop-i-init c = sighted_start _ _ (search rules)

pub loop-i-preserved : goal.loop-i-preserved
loop-i-preserved c =
    sighted_again _ _ _ _ _ _ c.loop-i.invariant (search rules) (search rules) (omega arith) c.put_sight.ensures

pub returns : goal.returns
returns c = sighted_done _ _ _ _ c.loop-i.invariant (search rules)
