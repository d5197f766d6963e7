-- `flat_out::put_sights` meets its contract: a turn for each wheel. Assumes nothing.
use Rattle.flat_out.proofs.Sights.{Sighted}
use Rattle.flat_out.proofs.put_sights.Given as goal

abbrev pub invariant-loop-i : goal.invariant-loop-i
invariant-loop-i l = Sighted l.initial.results l.sights l.i l.results
