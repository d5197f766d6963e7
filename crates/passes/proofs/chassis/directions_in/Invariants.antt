-- `passes::chassis::directions_in` meets its contract: a turn for each wheel. Assumes nothing.
use lib.Ieee.{binary32}
use Rattle.lists.proofs.Turns.{Turning}
use Rattle.road.specs.Contact.{directions_of}
use Rattle.passes.specs.Passes.{given}
use Rattle.passes.proofs.chassis.directions_in.Given as goal

abbrev pub invariant-loop-i : goal.invariant-loop-i
invariant-loop-i l = Turning (given (directions_of binary32) l.table) l.n l.initial.all l.i l.all
