-- `aim::sights_of` meets its contract: a turn for each wheel. Assumes nothing.
use lib.Ieee.{binary32}
use Rattle.lists.proofs.Turns.{Turning}
use Rattle.passes.specs.Passes.{given}
use Rattle.aim.specs.Aim.{sight_of}
use Rattle.aim.proofs.sights_of.Given as goal

abbrev pub invariant-loop-i : goal.invariant-loop-i
invariant-loop-i l = Turning (given (sight_of binary32) l.table) l.n l.initial.all l.i l.all
