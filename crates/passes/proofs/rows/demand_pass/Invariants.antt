-- `passes::rows::demand_pass` meets its contract: a turn for each wheel. Assumes nothing.
use lib.ListN.{length}
use lib.Ieee.{binary32}
use Rattle.ground.specs.Frame.{frame_of}
use Rattle.passes.specs.Passes.{stored, directions_at, demand_at}
use Rattle.passes.proofs.Laws.{Passing}
use Rattle.passes.proofs.rows.demand_pass.Given as goal

abbrev pub invariant-loop-i : goal.invariant-loop-i
invariant-loop-i l = Passing (demand_at binary32 stored (frame_of l.on.frame) l.chassis l.grounded (directions_at l.directions)) (length l.on.frame.answers.now) l.initial.table l.i l.table
