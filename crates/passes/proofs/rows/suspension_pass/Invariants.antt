-- `passes::rows::suspension_pass` meets its contract: a turn for each wheel. Assumes nothing.
use lib.ListN.{length}
use lib.Ieee.{binary32}
use Rattle.wheel.specs.Ray.{answer_at}
use Rattle.passes.specs.Passes.{stored, suspend_at}
use Rattle.passes.proofs.Laws.{Passing}
use Rattle.passes.proofs.rows.suspension_pass.Given as goal

abbrev pub invariant-loop-i : goal.invariant-loop-i
invariant-loop-i l = Passing (suspend_at binary32 stored l.invmass (answer_at l.fn.answers.list.now)) (length l.fn.answers.list.now) l.initial.table l.i l.table
