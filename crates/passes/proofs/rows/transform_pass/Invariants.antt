-- `passes::rows::transform_pass` meets its contract: a turn for each wheel. Assumes nothing.
use lib.Ieee.{binary32}
use Rattle.passes.specs.Passes.{transform_at}
use Rattle.passes.proofs.Laws.{Passing}
use Rattle.passes.proofs.rows.transform_pass.Given as goal

abbrev pub invariant-loop-i : goal.invariant-loop-i
invariant-loop-i l = Passing (transform_at binary32 l.pose) l.n l.initial.table l.i l.table
