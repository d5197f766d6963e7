-- `passes::chassis::push_pass` meets its contract: a turn for each wheel. Assumes nothing.
use lib.Ieee.{binary32}
use Rattle.passes.specs.Passes.{directions_at, push_at}
use Rattle.passes.proofs.Laws.{Moving}
use Rattle.passes.proofs.chassis.push_pass.Given as goal

abbrev pub invariant-loop-i : goal.invariant-loop-i
invariant-loop-i l = Moving (push_at binary32 l.up (directions_at l.directions)) l.n l.table l.initial.c l.i l.c
