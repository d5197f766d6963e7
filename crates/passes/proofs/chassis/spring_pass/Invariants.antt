-- `passes::chassis::spring_pass` meets its contract: a turn for each wheel. Assumes nothing.
use lib.Ieee.{binary32}
use Rattle.passes.specs.Passes.{stored, spring_at}
use Rattle.passes.proofs.Laws.{Moving}
use Rattle.passes.proofs.chassis.spring_pass.Given as goal

abbrev pub invariant-loop-i : goal.invariant-loop-i
invariant-loop-i l = Moving (spring_at binary32 stored l.dt) l.n l.table l.initial.c l.i l.c
