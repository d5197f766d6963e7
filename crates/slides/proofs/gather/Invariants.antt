-- `slides::gather` meets its contract: a turn for each wheel. Assumes nothing.
use Rattle.lists.proofs.Turns.{Turning}
use Rattle.wheel.specs.Parts.{friction_in}
use Rattle.passes.specs.Passes.{given}
use Rattle.slides.proofs.gather.Given as goal

abbrev pub invariant-loop-i : goal.invariant-loop-i
invariant-loop-i l = Turning (given friction_in l.table) l.n l.initial.slides l.i l.slides
