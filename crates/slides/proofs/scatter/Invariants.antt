-- `slides::scatter` meets its contract: a turn for each wheel. Assumes nothing.
use Rattle.passes.proofs.Laws.{Passing}
use Rattle.slides.specs.Slides.{slide_over}
use Rattle.slides.proofs.scatter.Given as goal

abbrev pub invariant-loop-i : goal.invariant-loop-i
invariant-loop-i l = Passing (slide_over l.slides) l.n l.initial.table l.i l.table
