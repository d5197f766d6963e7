-- `console::fill` meets its contract: what was read is behind the window's bytes. Assumes nothing.
use Rattle.console.specs.Reading.{Fills}
use Rattle.console.proofs.fill.Given as goal

abbrev pub invariant-loop : goal.invariant-loop
invariant-loop g l = Fills l.fn.window l.window
