-- `console::serve` meets its contract: each turn is a run of `served` more, over what was read. Assumes nothing.
use Rattle.console.proofs.Serving.{Loop}
use Rattle.console.proofs.serve.Given as goal

abbrev pub invariant-loop : goal.invariant-loop
invariant-loop g l = Loop l.fn.car l.fn.window l.counter l.input l.window l.car
