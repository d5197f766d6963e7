-- `console::serve` meets its contract: each turn is a run of `served` more, over what was read. Assumes nothing.
use borrow.Author.Rules.{rules}
use native.Mathlib.Numerals.{add-one}
use native.Mathlib.Omega.{arith}
use Rattle.console.proofs.Serving.{loop_starts, one_turn, loop_ends}
use Rattle.console.proofs.serve.Goals as goal
use Rattle.console.proofs.serve.Goals.{else-loop-test, then-loop-test+then-not-input}

pub loop-init : goal.loop-init
loop-init g c = rw c.standing-input.ensures (loop_starts _ _)

pub loop-preserved : goal.loop-preserved
loop-preserved g c = rw add-one (one_turn c.loop.invariant (search rules) c.turn-input.ensures)

pub returns : goal.returns
returns g c = (
  elim c.loop-test.branch [
    | else-loop-test w ↦ loop_ends c.loop.invariant (omega arith)
    | then-loop-test+then-not-input w ↦ c.loop.invariant.stopped (search rules)
  ],
  c.len.ensures.0,
  c.len.ensures.1,
)
