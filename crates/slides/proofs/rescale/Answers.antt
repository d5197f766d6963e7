-- `slides::rescale` meets its contract: a turn leaves its record as `rescaled_of` makes it, by the test of its skid. Assumes nothing.
use lib.Ieee.{of_bits}
use Rattle.tyre.specs.Grip.{rescaled_of, rescaled_by}
use Rattle.slides.specs.Slides.{none}
use Rattle.slides.proofs.Each.{up_to_turn}
use Rattle.slides.proofs.rescale.Goals as goal
use Rattle.slides.proofs.rescale.Goals.{then-s, else-s}

pub loop-s-preserved : goal.loop-s-preserved
unfolding rescaled_of rescaled_by of_bits
loop-s-preserved c = elim c.if-s.branch [
  | then-s w ↦ up_to_turn _ _ _ _ _ none _ c.loop-s.invariant w.slides-is (rw w.if-s.true)
  | else-s w ↦ up_to_turn _ _ _ _ _ none _ c.loop-s.invariant w.slides-is (rw w.if-s.false)
]
