-- `aim::speed_of` meets its contract: the definition, replayed as the code runs. Assumes nothing.
use lib.Ieee.{of_bits}
use Rattle.aim.specs.Aim.{speed_of}
use Rattle.aim.proofs.speed_of.Goals as goal

pub returns-then-dot : goal.returns-then-dot
unfolding speed_of of_bits
returns-then-dot c = rw (← c.length-speed.ensures, ← c.ith.ensures, ← c.rotate.ensures, ← c.dot.ensures, c.if-dot.true)

pub returns-else-dot : goal.returns-else-dot
unfolding speed_of of_bits
returns-else-dot c = rw (← c.length-speed.ensures, ← c.ith.ensures, ← c.rotate.ensures, ← c.dot.ensures, c.if-dot.false)
