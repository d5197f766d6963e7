-- `refusals::handed::are_controls_handed` meets its contract: the numbers in order are all tested. Assumes nothing.
use lib.Ieee.{of_bits}
use Rattle.refusals.specs.Handed.{controls_handed}
use Rattle.refusals.proofs.handed.are_controls_handed.Goals as goal

pub returns-in-ByRotation : goal.returns-in-ByRotation
unfolding controls_handed of_bits
returns-in-ByRotation c = rw c.in-ByRotation.is c.all_within.ensures

pub returns-in-ByAngle : goal.returns-in-ByAngle
unfolding controls_handed of_bits
returns-in-ByAngle c = rw c.in-ByAngle.is c.all_within-in-ByAngle.ensures
