-- `ranges::is_steering_in_range` meets its contract: the definition, at the bits of its constant. Assumes nothing.
use lib.Ieee.{of_bits}
use Rattle.ranges.specs.Ranges.{steering_in_range}
use Rattle.ranges.proofs.is_steering_in_range.Goals as goal

pub returns-in-ByAngle : goal.returns-in-ByAngle
unfolding steering_in_range of_bits
returns-in-ByAngle c = rw c.in-ByAngle.is c.is_in_range.ensures
