-- `ranges::is_chassis_in_range` meets its contract: the definition, replayed as the code runs, at the bits of its constants. Assumes nothing.
use lib.Ieee.{of_bits}
use Rattle.lists.proofs.Picks.{picks}
use Rattle.ranges.specs.Ranges.{chassis_in_range}
use Rattle.ranges.proofs.is_chassis_in_range.Goals as goal

pub returns-then-is_in_range : goal.returns-then-is_in_range
unfolding chassis_in_range of_bits
returns-then-is_in_range c = search picks depth 40 fits 4000

pub returns-else-is_in_range : goal.returns-else-is_in_range
unfolding chassis_in_range of_bits
returns-else-is_in_range c = search picks depth 40 fits 4000
