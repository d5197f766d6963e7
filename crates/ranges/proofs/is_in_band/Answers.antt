-- `ranges::is_in_band` meets its contract: the definition, replayed as the code runs. Assumes nothing.
use lib.Ieee.{of_bits}
use Rattle.ranges.specs.Ranges.{in_band}
use Rattle.ranges.proofs.is_in_band.Goals as goal

pub returns : goal.returns
unfolding in_band of_bits
returns c = c.is_in_range.ensures
