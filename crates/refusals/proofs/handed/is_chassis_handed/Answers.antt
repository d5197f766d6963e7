-- `refusals::handed::is_chassis_handed` meets its contract: the numbers in order are all tested. Assumes nothing.
use mathlib.Core.Path.{◌∙◌, ap}
use lib.Ieee.{of_bits}
use Rattle.table.specs.Bounds.{all_within, HANDED}
use Rattle.refusals.specs.Handed.{chassis_handed}
use Rattle.refusals.proofs.handed.is_chassis_handed.Goals as goal

pub returns : goal.returns
unfolding chassis_handed of_bits
returns c = c.all_within.ensures ∙ ap (all_within HANDED) c.chassis_numbers-numbers.ensures
