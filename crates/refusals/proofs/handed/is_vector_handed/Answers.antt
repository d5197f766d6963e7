-- `refusals::handed::is_vector_handed` meets its contract: the definition, replayed as the code runs. Assumes nothing.
use lib.Ieee.{of_bits}
use Rattle.refusals.specs.Handed.{vector_handed}
use Rattle.refusals.proofs.handed.is_vector_handed.Goals as goal

pub returns : goal.returns
unfolding vector_handed of_bits
returns c = rw (← c.all_within.ensures)
