-- `add_wheel::new_wheel` meets its contract: the definition, replayed as the code runs. Assumes nothing.
use lib.Ieee.{of_bits}
use Rattle.add_wheel.specs.Add.{new_wheel}
use Rattle.add_wheel.proofs.new_wheel.Goals as goal

pub returns : goal.returns
unfolding new_wheel of_bits
returns c = rw (c.into.ensures, c.blank_wheel.ensures, ← c.identity-straight.ensures, ← c.zero.ensures)
