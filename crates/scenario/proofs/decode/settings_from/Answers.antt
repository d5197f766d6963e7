-- `scenario::decode::settings_from` meets its contract: the definition, replayed as the code runs. Assumes nothing.
use lib.Ieee.{of_bits}
use Rattle.real.specs.Number.{ratio}
use Rattle.scenario.specs.Decode.{settings_from}
use Rattle.scenario.proofs.decode.settings_from.Goals as goal

pub returns : goal.returns
unfolding settings_from ratio of_bits
returns c = rw (← c.rolled_from-s.ensures)
