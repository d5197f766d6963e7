-- `drive::results::velocity_numbers` meets its contract: the definition, replayed as the code runs. Assumes nothing.
use mathlib.Core.Path.{refl}
use Rattle.drive.specs.Results.{velocity_list}
use Rattle.drive.proofs.results.velocity_numbers.Goals as goal

pub returns : goal.returns
unfolding velocity_list
returns c = refl
