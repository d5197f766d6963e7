-- `aim::sight_numbers` meets its contract: the definition, replayed as the code runs. Assumes nothing.
use mathlib.Core.Path.{refl}
use Rattle.aim.specs.Sights.{sight_list}
use Rattle.aim.proofs.sight_numbers.Goals as goal

pub returns : goal.returns
unfolding sight_list
returns c = refl
