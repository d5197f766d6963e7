-- `refusals::normals::is_normal_ok` meets its contract: the definition, replayed as the code runs. Assumes nothing.
use Rattle.refusals.specs.Normals.{normal_ok}
use Rattle.refusals.proofs.normals.is_normal_ok.Goals as goal

pub returns : goal.returns
unfolding normal_ok
returns c = rw (← c.dot.ensures, ← c.is_in_band.ensures)
