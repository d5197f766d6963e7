-- `refusals::normals::is_hit_normal_ok` meets its contract: each return gives the choice that the definition makes there. Assumes nothing.
use Rattle.lists.proofs.Picks.{picks}
use Rattle.refusals.specs.Normals.{hit_normal_ok}
use Rattle.refusals.proofs.normals.is_hit_normal_ok.Goals as goal

pub returns-then-is_undefined : goal.returns-then-is_undefined
unfolding hit_normal_ok
returns-then-is_undefined c = search picks depth 40 fits 4000

pub returns : goal.returns
unfolding hit_normal_ok
returns c = search picks depth 40 fits 4000
