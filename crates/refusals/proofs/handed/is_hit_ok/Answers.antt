-- `refusals::handed::is_hit_ok` meets its contract: each return gives the choice that the definition makes there. Assumes nothing.
use Rattle.lists.proofs.Picks.{picks}
use Rattle.refusals.specs.Handed.{hit_ok}
use Rattle.refusals.proofs.handed.is_hit_ok.Goals as goal

pub returns-then-not-is_in_unit : goal.returns-then-not-is_in_unit
unfolding hit_ok
returns-then-not-is_in_unit c = search picks depth 40 fits 4000

pub returns : goal.returns
unfolding hit_ok
returns c = search picks depth 40 fits 4000
