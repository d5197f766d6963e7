-- `refusals::shape::are_axes_ok` meets its contract: each return gives the choice that the definition makes there. Assumes nothing.
use Rattle.lists.proofs.Picks.{picks}
use Rattle.refusals.specs.Shape.{axes_ok}
use Rattle.refusals.proofs.shape.are_axes_ok.Goals as goal

pub returns-then-up-gt2 : goal.returns-then-up-gt2
unfolding axes_ok
returns-then-up-gt2 c = search picks depth 40 fits 4000

pub returns : goal.returns
unfolding axes_ok
returns c = search picks depth 40 fits 4000
