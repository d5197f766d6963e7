-- `refusals::shape::are_sizes_ok` meets its contract: each return gives the choice that the definition makes there. Assumes nothing.
use Rattle.lists.proofs.Picks.{picks}
use Rattle.refusals.specs.Shape.{sizes_ok}
use Rattle.refusals.proofs.shape.are_sizes_ok.Goals as goal

pub returns-then-table-ne-SIZE : goal.returns-then-table-ne-SIZE
unfolding sizes_ok
returns-then-table-ne-SIZE c = search picks depth 40 fits 4000

pub returns : goal.returns
unfolding sizes_ok
returns c = search picks depth 40 fits 4000
