-- `ground::ground_named` meets its contract: 0 names no body, any other number the body before it in the list. Assumes nothing.
use Rattle.lists.proofs.Picks.{picks}
use Rattle.ground.specs.Frame.{ground_named}
use Rattle.ground.proofs.ground_named.Goals as goal

pub returns-then-n-eq0 : goal.returns-then-n-eq0
unfolding ground_named
returns-then-n-eq0 c = search picks depth 40 fits 4000

pub returns : goal.returns
unfolding ground_named
returns c = rw c.get_body.ensures (search picks depth 40 fits 4000)
