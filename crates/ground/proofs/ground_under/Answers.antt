-- `ground::ground_under` meets its contract: the definition, replayed as the code runs. Assumes nothing.
use Rattle.ground.specs.Frame.{ground_under}
use Rattle.ground.proofs.ground_under.Goals as goal

pub returns : goal.returns
unfolding ground_under
returns c = rw (← c.named_of.ensures, ← c.ground_named.ensures)
