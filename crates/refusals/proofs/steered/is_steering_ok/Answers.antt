-- `refusals::steered::is_steering_ok` meets its contract: the definition, replayed as the code runs. Assumes nothing.
use Rattle.refusals.specs.Steered.{steering_ok}
use Rattle.refusals.proofs.steered.is_steering_ok.Goals as goal

pub returns-in-ByRotation : goal.returns-in-ByRotation
unfolding steering_ok
returns-in-ByRotation c = rw c.in-ByRotation.is

pub returns-in-ByAngle : goal.returns-in-ByAngle
unfolding steering_ok
returns-in-ByAngle c = rw (c.in-ByAngle.is, ← c.is_turn_ok.ensures)
