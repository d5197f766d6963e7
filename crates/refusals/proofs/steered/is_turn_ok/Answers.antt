-- `refusals::steered::is_turn_ok` meets its contract: the definition, replayed as the code runs. Assumes nothing.
use Rattle.refusals.specs.Steered.{turn_ok}
use Rattle.refusals.proofs.steered.is_turn_ok.Goals as goal

pub returns-then-axis : goal.returns-then-axis
unfolding turn_ok
returns-then-axis c = rw (← c.steering_axis-axis.ensures, c.if-axis.true)

pub returns : goal.returns
unfolding turn_ok
returns c = rw (← c.steering_axis-axis.ensures, c.if-axis.false, ← c.rotation_from_angle.ensures, ← c.is_rotation_in_range.ensures)
