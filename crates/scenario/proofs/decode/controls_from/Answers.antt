-- `scenario::decode::controls_from` meets its contract: the definition, replayed as the code runs. Assumes nothing.
use Rattle.scenario.specs.Decode.{controls_from}
use Rattle.scenario.proofs.decode.controls_from.Goals as goal

pub returns : goal.returns
unfolding controls_from
returns c = rw (← c.floats_from.ensures, ← c.by_rotation_at.ensures)
