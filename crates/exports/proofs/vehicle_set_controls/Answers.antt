-- `exports::vehicle_set_controls` meets its contract: the controls have not their length, or the call decides. Assumes nothing.
use Rattle.exports.specs.Calls.{flat_controls}
use Rattle.flat_out.proofs.Ending.{refused_of_length, settled_of_length, settled_of_call}
use Rattle.exports.proofs.vehicle_set_controls.Goals as goal

pub returns-then-controls-ne-BY_ROTATION : goal.returns-then-controls-ne-BY_ROTATION
unfolding flat_controls
returns-then-controls-ne-BY_ROTATION c = rw c.number.ensures (refused_of_length _ _ _ _ _ _ _ c.if-controls-ne-BY_ROTATION.true)

pub returns : goal.returns
unfolding flat_controls
returns c =
    settled_of_length _ _ _ _ _ _ _ _ c.if-controls-ne-BY_ROTATION.false
    (settled_of_call _ _ _ _ _ (rw (← c.by_rotation_at-c.ensures, c.answer_number.ensures) c.set_controls.ensures))
