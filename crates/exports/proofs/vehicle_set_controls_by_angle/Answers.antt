-- `exports::vehicle_set_controls_by_angle` meets its contract: the controls have not their length, or the call decides. Assumes nothing.
use Rattle.std.proofs.Common.{◌≡◌, length, arith}
use Rattle.table.specs.Layout as table
use Rattle.exports.specs.Calls.{flat_controls_by_angle}
use Rattle.flat_out.proofs.Ending.{refused_of_length, settled_of_length, settled_of_call}
use Rattle.exports.proofs.vehicle_set_controls_by_angle.Goals as goal

pub returns-then-controls-ne-BY_ANGLE : goal.returns-then-controls-ne-BY_ANGLE
unfolding flat_controls_by_angle
returns-then-controls-ne-BY_ANGLE c = rw c.number.ensures (refused_of_length _ _ _ _ _ _ _ c.if-controls-ne-BY_ANGLE.true)

pub returns : goal.returns
unfolding flat_controls_by_angle
returns c =
    let counted : length c.args.controls.now ≡ table.BY-ANGLE = omega arith in
    settled_of_length _ _ _ _ _ _ _ _ counted
    (settled_of_call _ _ _ _ _ (rw (← c.by_angle_at-c.ensures, c.answer_number.ensures) c.set_controls.ensures))
