-- `exports::vehicle_add_wheel` meets its contract: the settings have not their length, or the call decides. Assumes nothing.
use Rattle.exports.specs.Calls.{flat_add}
use Rattle.flat_out.proofs.Ending.{refused_of_length, settled_of_length, settled_of_call}
use Rattle.exports.proofs.vehicle_add_wheel.Goals as goal

pub returns-then-settings-ne-SETTINGS : goal.returns-then-settings-ne-SETTINGS
unfolding flat_add
returns-then-settings-ne-SETTINGS c = rw c.number.ensures (refused_of_length _ _ _ _ _ _ _ c.if-settings-ne-SETTINGS.true)

pub returns : goal.returns
unfolding flat_add
returns c =
    settled_of_length _ _ _ _ _ _ _ _ c.if-settings-ne-SETTINGS.false
    (settled_of_call _ _ _ _ _ (rw (← c.settings_at-s.ensures, c.answer_number.ensures) c.add_wheel.ensures))
