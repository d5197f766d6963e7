-- `table::rows::get_chassis` meets its contract: the lent part is the chassis. Assumes nothing.
use mathlib.Core.Path.{◌∙◌, ap, refl}
use Rattle.lists.proofs.Parts.{part_to}
use Rattle.table.specs.Layout as at
use Rattle.table.specs.Rows.{chassis_of, chassis_at}
use Rattle.table.proofs.rows.get_chassis.Goals as goal

pub returns : goal.returns
unfolding chassis_at
returns c =
    let a = c.args in
    c.read_chassis.ensures ∙ ap chassis_of (part_to a.table.now 0 at.KEPT at.KEPT refl)
