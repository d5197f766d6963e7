-- `table::rows::put_chassis` meets its contract: the lent part comes back as the chassis. Assumes nothing.
use mathlib.Core.Path.{sym, ◌∙◌}
use Rattle.lists.proofs.Parts.{paste_is}
use Rattle.table.specs.Layout as at
use Rattle.table.specs.Rows.{chassis_list, put_chassis}
use Rattle.table.proofs.Laws.{length_chassis}
use Rattle.table.proofs.rows.put_chassis.Goals as goal

pub returns : goal.returns
unfolding put_chassis
returns c =
    let a = c.args in
    paste_is a.table.now _ (chassis_list a.c) 0 at.KEPT (c.copy_from_slice.ensures.after ∙ c.chassis_numbers.ensures) (sym (length_chassis a.c))
