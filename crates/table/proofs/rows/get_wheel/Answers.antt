-- `table::rows::get_wheel` meets its contract: the lent part is the row. Assumes nothing.
use mathlib.Core.Path.{◌∙◌, ap}
use Rattle.table.specs.Rows.{wheel_of, wheel_at}
use Rattle.table.proofs.Writes.{row_lent}
use Rattle.table.proofs.rows.get_wheel.Goals as goal

pub returns : goal.returns
unfolding wheel_at
returns c = c.read_row.ensures ∙ ap wheel_of (row_lent _ _ _ c.row_start-a.ensures)
