-- `table::rows::get_friction` meets its contract: the lent part is the row. Assumes nothing.
use mathlib.Core.Path.{◌∙◌, ap}
use mathlib.Core.List.{List}
use lib.Ieee.{Float}
use Rattle.wheel.specs.Parts.{friction_in}
use Rattle.table.specs.Rows.{wheel_of, wheel_at}
use Rattle.table.proofs.Writes.{row_lent}
use Rattle.table.proofs.rows.get_friction.Goals as goal

pub returns : goal.returns
unfolding wheel_at
returns c = c.read_friction.ensures ∙ ap (λ (r : List Float). friction_in (wheel_of r)) (row_lent _ _ _ c.row_start-a.ensures)
