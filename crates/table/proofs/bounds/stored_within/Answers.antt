-- `table::bounds::stored_within` meets its contract: the lent part is the chassis and the used rows. Assumes nothing.
use mathlib.Core.Path.{◌∙◌, ap}
use Rattle.lists.proofs.Parts.{part_to}
use Rattle.table.specs.Rows.{row_start}
use Rattle.table.specs.Bounds.{all_within, stored_within, STORED}
use native.Mathlib.Omega.{arith}
use lib.Ieee.{of_bits}
use Rattle.table.proofs.bounds.stored_within.Goals as goal

pub returns : goal.returns
unfolding stored_within of_bits
returns c =
    let a = c.args in
    c.all_within.ensures ∙ ap (all_within STORED) (part_to a.table.now 0 c.row_start-e.result (row_start a.n) (omega arith))
