-- `table::rows::get_body` meets its contract: the lent part is the body. Assumes nothing.
use mathlib.Core.Path.{◌∙◌, ap}
use Prim.Native.Nat.{◌*◌}
use Rattle.lists.proofs.Parts.{part_is}
use Rattle.table.specs.Layout as at
use Rattle.table.specs.Rows.{body_of, body_at}
use Rattle.table.proofs.rows.get_body.Goals as goal

pub returns : goal.returns
unfolding body_at
returns c =
    let a = c.args in
    c.read_body.ensures ∙ ap body_of (part_is a.l.now (a.i * at.BODY) at.BODY)
