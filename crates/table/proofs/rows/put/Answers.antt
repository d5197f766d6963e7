-- `table::rows::put` meets its contract: the lent row comes back written. Assumes nothing.
use Rattle.table.proofs.Writes.{put_written}
use Rattle.table.proofs.rows.put.Goals as goal

pub returns : goal.returns
returns g c =
    let a = c.args in
    put_written (g.P.Part.with a.p) a.table.now _ _ a.i c.row_start-a.ensures c.write.ensures
