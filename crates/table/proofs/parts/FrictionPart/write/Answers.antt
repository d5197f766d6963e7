-- `write` of `Friction` meets the contract of `table::parts::Part`: three numbers of the row are set. Assumes nothing.
use Rattle.table.proofs.Writes.{row_written, writes}
use Rattle.table.proofs.parts.FrictionPart.write.Goals as goal

pub returns : goal.returns
returns c = row_written (writes.friction _) _ c.requires
