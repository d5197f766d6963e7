-- `write` of `Force` meets the contract of `table::parts::Part`: one number of the row is set. Assumes nothing.
use Rattle.table.proofs.Writes.{row_written, writes}
use Rattle.table.proofs.parts.ForcePart.write.Goals as goal

pub returns : goal.returns
returns c = row_written (writes.force _) _ c.requires
