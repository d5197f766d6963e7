-- `write` of `Spinning` meets the contract of `table::parts::Part`: two numbers of the row are set. Assumes nothing.
use Rattle.table.proofs.Writes.{row_written, writes}
use Rattle.table.proofs.parts.SpinningPart.write.Goals as goal

pub returns : goal.returns
returns c = row_written (writes.rotation _ _) _ c.requires
