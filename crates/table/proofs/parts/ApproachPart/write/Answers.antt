-- `write` of `Approach` meets the contract of `table::parts::Part`: the numbers in order are copied over those of the part. Assumes nothing.
use mathlib.Core.Path.{◌∙◌}
use Rattle.table.proofs.Writes.{part_written, writes}
use Rattle.table.proofs.parts.ApproachPart.write.Goals as goal

pub returns : goal.returns
returns c = part_written (writes.approach _) _ _ c.requires (c.copy_from_slice.ensures.after ∙ c.approach_numbers.ensures)
