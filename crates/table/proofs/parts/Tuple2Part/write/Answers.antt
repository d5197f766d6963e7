-- `write` of a pair meets the contract of `table::parts::Part`: one is written, then the other. Assumes nothing.
use Rattle.table.proofs.Writes.{written_after}
use Rattle.table.proofs.parts.Tuple2Part.write.Goals as goal

pub returns : goal.returns
returns g c = written_after (g.B.Part.with c.args.self.1) _ _ _ c.write-2.ensures c.write.ensures
