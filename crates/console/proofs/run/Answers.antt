-- `console::run` meets its contract: the first line is what is handed to the write, and the turns go on from the table that the program starts with. Assumes nothing.
use mathlib.Core.Path.{sym, ap, ◌∙◌}
use native.Mathlib.Omega.{arith}
use lib.ListN.{length}
use Rattle.console.specs.Writing.{Printed}
use Rattle.console.proofs.Serving.{starts_unwritten}
use Rattle.console.proofs.run.Goals as goal

pub print-requires : goal.print-requires
print-requires g c = Printed.first_line (c.as_bytes.ensures ∙ c.start.ensures.text)

pub returns-else-print : goal.returns-else-print
returns-else-print g c = (starts_unwritten c.start.ensures.car c.clear.ensures, sym (ap length c.clear.ensures), omega arith)
