-- `refusals::shape::is_status_ok` meets its contract: the definition, replayed as the code runs. Assumes nothing.
use native.Mathlib.Omega.{arith}
use borrow.Author.Tests.{le-leb, lt-leb}
use Rattle.lists.specs.Pick.{pick}
use Rattle.table.specs.Layout as at
use Rattle.refusals.specs.Shape.{status_ok}
use Rattle.refusals.proofs.shape.is_status_ok.Goals as goal

pub returns-then-count-gt-MOST_COUNT : goal.returns-then-count-gt-MOST_COUNT
unfolding status_ok pick
returns-then-count-gt-MOST_COUNT c = rw (lt-leb c.args.count at.WHEELS (omega arith))

pub returns : goal.returns
unfolding status_ok pick
returns c = rw (le-leb c.args.count at.WHEELS (omega arith))
