-- `session::start::start` meets its contract. Assumes nothing.
use borrow.Author.Rules.{rules}
use mathlib.Core.Path.{◌≡◌}
use lib.ListN.{length}
use Rattle.table.specs.Layout as places
use Rattle.lines.specs.Line.{title}
use Rattle.session.proofs.Started.{set_up_starts}
use Rattle.session.proofs.start.start.Goals as goal

pub returns : goal.returns
unfolding title
returns c =
    let rows : length c.args.car.now.table ≡ places.SIZE = search rules in
    let marks : length c.args.car.now.whole ≡ places.WHOLE = search rules in
    record { text = rw c.clear.ensures at c.put_title.ensures; car = set_up_starts _ _ _ rows marks c.set_up.ensures }
