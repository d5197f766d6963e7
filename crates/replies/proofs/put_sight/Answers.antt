-- `replies::put_sight` meets its contract: `put_numbers` puts them all. Assumes nothing.
use Rattle.replies.proofs.put_sight.Goals as goal

pub returns : goal.returns
returns c =
    rw c.sight_numbers-numbers.ensures at c.put_numbers.ensures
