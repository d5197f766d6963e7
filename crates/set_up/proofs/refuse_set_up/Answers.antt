-- `set_up::refuse_set_up` meets its contract: each return gives the choice that the definition makes there. Assumes nothing.
use Rattle.lists.specs.Refusal.{first_failed}
use Rattle.lists.proofs.Picks.{picks}
use Rattle.set_up.specs.SetUp.{refuse_set_up}
use Rattle.set_up.proofs.refuse_set_up.Goals as goal

pub returns-then-not-are_sizes_ok : goal.returns-then-not-are_sizes_ok
unfolding refuse_set_up first_failed
returns-then-not-are_sizes_ok c = search picks depth 40 fits 4000

pub returns-then-not-are_axes_ok : goal.returns-then-not-are_axes_ok
unfolding refuse_set_up first_failed
returns-then-not-are_axes_ok c = search picks depth 40 fits 4000

pub returns : goal.returns
unfolding refuse_set_up first_failed
returns c = search picks depth 40 fits 4000
