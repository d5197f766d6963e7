-- `add_wheel::refuse_add` meets its contract: each return gives the choice that the definition makes there. Assumes nothing.
use Rattle.std.proofs.lemmas.Result.{err_from_is_err_and}
use Rattle.lists.specs.Refusal.{first_failed}
use Rattle.lists.proofs.Picks.{picks}
use Rattle.refusals.proofs.Lent.{lent_shape, no_vehicle}
use Rattle.add_wheel.specs.Add.{refuse_add}
use Rattle.add_wheel.proofs.refuse_add.Goals as goal

pub returns-in_err-table : goal.returns-in_err-table
unfolding refuse_add first_failed
returns-in_err-table c =
    let p = err_from_is_err_and c.from_residual.result c.from_residual.ensures.1 in
    rw (p.1, p.2) (no_vehicle _ _ _ c.in_err-table.ensures)

pub returns-then-count-ge-WHEELS : goal.returns-then-count-ge-WHEELS
unfolding refuse_add first_failed
returns-then-count-ge-WHEELS c =
    let s = c.in_ok-table.ensures in
    let shape = lent_shape _ _ _ _ s in
    rw (← s.0, ← s.1) (search picks depth 40 fits 4000)

pub returns-then-not-are_settings_handed : goal.returns-then-not-are_settings_handed
unfolding refuse_add first_failed
returns-then-not-are_settings_handed c =
    let s = c.in_ok-table.ensures in
    let shape = lent_shape _ _ _ _ s in
    rw (← s.0, ← s.1) (search picks depth 40 fits 4000)

pub returns-then-not-stored_within : goal.returns-then-not-stored_within
unfolding refuse_add first_failed
returns-then-not-stored_within c =
    let s = c.in_ok-table.ensures in
    let shape = lent_shape _ _ _ _ s in
    rw (← s.0, ← s.1) (search picks depth 40 fits 4000)

pub returns-then-not-are_settings_in_range : goal.returns-then-not-are_settings_in_range
unfolding refuse_add first_failed
returns-then-not-are_settings_in_range c =
    let s = c.in_ok-table.ensures in
    let shape = lent_shape _ _ _ _ s in
    rw (← s.0, ← s.1) (search picks depth 40 fits 4000)

pub returns : goal.returns
unfolding refuse_add first_failed
returns c =
    let s = c.in_ok-table.ensures in
    let shape = lent_shape _ _ _ _ s in
    rw (← s.0, ← s.1) (search picks depth 40 fits 4000)
