-- `read_wheel::refuse_read` meets its contract: each return gives the choice that the definition makes there. Assumes nothing.
use native.Mathlib.Omega.{arith}
use Rattle.std.proofs.lemmas.Result.{err_from_is_err_and}
use Rattle.lists.specs.Refusal.{first_failed}
use Rattle.lists.proofs.Picks.{picks}
use Rattle.refusals.proofs.Lent.{lent_shape, no_vehicle}
use Rattle.refusals.proofs.Says.{shape_says}
use Rattle.read_wheel.specs.Read.{refuse_read}
use Rattle.read_wheel.proofs.refuse_read.Goals as goal

pub returns-in_err-table : goal.returns-in_err-table
unfolding refuse_read first_failed
returns-in_err-table c =
    let p = err_from_is_err_and c.from_residual.result c.from_residual.ensures.1 in
    rw (p.1, p.2) (no_vehicle _ _ _ c.in_err-table.ensures)

pub returns-then-wheel-count : goal.returns-then-wheel-count
unfolding refuse_read first_failed
returns-then-wheel-count c =
    let s = c.in_ok-table.ensures in
    let shape = lent_shape _ _ _ _ s in
    rw (← s.0, ← s.1) (search picks depth 40 fits 4000)

pub returns-then-whole-ne-DRIVEN : goal.returns-then-whole-ne-DRIVEN
unfolding refuse_read first_failed
returns-then-whole-ne-DRIVEN c =
    let s = c.in_ok-table.ensures in
    let shape = lent_shape _ _ _ _ s in
    rw (← s.0, ← s.1) (search picks depth 40 fits 4000)

pub stored_within-requires : goal.stored_within-requires
stored_within-requires c = let h = shape_says _ _ (lent_shape _ _ _ _ c.in_ok-table.ensures) in omega arith

pub returns-then-not-stored_within : goal.returns-then-not-stored_within
unfolding refuse_read first_failed
returns-then-not-stored_within c =
    let s = c.in_ok-table.ensures in
    let shape = lent_shape _ _ _ _ s in
    rw (← s.0, ← s.1) (search picks depth 40 fits 4000)

pub returns : goal.returns
unfolding refuse_read first_failed
returns c =
    let s = c.in_ok-table.ensures in
    let shape = lent_shape _ _ _ _ s in
    rw (← s.0, ← s.1) (search picks depth 40 fits 4000)
