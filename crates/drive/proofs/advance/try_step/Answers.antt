-- `drive::advance::try_step` meets its contract: the step, and each return as the definition chooses there. Assumes nothing.
use Rattle.drive.proofs.Tries.{tried_7, tried_8, tried_done}
use Rattle.drive.proofs.advance.try_step.Goals as goal

pub returns-then-not-are_admitted : goal.returns-then-not-are_admitted
returns-then-not-are_admitted c = tried_7 _ _ _ _ _ _ _ _ _ _ c.demand_step-d.ensures c.are_admitted.ensures c.if-not-are_admitted.true

pub returns-then-not-stored_within : goal.returns-then-not-stored_within
returns-then-not-stored_within c =
    tried_8 _ _ _ _ _ _ _ _ _ _ c.demand_step-d.ensures c.are_admitted.ensures _ _ _ c.if-not-are_admitted.false c.finish_step-after.ensures
    c.stored_within.ensures c.if-not-stored_within.true

pub returns : goal.returns
returns c =
    tried_done _ _ _ _ _ _ _ _ _ _ c.demand_step-d.ensures c.are_admitted.ensures _ _ _ c.if-not-are_admitted.false c.finish_step-after.ensures
    c.stored_within.ensures _ c.if-not-stored_within.false c.wakes.ensures
