-- `aim::aim` meets its contract: refused, worked out on a copy whose steering makes no rotation or that cannot be stored, or kept. Assumes nothing.
use mathlib.Core.Path.{ap, ◌∙◌}
use lib.Ieee.{binary32}
use Rattle.refusals.proofs.Lent.{refused_call}
use Rattle.refusals.proofs.Settled.{number_not_zero}
use Rattle.aim.specs.Aim.{aimed_table, aimed_by, aim_of}
use Rattle.aim.proofs.Aims.{refused_early, aim_not_steered, aim_not_stored, aim_done}
use Rattle.aim.proofs.aim.Goals as goal

pub returns-in_err-refuse_chassis : goal.returns-in_err-refuse_chassis
unfolding aim_of
returns-in_err-refuse_chassis c =
    refused_call _ _ _ _ _ _ _ _ c.from_residual.ensures.1 (refused_early _ _ _ _ _ c.in_err-refuse_chassis.ensures (number_not_zero _))

pub returns-then-not-are_wheels_steered_ok : goal.returns-then-not-are_wheels_steered_ok
returns-then-not-are_wheels_steered_ok c =
    aim_not_steered _ _ _ _ _ _ c.in_ok-refuse_chassis.ensures (c.aimed_table.ensures ∙ ap (aimed_table binary32 _ _) c.copy_from_slice.ensures.after) c.are_wheels_steered_ok.ensures
    c.if-not-are_wheels_steered_ok.true

pub returns-then-not-stored_within : goal.returns-then-not-stored_within
returns-then-not-stored_within c =
    aim_not_stored _ _ _ _ _ _ c.in_ok-refuse_chassis.ensures (c.aimed_table.ensures ∙ ap (aimed_table binary32 _ _) c.copy_from_slice.ensures.after) c.are_wheels_steered_ok.ensures _
    c.if-not-are_wheels_steered_ok.false c.stored_within.ensures c.if-not-stored_within.true

pub returns : goal.returns
unfolding aimed_by
returns c =
    aim_done _ _ _ _ _ _ c.in_ok-refuse_chassis.ensures (c.aimed_table.ensures ∙ ap (aimed_table binary32 _ _) c.copy_from_slice.ensures.after) c.are_wheels_steered_ok.ensures _
    c.if-not-are_wheels_steered_ok.false c.stored_within.ensures _ _ c.if-not-stored_within.false (rw (← c.speed_of.ensures, ← c.sights_of.ensures))
    c.copy_from_slice-2.ensures.after
