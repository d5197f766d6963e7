-- `perform::frames::call_aim` meets its contract: refused, or its results are put. Assumes nothing.
use borrow.Author.Rules.{rules}
use mathlib.Core.Path.{refl}
use Rattle.aim.specs.Aim.{not_aimed}
use Rattle.aim.proofs.Accepted.{accepted_aim_says}
use Rattle.scenario.specs.Format.{format}
use Rattle.perform.proofs.Told.{told_refused, told_accepted}
use Rattle.perform.proofs.frames.call_aim.Goals as goal

pub returns-in_err-r : goal.returns-in_err-r
unfolding not_aimed
returns-in_err-r c = told_refused _ _ _ _ _ (rw c.chassis_from-c.ensures at c.in_err-r.ensures) _ _ _ c.from_residual.ensures.1 refl

pub put_aimed-requires : goal.put_aimed-requires
put_aimed-requires c =
    let h = (accepted_aim_says format _ _ _ c.in_ok-r.ensures refl).shape.room in
    search rules

pub returns : goal.returns
returns c = told_accepted _ _ _ _ _ (rw c.chassis_from-c.ensures at c.in_ok-r.ensures) _ _ _ refl c.put_aimed.ensures
