-- `perform::frames::call_drive` meets its contract: refused, or its results are put. Assumes nothing.
use mathlib.Core.Path.{refl}
use Rattle.drive.specs.Drive.{not_driven}
use Rattle.perform.proofs.Told.{told_refused, told_accepted}
use Rattle.perform.proofs.frames.call_drive.Goals as goal

pub returns-in_err-r : goal.returns-in_err-r
unfolding not_driven
returns-in_err-r c = told_refused _ _ _ _ _ c.in_err-r.ensures _ _ _ c.from_residual.ensures.1 refl

pub returns : goal.returns
returns c = told_accepted _ _ _ _ _ c.in_ok-r.ensures _ _ _ refl c.put_driven.ensures
