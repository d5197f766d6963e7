-- `perform::calls::call_controls` meets its contract: the call, with the wheel of the words. Assumes nothing.
use mathlib.Core.Path.{refl}
use Rattle.perform.proofs.Told.{handed_on}
use Rattle.perform.proofs.calls.call_controls.Goals as goal

pub returns-in_err-set_controls : goal.returns-in_err-set_controls
returns-in_err-set_controls c = handed_on _ _ c.from_residual.ensures.1 (rw c.wheel_from-wheel.ensures at c.in_err-set_controls.ensures)

pub returns : goal.returns
returns c = (rw c.wheel_from-wheel.ensures at c.in_ok-set_controls.ensures, refl)
