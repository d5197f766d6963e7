-- `perform::calls::call_add` meets its contract: the call. Assumes nothing.
use Rattle.perform.proofs.Told.{handed_on}
use Rattle.perform.proofs.calls.call_add.Goals as goal

pub returns-in_err-add_wheel : goal.returns-in_err-add_wheel
returns-in_err-add_wheel c = handed_on _ _ c.from_residual.ensures.1 c.in_err-add_wheel.ensures
