-- `perform::calls::call_read` meets its contract: refused, or its results are put. Assumes nothing.
use mathlib.Core.Path.{refl}
use Rattle.read_wheel.specs.Read.{not_read}
use Rattle.perform.proofs.Told.{told_refused, told_accepted}
use Rattle.perform.proofs.calls.call_read.Goals as goal

pub returns-in_err-r : goal.returns-in_err-r
unfolding not_read
returns-in_err-r c =
    told_refused _ _ _ _ _ (rw c.wheel_from-wheel.ensures at c.in_err-r.ensures) _ _ _ c.from_residual.ensures.1 refl

pub returns : goal.returns
returns c =
    told_accepted _ _ _ _ _ (rw c.wheel_from-wheel.ensures at c.in_ok-r.ensures) _ _ _ refl c.put_reading.ensures
