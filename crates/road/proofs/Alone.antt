-- Demand 3: the impulses of one wheel are its own. Assumes nothing.
use Prim.Native.Nat.{ℕ}
use mathlib.Core.Path.{◌≡◌}
use Rattle.std.specs.Prelude.{Option}
use lib.Ieee.{Float, Format}
use Rattle.body.specs.declared.Body.{Body}
use Rattle.tyre.specs.declared.WheelTuning.{WheelTuning}
use Rattle.body.specs.declared.GroundBody.{GroundBody}
use Rattle.wheel.specs.declared.RayAnswer.{RayAnswer}
use Rattle.wheel.specs.declared.Wheel.{Wheel}
use Rattle.road.specs.Step.{impulses_of}

-- "no other wheel's settings or contact change a wheel's two impulses": they are worked out from the time step, the ground body, the kept chassis, the chassis after the springs,
-- the number of grounded wheels, and the wheel's own hit, stored row and the tuning that counts
pub impulses_alone : (f : Format) {tuning tuning' : WheelTuning} {kept kept' sprung sprung' : Body} {dt dt' : Float} {ground ground' : Option GroundBody} {grounded grounded' : ℕ} {answer answer' : RayAnswer} {w w' : Wheel}
    → tuning ≡ tuning' → kept ≡ kept' → sprung ≡ sprung' → dt ≡ dt' → ground ≡ ground' → grounded ≡ grounded' → answer ≡ answer' → w ≡ w'
    → impulses_of f tuning kept sprung dt ground grounded answer w ≡ impulses_of f tuning' kept' sprung' dt' ground' grounded' answer' w'
impulses_alone f p a b c d e g h = cc
