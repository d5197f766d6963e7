-- Change request 2026-05: rule 7's directions where one fell back to zero. In order: one that fell back is zero, and one that did not is not; without an axis there is no forward direction; the zero axis demands nothing to the side, and the zero forward direction nothing to be cut by a brake.
-- Assumes nothing.
use Prim.Native.Nat.{ℕ}
use mathlib.Core.Bool.{true, false}
use mathlib.Core.Path.{◌≡◌, sym, subst}
use Rattle.std.specs.Prelude.{Option}
use lib.Ieee.{Float, Format, eq}
use lib.Ieee.Fits.{sub-fits}
use Rattle.real.specs.Number.{zero}
use Rattle.real.proofs.Nought.{Nought}
use Rattle.vector.specs.declared.Vector.{Vector}
use Rattle.vector.specs.Arithmetic.{zero_v, sub_v, cross_v, dot_v, normalize_or_zero}
use Rattle.vector.proofs.Fallback.{fellback_zero, kept_not_zero, falls_back, zero_dot, cross_zero}
use Rattle.body.specs.declared.Body.{Body}
use Rattle.tyre.specs.declared.WheelTuning.{WheelTuning}
use Rattle.tyre.specs.Demand.{rolling_response}
use Rattle.tyre.proofs.Idle.{side_nought, rolling_nought}
use Rattle.body.specs.declared.GroundBody.{GroundBody}
use Rattle.wheel.specs.declared.Wheel.{Wheel}
use Rattle.road.specs.Contact.{contact_axis, contact_forward}
use Rattle.road.specs.Step.{side_demand}

-- ---- the directions
pub axis_zero : (f : Format) (axle normal : Vector) → (contact_axis f axle normal).fellback ≡ true → (contact_axis f axle normal).vector ≡ zero_v
unfolding contact_axis
axis_zero f axle normal h = fellback_zero f _ h

pub forward_zero : (f : Format) (normal axis : Vector) → (contact_forward f normal axis).fellback ≡ true → (contact_forward f normal axis).vector ≡ zero_v
unfolding contact_forward
forward_zero f normal axis h = fellback_zero f _ h

-- one that did not fall back is not zero
pub axis_not_zero : (f : Format) (axle normal : Vector) → (contact_axis f axle normal).fellback ≡ false
    → eq (contact_axis f axle normal).vector.x zero ≡ true → eq (contact_axis f axle normal).vector.y zero ≡ true → eq (contact_axis f axle normal).vector.z zero ≡ true → ⊥
unfolding contact_axis sub_v
axis_not_zero f axle normal h = kept_not_zero f _ (sub-fits f _ _) (sub-fits f _ _) (sub-fits f _ _) h

pub forward_not_zero : (f : Format) (normal axis : Vector) → (contact_forward f normal axis).fellback ≡ false
    → eq (contact_forward f normal axis).vector.x zero ≡ true → eq (contact_forward f normal axis).vector.y zero ≡ true → eq (contact_forward f normal axis).vector.z zero ≡ true → ⊥
unfolding contact_forward cross_v
forward_not_zero f normal axis h = kept_not_zero f _ (sub-fits f _ _) (sub-fits f _ _) (sub-fits f _ _) h

pub no_axis_no_forward : (f : Format) (axle normal : Vector) → (contact_axis f axle normal).fellback ≡ true → (contact_forward f normal (contact_axis f axle normal).vector).fellback ≡ true
unfolding contact_forward
no_axis_no_forward f axle normal h =
    subst (λ (axis : Vector). (normalize_or_zero f (cross_v f normal axis)).fellback ≡ true) (sym (axis_zero f axle normal h)) (falls_back f (cross_v f normal zero_v) (cross_zero f normal))

-- ---- the demands
pub side_of_zero : (f : Format) (tuning : WheelTuning) (chassis : Body) (ground : Option GroundBody) (axis : Vector) (w : Wheel) → axis ≡ zero_v → Nought (side_demand f tuning chassis ground axis w)
unfolding side_demand
side_of_zero f tuning chassis ground axis w e = rw e (side_nought f _ _ _ (zero_dot f _))

pub rolling_of_zero : (f : Format) (forward u : Vector) (sum : Float) (grounded : ℕ) → forward ≡ zero_v → Nought (rolling_response f (dot_v f forward u) sum grounded)
rolling_of_zero f forward u sum grounded e = rw e (rolling_nought f _ sum grounded (zero_dot f u))
