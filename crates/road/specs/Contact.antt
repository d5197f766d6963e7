-- Document 01, rule 7 for one grounded wheel, over the chassis and the ground body under it: its directions, the speeds of the chassis over the ground, and the sums of masses. Definitions only.
-- u is the chassis velocity at the contact point less a counted ground body's; d is that point less a body's centre of mass. Sums run left to right, chassis first.
use Rattle.std.specs.Prelude.{Bool, cond, Option, None, Some, Float}
use Rattle.std.specs.Float.{Format}
use Rattle.std.specs.Float.Ieee.{add}
use Rattle.real.specs.Number.{zero}
use Rattle.real.specs.Scalar.{flag_number}
use Rattle.vector.specs.declared.Vector.{Vector}
use Rattle.vector.specs.declared.Normalized.{Normalized}
use Rattle.vector.specs.Arithmetic.{sub_v, scale_v, dot_v, cross_v, normalize_or_zero, inertia_dot}
use Rattle.body.specs.declared.Body.{Body}
use Rattle.body.specs.Body.{velocity_at_point, impulse_denominator}
use Rattle.wheel.specs.declared.Wheel.{Wheel}
use Rattle.wheel.specs.declared.Directions.{Directions}
use Rattle.wheel.specs.declared.Fallbacks.{Fallbacks}
use Rattle.body.specs.declared.GroundBody.{GroundBody}

-- Axis = axle less normal × (axle dot normal), normalised.
unfoldable pub contact_axis : Format → Vector → Vector → Normalized
contact_axis f axle normal = normalize_or_zero f (sub_v f axle (scale_v f normal (dot_v f axle normal)))

-- Forward = normal × axis, normalised.
unfoldable pub contact_forward : Format → Vector → Vector → Normalized
contact_forward f normal axis = normalize_or_zero f (cross_v f normal axis)

-- the two directions of a wheel on the contact plane
unfoldable pub directions_of : Format → Wheel → Directions
directions_of f w =
    let axis = contact_axis f w.place.axle w.info.normal in
    record { axis = axis; forward = contact_forward f w.info.normal axis.vector }

-- Change request 2026-05: "two yes or no answers, for the axis and the forward direction of rule 7. .. Yes holds exactly where the fall-back was used; both are no for an airborne wheel. The row keeps them as 1 or 0."
unfoldable pub fallbacks_of : Bool → Directions → Fallbacks
fallbacks_of contact d =
    cond contact (record { axis = flag_number d.axis.fellback; forward = flag_number d.forward.fellback }) (record { axis = zero; forward = zero })

-- A ground body counts for the side demand only if dynamic.
unfoldable pub dynamic_ground : Option GroundBody → Option GroundBody
dynamic_ground None = None
dynamic_ground (Some b) = cond b.dynamic (Some b) None

-- u
unfoldable pub relative_velocity : Format → Body → Option GroundBody → Vector → Vector
relative_velocity f chassis None p = velocity_at_point f chassis p
relative_velocity f chassis (Some b) p = sub_v f (velocity_at_point f chassis p) (velocity_at_point f b.body p)

-- |I(d × axis)|²
unfoldable pub swing_of : Format → Body → Vector → Vector → Float
swing_of f b p axis = let t = inertia_dot f b.inertia (cross_v f (sub_v f p b.centre) axis) in dot_v f t t

-- sum of inverse masses + |I(d × axis)|² for each body
unfoldable pub jacobian_diagonal : Format → Body → Option GroundBody → Vector → Vector → Float
jacobian_diagonal f chassis None p axis = add f chassis.invmass (swing_of f chassis p axis)
jacobian_diagonal f chassis (Some b) p axis = add f (add f (add f chassis.invmass b.body.invmass) (swing_of f chassis p axis)) (swing_of f b.body p axis)

-- the sum of denominators; here any named ground body counts
unfoldable pub denominators_of : Format → Body → Option GroundBody → Vector → Vector → Float
denominators_of f chassis None p n = impulse_denominator f chassis p n
denominators_of f chassis (Some b) p n = add f (impulse_denominator f chassis p n) (impulse_denominator f b.body p n)
