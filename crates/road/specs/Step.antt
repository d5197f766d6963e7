-- Document 01, rules 6 to 10 for one wheel of a drive, over its row, the chassis and its ground. `tuning` is the one that counts in the step. Definitions only.
use Rattle.std.specs.Prelude.{ℕ, Bool, cond, Option, Float}
use Rattle.std.specs.Float.{Format}
use Rattle.std.specs.Float.Ieee.{add, sub, mul, div}
use Rattle.real.specs.Number.{zero, one, ratio}
use Rattle.vector.specs.declared.Vector.{Vector}
use Rattle.vector.specs.Arithmetic.{sub_v, scale_v, dot_v, cross_v, normalize_or_zero}
use Rattle.body.specs.declared.Body.{Body}
use Rattle.body.specs.declared.Chassis.{Chassis}
use Rattle.body.specs.Body.{velocity_at_point, apply_impulse_at_point}
use Rattle.tyre.specs.declared.WheelTuning.{WheelTuning}
use Rattle.tyre.specs.declared.Friction.{Friction}
use Rattle.tyre.specs.Suspension.{suspension_force, cut_of}
use Rattle.tyre.specs.Demand.{side_response, rolling_response, rolling_of}
use Rattle.tyre.specs.Grip.{with_skid, airborne, rescaled_of, limit_of}
use Rattle.wheel.specs.declared.Wheel.{Wheel}
use Rattle.wheel.specs.declared.Directions.{Directions}
use Rattle.body.specs.declared.GroundBody.{GroundBody}
use Rattle.wheel.specs.declared.RayAnswer.{RayAnswer}
use Rattle.wheel.specs.Parts.{with_rotation, with_force}
use Rattle.wheel.specs.Ray.{ray_cast, is_grounded}
use Rattle.road.specs.Contact.{directions_of, dynamic_ground, relative_velocity, jacobian_diagonal, denominators_of}

-- Rule 6. The force in contact; airborne: 0.
unfoldable pub contact_force : Format → WheelTuning → Float → Wheel → Float
contact_force f tuning invmass w = suspension_force f tuning w.settings.rest w.info.length w.approach invmass

unfoldable pub wheel_force : Format → WheelTuning → Float → Bool → Wheel → Float
wheel_force f tuning invmass contact w = cond contact (contact_force f tuning invmass w) zero

unfoldable pub suspended_of : Format → WheelTuning → Float → Bool → Wheel → Wheel
suspended_of f tuning invmass contact w = with_force w (wheel_force f tuning invmass contact w)

-- Rule 6. The impulse uses the force cut to the maximum, times normal, times dt.
unfoldable pub apply_suspension : Format → WheelTuning → Float → Wheel → Chassis → Chassis
apply_suspension f tuning dt w chassis =
    apply_impulse_at_point f chassis (scale_v f (scale_v f w.info.normal (cut_of w.motion.force tuning.most)) dt) w.info.point

-- Rule 6. The grip limit of the wheel, from the uncut force.
unfoldable pub wheel_limit : Format → WheelTuning → Float → Wheel → Float
wheel_limit f tuning dt w = limit_of f w.motion.force dt tuning.slip

-- Rule 7. The two demands of a grounded wheel that has this axis and this forward direction.
unfoldable pub side_demand : Format → WheelTuning → Body → Option GroundBody → Vector → Wheel → Float
side_demand f tuning chassis surface axis w =
    let counted = dynamic_ground surface in
    side_response f (dot_v f axis (relative_velocity f chassis counted w.info.point)) (jacobian_diagonal f chassis counted w.info.point axis) tuning.sideways

unfoldable pub rolling_demand : Format → Float → Body → Option GroundBody → ℕ → Vector → Wheel → Float
rolling_demand f dt chassis surface grounded forward w =
    rolling_of f dt w.controls.engine w.controls.brake
    (rolling_response f (dot_v f forward (relative_velocity f chassis surface w.info.point)) (denominators_of f chassis surface w.info.point forward) grounded)

-- Rules 7 and 8. Both demands of the wheel with its skid, before the rescale. Airborne: impulses 0, skid 1.
unfoldable pub friction_of : Format → WheelTuning → Float → Body → Bool → Option GroundBody → ℕ → Directions → Wheel → Friction
friction_of f tuning dt chassis contact surface grounded d w =
    cond contact (with_skid f (rolling_demand f dt chassis surface grounded d.forward.vector w) (side_demand f tuning chassis surface d.axis.vector w) (wheel_limit f tuning dt w)) airborne

-- Demand 3's last sentence: the two impulses and the skid of one wheel in a drive, from the kept chassis, the chassis after the springs, the time step, its ground,
-- the number of grounded wheels, its own hit, its own stored row and the tuning that counts.
unfoldable pub impulses_of : Format → WheelTuning → Body → Body → Float → Option GroundBody → ℕ → RayAnswer → Wheel → Friction
impulses_of f tuning kept sprung dt surface grounded answer w =
    let hung = suspended_of f tuning kept.invmass (is_grounded answer) (ray_cast f tuning kept answer w) in
    rescaled_of f (friction_of f tuning dt sprung (is_grounded answer) surface grounded (directions_of f hung) hung)

-- Rule 9. The side impulse's point: the contact point less up × (up·(point − centre of mass) × (1 − roll influence)).
unfoldable pub side_point : Format → Float → Vector → Vector → Vector → Vector
side_point f roll up point centre = sub_v f point (scale_v f up (mul f (dot_v f up (sub_v f point centre)) (sub f one roll)))

-- Rule 9. Apply forward at the contact point; side at the side point, by the wheel's own roll influence (change request 2026-07). `up` is the rotated up axis.
unfoldable pub apply_friction : Format → Vector → Directions → Wheel → Chassis → Chassis
apply_friction f up d w chassis =
    apply_impulse_at_point f
    (apply_impulse_at_point f chassis (scale_v f d.forward.vector w.motion.forward) w.info.point)
    (scale_v f d.axis.vector w.motion.side)
    (side_point f w.settings.roll up w.info.point chassis.body.centre)

-- Rule 10. Spin in contact: (normalised (normal × world axle) dot velocity at the hard point) × dt / radius; airborne the stored one.
unfoldable pub contact_spin : Format → Float → Body → Wheel → Float
contact_spin f dt chassis w =
    div f
    (mul f (dot_v f (normalize_or_zero f (cross_v f w.info.normal w.place.axle)).vector (velocity_at_point f chassis w.info.hard)) dt)
    w.settings.radius

-- the 0.99 of rule 10
abbrev pub spin_kept : Format → Float
spin_kept f = ratio f 99 100

-- Rule 10. Rotation gains the spin; spin is then times 0.99, in contact too.
unfoldable pub spun_by : Format → Float → Wheel → Wheel
spun_by f spin w = with_rotation w (add f w.motion.rotation spin) (mul f spin (spin_kept f))

unfoldable pub update_rotation : Format → Float → Bool → Body → Wheel → Wheel
update_rotation f dt contact chassis w = spun_by f (cond contact (contact_spin f dt chassis w) w.motion.spin) w
