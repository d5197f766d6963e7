-- Document 01, rules 1 and 3 to 5 for one wheel: its transform, its ray, and what the ray answer makes of it. `tuning` is the one that counts in the step. Definitions only.
use Rattle.std.specs.Prelude.{ℕ, Bool, true, false, cond, ◌&&◌, List, get_or, Float}
use Rattle.std.specs.Float.{Format}
use Rattle.std.specs.Float.Ieee.{add, eq}
use Rattle.real.specs.Number.{zero, one}
use Rattle.vector.specs.declared.Vector.{Vector}
use Rattle.vector.specs.declared.Pose.{Pose}
use Rattle.vector.specs.Arithmetic.{add_v, neg_v, scale_v, dot_v, rotate_v, transform_point}
use Rattle.body.specs.declared.Body.{Body}
use Rattle.body.specs.Body.{velocity_at_point}
use Rattle.tyre.specs.declared.WheelTuning.{WheelTuning}
use Rattle.tyre.specs.Suspension.{suspension_length, approach_of}
use Rattle.wheel.specs.declared.Wheel.{Wheel}
use Rattle.wheel.specs.declared.RayAnswer.{RayAnswer}
use Rattle.wheel.specs.declared.RayAnswer.TheVariants.{Nothing, Hit, HitUp}
use Rattle.wheel.specs.Parts.{with_info, with_place, with_approach, with_hard}
use Rattle.wheel.specs.Steering.{steering_of, steering_rotation}

-- Rule 1. Centre = hard point + direction × the suspension length stored so far.
unfoldable pub centre_of : Format → Vector → Vector → Float → Vector
centre_of f hard direction length = add_v f hard (scale_v f direction length)

-- Change request 2026-02. "a settled centre, hard point plus direction times this drive's length": of what a row keeps after a drive. It is where the tyre is drawn; `place.centre` is rule 1's, with the length from before the cast.
unfoldable pub settled_centre : Format → Wheel → Vector
settled_centre f w = centre_of f w.info.hard w.place.direction w.info.length

-- Rule 1. Hard point = pose of the connection point; direction rotated by the chassis; axle rotated by the chassis and then by steering. Change request 2026-11: that of an angle turns about this direction.
unfoldable pub update_wheel_transform : Format → Pose → Wheel → Wheel
update_wheel_transform f pose w =
    let hard = transform_point f pose w.settings.connection in
    let direction = rotate_v f pose.rotation w.settings.direction in
    with_place (with_hard w hard) (record {
      centre = centre_of f hard direction w.info.length;
      direction = direction;
      axle = rotate_v f (steering_rotation f direction (steering_of w.controls.steering)) (rotate_v f pose.rotation w.settings.axle);
    })

-- Rule 3. Ray = direction × (rest + radius).
unfoldable pub ray_of : Format → Wheel → Vector
ray_of f w = scale_v f w.place.direction (add f w.settings.rest w.settings.radius)

-- Rule 3. A hit at time 0 takes minus the upward normal if given; if the normal is then zero, minus the direction.
unfoldable pub is_zero : Vector → Bool
is_zero v = eq v.x zero && (eq v.y zero && eq v.z zero)

unfoldable pub upward_normal : Float → Vector → Vector → Vector
upward_normal time normal upward = cond (eq time zero) (neg_v upward) normal

unfoldable pub is_undefined : Float → Vector → Bool
is_undefined time normal = eq time zero && is_zero normal

unfoldable pub contact_normal : Float → Vector → Vector → Vector
contact_normal time normal direction = cond (is_undefined time normal) (neg_v direction) normal

-- Rule 4. Contact point = source + ray × time; the length; the relative velocity and the inverse. The chassis is as it was kept.
unfoldable pub hit_of : Format → WheelTuning → Body → Float → Vector → Wheel → Wheel
hit_of f tuning chassis time normal w =
    let point = add_v f w.info.hard (scale_v f (ray_of f w) time) in
    let length = suspension_length f w.settings.rest tuning.travel w.settings.radius time in
    with_approach (with_info w (record { normal = normal; point = point; length = length; hard = w.info.hard }))
    (approach_of f (dot_v f normal w.place.direction) (dot_v f normal (velocity_at_point f chassis point)))

-- Rule 5. Nothing hit: contact point = source + ray, length = rest, velocity 0, inverse 1, normal = minus direction.
unfoldable pub miss_of : Format → Wheel → Wheel
miss_of f w =
    let point = add_v f w.info.hard (ray_of f w) in
    with_approach (with_info w (record { normal = neg_v w.place.direction; point = point; length = w.settings.rest; hard = w.info.hard }))
    (record { velocity = zero; inverse = one })

-- The wheel once its ray answer is in.
unfoldable pub ray_cast : Format → WheelTuning → Body → RayAnswer → Wheel → Wheel
ray_cast f tuning chassis Nothing w = miss_of f w
ray_cast f tuning chassis (Hit time normal named) w = hit_of f tuning chassis time (contact_normal time normal w.place.direction) w
ray_cast f tuning chassis (HitUp time normal upward named) w = hit_of f tuning chassis time (contact_normal time (upward_normal time normal upward) w.place.direction) w

-- Rule 7. Every hit grounds its wheel.
unfoldable pub is_grounded : RayAnswer → Bool
is_grounded Nothing = false
is_grounded (Hit time normal named) = true
is_grounded (HitUp time normal upward named) = true

-- the number by which an answer names its ground body: 0 for none, n for body n − 1 of the drive's list
unfoldable pub named_of : RayAnswer → ℕ
named_of Nothing = 0
named_of (Hit time normal named) = named
named_of (HitUp time normal upward named) = named

-- the answer of wheel i in a list of them
abbrev pub answer_at : List RayAnswer → ℕ → RayAnswer
answer_at answers i = get_or answers i Nothing
