-- Change request 2026-11, "Steering by angle": "Take the angle itself, from −2 to 2 radians, and turn about minus the wheel's world direction, made unit length, at each aim." Definitions only.
use Rattle.std.specs.Prelude.{cond, Float}
use Rattle.std.specs.Float.{Format}
use Rattle.real.specs.Number.{zero, one}
use Rattle.real.specs.Scalar.{reads_yes}
use Rattle.vector.specs.declared.Vector.{Vector}
use Rattle.vector.specs.declared.Normalized.{Normalized}
use Rattle.vector.specs.declared.Rotation.{Rotation}
use Rattle.vector.specs.Arithmetic.{zero_v, neg_v, scale_v, normalize_or_zero}
use Rattle.angle.specs.Angle.{half_of, sine_of, cosine_of}
use Rattle.wheel.specs.declared.Steering.{Steering}
use Rattle.wheel.specs.declared.Steering.TheVariants.{ByRotation, ByAngle}
use Rattle.wheel.specs.declared.Controls.{Controls}
use Rattle.wheel.specs.declared.KeptSteering.{KeptSteering}
use Rattle.wheel.specs.declared.KeptControls.{KeptControls}

-- the rotation that turns nothing
unfoldable pub identity : Rotation
identity = record { b = zero_v; w = one }

-- ---- "The row keeps the last control given, angle or rotation." The other of the two is that of a new row.
unfoldable pub kept_steering : Steering → KeptSteering
kept_steering (ByRotation q) = record { rotation = q; angle = zero; kind = zero }
kept_steering (ByAngle angle) = record { rotation = identity; angle = angle; kind = one }

-- any kind but 0 means the angle, 0 being of either sign
unfoldable pub steering_of : KeptSteering → Steering
steering_of k = cond (reads_yes k.kind) (ByAngle k.angle) (ByRotation k.rotation)

unfoldable pub kept_controls : Controls → KeptControls
kept_controls c = record { engine = c.engine; brake = c.brake; steering = kept_steering c.steering }

unfoldable pub controls_of : KeptControls → Controls
controls_of k = record { engine = k.engine; brake = k.brake; steering = steering_of k.steering }

-- ---- the rotation of a steering, for a wheel whose world direction is `direction`
-- minus the direction, made unit length by document 01's normalise
unfoldable pub steering_axis : Format → Vector → Normalized
steering_axis f direction = normalize_or_zero f (neg_v direction)

-- (axis × sine, cosine) of half the angle
unfoldable pub rotation_from_angle : Format → Vector → Float → Rotation
rotation_from_angle f axis angle = record { b = scale_v f axis (sine_of f (half_of f angle)); w = cosine_of f (half_of f angle) }

unfoldable pub steering_rotation : Format → Vector → Steering → Rotation
steering_rotation f direction (ByRotation q) = q
steering_rotation f direction (ByAngle angle) = rotation_from_angle f (steering_axis f direction).vector angle
