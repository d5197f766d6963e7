-- Change request 2026-11, refusal 17: "at aim, an axis whose normalising falls back to zero, or a rotation so made outside 01's band". Definitions only.
use Rattle.std.specs.Prelude.{ℕ, Bool, true, false, cond, List, Float}
use Rattle.std.specs.Float.{Format}
use Rattle.lists.specs.Counted.{every}
use Rattle.vector.specs.declared.Vector.{Vector}
use Rattle.wheel.specs.declared.Steering.{Steering}
use Rattle.wheel.specs.declared.Steering.TheVariants.{ByRotation, ByAngle}
use Rattle.wheel.specs.declared.Wheel.{Wheel}
use Rattle.wheel.specs.Steering.{steering_of, steering_axis, rotation_from_angle}
use Rattle.table.specs.Rows.{wheel_at}
use Rattle.ranges.specs.Ranges.{rotation_in_range}

-- an angle, for a wheel whose world direction is `direction`
unfoldable pub turn_ok : Format → Vector → Float → Bool
turn_ok f direction angle = cond (steering_axis f direction).fellback false (rotation_in_range f (rotation_from_angle f (steering_axis f direction).vector angle))

-- a wheel that is steered by a rotation is not looked at
unfoldable pub steering_ok : Format → Vector → Steering → Bool
steering_ok f direction (ByRotation q) = true
steering_ok f direction (ByAngle angle) = turn_ok f direction angle

-- a wheel as the aim has placed it: its direction is the one of this aim
unfoldable pub wheel_steered_ok : Format → Wheel → Bool
wheel_steered_ok f w = steering_ok f w.place.direction (steering_of w.controls.steering)

-- each of the first n wheels of a table
unfoldable pub all_steered_ok : Format → List Float → ℕ → Bool
all_steered_ok f t n = every (λ i. wheel_steered_ok f (wheel_at t i)) n 0
