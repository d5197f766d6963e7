-- Document 01, refusal 10: the ranges of settings. Definitions only.
use Rattle.std.specs.Prelude.{ℕ, Bool, false, List, [], ◌∷◌, negsuc, Float}
use Rattle.std.specs.Float.{Format, fin}
use Rattle.std.specs.Float.Ieee.{neg, add, mul, lt, le}
use Rattle.lists.specs.Pick.{◌and◌}
use Rattle.lists.specs.All.{all}
use Rattle.lists.specs.Counted.{every}
use Rattle.real.specs.Number.{zero, one, two, power}
use Rattle.vector.specs.declared.Rotation.{Rotation}
use Rattle.body.specs.declared.Chassis.{Chassis}
use Rattle.wheel.specs.declared.Settings.{Settings}
use Rattle.wheel.specs.declared.Steering.{Steering}
use Rattle.wheel.specs.declared.Steering.TheVariants.{ByRotation, ByAngle}
use Rattle.wheel.specs.declared.Controls.{Controls}
use Rattle.wheel.specs.Steering.{controls_of}
use Rattle.table.specs.Rows.{wheel_at, body_at}

-- x from `low` to `high`, both accepted; a NaN is in no range
unfoldable pub in_range : Float → Float → Float → Bool
in_range low high x = le low x and le x high

-- dt from 0 to 1; a hit's time has the same range (refusal 6), and a roll influence (change request 2026-07)
unfoldable pub in_unit : Float → Bool
in_unit x = in_range zero one x

-- at least 0
unfoldable pub not_negative : Float → Bool
not_negative x = le zero x

-- radius above 0; rest length, travel, slip, stiffness, dampings, side stiffness and maximum force at least 0; "a stored setting from 0 to 1", the roll influence
unfoldable pub settings_in_range : Settings → Bool
settings_in_range s =
    lt zero s.radius
    and all not_negative (s.rest ∷ s.tuning.travel ∷ s.tuning.slip ∷ s.tuning.stiffness ∷ s.tuning.compression ∷ s.tuning.damping ∷ s.tuning.sideways ∷ s.tuning.most ∷ [])
    and in_unit s.roll

-- a rotation's sum of squares, x, y, z, w in order, from 1 − 2^-10 to 1 + 2^-10
unfoldable pub sum_of_squares : Format → Rotation → Float
sum_of_squares f q = add f (add f (add f (mul f q.b.x q.b.x) (mul f q.b.y q.b.y)) (mul f q.b.z q.b.z)) (mul f q.w q.w)

abbrev pub BAND-LOW : Float
BAND-LOW = fin false 1023 (negsuc 9)

abbrev pub BAND-HIGH : Float
BAND-HIGH = fin false 1025 (negsuc 9)

-- a normal's sum of squares has the same band (refusal 12)
unfoldable pub in_band : Float → Bool
in_band x = in_range BAND-LOW BAND-HIGH x

unfoldable pub rotation_in_range : Format → Rotation → Bool
rotation_in_range f q = in_band (sum_of_squares f q)

-- the steering's rotation; or its angle, "from −2 to 2 radians" (change request 2026-11)
unfoldable pub steering_in_range : Format → Steering → Bool
steering_in_range f (ByRotation q) = rotation_in_range f q
steering_in_range f (ByAngle angle) = in_range (neg two) two angle

-- brake at least 0, and the steering
unfoldable pub controls_in_range : Format → Controls → Bool
controls_in_range f c = not_negative c.brake and steering_in_range f c.steering

-- chassis inverse mass from 2^-20 to 2^20, and its rotation
abbrev pub LEAST-INVMASS : Float
LEAST-INVMASS = fin false 1 (negsuc 19)

unfoldable pub chassis_in_range : Format → Chassis → Bool
chassis_in_range f c = in_range LEAST-INVMASS (power 20) c.body.invmass and rotation_in_range f c.pose.rotation

-- a ground body's inverse mass at least 0, for each of the first n of a lent list
unfoldable pub body_in_range : List Float → ℕ → Bool
body_in_range bodies i = not_negative (body_at bodies i).invmass

unfoldable pub bodies_in_range : List Float → ℕ → Bool
bodies_in_range bodies n = every (body_in_range bodies) n 0

-- every stored setting of the first n rows; of the two steerings the one that was given
unfoldable pub wheel_in_range : Format → List Float → ℕ → Bool
wheel_in_range f t i = settings_in_range (wheel_at t i).settings and controls_in_range f (controls_of (wheel_at t i).controls)

unfoldable pub stored_in_range : Format → List Float → ℕ → Bool
stored_in_range f t n = every (wheel_in_range f t) n 0
