-- A small car, as data, with numbers that can be worked out by hand: three wheels, 1.5 above flat ground at height 0, under a chassis that moves at (12, 0, 5). Definitions only.
-- The front wheel, with its engine on, slides; the lifted one meets nothing; the rear one is braked and grips. A second car has another lifted and another rear wheel, and the rear one meets the ground elsewhere:
-- its spring pushes as hard, and it slides.
use Rattle.std.specs.Prelude.{true, false, [], ◌∷◌, pos, negsuc, Float}
use Rattle.std.specs.Float.{fin}
use Rattle.real.specs.Number.{zero, one, two, half, power}
use Rattle.marked.specs.Numbers.{four, five, eight, quarter, three_quarters}
use Rattle.vector.specs.declared.Vector.{Vector}
use Rattle.vector.specs.declared.Rotation.{Rotation}
use Rattle.body.specs.declared.Chassis.{Chassis}
use Rattle.wheel.specs.declared.Settings.{Settings}
use Rattle.wheel.specs.declared.Steering.TheVariants.{ByRotation, ByAngle}
use Rattle.wheel.specs.declared.Controls.{Controls}
use Rattle.wheel.specs.declared.RayAnswer.{RayAnswer}
use Rattle.wheel.specs.declared.RayAnswer.TheVariants.{Nothing, Hit}
use Rattle.wheel.specs.Parts.{with_roll}
use Rattle.wheel.specs.Ray.{answer_at}
use Rattle.ground.specs.Frame.{Frame, frame}

-- ---- further small numbers
abbrev pub minus_one : Float
minus_one = fin true 1 (pos 0)

abbrev pub minus_two : Float
minus_two = fin true 1 (pos 1)

abbrev pub minus_four : Float
minus_four = fin true 1 (pos 2)

abbrev pub sixteen : Float
sixteen = fin false 1 (pos 4)

abbrev pub thirty_two : Float
thirty_two = fin false 1 (pos 5)

abbrev pub sixty_four : Float
sixty_four = fin false 1 (pos 6)

abbrev pub three_halves : Float
three_halves = fin false 3 (negsuc 0)

abbrev pub five_halves : Float
five_halves = fin false 5 (negsuc 0)

abbrev pub five_sixteenths : Float
five_sixteenths = fin false 5 (negsuc 3)

abbrev pub seven_eighths : Float
seven_eighths = fin false 7 (negsuc 2)

-- the source's roll influence: 0.1 at single precision, 13421773 × 2^-27
abbrev pub tenth : Float
tenth = fin false 13421773 (negsuc 26)

abbrev pub vector : Float → Float → Float → Vector
vector x y z = record { x = x; y = y; z = z }

abbrev pub nowhere : Vector
nowhere = vector zero zero zero

abbrev pub straight : Rotation
straight = record { b = nowhere; w = one }

-- ---- the wheels: each hangs down at (x, 0, z) by a spring of rest length 1, with this radius, stiffness and slip; those of the second car lean otherwise
abbrev pub hanging : Float → Float → Float → Float → Float → Settings
hanging x z radius stiffness slip = record {
  connection = vector x zero z;
  direction = vector zero minus_one zero;
  axle = vector zero zero one;
  rest = one;
  radius = radius;
  tuning = record { stiffness = stiffness; compression = two; damping = two; travel = half; sideways = four; slip = slip; most = power 10 };
  roll = tenth;
}

abbrev pub front : Settings
front = hanging two one one sixteen five_sixteenths

abbrev pub lifted : Settings
lifted = hanging two minus_one one sixteen one

abbrev pub rear : Settings
rear = hanging minus_two minus_one one sixteen eight

abbrev pub other_lifted : Settings
other_lifted = with_roll (hanging two minus_one half eight two) half

abbrev pub other_rear : Settings
other_rear = with_roll (hanging minus_two minus_one one thirty_two quarter) one

-- out of its range: no radius
abbrev pub flattened : Settings
flattened = hanging two one zero sixteen one

-- and more than all of a roll
abbrev pub toppled : Settings
toppled = with_roll front two

-- ---- engine and brake, steered by the rotation that turns nothing; and neither, steered by an angle
abbrev pub pressed : Float → Float → Controls
pressed engine brake = record { engine = engine; brake = brake; steering = ByRotation straight }

abbrev pub turned : Float → Controls
turned angle = record { engine = zero; brake = zero; steering = ByAngle angle }

-- ---- the chassis, of mass 2, with this velocity and this angular velocity; with none of the latter; and with this part of the velocity along the forward axis
abbrev pub turning : Vector → Vector → Chassis
turning velocity angular = record {
  pose = record { translation = vector zero three_halves zero; rotation = straight };
  body = record {
    centre = vector zero one zero;
    linvel = velocity;
    angvel = angular;
    invmass = half;
    inertia = record { xx = half; xy = zero; xz = zero; yy = quarter; yz = zero; zz = quarter };
  };
  effective = vector half half half;
}

abbrev pub moving : Vector → Chassis
moving velocity = turning velocity nowhere

abbrev pub rolling : Float → Chassis
rolling speed = moving (vector speed zero five)

-- ---- the ray answers, a half second: flat ground at this part of the ray under the rear wheel
abbrev pub met : Float → RayAnswer
met time = Hit time (vector zero one zero) 0

abbrev pub over : Float → Frame
over time = frame half [] [] (answer_at (met three_quarters ∷ Nothing ∷ met time ∷ []))

abbrev pub road : Frame
road = over three_quarters

abbrev pub bumpy : Frame
bumpy = over seven_eighths

-- and on a set that was scaled: under the front wheel the normal is two long
abbrev pub stretched : Frame
stretched = frame half [] [] (answer_at (Hit three_quarters (vector zero two zero) 0 ∷ Nothing ∷ met three_quarters ∷ []))
