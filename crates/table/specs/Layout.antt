-- Document 01, "What a vehicle keeps": the layout of the lent table. Each place is a named constant, counted from the one before it, and nothing else knows a number. Definitions only.
-- The kept chassis stands first, then the rows. A row holds the numbers of `Wheel` and `RayCastInfo`, part by part; contact and ground object are not
-- kept. The places in a part are counted from its start, and its length is the last of them: settings are handed in as a list in the same order, and controls with one steering alone (docs/STREAM.md).
use Rattle.std.specs.Prelude.{ℕ, ◌+◌, ◌*◌}

-- ---- the kept chassis, at the start of the table
abbrev pub TRANSLATION : ℕ
TRANSLATION = 0

abbrev pub ORIENTATION : ℕ
ORIENTATION = TRANSLATION + 3

abbrev pub MASS-CENTRE : ℕ
MASS-CENTRE = ORIENTATION + 4

abbrev pub LINVEL : ℕ
LINVEL = MASS-CENTRE + 3

abbrev pub ANGVEL : ℕ
ANGVEL = LINVEL + 3

abbrev pub INVMASS : ℕ
INVMASS = ANGVEL + 3

abbrev pub EFFECTIVE : ℕ
EFFECTIVE = INVMASS + 1

abbrev pub INERTIA : ℕ
INERTIA = EFFECTIVE + 3

abbrev pub KEPT : ℕ
KEPT = INERTIA + 6

-- ---- the ray info of a wheel
abbrev pub NORMAL : ℕ
NORMAL = 0

abbrev pub POINT : ℕ
POINT = NORMAL + 3

abbrev pub LENGTH : ℕ
LENGTH = POINT + 3

abbrev pub HARD : ℕ
HARD = LENGTH + 1

abbrev pub INFO : ℕ
INFO = HARD + 3

-- ---- the place of a wheel: its centre, and the world's direction and axle
abbrev pub CENTRE : ℕ
CENTRE = 0

abbrev pub WORLD-DIRECTION : ℕ
WORLD-DIRECTION = CENTRE + 3

abbrev pub WORLD-AXLE : ℕ
WORLD-AXLE = WORLD-DIRECTION + 3

abbrev pub PLACE : ℕ
PLACE = WORLD-AXLE + 3

-- ---- a tuning, in the source's declared order
abbrev pub STIFFNESS : ℕ
STIFFNESS = 0

abbrev pub COMPRESSION : ℕ
COMPRESSION = STIFFNESS + 1

abbrev pub DAMPING : ℕ
DAMPING = COMPRESSION + 1

abbrev pub TRAVEL : ℕ
TRAVEL = DAMPING + 1

abbrev pub SIDEWAYS : ℕ
SIDEWAYS = TRAVEL + 1

abbrev pub SLIP : ℕ
SLIP = SIDEWAYS + 1

abbrev pub MOST : ℕ
MOST = SLIP + 1

abbrev pub TUNING : ℕ
TUNING = MOST + 1

-- ---- the settings of a wheel
abbrev pub CONNECTION : ℕ
CONNECTION = 0

abbrev pub DIRECTION : ℕ
DIRECTION = CONNECTION + 3

abbrev pub AXLE : ℕ
AXLE = DIRECTION + 3

abbrev pub REST : ℕ
REST = AXLE + 3

abbrev pub RADIUS : ℕ
RADIUS = REST + 1

abbrev pub TUNING-AT : ℕ
TUNING-AT = RADIUS + 1

abbrev pub ROLL : ℕ
ROLL = TUNING-AT + TUNING

abbrev pub SETTINGS : ℕ
SETTINGS = ROLL + 1

-- ---- the steering of a wheel, as it is kept: the rotation, the angle, and which of the two was given
abbrev pub STEERING-ROTATION : ℕ
STEERING-ROTATION = 0

abbrev pub STEERING-ANGLE : ℕ
STEERING-ANGLE = STEERING-ROTATION + 4

abbrev pub STEERING-KIND : ℕ
STEERING-KIND = STEERING-ANGLE + 1

abbrev pub STEERING : ℕ
STEERING = STEERING-KIND + 1

-- ---- the controls of a wheel
abbrev pub ENGINE : ℕ
ENGINE = 0

abbrev pub BRAKE : ℕ
BRAKE = ENGINE + 1

abbrev pub STEERING-AT : ℕ
STEERING-AT = BRAKE + 1

abbrev pub CONTROLS : ℕ
CONTROLS = STEERING-AT + STEERING

-- ---- how many numbers the controls are as they are handed in: engine, brake, and the rotation or the angle
abbrev pub BY-ROTATION : ℕ
BY-ROTATION = STEERING-AT + 4

abbrev pub BY-ANGLE : ℕ
BY-ANGLE = STEERING-AT + 1

-- ---- how the ray of a wheel met the ground
abbrev pub VELOCITY : ℕ
VELOCITY = 0

abbrev pub INVERSE : ℕ
INVERSE = VELOCITY + 1

abbrev pub APPROACH : ℕ
APPROACH = INVERSE + 1

-- ---- the motion of a wheel
abbrev pub ROTATION : ℕ
ROTATION = 0

abbrev pub SPIN : ℕ
SPIN = ROTATION + 1

abbrev pub FORCE : ℕ
FORCE = SPIN + 1

abbrev pub FORWARD-IMPULSE : ℕ
FORWARD-IMPULSE = FORCE + 1

abbrev pub SIDE-IMPULSE : ℕ
SIDE-IMPULSE = FORWARD-IMPULSE + 1

abbrev pub SKID : ℕ
SKID = SIDE-IMPULSE + 1

abbrev pub MOTION : ℕ
MOTION = SKID + 1

-- ---- whether the axis and the forward direction of a wheel fell back to zero
abbrev pub AXIS-FALLBACK : ℕ
AXIS-FALLBACK = 0

abbrev pub FORWARD-FALLBACK : ℕ
FORWARD-FALLBACK = AXIS-FALLBACK + 1

abbrev pub FALLBACKS : ℕ
FALLBACKS = FORWARD-FALLBACK + 1

-- ---- a row: one part after another
abbrev pub INFO-AT : ℕ
INFO-AT = 0

abbrev pub PLACE-AT : ℕ
PLACE-AT = INFO-AT + INFO

abbrev pub SETTINGS-AT : ℕ
SETTINGS-AT = PLACE-AT + PLACE

abbrev pub CONTROLS-AT : ℕ
CONTROLS-AT = SETTINGS-AT + SETTINGS

abbrev pub APPROACH-AT : ℕ
APPROACH-AT = CONTROLS-AT + CONTROLS

abbrev pub MOTION-AT : ℕ
MOTION-AT = APPROACH-AT + APPROACH

abbrev pub FALLBACKS-AT : ℕ
FALLBACKS-AT = MOTION-AT + MOTION

abbrev pub ROW : ℕ
ROW = FALLBACKS-AT + FALLBACKS

-- ---- the table
abbrev pub WHEELS : ℕ
WHEELS = 16

abbrev pub SIZE : ℕ
SIZE = KEPT + WHEELS * ROW

-- ---- the whole numbers beside the table
abbrev pub COUNT : ℕ
COUNT = 0

abbrev pub MARK : ℕ
MARK = COUNT + 1

abbrev pub UP : ℕ
UP = MARK + 1

abbrev pub FORWARD : ℕ
FORWARD = UP + 1

abbrev pub WHOLE : ℕ
WHOLE = FORWARD + 1

-- ---- the marks
abbrev pub NEW : ℕ
NEW = 0

abbrev pub AIMED : ℕ
AIMED = 1

abbrev pub DRIVEN : ℕ
DRIVEN = 2

-- ---- a ground body, as it is lent to a drive
abbrev pub BODY-CENTRE : ℕ
BODY-CENTRE = 0

abbrev pub BODY-LINVEL : ℕ
BODY-LINVEL = BODY-CENTRE + 3

abbrev pub BODY-ANGVEL : ℕ
BODY-ANGVEL = BODY-LINVEL + 3

abbrev pub BODY-INVMASS : ℕ
BODY-INVMASS = BODY-ANGVEL + 3

abbrev pub BODY-INERTIA : ℕ
BODY-INERTIA = BODY-INVMASS + 1

abbrev pub BODY : ℕ
BODY = BODY-INERTIA + 6

abbrev pub BODIES : ℕ
BODIES = 64
