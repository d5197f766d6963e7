-- Two histories: the calls that are made on the two cars of Car.antt, what they leave, and the drive in each. Definitions only.
use Rattle.std.specs.Prelude.{ℕ, ◌-◌, ◌*◌, List, [], ◌∷◌, ◌++◌, replicate, Float}
use Rattle.std.specs.Float.{binary32, nan}
use Rattle.real.specs.Number.{zero, power}
use Rattle.marked.specs.Numbers.{four, five, eight, twelve}
use Rattle.vector.specs.declared.Vector.{Vector}
use Rattle.body.specs.declared.Chassis.{Chassis}
use Rattle.wheel.specs.declared.Settings.{Settings}
use Rattle.wheel.specs.declared.Controls.{Controls}
use Rattle.wheel.specs.declared.Wheel.{Wheel}
use Rattle.wheel.specs.Steering.{kept_controls}
use Rattle.table.specs.Layout as at
use Rattle.table.specs.Rows.{row_of, chassis_list}
use Rattle.ground.specs.Frame.{Frame}
use Rattle.demands.specs.History.{State, state, Call, SetUp, AddWheel, SetControls, Aim, Drive, ReadWheel, run_all}
use Rattle.demands.specs.Impulses.{Step}
use Rattle.witnesses.specs.Car.{three_halves, vector, nowhere, front, lifted, rear, flattened, toppled, other_lifted, other_rear, pressed, moving, rolling, road, bumpy, stretched}

-- ---- what is lent to a set-up: rubbish
abbrev pub lent : State
lent = state (replicate at.SIZE nan) (7 ∷ 7 ∷ 7 ∷ 7 ∷ [])

-- ---- the first history, after a set-up with up axis 1 and forward axis 0. Some calls are refused: the number stands behind them
abbrev pub fitted : List Call
fitted =
    AddWheel front
    ∷ AddWheel lifted
    ∷ AddWheel rear
    ∷ AddWheel flattened  -- 10
    ∷ AddWheel toppled  -- 10
    ∷ SetControls 0 (pressed twelve zero)
    ∷ SetControls 3 (pressed zero zero)  -- 4
    ∷ SetControls 2 (pressed zero four)
    ∷ []

abbrev pub aimed : List Call
aimed =
    fitted
    ++ (Drive road 3  -- 5
    ∷ Aim (rolling (power 21))  -- 2
    ∷ Aim (rolling twelve)
    ∷ ReadWheel 0  -- 5
    ∷ Drive road 2  -- 6
    ∷ Drive stretched 3  -- 12
    ∷ [])

abbrev pub reads : List Call
reads = ReadWheel 0 ∷ ReadWheel 1 ∷ ReadWheel 2 ∷ []

abbrev pub calls : List Call
calls = aimed ++ (Drive road 3 ∷ reads)

-- ---- the second history
abbrev pub other_aimed : List Call
other_aimed =
    AddWheel front
    ∷ AddWheel other_lifted
    ∷ AddWheel other_rear
    ∷ SetControls 0 (pressed twelve zero)
    ∷ SetControls 2 (pressed zero four)
    ∷ Aim (rolling twelve)
    ∷ []

abbrev pub other_driven : List Call
other_driven = other_aimed ++ (Drive bumpy 3 ∷ reads) ++ (SetControls 1 (pressed zero zero) ∷ ReadWheel 0 ∷ [])

-- and aimed again
abbrev pub other_calls : List Call
other_calls =
    other_driven
    ++ (Aim (rolling twelve)
    ∷ ReadWheel 0  -- 5
    ∷ [])

-- ---- what is lent after the set-up and these calls
abbrev pub left_by : List Call → State
left_by l = run_all binary32 (SetUp 1 0 ∷ l) lent

-- where a wheel stands once it is aimed; a wheel that is aimed and stands there, and one that hangs at the height of the pose
abbrev pub raised : Vector → Vector
raised connection = vector connection.x three_halves connection.z

abbrev pub placed_at : Vector → Settings → Controls → Wheel
placed_at hard settings controls = record {
  info = record { normal = nowhere; point = nowhere; length = zero; hard = hard };
  place = record { centre = hard; direction = settings.direction; axle = settings.axle };
  settings = settings;
  controls = kept_controls controls;
  approach = record { velocity = zero; inverse = zero };
  motion = record { rotation = zero; spin = zero; force = zero; forward = zero; side = zero; skid = zero };
  fallbacks = record { axis = zero; forward = zero };
}

abbrev pub placed : Settings → Controls → Wheel
placed settings controls = placed_at (raised settings.connection) settings controls

-- room for the wheels behind the first n; and a drive of n wheels over a table that an aim left, with axes 1 and 0
abbrev pub room : ℕ → List Float
room n = replicate ((at.WHEELS - n) * at.ROW) zero

abbrev pub aimed_drive : List Float → ℕ → Frame → Step
aimed_drive t n r = record { table = t; whole = n ∷ at.AIMED ∷ 1 ∷ 0 ∷ []; frame = r; n = n }

-- ---- the drive that follows
abbrev pub drive_over : Settings → Settings → Frame → Step
drive_over second third r =
    aimed_drive (chassis_list (rolling twelve) ++ row_of (placed front (pressed twelve zero)) ++ row_of (placed second (pressed zero zero)) ++ row_of (placed third (pressed zero four)) ++ room 3) 3 r

abbrev pub the_drive : Step
the_drive = drive_over lifted rear road

abbrev pub other_drive : Step
other_drive = drive_over other_lifted other_rear bumpy

-- the chassis after the springs of either, which push it up by 8 × 1/2 each and turn it as far to one side as to the other
abbrev pub sprung_chassis : Chassis
sprung_chassis = moving (vector twelve eight five)
