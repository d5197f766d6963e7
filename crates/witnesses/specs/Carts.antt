-- Change request 2026-13 on small numbers: a cart and a wagon with one braked wheel each, and their drives under any brake. Definitions only.
-- The wheel hangs down at (0, 0, 1), 1.5 above flat ground at height 0. The ground passes under it at 12, the sum of denominators is 1/2 + 1/2, and no other wheel is grounded: its rolling demand is −12, cut to the brake.
-- The wagon has another time step, another kept chassis, and a second wheel that meets nothing. Its spring pushes by 8 × 3/4 and not by 16 × 1/2, and brings the chassis to the same velocities.
use Rattle.std.specs.Prelude.{true, List, [], ◌∷◌, ◌++◌, pos, Float}
use Rattle.std.specs.Float.{fin}
use Rattle.real.specs.Number.{zero, one, half}
use Rattle.marked.specs.Numbers.{four, five, eight, twelve, three_quarters}
use Rattle.body.specs.declared.Chassis.{Chassis}
use Rattle.wheel.specs.declared.Settings.{Settings}
use Rattle.wheel.specs.declared.RayAnswer.TheVariants.{Nothing}
use Rattle.wheel.specs.Ray.{answer_at}
use Rattle.table.specs.Rows.{row_of, chassis_list}
use Rattle.ground.specs.Frame.{Frame, frame}
use Rattle.demands.specs.History.{Call, AddWheel, SetControls, Aim, Drive, ReadWheel}
use Rattle.demands.specs.Impulses.{Step}
use Rattle.witnesses.specs.Car.{minus_one, minus_four, sixteen, vector, hanging, lifted, pressed, turning, rolling, met}
use Rattle.witnesses.specs.Calls.{placed, room, aimed_drive}

abbrev pub minus_zero : Float
minus_zero = fin true 0 (pos 0)

abbrev pub minus_twelve : Float
minus_twelve = fin true 3 (pos 2)

-- ---- the braked wheel, the wagon's chassis, and both frames
abbrev pub braked : Settings
braked = hanging zero one one sixteen eight

abbrev pub rising : Chassis
rising = turning (vector twelve one five) (vector minus_one zero zero)

abbrev pub lane : Frame
lane = frame half [] [] (answer_at (met three_quarters ∷ []))

abbrev pub track : Frame
track = frame three_quarters [] [] (answer_at (met three_quarters ∷ Nothing ∷ []))

-- ---- the calls after a set-up that lead to the drive, and the drive with a read
abbrev pub cart_aimed : Float → List Call
cart_aimed brake = AddWheel braked ∷ SetControls 0 (pressed zero brake) ∷ Aim (rolling twelve) ∷ []

abbrev pub wagon_aimed : Float → List Call
wagon_aimed brake = AddWheel braked ∷ AddWheel lifted ∷ SetControls 0 (pressed zero brake) ∷ Aim rising ∷ []

abbrev pub cart_calls : Float → List Call
cart_calls brake = cart_aimed brake ++ (Drive lane 1 ∷ ReadWheel 0 ∷ [])

abbrev pub wagon_calls : Float → List Call
wagon_calls brake = wagon_aimed brake ++ (Drive track 2 ∷ ReadWheel 0 ∷ [])

-- ---- the drive itself
abbrev pub cart : Float → Step
cart brake = aimed_drive (chassis_list (rolling twelve) ++ row_of (placed braked (pressed zero brake)) ++ room 1) 1 lane

abbrev pub wagon : Float → Step
wagon brake = aimed_drive (chassis_list rising ++ row_of (placed braked (pressed zero brake)) ++ row_of (placed lifted (pressed zero zero)) ++ room 2) 2 track

-- the chassis after the springs of either
abbrev pub cart_sprung : Chassis
cart_sprung = turning (vector twelve four five) (vector minus_four zero zero)
