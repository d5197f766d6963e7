-- Change request 2026-05 on small numbers: a sledge, whose three wheels have no rolling direction on the ground. Definitions only.
-- It moves at (12, 0, 5) over flat ground at height 0. The axles of the first and the third wheel stand upright, along the ground's normal: neither has an axis. The first is braked, the third has its engine on.
-- The second hangs in no direction, and its ray starts inside the ground: the normal is minus the direction, zero, so its axis is its axle, and it has no forward direction alone. It is braked, and holds to the side.
use Rattle.std.specs.Prelude.{true, List, [], ◌∷◌, ◌++◌, pos, negsuc, Float}
use Rattle.std.specs.Float.{fin}
use Rattle.real.specs.Number.{zero, one, two, half}
use Rattle.marked.specs.Numbers.{four, eight, twelve, three_quarters}
use Rattle.vector.specs.declared.Vector.{Vector}
use Rattle.wheel.specs.declared.Settings.{Settings}
use Rattle.wheel.specs.declared.RayAnswer.TheVariants.{Hit}
use Rattle.wheel.specs.Ray.{answer_at}
use Rattle.table.specs.Rows.{row_of, chassis_list}
use Rattle.ground.specs.Frame.{Frame, frame}
use Rattle.demands.specs.History.{Call, AddWheel, SetControls, Aim, Drive, ReadWheel}
use Rattle.demands.specs.Impulses.{Step}
use Rattle.witnesses.specs.Car.{minus_one, minus_two, sixteen, vector, nowhere, hanging, pressed, rolling, met}
use Rattle.witnesses.specs.Calls.{placed_at, placed, room, aimed_drive}

abbrev pub minus_half : Float
minus_half = fin true 1 (negsuc 0)

abbrev pub minus_eight : Float
minus_eight = fin true 1 (pos 3)

-- ---- the wheels: the rear one of the car, at another place, with another direction and another axle
abbrev pub shaped : Vector → Vector → Vector → Settings
shaped connection direction axle =
    let s = hanging zero zero one sixteen eight in
    record { connection = connection; direction = direction; axle = axle; rest = s.rest; radius = s.radius; tuning = s.tuning; roll = s.roll }

abbrev pub upright : Float → Float → Settings
upright x z = shaped (vector x zero z) (vector zero minus_one zero) (vector zero one zero)

abbrev pub dead : Settings
dead = upright two one

abbrev pub slack : Settings
slack = shaped (vector zero minus_half one) nowhere (vector zero zero one)

abbrev pub revving : Settings
revving = upright minus_two minus_one

-- ---- the ray answers
abbrev pub ice : Frame
ice = frame half [] [] (answer_at (met three_quarters ∷ Hit zero nowhere 0 ∷ met three_quarters ∷ []))

-- ---- the calls after a set-up that lead to the drive, and the drive with the reads
abbrev pub sledge_aimed : List Call
sledge_aimed =
    AddWheel dead
    ∷ AddWheel slack
    ∷ AddWheel revving
    ∷ SetControls 0 (pressed zero four)
    ∷ SetControls 1 (pressed zero four)
    ∷ SetControls 2 (pressed twelve zero)
    ∷ Aim (rolling twelve)
    ∷ []

abbrev pub sledge_calls : List Call
sledge_calls = sledge_aimed ++ (Drive ice 3 ∷ ReadWheel 0 ∷ ReadWheel 1 ∷ ReadWheel 2 ∷ [])

-- ---- the drive itself
abbrev pub sledge : Step
sledge = aimed_drive (chassis_list (rolling twelve) ++ row_of (placed dead (pressed zero four)) ++ row_of (placed_at (vector zero one one) slack (pressed zero four)) ++ row_of (placed revving (pressed twelve zero)) ++ room 3) 3 ice
