-- Change request 2026-11 on small numbers: a tractor, steered by angles, that is aimed upright and then upside down with no new control. Definitions only.
-- It moves at (12, 0, 5), and each of its rays meets nothing. The first wheel is turned by 1/2 about up, and upside down, its direction being up, about down. The second hangs in no direction, about which no angle turns: 17, until it is steered by a rotation.
-- The third is turned by −0, which turns nothing, once an angle of 5/2 is refused.
use Rattle.std.specs.Prelude.{true, false, List, [], ◌∷◌, ◌++◌, pos, negsuc, Float}
use Rattle.std.specs.Float.{fin}
use Rattle.real.specs.Number.{zero, one, half}
use Rattle.marked.specs.Numbers.{twelve}
use Rattle.vector.specs.declared.Vector.{Vector}
use Rattle.body.specs.declared.Chassis.{Chassis}
use Rattle.wheel.specs.declared.RayAnswer.TheVariants.{Nothing}
use Rattle.wheel.specs.Ray.{answer_at}
use Rattle.ground.specs.Frame.{Frame, frame}
use Rattle.demands.specs.History.{Call, AddWheel, SetControls, Aim, Drive, ReadWheel}
use Rattle.witnesses.specs.Car.{five_halves, vector, front, rear, pressed, turned, rolling}
use Rattle.witnesses.specs.Sledge.{slack}

abbrev pub minus_zero : Float
minus_zero = fin true 0 (pos 0)

-- ---- a direction so short that its square is rounded up to the smallest float above 0: 5/4 × 2^-75
abbrev pub speck : Vector
speck = vector (fin false 5 (negsuc 76)) zero zero

-- ---- the chassis, turned over by half a turn about the forward axis
abbrev pub capsized : Chassis
capsized = record { pose = record { translation = (rolling twelve).pose.translation; rotation = record { b = vector one zero zero; w = zero } }; body = (rolling twelve).body; effective = (rolling twelve).effective }

-- ---- the ray answers: none meets anything
abbrev pub airborne : Frame
airborne = frame half [] [] (answer_at (Nothing ∷ Nothing ∷ Nothing ∷ []))

-- ---- the calls after a set-up: until the first wheel has its angle; those that steer the other two and aim; the drive and the reads
abbrev pub hitched : List Call
hitched =
    AddWheel front
    ∷ AddWheel slack
    ∷ AddWheel rear
    ∷ []

abbrev pub ploughing : List Call
ploughing =
    SetControls 1 (turned minus_zero)
    ∷ SetControls 2 (turned five_halves)  -- 10
    ∷ SetControls 2 (turned minus_zero)
    ∷ Aim (rolling twelve)  -- 17
    ∷ SetControls 1 (pressed zero zero)
    ∷ []

abbrev pub ploughed : List Call
ploughed = ploughing ++ (Aim (rolling twelve) ∷ Drive airborne 3 ∷ ReadWheel 0 ∷ ReadWheel 1 ∷ ReadWheel 2 ∷ [])

-- upside down, and read once more
abbrev pub tractor_calls : List Call
tractor_calls = hitched ++ (SetControls 0 (turned half) ∷ ploughed) ++ (Aim capsized ∷ Drive airborne 3 ∷ ReadWheel 0 ∷ ReadWheel 2 ∷ [])
