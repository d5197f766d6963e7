-- Change request 2026-02, "Tyres are drawn a frame late": the two centres that a read gives after a drive. Definitions only.
use Rattle.std.specs.Prelude.{ℕ, Bool, true, not, ◌&&◌, ◌||◌, List, [], ◌∷◌, Float}
use Rattle.std.specs.Float.{Format}
use Rattle.std.specs.Float.Ieee.Scale.{finite}
use Rattle.vector.specs.declared.Vector.{Vector}
use Rattle.vector.specs.declared.Pose.{Pose}
use Rattle.tyre.specs.Suspension.{suspension_length}
use Rattle.wheel.specs.declared.Wheel.{Wheel}
use Rattle.wheel.specs.declared.RayAnswer.{RayAnswer}
use Rattle.wheel.specs.declared.RayAnswer.TheVariants.{Nothing, Hit, HitUp}
use Rattle.wheel.specs.Parts.{with_info}
use Rattle.wheel.specs.Ray.{update_wheel_transform}
use Rattle.drive.specs.Drive.{drive_of}
use Rattle.refusals.specs.After.{After}
use Rattle.read_wheel.specs.Read.{ReadReply, read_wheel}
use Rattle.demands.specs.History.{State, state, Call, accepted, run, drives, undrives}
use Rattle.demands.specs.Impulses.{Step, stored_wheel}

-- what is lent after a drive, and a read of wheel i straight after it
abbrev pub after_drive : Format → Step → State
after_drive f d =
    let driven = drive_of f d.table d.whole d.frame d.n in
    state driven.table driven.whole

abbrev pub read_after_drive : Format → Step → ℕ → After ReadReply
read_after_drive f d i = read_wheel f (after_drive f d).table (after_drive f d).whole i

-- none of the calls is an accepted set-up, add, aim or drive: what is accepted sets controls or reads
unfoldable pub quiet : Format → List Call → State → Bool
quiet f [] s = true
quiet f (c ∷ l) s = not ((drives c || undrives c) && accepted f c s) && quiet f l (run f c s)

-- the length that rule 4 gives for a hit, and rule 5 where nothing is hit
unfoldable pub length_by : Format → RayAnswer → Wheel → Float
length_by f Nothing w = w.settings.rest
length_by f (Hit time normal named) w = suspension_length f w.settings.rest w.settings.tuning.travel w.settings.radius time
length_by f (HitUp time normal upward named) w = suspension_length f w.settings.rest w.settings.tuning.travel w.settings.radius time

-- "this drive's length"
abbrev pub drive_length : Format → Step → ℕ → Float
drive_length f d i = length_by f (d.frame.answer i) (stored_wheel d i)

-- a wheel with another length
abbrev pub with_length : Wheel → Float → Wheel
with_length w length = with_info w (record { normal = w.info.normal; point = w.info.point; length = length; hard = w.info.hard })

-- rule 1's centre of a wheel under a pose, at the length that the wheel stores
abbrev pub centre_under : Format → Pose → Wheel → Vector
centre_under f pose w = (update_wheel_transform f pose w).place.centre

-- each part is a number, neither a NaN nor an infinity
unfoldable pub is_finite : Vector → Bool
is_finite v = finite v.x && (finite v.y && finite v.z)
