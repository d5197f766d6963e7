-- Change request 2026-07, "With 0.1 everywhere demand 2 reads as it did": the step as document 01 has it, "roll influence (always 0.1)", in which only rule 9 is another than in that of crate `passes`; and the range that had no roll influence. Definitions only.
use Rattle.std.specs.Prelude.{ℕ, ◌<◌, Bool, true, List, [], ◌∷◌, ◌≡◌, Float}
use Rattle.std.specs.Float.{Format}
use Rattle.std.specs.Float.Ieee.{lt}
use Rattle.lists.specs.Pick.{◌and◌}
use Rattle.lists.specs.All.{all}
use Rattle.real.specs.Number.{zero}
use Rattle.vector.specs.declared.Vector.{Vector}
use Rattle.vector.specs.Arithmetic.{scale_v, rotate_v, ith}
use Rattle.body.specs.declared.Chassis.{Chassis}
use Rattle.body.specs.Body.{apply_impulse_at_point}
use Rattle.tyre.specs.declared.WheelTuning.{WheelTuning}
use Rattle.wheel.specs.declared.Settings.{Settings}
use Rattle.wheel.specs.declared.Wheel.{Wheel}
use Rattle.wheel.specs.declared.Directions.{Directions}
use Rattle.wheel.specs.Parts.{roll_influence}
use Rattle.road.specs.Step.{side_point}
use Rattle.table.specs.Rows.{wheel_at}
use Rattle.ranges.specs.Ranges.{not_negative}
use Rattle.ground.specs.Frame.{Frame}
use Rattle.passes.specs.Passes.{each_moves, directions_at, rescales}
use Rattle.passes.specs.Step.{Work, work, spun, demand_step}
use Rattle.demands.specs.History.{State, Call, SetUp, AddWheel, SetControls, Aim, Drive, ReadWheel, accepted, run}

-- Rule 9 with one roll influence for every wheel. Apply forward at the contact point; side at the side point. `up` is the rotated up axis.
unfoldable pub fixed_friction : Format → Vector → Directions → Wheel → Chassis → Chassis
fixed_friction f up d w chassis =
    apply_impulse_at_point f
    (apply_impulse_at_point f chassis (scale_v f d.forward.vector w.motion.forward) w.info.point)
    (scale_v f d.axis.vector w.motion.side)
    (side_point f (roll_influence f) up w.info.point chassis.body.centre)

-- the pass over the wheels, with the directions of rule 7
unfoldable pub fixed_push_at : Format → Vector → (ℕ → Directions) → ℕ → Wheel → Chassis → Chassis
fixed_push_at f up d i w c = fixed_friction f up (d i) w c

-- the rescale and the friction impulses; `up` is the number of the up axis
unfoldable pub fixed_pushed : Format → ℕ → ℕ → Work → Work
fixed_pushed f up n s =
    let scaled = rescales f n s.table in
    work scaled (each_moves (fixed_push_at f (rotate_v f s.chassis.pose.rotation (ith up)) (directions_at s.directions)) n scaled s.chassis) s.directions

-- the whole step
unfoldable pub fixed_step : Format → (WheelTuning → WheelTuning) → ℕ → Frame → ℕ → List Float → Work
fixed_step f tune up r n t = spun f r.dt r.answer n (fixed_pushed f up n (demand_step f tune r n t))

-- Refusal 10 of settings, before the request: radius above 0; rest length, travel, slip, stiffness, dampings, side stiffness and maximum force at least 0
unfoldable pub fixed_in_range : Settings → Bool
fixed_in_range s =
    lt zero s.radius
    and all not_negative (s.rest ∷ s.tuning.travel ∷ s.tuning.slip ∷ s.tuning.stiffness ∷ s.tuning.compression ∷ s.tuning.damping ∷ s.tuning.sideways ∷ s.tuning.most ∷ [])

-- "0.1 everywhere": settings that have it, and a table each of whose first n wheels stores it
abbrev pub IsTenth : Format → Settings → Type 0
IsTenth f s = s.roll ≡ roll_influence f

abbrev pub AllTenth : Format → List Float → ℕ → Type 0
AllTenth f t n = (i : ℕ) → i < n → IsTenth f (wheel_at t i).settings

-- what holds of the settings that a call hands in, and of those of each accepted call of a list
unfoldable pub AddHands : (Settings → Type 0) → Call → Type 0
AddHands P (SetUp up forward) = Unit
AddHands P (AddWheel settings) = P settings
AddHands P (SetControls i controls) = Unit
AddHands P (Aim chassis) = Unit
AddHands P (Drive frame n) = Unit
AddHands P (ReadWheel i) = Unit

unfoldable pub AddsHand : Format → (Settings → Type 0) → List Call → State → Type 0
AddsHand f P [] s = Unit
AddsHand f P (c ∷ l) s = (accepted f c s ≡ true → AddHands P c) × AddsHand f P l (run f c s)
