-- Document 01, "A step, in the source's order", over the first n wheels of a table: one pass after another, each wheel by wheel. Definitions only.
-- `t` is the table, `c` the chassis as it stands; `w` is the wheel that a pass has come to. `tune` gives the tuning that counts in the step from the one that the wheel stores.
use Rattle.std.specs.Prelude.{ℕ, Bool, true, false, List, get_or, set, replicate, Float}
use Rattle.std.specs.Float.{Format, nan}
use Rattle.lists.specs.Pick.{pick, ◌and◌}
use Rattle.lists.specs.Counted.{iter, every}
use Rattle.real.specs.Scalar.{within}
use Rattle.vector.specs.declared.Vector.{Vector}
use Rattle.vector.specs.declared.Normalized.{Normalized}
use Rattle.vector.specs.declared.Pose.{Pose}
use Rattle.vector.specs.Arithmetic.{zero_v}
use Rattle.body.specs.declared.Body.{Body}
use Rattle.body.specs.declared.Chassis.{Chassis}
use Rattle.tyre.specs.declared.WheelTuning.{WheelTuning}
use Rattle.tyre.specs.Grip.{rescaled_of}
use Rattle.wheel.specs.declared.Wheel.{Wheel}
use Rattle.wheel.specs.declared.Directions.{Directions}
use Rattle.wheel.specs.declared.RayAnswer.{RayAnswer}
use Rattle.wheel.specs.Parts.{with_friction, with_fallbacks, friction_in}
use Rattle.wheel.specs.Ray.{update_wheel_transform, ray_cast, is_grounded}
use Rattle.road.specs.Contact.{directions_of, fallbacks_of}
use Rattle.road.specs.Step.{suspended_of, apply_suspension, wheel_limit, friction_of, apply_friction, update_rotation}
use Rattle.table.specs.Layout as at
use Rattle.table.specs.Bounds.{STORED}
use Rattle.table.specs.Rows.{wheel_at, put_wheel}
use Rattle.ground.specs.Frame.{Frame, grounded_at, ground_under}

-- the tuning that counts is the stored one
abbrev pub stored : WheelTuning → WheelTuning
stored tuning = tuning

-- ---- a pass that changes each wheel; one that moves the chassis at each wheel; and one that gives a value for each wheel, `none` for the others
unfoldable pub changed : (ℕ → Wheel → Wheel) → ℕ → List Float → List Float
changed g i t = put_wheel t i (g i (wheel_at t i))

unfoldable pub each_wheel : (ℕ → Wheel → Wheel) → ℕ → List Float → List Float
each_wheel g n t = iter (changed g) n 0 t

unfoldable pub moved : (ℕ → Wheel → Chassis → Chassis) → List Float → ℕ → Chassis → Chassis
moved h t i c = h i (wheel_at t i) c

unfoldable pub each_moves : (ℕ → Wheel → Chassis → Chassis) → ℕ → List Float → Chassis → Chassis
each_moves h n t c = iter (moved h t) n 0 c

module _ {A : Type 0} (v : Wheel → A) where
  unfoldable pub given : List Float → ℕ → List A → List A
  given t i l = set l i (v (wheel_at t i))

  unfoldable pub each_gives : A → ℕ → List Float → List A
  each_gives none n t = iter (given t) n 0 (replicate at.WHEELS none)

-- ---- rule 1
unfoldable pub transform_at : Format → Pose → ℕ → Wheel → Wheel
transform_at f pose i w = update_wheel_transform f pose w

unfoldable pub transforms : Format → Pose → ℕ → List Float → List Float
transforms f pose n t = each_wheel (transform_at f pose) n t

-- ---- rules 3 to 5, with the chassis as it was kept
unfoldable pub cast_at : Format → (WheelTuning → WheelTuning) → Body → (ℕ → RayAnswer) → ℕ → Wheel → Wheel
cast_at f tune chassis answer i w = ray_cast f (tune w.settings.tuning) chassis (answer i) w

unfoldable pub casts : Format → (WheelTuning → WheelTuning) → Body → (ℕ → RayAnswer) → ℕ → List Float → List Float
casts f tune chassis answer n t = each_wheel (cast_at f tune chassis answer) n t

-- ---- rule 6: forces, then impulses, wheel by wheel
unfoldable pub suspend_at : Format → (WheelTuning → WheelTuning) → Float → (ℕ → RayAnswer) → ℕ → Wheel → Wheel
suspend_at f tune invmass answer i w = suspended_of f (tune w.settings.tuning) invmass (grounded_at answer i) w

unfoldable pub suspensions : Format → (WheelTuning → WheelTuning) → Float → (ℕ → RayAnswer) → ℕ → List Float → List Float
suspensions f tune invmass answer n t = each_wheel (suspend_at f tune invmass answer) n t

unfoldable pub spring_at : Format → (WheelTuning → WheelTuning) → Float → ℕ → Wheel → Chassis → Chassis
spring_at f tune dt i w c = apply_suspension f (tune w.settings.tuning) dt w c

unfoldable pub springs : Format → (WheelTuning → WheelTuning) → Float → ℕ → List Float → Chassis → Chassis
springs f tune dt n t c = each_moves (spring_at f tune dt) n t c

-- ---- rule 7: the directions of each wheel, as a list; past its end stands no number
abbrev pub no_direction : Vector → Normalized
no_direction v = record { vector = v; fellback = false }

abbrev pub no_directions : Directions
no_directions = record { axis = no_direction zero_v; forward = no_direction zero_v }

unfoldable pub directions_in : Format → ℕ → List Float → List Directions
directions_in f n t = each_gives (directions_of f) no_directions n t

abbrev pub directions_at : List Directions → ℕ → Directions
directions_at l i =
    get_or l i (record { axis = no_direction (record { x = nan; y = nan; z = nan }); forward = no_direction (record { x = nan; y = nan; z = nan }) })

-- ---- rule 7, and rule 8 before the rescale: the demands of all wheels, with the chassis after the springs; change request 2026-05: whether their directions fell back to zero
unfoldable pub demand_of : Format → (WheelTuning → WheelTuning) → Float → Body → List Float → List Bool → RayAnswer → ℕ → Directions → Wheel → Wheel
demand_of f tune dt chassis bodies dynamic answer grounded d w =
    with_fallbacks
    (with_friction w (friction_of f (tune w.settings.tuning) dt chassis (is_grounded answer) (ground_under bodies dynamic answer) grounded d w))
    (fallbacks_of (is_grounded answer) d)

unfoldable pub demand_at : Format → (WheelTuning → WheelTuning) → Frame → Body → ℕ → (ℕ → Directions) → ℕ → Wheel → Wheel
demand_at f tune r chassis grounded d i w = demand_of f tune r.dt chassis r.bodies r.dynamic (r.answer i) grounded (d i) w

unfoldable pub demands : Format → (WheelTuning → WheelTuning) → Frame → Body → ℕ → (ℕ → Directions) → ℕ → List Float → List Float
demands f tune r chassis grounded d n t = each_wheel (demand_at f tune r chassis grounded d) n t

-- ---- rule 8: the rescale
unfoldable pub rescale_at : Format → ℕ → Wheel → Wheel
rescale_at f i w = with_friction w (rescaled_of f (friction_in w))

unfoldable pub rescales : Format → ℕ → List Float → List Float
rescales f n t = each_wheel (rescale_at f) n t

-- ---- rule 9, with the directions of rule 7
unfoldable pub push_at : Format → Vector → (ℕ → Directions) → ℕ → Wheel → Chassis → Chassis
push_at f up d i w c = apply_friction f up (d i) w c

unfoldable pub pushes : Format → Vector → (ℕ → Directions) → ℕ → List Float → Chassis → Chassis
pushes f up d n t c = each_moves (push_at f up d) n t c

-- ---- rule 10, with the chassis after rule 9
unfoldable pub spin_at : Format → Float → Body → (ℕ → RayAnswer) → ℕ → Wheel → Wheel
spin_at f dt chassis answer i w = update_rotation f dt (grounded_at answer i) chassis w

unfoldable pub spins : Format → Float → Body → (ℕ → RayAnswer) → ℕ → List Float → List Float
spins f dt chassis answer n t = each_wheel (spin_at f dt chassis answer) n t

-- ---- refusal 7: the demands and the grip limit of each grounded wheel are no NaN and at most 2^40 in magnitude
unfoldable pub admits : Format → WheelTuning → Float → Wheel → Bool
admits f tuning dt w = within STORED w.motion.forward and within STORED w.motion.side and within STORED (wheel_limit f tuning dt w)

unfoldable pub admitted_at : Format → (WheelTuning → WheelTuning) → Float → (ℕ → RayAnswer) → List Float → ℕ → Bool
admitted_at f tune dt answer t i = pick (grounded_at answer i) (admits f (tune (wheel_at t i).settings.tuning) dt (wheel_at t i)) true

unfoldable pub demands_admitted : Format → (WheelTuning → WheelTuning) → Float → (ℕ → RayAnswer) → ℕ → List Float → Bool
demands_admitted f tune dt answer n t = every (admitted_at f tune dt answer t) n 0
