-- Document 01, "A step, in the source's order": the passes one after another, under the tuning that counts. Definitions only.
use Rattle.std.specs.Prelude.{ℕ, List, Float}
use Rattle.std.specs.Float.{Format}
use Rattle.vector.specs.Arithmetic.{rotate_v, ith}
use Rattle.body.specs.declared.Chassis.{Chassis}
use Rattle.tyre.specs.declared.WheelTuning.{WheelTuning}
use Rattle.wheel.specs.declared.Directions.{Directions}
use Rattle.wheel.specs.declared.RayAnswer.{RayAnswer}
use Rattle.table.specs.Rows.{chassis_at, put_chassis}
use Rattle.ground.specs.Frame.{Frame, grounded_wheels}
use Rattle.passes.specs.Passes.{casts, suspensions, springs, directions_in, directions_at, demands, rescales, pushes, spins}

-- the table, the chassis and the wheels' directions on the contact plane, as they stand
pub record Work : Type 0 where
  pub table : List Float
  pub chassis : Chassis
  pub directions : List Directions

abbrev pub work : List Float → Chassis → List Directions → Work
work t c d = record { table = t; chassis = c; directions = d }

-- after the springs: the table with its contacts and forces, the chassis, and rule 7's directions
unfoldable pub sprung : Format → (WheelTuning → WheelTuning) → Frame → ℕ → List Float → Work
sprung f tune r n t =
    let c = chassis_at t in
    let hung = suspensions f tune c.body.invmass r.answer n (casts f tune c.body r.answer n t) in
    work hung (springs f tune r.dt n hung c) (directions_in f n hung)

-- both demands for all wheels, before any friction impulse is applied
unfoldable pub demanded : Format → (WheelTuning → WheelTuning) → Frame → ℕ → Work → Work
demanded f tune r n s =
    work (demands f tune r s.chassis.body (grounded_wheels r.answer n) (directions_at s.directions) n s.table) s.chassis s.directions

-- the rescale and the friction impulses; `up` is the number of the up axis, which the chassis rotates
unfoldable pub pushed : Format → ℕ → ℕ → Work → Work
pushed f up n s =
    let scaled = rescales f n s.table in
    work scaled (pushes f (rotate_v f s.chassis.pose.rotation (ith up)) (directions_at s.directions) n scaled s.chassis) s.directions

-- the table with the new rows and the new velocities of the kept chassis
unfoldable pub spun : Format → Float → (ℕ → RayAnswer) → ℕ → Work → Work
spun f dt answer n s = work (put_chassis (spins f dt s.chassis.body answer n s.table) s.chassis) s.chassis s.directions

-- the step as far as the demands, and the whole of it
unfoldable pub demand_step : Format → (WheelTuning → WheelTuning) → Frame → ℕ → List Float → Work
demand_step f tune r n t = demanded f tune r n (sprung f tune r n t)

unfoldable pub whole_step : Format → (WheelTuning → WheelTuning) → ℕ → Frame → ℕ → List Float → Work
whole_step f tune up r n t = spun f r.dt r.answer n (pushed f up n (demand_step f tune r n t))
