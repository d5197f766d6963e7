-- Demand 3 speaks of one wheel of an accepted step: its two demands, its grip limit and its two impulses, and two steps that are alike to it. Definitions only.
use Rattle.std.specs.Prelude.{ℕ, ◌<◌, Bool, true, List, ◌≡◌, Float}
use Rattle.std.specs.Float.{Format}
use Rattle.std.specs.Float.Ieee.{ne}
use Rattle.real.specs.Number.{zero}
use Rattle.wheel.specs.declared.Wheel.{Wheel}
use Rattle.tyre.specs.Grip.{slides}
use Rattle.road.specs.Step.{wheel_limit}
use Rattle.table.specs.Rows.{wheel_at, chassis_at}
use Rattle.ground.specs.Frame.{Frame, grounded_at, grounded_wheels}
use Rattle.passes.specs.Passes.{stored}
use Rattle.passes.specs.Step.{sprung, demand_step}
use Rattle.drive.specs.Drive.{drive_of, refuse_drive}
use Rattle.demands.specs.History.{State, Call, run_all}
use Rattle.demands.specs.Held.{Held}

-- a drive: what it is lent, what it is handed, and how many ray answers that has
pub record Step : Type 0 where
  pub table : List Float
  pub whole : List ℕ
  pub frame : Frame
  pub n : ℕ

-- a drive after a list of calls
abbrev pub step_after : Format → List Call → State → Frame → ℕ → Step
step_after f l s frame n = record { table = (run_all f l s).table; whole = (run_all f l s).whole; frame = frame; n = n }

-- no refusal
abbrev pub Accepted : Format → Step → Type 0
Accepted f d = refuse_drive f d.table d.whole d.frame d.n ≡ 0

-- "In an accepted step": wheel i is one of the step's, whose table holds numbers of the format
pub record Stepped (f : Format) (d : Step) (i : ℕ) : Type 0 where
  pub accepted : Accepted f d
  pub held : Held f d.table
  pub counted : i < d.n

-- "a grounded wheel's ..": the ray of wheel i hit
pub record Grounded (f : Format) (d : Step) (i : ℕ) : Type 0 where
  pub stepped : Stepped f d i
  pub contact : grounded_at d.frame.answer i ≡ true

-- wheel i as it was stored; as rule 7 leaves it, before rule 8; and as the drive leaves it
abbrev pub stored_wheel : Step → ℕ → Wheel
stored_wheel d i = wheel_at d.table i

abbrev pub demanding_wheel : Format → Step → ℕ → Wheel
demanding_wheel f d i = wheel_at (demand_step f stored d.frame d.n d.table).table i

abbrev pub driven_wheel : Format → Step → ℕ → Wheel
driven_wheel f d i = wheel_at (drive_of f d.table d.whole d.frame d.n).table i

-- "its demand", "grip limit", "its two impulses", its skid, "its brake"
abbrev pub forward_demand : Format → Step → ℕ → Float
forward_demand f d i = (demanding_wheel f d i).motion.forward

abbrev pub side_demand : Format → Step → ℕ → Float
side_demand f d i = (demanding_wheel f d i).motion.side

abbrev pub grip_limit : Format → Step → ℕ → Float
grip_limit f d i = wheel_limit f (demanding_wheel f d i).settings.tuning d.frame.dt (demanding_wheel f d i)

abbrev pub forward_impulse : Format → Step → ℕ → Float
forward_impulse f d i = (driven_wheel f d i).motion.forward

abbrev pub side_impulse : Format → Step → ℕ → Float
side_impulse f d i = (driven_wheel f d i).motion.side

abbrev pub skid_at : Format → Step → ℕ → Float
skid_at f d i = (driven_wheel f d i).motion.skid

abbrev pub brake_of : Step → ℕ → Float
brake_of d i = (stored_wheel d i).controls.brake

-- the demand passes the slide test; "An unpowered wheel": its engine force is 0
abbrev pub slides_at : Format → Step → ℕ → Bool
slides_at f d i = slides f (forward_demand f d i) (side_demand f d i) (grip_limit f d i)

abbrev pub powered_at : Step → ℕ → Bool
powered_at d i = ne (stored_wheel d i).controls.engine zero

-- two steps "with the same time step, ground bodies, kept chassis, chassis state after the springs, number of grounded wheels and own stored row and hit"
pub record Alike (f : Format) (d e : Step) (i : ℕ) : Type 0 where
  pub time_step : d.frame.dt ≡ e.frame.dt
  pub ground_bodies : d.frame.bodies ≡ e.frame.bodies
  pub ground_dynamic : d.frame.dynamic ≡ e.frame.dynamic
  pub kept_chassis : chassis_at d.table ≡ chassis_at e.table
  pub after_springs : (sprung f stored d.frame d.n d.table).chassis ≡ (sprung f stored e.frame e.n e.table).chassis
  pub same_grounded_wheels : grounded_wheels d.frame.answer d.n ≡ grounded_wheels e.frame.answer e.n
  pub own_row : stored_wheel d i ≡ stored_wheel e i
  pub own_hit : d.frame.answer i ≡ e.frame.answer i
