-- Change request 2026-13, "More brake, never less braking": two steps that are alike to one wheel but for its brake. Definitions only.
use Rattle.std.specs.Prelude.{ℕ, ◌≡◌, Float}
use Rattle.std.specs.Float.{Format}
use Rattle.wheel.specs.declared.Wheel.{Wheel}
use Rattle.wheel.specs.Parts.{with_controls}
use Rattle.ground.specs.Frame.{grounded_wheels, ground_under}
use Rattle.passes.specs.Passes.{stored}
use Rattle.passes.specs.Step.{sprung}
use Rattle.demands.specs.Impulses.{Step, stored_wheel, brake_of}

-- a wheel with another brake
abbrev pub with_brake : Wheel → Float → Wheel
with_brake w brake = with_controls w (record { engine = w.controls.engine; brake = brake; steering = w.controls.steering })

-- "with chassis after the springs, hit, ground, number of grounded wheels and own row but for the brake held the same": the ground is the body under the wheel, or none; the row of d with e's brake is the row of e.
-- The time step, the kept chassis, the axes, the other wheels and the other ground bodies may all differ.
pub record AlikeButForBrake (f : Format) (d e : Step) (i : ℕ) : Type 0 where
  pub after_springs : (sprung f stored d.frame d.n d.table).chassis ≡ (sprung f stored e.frame e.n e.table).chassis
  pub own_hit : d.frame.answer i ≡ e.frame.answer i
  pub own_ground : ground_under d.frame.bodies d.frame.dynamic (d.frame.answer i) ≡ ground_under e.frame.bodies e.frame.dynamic (e.frame.answer i)
  pub same_grounded_wheels : grounded_wheels d.frame.answer d.n ≡ grounded_wheels e.frame.answer e.n
  pub own_row : with_brake (stored_wheel d i) (brake_of e i) ≡ stored_wheel e i
