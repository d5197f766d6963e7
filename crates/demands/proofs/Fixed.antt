-- With 0.1 in every wheel the step is that of one roll influence for all. In order: 0.1 in each test of a number, and refusal 10 of settings that have it; a pass that moves the chassis alike at each wheel; rule 9 of one wheel; what the step leaves of a wheel's settings before rule 9; the step. Assumes nothing.
use Prim.Native.Nat.{ℕ, zero, suc, ◌+◌, ◌≤◌, ◌<◌}
use mathlib.Core.Bool.{Bool, true, false}
use mathlib.Core.List.{List}
use mathlib.Core.Path.{◌≡◌, refl, ap, ◌∙◌}
use native.Mathlib.Omega.{arith}
use lib.ListN.{length}
use lib.Ieee.{Float, Format, binary32, binary64, le, neg}
use Rattle.lists.specs.Pick.{pick, ◌and◌}
use Rattle.lists.specs.All.{all}
use Rattle.lists.specs.Counted.{iter}
use Rattle.real.specs.Number.{ratio}
use Rattle.real.specs.Scalar.{within}
use Rattle.vector.specs.declared.Vector.{Vector}
use Rattle.body.specs.declared.Chassis.{Chassis}
use Rattle.tyre.specs.declared.WheelTuning.{WheelTuning}
use Rattle.tyre.specs.Grip.{rescaled_of}
use Rattle.wheel.specs.declared.Wheel.{Wheel}
use Rattle.wheel.specs.declared.Settings.{Settings}
use Rattle.wheel.specs.declared.Directions.{Directions}
use Rattle.wheel.specs.Parts.{roll_influence, with_friction, friction_in}
use Rattle.road.specs.Step.{apply_friction}
use Rattle.table.specs.Layout as at
use Rattle.table.specs.Rows.{wheel_at, chassis_at}
use Rattle.table.specs.Bounds.{HANDED, STORED}
use Rattle.ranges.specs.Ranges.{in_range, in_unit, not_negative, settings_in_range}
use Rattle.ground.specs.Frame.{Frame}
use Rattle.passes.specs.Passes.{moved, each_moves, rescales, push_at, pushes}
use Rattle.passes.specs.Step.{spun, pushed, demand_step, whole_step}
use Rattle.passes.proofs.Laws.{wheel_rescales}
use Rattle.demands.specs.Fixed.{fixed_friction, fixed_push_at, fixed_pushed, fixed_step, fixed_in_range, IsTenth, AllTenth}
use Rattle.demands.proofs.Sizes.{length_demanded}
use Rattle.demands.proofs.Passed.{sprung_keeps_settings, wheel_demanded}

-- ---- what a number is tested by: handed in, stored, and the range
pub tenth_passes : (f : Format) → (within HANDED (roll_influence f) ≡ true) × ((within STORED (roll_influence f) ≡ true) × (in_unit (roll_influence f) ≡ true))
unfolding within in_unit in_range pick ratio le neg
tenth_passes binary32 = (refl, (refl, refl))
tenth_passes binary64 = (refl, (refl, refl))

and_yes : (b : Bool) → b and true ≡ b
unfolding pick
and_yes true = refl
and_yes false = refl

pub ranges_alike : (f : Format) (s : Settings) → IsTenth f s → settings_in_range s ≡ fixed_in_range s
unfolding settings_in_range fixed_in_range
ranges_alike f s e = rw (e, (tenth_passes f).1.1, and_yes (all not_negative _))

-- ---- two moves that agree at each wheel
module _ (g h : ℕ → Wheel → Chassis → Chassis) (t : List Float) where
  turns_alike : (k i : ℕ) (c : Chassis) → ((j : ℕ) → i ≤ j → j < i + k → (x : Chassis) → g j (wheel_at t j) x ≡ h j (wheel_at t j) x) → iter (moved g t) k i c ≡ iter (moved h t) k i c
  unfolding iter moved
  turns_alike zero i c e = refl
  turns_alike (suc k) i c e = rw (e i (omega arith) (omega arith) c) (turns_alike k (suc i) _ (λ j a b. e j (omega arith) (omega arith)))

  moves_alike : (n : ℕ) (c : Chassis) → ((j : ℕ) → j < n → (x : Chassis) → g j (wheel_at t j) x ≡ h j (wheel_at t j) x) → each_moves g n t c ≡ each_moves h n t c
  unfolding each_moves
  moves_alike n c e = turns_alike n 0 c (λ j a b. e j (omega arith))

-- ---- rule 9 of a wheel that has 0.1
friction_alike : (f : Format) (up : Vector) (d : Directions) (w : Wheel) (c : Chassis) → IsTenth f w.settings → apply_friction f up d w c ≡ fixed_friction f up d w c
unfolding apply_friction fixed_friction
friction_alike f up d w c e = rw e

module _ (f : Format) (tune : WheelTuning → WheelTuning) (r : Frame) (n : ℕ) (l : n ≤ at.WHEELS) (t : List Float) (s : length t ≡ at.SIZE) where
  -- ---- the settings that rule 9 finds are those of the table
  settings_at_push : (i : ℕ) → i < n → (wheel_at (rescales f n (demand_step f tune r n t).table) i).settings ≡ (wheel_at t i).settings
  settings_at_push i u =
      ap (λ (w : Wheel). w.settings)
      (wheel_rescales f n (demand_step f tune r n t).table (length_demanded f tune r n l t s) l i u ∙ ap (λ (w : Wheel). with_friction w (rescaled_of f (friction_in w))) (wheel_demanded f tune r n l t s i u))
      ∙ sprung_keeps_settings f (tune (wheel_at t i).settings.tuning) (chassis_at t).body (r.answer i) (wheel_at t i)

  -- ---- the step
  pub step_alike : (up : ℕ) → AllTenth f t n → whole_step f tune up r n t ≡ fixed_step f tune up r n t
  unfolding whole_step fixed_step pushed fixed_pushed pushes push_at fixed_push_at
  step_alike up tenth =
      ap (λ (c : Chassis). spun f r.dt r.answer n (record { table = rescales f n (demand_step f tune r n t).table; chassis = c; directions = (demand_step f tune r n t).directions }))
      (moves_alike _ _ (rescales f n (demand_step f tune r n t).table) n _
      (λ i u c. friction_alike f _ _ _ c (ap (λ (x : Settings). x.roll) (settings_at_push i u) ∙ tenth i u)))
