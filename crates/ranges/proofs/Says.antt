-- What a test of refusal 10 that did not refuse tells its caller, a record for each. In order: a range, settings, controls, what was tested of each number up to n, every stored row. Assumes nothing.
use Prim.Native.Nat.{ℕ, ◌<◌}
use mathlib.Core.Bool.{Bool, true}
use mathlib.Core.List.{List}
use mathlib.Core.Path.{◌≡◌}
use native.Mathlib.Omega.{arith}
use lib.Ieee.{Float, Format, lt, le}
use Rattle.lists.specs.All.{all}
use Rattle.lists.specs.Counted.{every}
use Rattle.lists.proofs.Picks.{pick_true}
use Rattle.lists.proofs.Turns.{every_at}
use Rattle.real.specs.Number.{zero, one}
use Rattle.vector.specs.declared.Rotation.{Rotation}
use Rattle.wheel.specs.declared.Settings.{Settings}
use Rattle.wheel.specs.declared.Controls.{Controls}
use Rattle.wheel.specs.Steering.{controls_of}
use Rattle.table.specs.Rows.{wheel_at}
use Rattle.ranges.specs.Ranges.{in_range, in_unit, not_negative, settings_in_range, sum_of_squares, BAND-LOW, BAND-HIGH, in_band, rotation_in_range, steering_in_range, controls_in_range, wheel_in_range, stored_in_range}

pub record Between (low high x : Float) : Type 0 where
  pub above : le low x ≡ true
  pub below : le x high ≡ true

pub range_says : (low high x : Float) → in_range low high x ≡ true → Between low high x
unfolding in_range
range_says low high x h =
    let p = pick_true _ _ h in
    record { above = p.0; below = p.1 }

pub unit_says : (x : Float) → in_unit x ≡ true → Between zero one x
unfolding in_unit
unit_says x h = range_says zero one x h

pub rotation_says : (f : Format) (q : Rotation) → rotation_in_range f q ≡ true → Between BAND-LOW BAND-HIGH (sum_of_squares f q)
unfolding rotation_in_range in_band
rotation_says f q h = range_says BAND-LOW BAND-HIGH (sum_of_squares f q) h

pub record SettingsRange (s : Settings) : Type 0 where
  pub radius : lt zero s.radius ≡ true
  pub rest : le zero s.rest ≡ true
  pub travel : le zero s.tuning.travel ≡ true
  pub slip : le zero s.tuning.slip ≡ true
  pub stiffness : le zero s.tuning.stiffness ≡ true
  pub compression : le zero s.tuning.compression ≡ true
  pub damping : le zero s.tuning.damping ≡ true
  pub sideways : le zero s.tuning.sideways ≡ true
  pub most : le zero s.tuning.most ≡ true
  pub roll : Between zero one s.roll

pub settings_say : (s : Settings) → settings_in_range s ≡ true → SettingsRange s
unfolding settings_in_range all not_negative
settings_say s h =
    let radius = pick_true _ _ h in
    let roll = pick_true _ _ radius.1 in
    let rest = pick_true _ _ roll.0 in
    let travel = pick_true _ _ rest.1 in
    let slip = pick_true _ _ travel.1 in
    let stiffness = pick_true _ _ slip.1 in
    let compression = pick_true _ _ stiffness.1 in
    let damping = pick_true _ _ compression.1 in
    let sideways = pick_true _ _ damping.1 in
    let most = pick_true _ _ sideways.1 in
    record {
      radius = radius.0;
      rest = rest.0;
      travel = travel.0;
      slip = slip.0;
      stiffness = stiffness.0;
      compression = compression.0;
      damping = damping.0;
      sideways = sideways.0;
      most = most.0;
      roll = unit_says s.roll roll.1;
    }

pub record ControlsRange (f : Format) (c : Controls) : Type 0 where
  pub brake : le zero c.brake ≡ true
  pub steering : steering_in_range f c.steering ≡ true

pub controls_say : (f : Format) (c : Controls) → controls_in_range f c ≡ true → ControlsRange f c
unfolding controls_in_range not_negative
controls_say f c h =
    let p = pick_true _ _ h in
    record { brake = p.0; steering = p.1 }

-- what was tested of each number up to n
pub up_to : (p : ℕ → Bool) (n i : ℕ) → every p n 0 ≡ true → i < n → p i ≡ true
up_to p n i h l = every_at p n 0 i h (omega arith) (omega arith)

pub record WheelRange (f : Format) (t : List Float) (i : ℕ) : Type 0 where
  pub settings : SettingsRange (wheel_at t i).settings
  pub controls : ControlsRange f (controls_of (wheel_at t i).controls)

pub wheel_says : (f : Format) (t : List Float) (i : ℕ) → wheel_in_range f t i ≡ true → WheelRange f t i
unfolding wheel_in_range
wheel_says f t i h =
    let p = pick_true _ _ h in
    record { settings = settings_say (wheel_at t i).settings p.0; controls = controls_say f (controls_of (wheel_at t i).controls) p.1 }

pub stored_settings_say : (f : Format) (t : List Float) (n i : ℕ) → stored_in_range f t n ≡ true → i < n → wheel_in_range f t i ≡ true
unfolding stored_in_range
stored_settings_say f t n i h l = up_to (wheel_in_range f t) n i h l
