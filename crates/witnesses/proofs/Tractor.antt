-- The theorems of change request 2026-11, each applied to a wheel of the tractor. In order: what the calls leave, and that its aims are accepted; the rotation of an aim; one that is outside the band; an angle of 0; what the row keeps. Assumes nothing.
use Prim.Native.Nat.{ℕ}
use mathlib.Core.Bool.{true, false}
use mathlib.Core.List.{List}
use mathlib.Core.Path.{◌≡◌, refl}
use lib.Dec.{lit<}
use lib.Ieee.{Float, binary32}
use Rattle.real.specs.Number.{two, half}
use Rattle.real.specs.Units.{count}
use Rattle.marked.specs.Numbers.{quarter, twelve}
use Rattle.angle.specs.Angle.{sine_of, cosine_of}
use Rattle.angle.specs.Taylor.{NearTaylor}
use Rattle.vector.specs.declared.Rotation.{Rotation}
use Rattle.vector.specs.Arithmetic.{neg_v, normalize_or_zero}
use Rattle.body.specs.declared.Chassis.{Chassis}
use Rattle.wheel.specs.Steering.{controls_of, steering_axis, rotation_from_angle}
use Rattle.table.specs.Rows.{wheel_at}
use Rattle.ranges.specs.Ranges.{rotation_in_range}
use Rattle.refusals.specs.Shape.{shape_ok}
use Rattle.refusals.proofs.Says.{Shape, shape_says}
use Rattle.aim.specs.Aim.{aim_of, refuse_aim}
use Rattle.demands.specs.History.{State, SetControls, accepted, run, run_all}
use Rattle.demands.specs.Held.{Held}
use Rattle.demands.specs.Steered.{direction_under, axle_under, TurnsNothing, none_steers}
use Rattle.demands.proofs.Demands as demands
use Rattle.witnesses.specs.Car.{straight, turned, rolling}
use Rattle.witnesses.specs.Calls.{left_by}
use Rattle.witnesses.specs.Tractor.{minus_zero, speck, capsized, hitched, ploughing, ploughed}
use Rattle.witnesses.specs.Opened.{opened}

-- ---- with its wheels on; once the first wheel has its angle and the others are steered; and after a drive
abbrev fitted : State
fitted = left_by hitched

abbrev steered : State
steered = run_all binary32 ploughing (run binary32 (SetControls 0 (turned half)) fitted)

abbrev driven : State
driven = run_all binary32 ploughed (run binary32 (SetControls 0 (turned half)) fitted)

abbrev t : List Float
t = steered.table

abbrev m : List ℕ
m = steered.whole

abbrev upright : Chassis
upright = rolling twelve

-- the rotation that an angle makes of wheel i, upright
abbrev turn : ℕ → Float → Rotation
turn i angle = rotation_from_angle binary32 (normalize_or_zero binary32 (neg_v (direction_under binary32 upright.pose (wheel_at t i)))).vector angle

aim_accepted : refuse_aim binary32 t m upright ≡ 0
unfolding opened
aim_accepted = refl

capsized_accepted : refuse_aim binary32 driven.table driven.whole capsized ≡ 0
unfolding opened
capsized_accepted = refl

steered_held : Held binary32 t
unfolding opened
steered_held = refl

-- ---- the rotation of an aim
pub witness_steered_by_angle : (wheel_at (aim_of binary32 t m upright).table 0).place.axle ≡ axle_under binary32 upright.pose (turn 0 half) (wheel_at t 0)
unfolding opened
witness_steered_by_angle = demands.steered_by_angle binary32 t m upright 0 aim_accepted (lit< tt) half refl

pub witness_steered_by_rotation : (wheel_at (aim_of binary32 t m upright).table 1).place.axle ≡ axle_under binary32 upright.pose straight (wheel_at t 1)
unfolding opened
witness_steered_by_rotation = demands.steered_by_rotation binary32 t m upright 1 aim_accepted (lit< tt) straight refl

pub witness_accepted_turn : ((normalize_or_zero binary32 (neg_v (direction_under binary32 upright.pose (wheel_at t 0)))).fellback ≡ false) × (rotation_in_range binary32 (turn 0 half) ≡ true)
unfolding opened
witness_accepted_turn = demands.accepted_turn binary32 t m upright 0 aim_accepted (lit< tt) half refl

pub witness_accepted_turn_near_taylor : NearTaylor binary32 false (count binary32 quarter) (sine_of binary32 quarter) (cosine_of binary32 quarter)
unfolding opened
witness_accepted_turn_near_taylor = demands.accepted_turn_near_taylor binary32 t m upright 0 aim_accepted (lit< tt) half refl steered_held

-- ---- an axis that did not fall back and yet makes a rotation outside the band: both of what 17 tests can fail by itself
pub leaves_the_band : ((steering_axis binary32 speck).fellback ≡ false) × (rotation_in_range binary32 (rotation_from_angle binary32 (steering_axis binary32 speck).vector two) ≡ false)
unfolding opened
leaves_the_band = (refl, refl)

-- ---- the third wheel's angle is −0
pub witness_angle_zero_turns_nothing : TurnsNothing (turn 2 minus_zero)
unfolding opened
witness_angle_zero_turns_nothing = demands.angle_zero_turns_nothing binary32 t m upright 2 aim_accepted (lit< tt) true refl

-- ---- what the row of the first wheel keeps, through the other wheels' controls, refusals, an aim, a drive and reads; and the aim upside down, about the direction of that aim
fitted_shape : Shape fitted.table fitted.whole
fitted_shape = shape_says _ _ ok
  where
    ok : shape_ok fitted.table fitted.whole ≡ true
    ok = unfold opened in refl

set : accepted binary32 (SetControls 0 (turned half)) fitted ≡ true
unfolding opened
set = refl

none_steers_lem : none_steers binary32 0 ploughed (run binary32 (SetControls 0 (turned half)) fitted) ≡ true
unfolding opened
none_steers_lem = refl

pub witness_row_keeps_controls : controls_of (wheel_at driven.table 0).controls ≡ turned half
witness_row_keeps_controls = demands.row_keeps_controls binary32 fitted 0 (turned half) ploughed fitted_shape set none_steers_lem

pub witness_steered_at_each_aim :
    (wheel_at (aim_of binary32 driven.table driven.whole capsized).table 0).place.axle
    ≡ axle_under binary32 capsized.pose (rotation_from_angle binary32 (normalize_or_zero binary32 (neg_v (direction_under binary32 capsized.pose (wheel_at driven.table 0)))).vector half) (wheel_at driven.table 0)
unfolding opened
witness_steered_at_each_aim = demands.steered_at_each_aim binary32 fitted 0 (turned half) ploughed fitted_shape set none_steers_lem capsized capsized_accepted
