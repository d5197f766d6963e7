-- The impulses of one wheel in an accepted step. In order: its force is not below 0; what an accepted step has tested of wheel i; its impulses as its demands rescaled; an unpowered one's demand as a number cut to its
-- brake, and its impulse within the brake; the impulses as those of the wheel alone. Assumes nothing.
use Prim.Native.Nat.{ℕ, ◌+◌, ◌≤◌, ◌<◌}
use mathlib.Core.Bool.{Bool, true, false, cond, not}
use mathlib.Core.List.{List}
use mathlib.Core.Path.{◌≡◌, refl, sym, ap, subst, ◌∙◌}
use native.Mathlib.Omega.{arith}
use lib.ListN.{get_or}
use lib.Dec.{T}
use Rattle.std.specs.Prelude.{Option}
use lib.Ieee.{Float, Format, nan, le, lt, ne, is_nan}
use Rattle.lists.specs.Pick.{pick}
use Rattle.lists.proofs.Parts.{get_d_part}
use Rattle.lists.proofs.Picks.{pick_true}
use Rattle.lists.proofs.Turns.{every_at}
use Rattle.real.specs.Number.{zero}
use Rattle.real.specs.Units.{count}
use Rattle.real.specs.Scalar.{not_below_zero}
use Rattle.real.proofs.NotNegative.{zero_le_not_below_zero}
use Rattle.vector.specs.declared.Vector.{Vector}
use Rattle.vector.specs.Arithmetic.{dot_v}
use Rattle.body.specs.declared.Body.{Body}
use Rattle.body.specs.declared.Chassis.{Chassis}
use Rattle.tyre.specs.declared.Friction.{Friction}
use Rattle.tyre.specs.declared.WheelTuning.{WheelTuning}
use Rattle.tyre.specs.Suspension.{suspension_force}
use Rattle.tyre.specs.Demand.{rolling_response, rolling_of}
use Rattle.tyre.specs.Grip.{skid_of, with_skid, airborne, rescaled_by, rescaled_of, braked_of}
use Rattle.tyre.specs.Demand3.{Admitted, Brake, WithinBrake}
use Rattle.tyre.proofs.GripCircle.{small_of_admitted, sized_of_small}
use Rattle.tyre.proofs.Brake.{not_nan_of_braked}
use Rattle.tyre.proofs.Demand3.{unpowered as unpowered-within, limit_not_negative}
use Rattle.wheel.specs.declared.Settings.{Settings}
use Rattle.wheel.specs.declared.Wheel.{Wheel}
use Rattle.wheel.specs.declared.KeptControls.{KeptControls}
use Rattle.wheel.specs.declared.Fallbacks.{Fallbacks}
use Rattle.body.specs.declared.GroundBody.{GroundBody}
use Rattle.wheel.specs.declared.RayAnswer.{RayAnswer}
use Rattle.wheel.specs.Parts.{with_friction, with_fallbacks, friction_in}
use Rattle.wheel.specs.Steering.{controls_of}
use Rattle.wheel.specs.Ray.{is_grounded}
use Rattle.road.specs.Contact.{directions_of, fallbacks_of, relative_velocity, denominators_of}
use Rattle.road.specs.Step as step
use Rattle.road.specs.Step.{suspended_of, contact_force, wheel_force, wheel_limit, rolling_demand, friction_of, impulses_of}
use Rattle.road.proofs.Alone.{impulses_alone}
use Rattle.table.specs.Layout as at
use Rattle.table.specs.Rows.{wheel_at, wheel_of, controls_at, chassis_at, row_start}
use Rattle.table.proofs.Within.{stored_within_says}
use Rattle.ground.specs.Frame.{grounded_at, grounded_wheels, ground_under}
use Rattle.passes.specs.Passes.{stored, admits, admitted_at, demands_admitted}
use Rattle.passes.specs.Step.{sprung, whole_step}
use Rattle.refusals.specs.Shape.{up_of}
use Rattle.refusals.specs.After.{After}
use Rattle.ranges.proofs.Says.{wheel_says, stored_settings_say, unit_says}
use Rattle.refusals.proofs.Settled.{settled_done}
use Rattle.drive.specs.Drive.{DriveReply, drive_under, drive_of, refuse_drive, not_driven}
use Rattle.drive.proofs.Accepted.{DriveTested, drive_says}
use Rattle.demands.specs.Impulses.{Step, Accepted, Stepped, Grounded, stored_wheel, demanding_wheel, driven_wheel, forward_demand, side_demand, grip_limit, forward_impulse, side_impulse, brake_of, powered_at, Alike}
use Rattle.demands.proofs.Each.{each_of_held, number_fits}
use Rattle.demands.proofs.HeldRules.{zero_fits, uncut_fits, rolling_fits, side_fits, limit_fits}
use Rattle.demands.proofs.Passed.{sprung_wheel, sprung_keeps_controls, sprung_keeps_settings, wheel_demanded, friction_stepped, friction_alone}

-- ---- one wheel
-- rule 6: the force is not below 0
force_not_negative : (f : Format) (own : WheelTuning) (kept : Body) (answer : RayAnswer) (w : Wheel) → le zero (sprung_wheel f own kept answer w).motion.force ≡ true
unfolding suspended_of wheel_force contact_force suspension_force
force_not_negative f own kept answer w = either (is_grounded answer) _
  where
    either : (b : Bool) (x : Float) → le zero (cond b (not_below_zero x) zero) ≡ true
    either true x = zero_le_not_below_zero x
    either false x = unfold le in refl

-- ---- wheel i of an accepted step
abbrev pub sprung_at : Format → Step → ℕ → Wheel
sprung_at f d i = sprung_wheel f (stored_wheel d i).settings.tuning (chassis_at d.table).body (d.frame.answer i) (stored_wheel d i)

abbrev pub body_in : Format → Step → Body
body_in f d = (sprung f stored d.frame d.n d.table).chassis.body

abbrev pub ground_in : Step → ℕ → Option GroundBody
ground_in d i = ground_under d.frame.bodies d.frame.dynamic (d.frame.answer i)

abbrev pub grounded_in : Step → ℕ
grounded_in d = grounded_wheels d.frame.answer d.n

-- whether its directions fell back to zero, as a drive keeps it
abbrev pub fallbacks_at : Format → Step → ℕ → Fallbacks
fallbacks_at f d i = fallbacks_of (grounded_at d.frame.answer i) (directions_of f (sprung_at f d i))

-- its rolling demand before the brake's clamp, from the chassis after the springs, its ground and the number of grounded wheels
abbrev pub uncut_of : Format → Body → Option GroundBody → ℕ → Wheel → Float
uncut_of f chassis ground grounded w =
    let ahead = (directions_of f w).forward.vector in
    rolling_response f (dot_v f ahead (relative_velocity f chassis ground w.info.point)) (denominators_of f chassis ground w.info.point ahead) grounded

abbrev pub uncut_at : Format → Step → ℕ → Float
uncut_at f d i = uncut_of f (body_in f d) (ground_in d i) (grounded_in d) (sprung_at f d i)

module _ (f : Format) (d : Step) (accepted : Accepted f d) where
  pub tests : DriveTested f d.table d.whole d.frame d.n
  tests = drive_says f d.table d.whole d.frame d.n accepted

  pub room : d.n ≤ at.WHEELS
  room = let e = tests.early.frame.each in let l = tests.early.frame.shape.room in omega arith

  pub driven_table : (drive_of f d.table d.whole d.frame d.n).table ≡ (whole_step f stored (up_of d.whole) d.frame d.n d.table).table
  unfolding drive_of drive_under refuse_drive
  driven_table = ap (λ (x : After DriveReply). x.table) (sym (settled_done _ _ not_driven _ _ d.table d.whole refl accepted refl))

  module _ (i : ℕ) (counted : i < d.n) where
    -- its impulses and its skid: its demands, rescaled; and those of the wheel alone
    pub friction_of_demand : friction_in (driven_wheel f d i) ≡ rescaled_of f (friction_in (demanding_wheel f d i))
    friction_of_demand = rw driven_table (friction_stepped f stored d.frame d.n room d.table tests.early.frame.shape.sized i counted (up_of d.whole))

    pub friction_of_wheel : friction_in (driven_wheel f d i) ≡ impulses_of f (stored_wheel d i).settings.tuning (chassis_at d.table).body (body_in f d) d.frame.dt (ground_in d i) (grounded_in d) (d.frame.answer i) (stored_wheel d i)
    friction_of_wheel = rw driven_table (friction_alone f stored d.frame d.n room d.table tests.early.frame.shape.sized i counted (up_of d.whole))

    -- the wheel at its demands
    demand_of_lem : demanding_wheel f d i
        ≡ with_fallbacks (with_friction (sprung_at f d i) (friction_of f (stored_wheel d i).settings.tuning d.frame.dt (body_in f d) (grounded_at d.frame.answer i) (ground_in d i) (grounded_in d) (directions_of f (sprung_at f d i)) (sprung_at f d i))) (fallbacks_at f d i)
    unfolding grounded_at
    demand_of_lem = wheel_demanded f stored d.frame d.n room d.table tests.early.frame.shape.sized i counted

-- the stored brake: a number of the format, which refusals 2 and 10 let through
brake_at : (t : List Float) (i : ℕ) → (wheel_at t i).controls.brake ≡ get_or t (row_start i + (at.CONTROLS-AT + at.BRAKE)) nan
unfolding wheel_at wheel_of controls_at
brake_at t i = get_d_part t (row_start i) at.ROW (at.CONTROLS-AT + at.BRAKE) nan (omega arith)

pub brake_of_stepped : {f : Format} {d : Step} {i : ℕ} → Stepped f d i → Brake f (brake_of d i)
unfolding controls_of
brake_of_stepped {f} {d} {i} s =
    let tested = tests f d s.accepted in
    let l = room f d s.accepted in
    let u = s.counted in
    record {
      admitted = record {
        held = rw (brake_at d.table i) (number_fits f d.table (row_start i + (at.CONTROLS-AT + at.BRAKE)) (each_of_held f d.table s.held));
        bounded = rw (brake_at d.table i) (stored_within_says d.table d.n (row_start i + (at.CONTROLS-AT + at.BRAKE)) tested.early.frame.shape.sized l tested.early.stored (omega arith));
      };
      at_least = (wheel_says f d.table i (stored_settings_say f d.table d.n i tested.early.ranges u)).controls.brake;
    }

-- ---- a grounded wheel
skid_of_demand : (f : Format) (dt forward side : Float) (w x : Wheel) (b : Fallbacks) → x ≡ with_fallbacks (with_friction w (with_skid f forward side (wheel_limit f w.settings.tuning dt w))) b
    → x.motion.skid ≡ skid_of f x.motion.forward x.motion.side (wheel_limit f x.settings.tuning dt x)
unfolding with_skid wheel_limit
skid_of_demand f dt forward side w x b e = rw e

module _ (f : Format) (d : Step) (i : ℕ) (g : Grounded f d i) where
  -- the wheel after the springs, its directions, and the settings it stores
  abbrev hung : Wheel
  hung = sprung_at f d i

  abbrev axis : Vector
  axis = (directions_of f hung).axis.vector

  abbrev forward : Vector
  forward = (directions_of f hung).forward.vector

  own_settings : hung.settings ≡ (stored_wheel d i).settings
  own_settings = sprung_keeps_settings f _ _ _ (stored_wheel d i)

  demand_grounded : demanding_wheel f d i
      ≡ with_fallbacks (with_friction hung (with_skid f (rolling_demand f d.frame.dt (body_in f d) (ground_in d i) (grounded_in d) forward hung) (step.side_demand f hung.settings.tuning (body_in f d) (ground_in d i) axis hung) (wheel_limit f hung.settings.tuning d.frame.dt hung))) (fallbacks_of true (directions_of f hung))
  unfolding friction_of
  demand_grounded =
      (rw g.contact at (demand_of_lem f d g.stepped.accepted i g.stepped.counted))
      ∙ ap (λ (x : Settings). with_fallbacks (with_friction hung (with_skid f (rolling_demand f d.frame.dt (body_in f d) (ground_in d i) (grounded_in d) forward hung) (step.side_demand f x.tuning (body_in f d) (ground_in d i) axis hung) (wheel_limit f x.tuning d.frame.dt hung))) (fallbacks_of true (directions_of f hung)))
      (sym own_settings)

  pub limit_is : grip_limit f d i ≡ wheel_limit f hung.settings.tuning d.frame.dt hung
  unfolding wheel_limit
  limit_is = rw demand_grounded

  pub forward_is : forward_demand f d i ≡ rolling_demand f d.frame.dt (body_in f d) (ground_in d i) (grounded_in d) forward hung
  unfolding with_skid
  forward_is = ap (λ (x : Wheel). x.motion.forward) demand_grounded

  pub side_is : side_demand f d i ≡ step.side_demand f hung.settings.tuning (body_in f d) (ground_in d i) axis hung
  unfolding with_skid
  side_is = ap (λ (x : Wheel). x.motion.side) demand_grounded

  skid_is : (demanding_wheel f d i).motion.skid ≡ skid_of f (forward_demand f d i) (side_demand f d i) (grip_limit f d i)
  skid_is = skid_of_demand f d.frame.dt _ _ hung (demanding_wheel f d i) _ demand_grounded

  -- its impulses are its demands, rescaled by its own skid
  pub forward_rescaled : forward_impulse f d i ≡ rescaled_by f (skid_of f (forward_demand f d i) (side_demand f d i) (grip_limit f d i)) (forward_demand f d i)
  unfolding rescaled_of
  forward_rescaled = ap (λ (x : Friction). x.forward) (friction_of_demand f d g.stepped.accepted i g.stepped.counted) ∙ ap (λ (k : Float). rescaled_by f k (forward_demand f d i)) skid_is

  pub side_rescaled : side_impulse f d i ≡ rescaled_by f (skid_of f (forward_demand f d i) (side_demand f d i) (grip_limit f d i)) (side_demand f d i)
  unfolding rescaled_of
  side_rescaled = ap (λ (x : Friction). x.side) (friction_of_demand f d g.stepped.accepted i g.stepped.counted) ∙ ap (λ (k : Float). rescaled_by f k (side_demand f d i)) skid_is

  -- refusal 7 let its demands and its limit through
  admitted_seven : admits f (demanding_wheel f d i).settings.tuning d.frame.dt (demanding_wheel f d i) ≡ true
  unfolding demands_admitted admitted_at pick
  admitted_seven =
      let u = g.stepped.counted in
      rw g.contact at (every_at (admitted_at f stored d.frame.dt d.frame.answer _) d.n 0 i (tests f d g.stepped.accepted).step.demands (omega arith) (omega arith))

  pub forward_admitted : Admitted f (forward_demand f d i)
  unfolding admits
  forward_admitted =
      let b = (brake_of_stepped g.stepped).admitted.held in
      record {
        held = rw forward_is (rolling_fits f d.frame.dt (body_in f d) (ground_in d i) (grounded_in d) forward hung (rw (sprung_keeps_controls f _ _ _ (stored_wheel d i)) b));
        bounded = (pick_true _ _ admitted_seven).0;
      }

  pub side_admitted : Admitted f (side_demand f d i)
  unfolding admits
  side_admitted =
      record { held = rw side_is (side_fits f hung.settings.tuning (body_in f d) (ground_in d i) axis hung); bounded = (pick_true _ _ (pick_true _ _ admitted_seven).1).0 }

  pub limit_admitted : Admitted f (grip_limit f d i)
  unfolding admits
  limit_admitted =
      record { held = limit_fits f (demanding_wheel f d i).settings.tuning d.frame.dt (demanding_wheel f d i); bounded = (pick_true _ _ (pick_true _ _ admitted_seven).1).1 }

  -- the limit is not negative
  pub limit_at_least : le zero (grip_limit f d i) ≡ true
  unfolding wheel_limit
  limit_at_least =
      let tested = tests f d g.stepped.accepted in
      let slip : le zero hung.settings.tuning.slip ≡ true = rw own_settings (wheel_says f d.table i (stored_settings_say f d.table d.n i tested.early.ranges g.stepped.counted)).settings.slip in
      rw limit_is
      (limit_not_negative f hung.motion.force d.frame.dt hung.settings.tuning.slip (force_not_negative f _ _ _ (stored_wheel d i)) (unit_says d.frame.dt tested.early.unit).above slip (rw limit_is at limit_admitted))

-- ---- an unpowered wheel, grounded or not
rolled_unpowered : (f : Format) (dt engine brake uncut : Float) → ne engine zero ≡ false → rolling_of f dt engine brake uncut ≡ braked_of brake uncut
unfolding rolling_of
rolled_unpowered f dt engine brake uncut h = rw h

-- a grounded one's demand is cut to its brake, and what is cut is no NaN
module _ (f : Format) (d : Step) (i : ℕ) (g : Grounded f d i) (unpowered : powered_at d i ≡ false) where
  pub forward_braked : forward_demand f d i ≡ braked_of (brake_of d i) (uncut_at f d i)
  unfolding rolling_demand
  forward_braked =
      forward_is f d i g
      ∙ ap (λ (c : KeptControls). rolling_of f d.frame.dt c.engine c.brake (uncut_at f d i)) (sprung_keeps_controls f _ _ _ (stored_wheel d i))
      ∙ rolled_unpowered f d.frame.dt (stored_wheel d i).controls.engine (brake_of d i) (uncut_at f d i) unpowered

  braked_admitted : Admitted f (braked_of (brake_of d i) (uncut_at f d i))
  braked_admitted = subst (Admitted f) forward_braked (forward_admitted f d i g)

  pub uncut_not_nan : T (not (is_nan (uncut_at f d i)))
  uncut_not_nan = not_nan_of_braked (brake_of d i) (uncut_at f d i) braked_admitted

module _ (f : Format) (d : Step) (i : ℕ) (s : Stepped f d i) (unpowered : powered_at d i ≡ false) where
  grounded_within_brake : grounded_at d.frame.answer i ≡ true → WithinBrake f (brake_of d i) (forward_impulse f d i)
  grounded_within_brake contact =
      let g : Grounded f d i = record { stepped = s; contact = contact } in
      let braked = forward_braked f d i g unpowered in
      let within =
      unpowered-within f (brake_of d i) (uncut_at f d i) (side_demand f d i) (grip_limit f d i) (brake_of_stepped s)
      (uncut_fits f _ _ (grounded_in d)) (braked_admitted f d i g unpowered) (limit_at_least f d i g) in
      subst (WithinBrake f (brake_of d i)) (sym (forward_rescaled f d i g))
      (subst (λ (x : Float). WithinBrake f (brake_of d i) (rescaled_by f (skid_of f x (side_demand f d i) (grip_limit f d i)) x)) (sym braked) within)

  airborne_within_brake : grounded_at d.frame.answer i ≡ false → WithinBrake f (brake_of d i) (forward_impulse f d i)
  unfolding friction_of rescaled_of rescaled_by lt
  airborne_within_brake contact =
      let demand : demanding_wheel f d i ≡ with_fallbacks (with_friction (sprung_at f d i) airborne) (fallbacks_of false (directions_of f (sprung_at f d i))) = rw contact at (demand_of_lem f d s.accepted i s.counted) in
      let none : forward_impulse f d i ≡ zero =
      ap (λ (x : Friction). x.forward) (friction_of_demand f d s.accepted i s.counted) ∙ ap (λ (x : Wheel). (rescaled_of f (friction_in x)).forward) demand in
      subst (WithinBrake f (brake_of d i)) (sym none) (record { impulse_sized = record { held = zero_fits f; is_finite = tt }; brake_sized = sized_of_small (small_of_admitted (brake_of_stepped s).admitted); at_most = zero_counts f })
    where
      zero_counts : (f : Format) → count f zero ≤ count f (brake_of d i)
      zero_counts f = omega arith

  pub within_brake : WithinBrake f (brake_of d i) (forward_impulse f d i)
  within_brake = either (grounded_at d.frame.answer i) refl
    where
      either : (b : Bool) → grounded_at d.frame.answer i ≡ b → WithinBrake f (brake_of d i) (forward_impulse f d i)
      either true e = grounded_within_brake e
      either false e = airborne_within_brake e

-- ---- two steps that are alike to wheel i
ground_alike : {f : Format} {d e : Step} {i : ℕ} → Alike f d e i → ground_in d i ≡ ground_in e i
unfolding ground_under
ground_alike a =
    let p = a.ground_bodies in
    let q = a.ground_dynamic in
    let r = a.own_hit in
    cc

pub friction_alike : {f : Format} {d e : Step} {i : ℕ} → Accepted f d → Accepted f e → i < d.n → i < e.n → Alike f d e i → friction_in (driven_wheel f d i) ≡ friction_in (driven_wheel f e i)
friction_alike {f} {d} {e} {i} p q u v a =
    let kept : (chassis_at d.table).body ≡ (chassis_at e.table).body = ap (λ (c : Chassis). c.body) a.kept_chassis in
    let sprung : body_in f d ≡ body_in f e = ap (λ (c : Chassis). c.body) a.after_springs in
    let grounded : grounded_in d ≡ grounded_in e = a.same_grounded_wheels in
    friction_of_wheel f d p i u
    ∙ impulses_alone f (ap (λ (w : Wheel). w.settings.tuning) a.own_row) kept sprung a.time_step (ground_alike a) grounded a.own_hit a.own_row
    ∙ sym (friction_of_wheel f e q i v)
