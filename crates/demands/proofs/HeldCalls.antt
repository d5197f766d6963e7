-- A table whose numbers the format holds, through the passes and the calls. In order: a wheel and the chassis of a table; a pass; an aim and a step; each call; a history. Assumes nothing.
use Prim.Native.Nat.{ℕ, ◌<◌}
use mathlib.Core.Bool.{true}
use mathlib.Core.List.{List, [], ◌∷◌}
use mathlib.Core.Path.{◌≡◌}
use native.Mathlib.Omega.{arith}
use lib.Ieee.{Float, Format}
use Rattle.lists.specs.All.{all}
use Rattle.lists.specs.Part.{part}
use Rattle.lists.proofs.Picks.{pick_true}
use Rattle.lists.proofs.Turns.{iter_keeps, every_at}
use Rattle.real.specs.Number as real
use Rattle.body.specs.declared.Chassis.{Chassis}
use Rattle.tyre.specs.declared.WheelTuning.{WheelTuning}
use Rattle.wheel.specs.declared.Wheel.{Wheel}
use Rattle.road.specs.Step.{apply_suspension, apply_friction}
use Rattle.table.specs.Layout as at
use Rattle.table.specs.Rows.{settings_list, handed_controls, chassis_list, row_start, row_of, wheel_at, put_wheel, chassis_at, put_chassis}
use Rattle.ground.specs.Frame.{Frame}
use Rattle.passes.specs.Passes.{stored, changed, each_wheel, moved, each_moves, transform_at, transforms, cast_at, casts, suspend_at, suspensions, spring_at, springs, directions_at, demand_of, demand_at, demands, rescale_at, rescales, push_at, pushes, spin_at, spins}
use Rattle.passes.specs.Step.{Work, sprung, demanded, pushed, spun, demand_step, whole_step}
use Rattle.refusals.specs.After.{After, settled}
use Rattle.set_up.specs.SetUp.{set_up}
use Rattle.add_wheel.specs.Add.{add_wheel, new_wheel}
use Rattle.set_controls.specs.Controls.{set_controls}
use Rattle.read_wheel.specs.Read.{read_wheel}
use Rattle.aim.specs.Aim.{aim_of, aimed_table}
use Rattle.drive.specs.Drive.{drive_under, drive_of}
use Rattle.demands.specs.History.{State, Call, SetUp, AddWheel, SetControls, Aim, Drive, ReadWheel, answered, accepted, run, run_all}
use Rattle.demands.specs.Held.{are_held, Held, normals_in, hands_held, HandsHeld}
use Rattle.demands.proofs.Each.{Each, each_of_held, held_of_each, each_part, each_paste, each_replicate}
use Rattle.demands.proofs.HeldWheel.{WheelHeld, ChassisHeld, row_held, list_held, wheel_of_held, chassis_of_held}
use Rattle.demands.proofs.HeldRules.{zero_fits, transform_held, cast_held, suspended_held, rubbed_held, friction_held, rescaled_held, friction_in_held, answered_held, spun_held, controlled_held, kept_held, new_held, pushed_held}
use Rattle.demands.proofs.Marks.{settled_has, set_up_leaves}

module _ (f : Format) where
  -- ---- a wheel and the chassis of a table
  pub wheel_at_held : (t : List Float) (i : ℕ) → Each f t → WheelHeld f (wheel_at t i)
  unfolding wheel_at
  wheel_at_held t i h = wheel_of_held f (part t (row_start i) at.ROW) (each_part f t (row_start i) at.ROW h)

  put_held : (t : List Float) (i : ℕ) (w : Wheel) → Each f t → WheelHeld f w → Each f (put_wheel t i w)
  unfolding put_wheel
  put_held t i w h k = each_paste f t (row_start i) (row_of w) h (row_held f w k)

  chassis_at_held : (t : List Float) → Each f t → ChassisHeld f (chassis_at t)
  unfolding chassis_at
  chassis_at_held t h = chassis_of_held f (part t 0 at.KEPT) (each_part f t 0 at.KEPT h)

  keep_held : (t : List Float) (c : Chassis) → Each f t → Each f (chassis_list c) → Each f (put_chassis t c)
  unfolding put_chassis
  keep_held t c h k = each_paste f t 0 (chassis_list c) h k

  -- ---- a pass that changes each wheel, and one that moves the chassis
  each_wheel_held : (g : ℕ → Wheel → Wheel) (n : ℕ) → ((i : ℕ) (w : Wheel) → i < n → WheelHeld f w → WheelHeld f (g i w)) → (t : List Float) → Each f t → Each f (each_wheel g n t)
  unfolding each_wheel changed
  each_wheel_held g n keeps t h = iter_keeps (changed g) (Each f) n (λ i x u p. put_held x i (g i (wheel_at x i)) p (keeps i (wheel_at x i) u (wheel_at_held x i p))) n 0 t (omega arith) h

  each_moves_held : (m : ℕ → Wheel → Chassis → Chassis) (n : ℕ) (t : List Float) → ((i : ℕ) (w : Wheel) (c : Chassis) → ChassisHeld f c → ChassisHeld f (m i w c)) → (c : Chassis) → ChassisHeld f c → ChassisHeld f (each_moves m n t c)
  unfolding each_moves moved
  each_moves_held m n t keeps c h = iter_keeps (moved m t) (ChassisHeld f) n (λ i x u p. keeps i (wheel_at t i) x p) n 0 c (omega arith) h

  -- ---- an aim
  pub aimed_held : (c : Chassis) (n : ℕ) (t : List Float) → Each f (chassis_list c) → Each f t → Each f (aimed_table f c n t)
  unfolding aimed_table transforms transform_at
  aimed_held c n t k h = each_wheel_held (transform_at f c.pose) n (λ i w u p. transform_held f c.pose w p) (put_chassis t c) (keep_held t c h k)

  -- ---- a step
  pub record WorkHeld (s : Work) : Type 0 where
    pub table : Each f s.table
    pub chassis : ChassisHeld f s.chassis

  module _ (tune : WheelTuning → WheelTuning) (r : Frame) (n : ℕ) (normals : (i : ℕ) → i < n → Each f (normals_in (r.answer i))) (t : List Float) (h : Each f t) where
    sprung_held : WorkHeld (sprung f tune r n t)
    unfolding sprung casts cast_at suspensions suspend_at springs spring_at apply_suspension
    sprung_held =
        let c = chassis_at t in
        let cast = each_wheel_held (cast_at f tune c.body r.answer) n (λ i w u p. cast_held f _ c.body (r.answer i) w (normals i u) p) t h in
        record {
          table = each_wheel_held (suspend_at f tune c.body.invmass r.answer) n (λ i w u p. suspended_held f _ _ _ w p) _ cast;
          chassis = each_moves_held (spring_at f tune r.dt) n _ (λ i w x p. pushed_held f x _ _ p) c (chassis_at_held t h);
        }

    demanded_held : WorkHeld (demand_step f tune r n t)
    unfolding demand_step demanded demands demand_at demand_of
    demanded_held = record {
      table = each_wheel_held (demand_at f tune r _ _ _) n (λ i w u p. answered_held f _ _ _ (rubbed_held f w _ (friction_held f _ _ _ _ _ _ _ w p) p)) _ sprung_held.table;
      chassis = sprung_held.chassis;
    }

    pub whole_step_held : (up : ℕ) → Each f (whole_step f tune up r n t).table
    unfolding whole_step spun pushed rescales rescale_at pushes push_at apply_friction spins spin_at
    whole_step_held up =
        let scaled = each_wheel_held (rescale_at f) n (λ i w u p. rubbed_held f w _ (rescaled_held f _ (friction_in_held f w p)) p) _ demanded_held.table in
        let moved = each_moves_held (push_at f _ (directions_at (demand_step f tune r n t).directions)) n _ (λ i w x p. pushed_held f _ _ _ (pushed_held f x _ _ p)) _ demanded_held.chassis in
        keep_held _ _ (each_wheel_held (spin_at f r.dt _ r.answer) n (λ i w u p. spun_held f r.dt _ _ w p) _ scaled) (list_held f _ moved)

  -- ---- each call
  settled_held : {R : Type 0} (number : ℕ) (refused : ℕ → R) (done : After R) (t : List Float) (m : List ℕ) → Each f t → Each f done.table → Each f (settled number refused done t m).table
  settled_held number refused done t m h k = settled_has (λ (x : List Float) (y : List ℕ). Each f x) number refused done t m h (λ z. k)

  pub call_held : (c : Call) (s : State) → hands_held f c ≡ true → Each f s.table → Each f (run f c s).table
  unfolding run answered hands_held set_up add_wheel set_controls aim_of drive_of drive_under read_wheel
  call_held (SetUp up forward) s k h = settled_held _ _ _ s.table s.whole h (each_replicate f at.SIZE real.zero (zero_fits f))
  call_held (AddWheel settings) s k h =
      settled_held _ _ _ s.table s.whole h (put_held s.table _ (new_wheel settings) h (new_held f settings (each_of_held f (settings_list settings) k)))
  call_held (SetControls i controls) s k h =
      settled_held _ _ _ s.table s.whole h
      (put_held s.table i _ h (controlled_held f (wheel_at s.table i) _ (kept_held f controls (each_of_held f (handed_controls controls) k)) (wheel_at_held s.table i h)))
  call_held (Aim chassis) s k h = settled_held _ _ _ s.table s.whole h (aimed_held chassis _ s.table (each_of_held f (chassis_list chassis) k) h)
  call_held (Drive frame n) s k h =
      settled_held _ _ _ s.table s.whole h
      (whole_step_held stored frame n (λ i u. each_of_held f (normals_in (frame.answer i)) (every_at (λ j. are_held f (normals_in (frame.answer j))) n 0 i k (omega arith) (omega arith))) s.table h _)
  call_held (ReadWheel i) s k h = settled_held _ _ _ s.table s.whole h h

  -- ---- a history
  calls_held : (l : List Call) (s : State) → HandsHeld f l → Each f s.table → Each f (run_all f l s).table
  unfolding run_all all
  calls_held [] s k h = h
  calls_held (c ∷ l) s k h = let p = pick_true (hands_held f c) (all (hands_held f) l) k in calls_held l (run f c s) p.1 (call_held c s p.0 h)

  pub held_from_set_up : (lent : State) (up forward : ℕ) (l : List Call) → accepted f (SetUp up forward) lent ≡ true → HandsHeld f l → Held f (run_all f (SetUp up forward ∷ l) lent).table
  unfolding run_all
  held_from_set_up lent up forward l a k =
      held_of_each f _ (calls_held l (run f (SetUp up forward) lent) k (rw (set_up_leaves f lent up forward a).0 (each_replicate f at.SIZE real.zero (zero_fits f))))
