-- The three demands, and the change requests that are theorems, over the definitions of the six calls: set_up, add_wheel, set_controls, aim_of, drive_of and read_wheel, each in the crate of its call. The demand's or the
-- request's own words stand above each.
-- That a function is its definition, and that it ends for all numbers and every lent table, is each function's contract, proved in its own crate: none has a `requires`. Assumes nothing.
use Prim.Native.Nat.{ℕ, ◌≤◌, ◌<◌}
use mathlib.Core.Bool.{Bool, true, false, not, true≢false}
use mathlib.Core.List.{List, ◌∷◌}
use mathlib.Core.Path.{◌≡◌, refl, sym, ap, subst, ◌∙◌}
use native.Mathlib.Omega.{arith}
use borrow.Author.Tests.{eqb-true, eq-eqb}
use lib.IntN.{pos}
use lib.Ieee.{Float, fin, Format, div, lt, le, eq}
use lib.ListN.{length}
use Rattle.real.specs.Number.{one}
use Rattle.real.specs.Scalar.{usable, within}
use Rattle.real.specs.Units.{count, minus?}
use Rattle.vector.specs.declared.Vector.{Vector}
use Rattle.vector.specs.declared.Rotation.{Rotation}
use Rattle.vector.specs.declared.Pose.{Pose}
use Rattle.vector.specs.Arithmetic.{zero_v, neg_v, scale_v, length_v, normalize_or_zero}
use Rattle.vector.proofs.Fallback.{fellback_is, fellback_zero}
use Rattle.angle.specs.Angle.{half_of, sine_of, cosine_of}
use Rattle.angle.specs.Taylor.{NearTaylor}
use Rattle.angle.proofs.Taylor.{half_near_taylor}
use Rattle.body.specs.declared.Chassis.{Chassis}
use Rattle.wheel.specs.declared.Wheel.{Wheel}
use Rattle.wheel.specs.declared.Place.{Place}
use Rattle.wheel.specs.declared.Settings.{Settings}
use Rattle.wheel.specs.declared.Steering.TheVariants.{ByRotation, ByAngle}
use Rattle.wheel.specs.declared.Controls.{Controls}
use Rattle.wheel.specs.Ray.{centre_of}
use Rattle.wheel.specs.Parts.{roll_influence}
use Rattle.wheel.specs.Steering.{steering_of, controls_of, kept_controls, steering_axis, rotation_from_angle, steering_rotation}
use Rattle.tyre.specs.declared.Friction.{Friction}
use Rattle.tyre.specs.declared.WheelTuning.{WheelTuning}
use Rattle.tyre.specs.Grip.{skid_of, rescaled_by}
use Rattle.tyre.specs.Demand3.{precision, Grips, WithinBrake, least_limit}
use Rattle.tyre.specs.MoreBrake.{BrakesNoLess}
use Rattle.tyre.proofs.Demand3.{not_sliding, sliding}
use Rattle.road.proofs.Fallback.{axis_zero, forward_zero, axis_not_zero, forward_not_zero, no_axis_no_forward}
use Rattle.table.specs.Layout as at
use Rattle.table.specs.Rows.{wheel_at, chassis_at}
use Rattle.table.specs.Bounds.{HANDED, STORED}
use Rattle.ground.specs.Frame.{Frame, grounded_at}
use Rattle.ranges.specs.Ranges.{in_unit, settings_in_range, rotation_in_range}
use Rattle.refusals.specs.Shape.{count_of, mark_of, up_of, forward_of}
use Rattle.refusals.specs.After.{After, after, settled, marked}
use Rattle.refusals.specs.Normals.{normals_ok}
use Rattle.refusals.proofs.Says.{Shape, normals_say}
use Rattle.refusals.proofs.Settled.{settled_refused, settled_number}
use Rattle.set_up.specs.SetUp.{set_up, refuse_set_up}
use Rattle.add_wheel.specs.Add.{add_wheel, refuse_add}
use Rattle.set_controls.specs.Controls.{set_controls, refuse_controls}
use Rattle.read_wheel.specs.Read.{ReadReply, read_wheel, refuse_read, not_read, reading_of}
use Rattle.read_wheel.proofs.Accepted.{read_says}
use Rattle.aim.specs.Aim.{aim_of, refuse_aim, not_aimed, aimed_by, aimed_table}
use Rattle.passes.specs.Passes.{stored}
use Rattle.passes.specs.Step.{Work, whole_step}
use Rattle.drive.specs.Drive.{drive_under, drive_of, refuse_drive, not_driven, driven_by}
use Rattle.drive.proofs.Accepted.{drive_says}
use Rattle.demands.specs.History.{State, Call, SetUp, SetControls, Drive, ReadWheel, answered, accepted, run, run_all, driven_since, count_after, read_after}
use Rattle.demands.specs.Answers.{is_one_of, answers}
use Rattle.demands.specs.Held.{Held, hands_held, HandsHeld}
use Rattle.demands.specs.Update.{Placed, update_of, updated}
use Rattle.demands.specs.Impulses.{Step, step_after, Accepted, Stepped, Grounded, stored_wheel, driven_wheel, forward_demand, side_demand, grip_limit, forward_impulse, side_impulse, skid_at, brake_of, slides_at, powered_at, Alike}
use Rattle.demands.specs.MoreBrake.{AlikeButForBrake}
use Rattle.demands.specs.Settled.{after_drive, read_after_drive, quiet, drive_length, with_length, centre_under, is_finite}
use Rattle.demands.specs.Fallback.{axis_in, forward_in, IsZeroV, NoRoll, NoSide}
use Rattle.demands.specs.Steered.{direction_under, axle_under, TurnsNothing, none_steers}
use Rattle.demands.specs.Fixed.{fixed_step, fixed_in_range, IsTenth, AllTenth, AddsHand}
use Rattle.demands.proofs.Marks.{history_from_set_up, left_by}
use Rattle.demands.proofs.Five.{five_of_not_driven, not_five_of_driven}
use Rattle.demands.proofs.Numbers.{number_among}
use Rattle.demands.proofs.Transforms.{placed_from_set_up}
use Rattle.demands.proofs.Updates.{driven_is, aimed_is, update_speed, update_driven, update_of_placed}
use Rattle.demands.proofs.Each.{each_of_held, held_of_each}
use Rattle.demands.proofs.HeldCalls.{call_held, held_from_set_up}
use Rattle.demands.proofs.Impulses.{tests, forward_rescaled, side_rescaled, forward_admitted, side_admitted, limit_admitted, within_brake, friction_alike}
use Rattle.demands.proofs.Settled.{driven_settled, driven_place, read_done, read_after_drive_lem, shape_after_drive, settled_of_placed, next_centre}
use Rattle.demands.proofs.Quiet.{quiet_stays}
use Rattle.demands.proofs.Finite.{settled_finite}
use Rattle.demands.proofs.Fallback.{yes_of, zero_vector, axis_of_grounded, forward_of_grounded, axis_of_airborne, forward_of_airborne, no_side, no_roll, no_side_push, no_forward_push}
use Rattle.demands.proofs.Fixed.{tenth_passes, ranges_alike, step_alike}
use Rattle.demands.proofs.Stored.{stored_from_set_up}
use Rattle.demands.proofs.Steered.{controls_kept, angle_fits, aimed_axle, aimed_turn, angle_within, zero_turns_nothing, Keeps, kept_by_all, kept_by_controls, steering_of_kept}
use Rattle.demands.proofs.MoreBrake.{demand_no_less, demand_equal, demand_same}

-- ---- Demand 1. "A bad call is answered by a number of document 01": the number that a call answers is that of its refusal list, 0 where no test of the list fails.
module _ (f : Format) (t : List Float) (m : List ℕ) where
  pub set_up_number : (up forward : ℕ) → (set_up t m up forward).reply ≡ refuse_set_up t m up forward
  unfolding set_up
  set_up_number up forward = settled_number _ _ _ t m (λ n. n) refl refl

  pub add_number : (s : Settings) → (add_wheel t m s).reply ≡ refuse_add t m s
  unfolding add_wheel
  add_number s = settled_number _ _ _ t m (λ n. n) refl refl

  pub controls_number : (i : ℕ) (c : Controls) → (set_controls f t m i c).reply ≡ refuse_controls f t m i c
  unfolding set_controls
  controls_number i c = settled_number _ _ _ t m (λ n. n) refl refl

  pub aim_number : (c : Chassis) → (aim_of f t m c).reply.number ≡ refuse_aim f t m c
  unfolding aim_of not_aimed aimed_by
  aim_number c = settled_number _ not_aimed _ t m (λ r. r.number) refl refl

  pub drive_number : (r : Frame) (n : ℕ) → (drive_of f t m r n).reply.number ≡ refuse_drive f t m r n
  unfolding drive_of drive_under refuse_drive not_driven driven_by
  drive_number r n = settled_number _ not_driven _ t m (λ x. x.number) refl refl

  pub read_number : (i : ℕ) → (read_wheel f t m i).reply.number ≡ refuse_read t m i
  unfolding read_wheel not_read reading_of
  read_number i = settled_number _ not_read _ t m (λ r. r.number) refl refl

  -- ".. and changes no lent number": a refusal answers its number, zeros elsewhere, and leaves the table and the whole numbers as they were. Once for every call, and for each.
  pub refusal_changes_nothing : {R : Type 0} (number : ℕ) (refused : ℕ → R) (done : After R) → (number ≡ 0 → ⊥) → settled number refused done t m ≡ after (refused number) t m
  refusal_changes_nothing number refused done h = sym (settled_refused number number refused (refused number) done t m refl h refl)

  pub set_up_refused : (up forward : ℕ) → (refuse_set_up t m up forward ≡ 0 → ⊥) → set_up t m up forward ≡ after (refuse_set_up t m up forward) t m
  unfolding set_up
  set_up_refused up forward h = refusal_changes_nothing _ _ _ h

  pub add_refused : (s : Settings) → (refuse_add t m s ≡ 0 → ⊥) → add_wheel t m s ≡ after (refuse_add t m s) t m
  unfolding add_wheel
  add_refused s h = refusal_changes_nothing _ _ _ h

  pub controls_refused : (i : ℕ) (c : Controls) → (refuse_controls f t m i c ≡ 0 → ⊥) → set_controls f t m i c ≡ after (refuse_controls f t m i c) t m
  unfolding set_controls
  controls_refused i c h = refusal_changes_nothing _ _ _ h

  pub aim_refused : (c : Chassis) → (refuse_aim f t m c ≡ 0 → ⊥) → aim_of f t m c ≡ after (not_aimed (refuse_aim f t m c)) t m
  unfolding aim_of
  aim_refused c h = refusal_changes_nothing _ not_aimed _ h

  pub drive_refused : (r : Frame) (n : ℕ) → (refuse_drive f t m r n ≡ 0 → ⊥) → drive_of f t m r n ≡ after (not_driven (refuse_drive f t m r n)) t m
  unfolding drive_of drive_under refuse_drive
  drive_refused r n h = refusal_changes_nothing _ not_driven _ h

  pub read_refused : (i : ℕ) → (refuse_read t m i ≡ 0 → ⊥) → read_wheel f t m i ≡ after (not_read (refuse_read t m i)) t m
  unfolding read_wheel
  read_refused i h = refusal_changes_nothing _ not_read _ h

-- each call's number is one of those that document 01 lets it answer: 9 is never a call's, 3 only an add's, 17 only an aim's, 7 and 12 only a drive's
pub answer_in_list : (f : Format) (c : Call) (s : State) → is_one_of (answered f c s).reply (answers c) ≡ true
answer_in_list f c s = number_among f c s

-- ---- "In a table our calls wrote, a wheel not yet driven can't be read: that is refusal 5." A history is a list of calls, with any arguments and whatever each answered, from an accepted set-up of
-- whatever was lent. A read of a used wheel is then refused with 5 exactly where no accepted drive came, or where an accepted set-up, add or aim came after the last.
module _ (f : Format) (lent : State) (up forward : ℕ) (l : List Call) (set-up : accepted f (SetUp up forward) lent ≡ true) where
  pub not_driven_refused : (i : ℕ) → i < count_after f (SetUp up forward ∷ l) lent → driven_since f (SetUp up forward ∷ l) lent ≡ false
      → read_after f (SetUp up forward ∷ l) lent i ≡ 5
  not_driven_refused i u h =
      let now = run_all f (SetUp up forward ∷ l) lent in
      let past = history_from_set_up f lent up forward l set-up in
      read_number f now.table now.whole i ∙ five_of_not_driven now.table now.whole i past.shape u (past.mark ∙ h)

  pub driven_not_refused : (i : ℕ) → i < count_after f (SetUp up forward ∷ l) lent → driven_since f (SetUp up forward ∷ l) lent ≡ true
      → read_after f (SetUp up forward ∷ l) lent i ≡ 5 → ⊥
  driven_not_refused i u h e =
      let now = run_all f (SetUp up forward ∷ l) lent in
      let past = history_from_set_up f lent up forward l set-up in
      not_five_of_driven now.table now.whole i past.shape u (past.mark ∙ h) (sym (read_number f now.table now.whole i) ∙ e)

  -- so a read that is accepted comes after an accepted drive, with no accepted set-up, add or aim since
  pub read_only_when_driven : (i : ℕ) → accepted f (ReadWheel i) (run_all f (SetUp up forward ∷ l) lent) ≡ true → driven_since f (SetUp up forward ∷ l) lent ≡ true
  unfolding accepted answered
  read_only_when_driven i h =
      let now = run_all f (SetUp up forward ∷ l) lent in
      let z : refuse_read now.table now.whole i ≡ 0 = sym (read_number f now.table now.whole i) ∙ eqb-true _ 0 h in
      sym (history_from_set_up f lent up forward l set-up).mark ∙ eq-eqb _ at.DRIVEN (read_says now.table now.whole i z).driven

-- ---- Demand 2. "Every accepted step equals the Rust module over document 01's vector arithmetic, bit for bit": from every stored state, the reply of an accepted drive, its table and its whole numbers are
-- those of document 01's rules 3 to 10, worked out on the kept chassis; those of an accepted aim are rules 1 and 2.
module _ (f : Format) (t : List Float) (m : List ℕ) where
  pub accepted_drive : (r : Frame) (n : ℕ) → refuse_drive f t m r n ≡ 0
      → drive_of f t m r n ≡ after (driven_by t n (whole_step f stored (up_of m) r n t)) (whole_step f stored (up_of m) r n t).table (marked m at.DRIVEN)
  accepted_drive r n h = driven_is f t m r n h

  pub accepted_aim : (c : Chassis) → refuse_aim f t m c ≡ 0
      → aim_of f t m c ≡ after (aimed_by f (forward_of m) c (count_of m) (aimed_table f c (count_of m) t)) (aimed_table f c (count_of m) t) (marked m at.AIMED)
  accepted_aim c h = aimed_is f t m c h

-- An aim and the drive after it are rules 1 to 10 of one update, of the chassis that the aim was handed and the table as it was before.
pub aim_then_drive : (f : Format) (t : List Float) (m : List ℕ) (c : Chassis) (r : Frame) (n : ℕ) → refuse_aim f t m c ≡ 0 → refuse_drive f (aim_of f t m c).table (aim_of f t m c).whole r n ≡ 0
    → ((aim_of f t m c).reply.speed ≡ (update_of f (up_of m) (forward_of m) c r n t).speed) × (drive_of f (aim_of f t m c).table (aim_of f t m c).whole r n ≡ updated f m c r n t)
aim_then_drive f t m c r n p q = (update_speed f t m c r n p, update_driven f t m c r n p q)

-- In a table our calls wrote, with the mark aimed, the stored transforms of each used row are those of the kept chassis: rule 1 worked out again changes nothing. Over every history, as above.
module _ (f : Format) (lent : State) (up forward : ℕ) (l : List Call) (set-up : accepted f (SetUp up forward) lent ≡ true) where
  abbrev pub now : State
  now = run_all f (SetUp up forward ∷ l) lent

  pub aimed_transforms : mark_of now.whole ≡ at.AIMED → (i : ℕ) → i < count_of now.whole → Placed f now.table i
  aimed_transforms aimed i u = placed_from_set_up f lent up forward l set-up aimed i u

  -- so an accepted drive ends one update, rules 1 to 10, of the kept chassis and the table that it finds
  pub drive_is_update : (r : Frame) (n : ℕ) → accepted f (Drive r n) now ≡ true → drive_of f now.table now.whole r n ≡ updated f now.whole (chassis_at now.table) r n now.table
  unfolding accepted answered
  drive_is_update r n h =
      update_of_placed f now.table now.whole r n (placed_from_set_up f lent up forward l set-up) (sym (drive_number f now.table now.whole r n) ∙ eqb-true _ 0 h)

-- ---- Demand 3. "Each tyre gets its own grip and no more." `d` is a drive, with what it is lent and handed; i is the number of a wheel.
module _ (f : Format) (d : Step) (i : ℕ) where
  -- "If its demand does not pass the slide test, its two impulses are exactly the demand." Whatever the limit.
  pub not_sliding_is_demand : Grounded f d i → slides_at f d i ≡ false → (forward_impulse f d i ≡ forward_demand f d i) × (side_impulse f d i ≡ side_demand f d i)
  not_sliding_is_demand g h =
      let same = not_sliding f (forward_demand f d i) (side_demand f d i) (grip_limit f d i) h in
      (forward_rescaled f d i g ∙ same.0, side_rescaled f d i g ∙ same.1)

  -- "In an accepted step, let a grounded wheel's grip limit be at least 2^-40. .. If it passes, a quarter of the forward impulse squared plus the side impulse squared is, in exact arithmetic, within one part
  -- in 2^20 of the limit squared." `precision binary32` is 2^20.
  pub sliding_grips : Grounded f d i → le least_limit (grip_limit f d i) ≡ true → slides_at f d i ≡ true → Grips f (precision f) (forward_impulse f d i) (side_impulse f d i) (grip_limit f d i)
  sliding_grips g l h =
      subst (λ (x : Float). Grips f (precision f) x (side_impulse f d i) (grip_limit f d i)) (sym (forward_rescaled f d i g))
      (subst (λ (x : Float). Grips f (precision f) (rescaled_by f (skid_of f (forward_demand f d i) (side_demand f d i) (grip_limit f d i)) (forward_demand f d i)) x (grip_limit f d i)) (sym (side_rescaled f d i g))
      (sliding f (forward_demand f d i) (side_demand f d i) (grip_limit f d i) (forward_admitted f d i g) (side_admitted f d i g) (record { admitted = limit_admitted f d i g; at_least = l }) h))

  -- "An unpowered wheel's forward impulse never exceeds its brake in size." Grounded or not.
  pub unpowered_within_brake : Stepped f d i → powered_at d i ≡ false → WithinBrake f (brake_of d i) (forward_impulse f d i)
  unpowered_within_brake s h = within_brake f d i s h

-- "Between two accepted steps with the same time step, ground bodies, kept chassis, chassis state after the springs, number of grounded wheels and own stored row and hit, no other wheel's settings or contact
-- change a wheel's two impulses." Nor its skid.
pub impulses_are_its_own : {f : Format} {d e : Step} {i : ℕ} → Accepted f d → Accepted f e → i < d.n → i < e.n → Alike f d e i
    → (forward_impulse f d i ≡ forward_impulse f e i) × ((side_impulse f d i ≡ side_impulse f e i) × (skid_at f d i ≡ skid_at f e i))
impulses_are_its_own p q u v a =
    let same = friction_alike p q u v a in
    (ap (λ (x : Friction). x.forward) same, (ap (λ (x : Friction). x.side) same, ap (λ (x : Friction). x.skid) same))

-- ---- "a finite number is its count of units" (document 01): of a number that the format holds. Each call keeps a table of such numbers, so a table our calls wrote is one, and demand 3 speaks of every accepted drive
-- of it. What the calls are handed has to be numbers of the format; f32 are those of binary32.
pub call_keeps_held : (f : Format) (c : Call) (s : State) → hands_held f c ≡ true → Held f s.table → Held f (run f c s).table
call_keeps_held f c s k h = held_of_each f _ (call_held f c s k (each_of_held f s.table h))

module _ (f : Format) (lent : State) (up forward : ℕ) (l : List Call) (set-up : accepted f (SetUp up forward) lent ≡ true) (handed : HandsHeld f l) where
  pub history_is_held : Held f (run_all f (SetUp up forward ∷ l) lent).table
  history_is_held = held_from_set_up f lent up forward l set-up handed

  pub history_is_stepped : (r : Frame) (n i : ℕ) → Accepted f (step_after f (SetUp up forward ∷ l) lent r n) → i < n → Stepped f (step_after f (SetUp up forward ∷ l) lent r n) i
  history_is_stepped r n i z u = record { accepted = z; held = history_is_held; counted = u }

-- ---- Change request 2026-02, "Tyres are drawn a frame late." "Reading now also gives a settled centre, hard point plus direction times this drive's length, and we draw that. The old centre stays, and demand 2 speaks
-- of it; the settled one has its own definition." `d` is an accepted drive from any stored state, i the number of one of its wheels.
module _ (f : Format) (d : Step) (i : ℕ) (passed : Accepted f d) (counted : i < d.n) where
  -- each wheel can be read straight after it, and the read is that of the wheel as the drive left it
  pub driven_is_read : (read_after_drive f d i).reply ≡ reading_of f (driven_wheel f d i)
  driven_is_read = ap (λ (x : After ReadReply). x.reply) (read_after_drive_lem f d i passed counted)

  -- the settled centre has the length that rule 4 or 5 gave in this drive; the old one is as the drive found it
  pub settled_after_drive : (read_after_drive f d i).reply.settled ≡ centre_of f (stored_wheel d i).info.hard (stored_wheel d i).place.direction (drive_length f d i)
  unfolding reading_of
  settled_after_drive = ap (λ (x : ReadReply). x.settled) driven_is_read ∙ driven_settled f d i passed counted

  pub centre_after_drive : (read_after_drive f d i).reply.centre ≡ (stored_wheel d i).place.centre
  unfolding reading_of
  centre_after_drive = ap (λ (x : ReadReply). x.centre) driven_is_read ∙ ap (λ (x : Place). x.centre) (driven_place f d i passed counted)

  -- every accepted read from then on gives what that one gave, until the next accepted set-up, add, aim or drive
  pub read_until_next : (l : List Call) → quiet f l (after_drive f d) ≡ true → accepted f (ReadWheel i) (run_all f l (after_drive f d)) ≡ true
      → (read_wheel f (run_all f l (after_drive f d)).table (run_all f l (after_drive f d)).whole i).reply ≡ (read_after_drive f d i).reply
  unfolding accepted answered
  read_until_next l q h =
      let now = run_all f l (after_drive f d) in
      let z : refuse_read now.table now.whole i ≡ 0 = sym (read_number f now.table now.whole i) ∙ eqb-true _ 0 h in
      ap (λ (x : After ReadReply). x.reply) (read_done f now.table now.whole i z)
      ∙ quiet_stays f l (after_drive f d) i (shape_after_drive f d i passed counted) q
      ∙ sym driven_is_read

  -- so every one gives that settled centre
  pub settled_until_next : (l : List Call) → quiet f l (after_drive f d) ≡ true → accepted f (ReadWheel i) (run_all f l (after_drive f d)) ≡ true
      → (read_wheel f (run_all f l (after_drive f d)).table (run_all f l (after_drive f d)).whole i).reply.settled ≡ (read_after_drive f d i).reply.settled
  settled_until_next l q h = ap (λ (x : ReadReply). x.settled) (read_until_next l q h)

-- It is not stored, and no refusal looks at it: it needs none, since no accepted read gives a NaN or an infinity there.
pub settled_is_finite : (f : Format) (t : List Float) (m : List ℕ) (i : ℕ) → Held f t → refuse_read t m i ≡ 0 → is_finite (read_wheel f t m i).reply.settled ≡ true
unfolding reading_of
settled_is_finite f t m i h z = ap (λ (x : After ReadReply). is_finite x.reply.settled) (read_done f t m i z) ∙ settled_finite f t m i h z

-- The two centres after a drive in a table our calls wrote. Over every history, as above.
module _ (f : Format) (lent : State) (up forward : ℕ) (l : List Call) (set-up : accepted f (SetUp up forward) lent ≡ true) (r : Frame) (n i : ℕ) where
  -- the drive, the pose of the chassis that it works on, and wheel i as it finds it
  abbrev pub drive : Step
  drive = step_after f (SetUp up forward ∷ l) lent r n

  abbrev pub pose : Pose
  pose = (chassis_at drive.table).pose

  abbrev pub found : Wheel
  found = stored_wheel drive i

  module _ (passed : Accepted f drive) (counted : i < n) where
    placed : Placed f drive.table i
    placed =
        let a = (tests f drive passed).early.frame in
        placed_from_set_up f lent up forward l set-up a.aimed i (let e = a.each in omega arith)

    -- rule 1's centre, worked out with the length that rule 4 or 5 just gave
    pub settled_is_rule_1 : (read_after_drive f drive i).reply.settled ≡ centre_under f pose (with_length found (drive_length f drive i))
    unfolding reading_of
    settled_is_rule_1 = ap (λ (x : ReadReply). x.settled) (driven_is_read f drive i passed counted) ∙ settled_of_placed f drive i passed counted placed

    -- and the old centre, with the length stored so far
    pub centre_is_rule_1 : (read_after_drive f drive i).reply.centre ≡ centre_under f pose found
    centre_is_rule_1 = centre_after_drive f drive i passed counted ∙ ap (λ (w : Wheel). w.place.centre) placed

    -- "a frame late": where the chassis stands still, the next aim puts the old centre where the settled one is now
    pub settled_is_next_centre : (c : Chassis) → c.pose ≡ pose → refuse_aim f (after_drive f drive).table (after_drive f drive).whole c ≡ 0
        → (wheel_at (aim_of f (after_drive f drive).table (after_drive f drive).whole c).table i).place.centre ≡ (read_after_drive f drive i).reply.settled
    unfolding reading_of
    settled_is_next_centre c same p = next_centre f drive i passed counted placed c same p ∙ sym (ap (λ (x : ReadReply). x.settled) (driven_is_read f drive i passed counted))

-- ---- Change request 2026-03. "Refuse any hit whose normal's sum of squares lies outside 1 − 2^-10 to 1 + 2^-10, save the zero normal at time 0; the upward normal is held to the same band": the hits of an accepted
-- drive are those that `normals_ok` accepts, and every theorem above on accepted drives reads over those.
pub accepted_normals : (f : Format) (t : List Float) (m : List ℕ) (r : Frame) (n i : ℕ) → refuse_drive f t m r n ≡ 0 → i < n → normals_ok f (r.answer i) ≡ true
accepted_normals f t m r n i h l = normals_say f r.answer n i (drive_says f t m r n h).early.normals l

-- ---- Change request 2026-05, "Tell us when a wheel has no rolling direction." "The normalise step should say if it fell back to zero": yes exactly where the reciprocal of the length is not finite and above 0, and the
-- vector is zero there.
pub fell_back_exactly : (f : Format) (v : Vector) → (normalize_or_zero f v).fellback ≡ not (usable (div f one (length_v f v)))
fell_back_exactly f v = fellback_is f v

pub fell_back_to_zero : (f : Format) (v : Vector) → (normalize_or_zero f v).fellback ≡ true → (normalize_or_zero f v).vector ≡ zero_v
fell_back_to_zero f v h = fellback_zero f v h

-- "up through friction into what a read gives: two yes or no answers, for the axis and the forward direction of rule 7. .. Yes holds exactly where the fall-back was used; both are no for an airborne wheel." `d` is an accepted
-- drive from any stored state, i the number of one of its wheels; `axis_in` and `forward_in` are rule 7's own directions in that drive.
module _ (f : Format) (d : Step) (i : ℕ) (passed : Accepted f d) (counted : i < d.n) where
  pub no_axis_exactly : grounded_at d.frame.answer i ≡ true → (read_after_drive f d i).reply.noaxis ≡ (axis_in f d i).fellback
  no_axis_exactly contact = axis_of_grounded f d i passed counted contact

  pub no_forward_exactly : grounded_at d.frame.answer i ≡ true → (read_after_drive f d i).reply.noforward ≡ (forward_in f d i).fellback
  no_forward_exactly contact = forward_of_grounded f d i passed counted contact

  -- yes says that the direction which the drive worked with was zero, and no that it was not
  pub no_axis_is_zero : grounded_at d.frame.answer i ≡ true
      → ((read_after_drive f d i).reply.noaxis ≡ true → IsZeroV (axis_in f d i).vector) × (IsZeroV (axis_in f d i).vector → (read_after_drive f d i).reply.noaxis ≡ true)
  no_axis_is_zero contact =
      let said = no_axis_exactly contact in
      ((λ h. zero_vector _ (axis_zero f _ _ (sym said ∙ h))), (λ z. said ∙ yes_of (axis_in f d i).fellback (λ no. axis_not_zero f _ _ no z.x z.y z.z)))

  pub no_forward_is_zero : grounded_at d.frame.answer i ≡ true
      → ((read_after_drive f d i).reply.noforward ≡ true → IsZeroV (forward_in f d i).vector) × (IsZeroV (forward_in f d i).vector → (read_after_drive f d i).reply.noforward ≡ true)
  no_forward_is_zero contact =
      let said = no_forward_exactly contact in
      ((λ h. zero_vector _ (forward_zero f _ _ (sym said ∙ h))), (λ z. said ∙ yes_of (forward_in f d i).fellback (λ no. forward_not_zero f _ _ no z.x z.y z.z)))

  pub airborne_both_no : grounded_at d.frame.answer i ≡ false → ((read_after_drive f d i).reply.noaxis ≡ false) × ((read_after_drive f d i).reply.noforward ≡ false)
  airborne_both_no contact = (axis_of_airborne f d i passed counted contact, forward_of_airborne f d i passed counted contact)

  -- a wheel with no axis has no forward direction either: of the four pairs of answers three can occur
  pub no_axis_then_no_forward : (read_after_drive f d i).reply.noaxis ≡ true → (read_after_drive f d i).reply.noforward ≡ true
  no_axis_then_no_forward h = either (grounded_at d.frame.answer i) refl
    where
      either : (b : Bool) → grounded_at d.frame.answer i ≡ b → (read_after_drive f d i).reply.noforward ≡ true
      either true e = no_forward_exactly e ∙ no_axis_no_forward f _ _ (sym (no_axis_exactly e) ∙ h)
      either false e = absurd (true≢false (sym h ∙ axis_of_airborne f d i passed counted e))

-- What it means for the animator, of a grounded wheel. With no axis it asks for nothing to the side, and gets nothing; with no forward direction, an unpowered wheel asks for nothing along it. So with no axis an unpowered wheel
-- is dead: both demands are zero, and both impulses. With no forward direction alone the side demand may well be another than zero, and a powered wheel's rolling demand is its engine force times the time step; but what rule 9
-- applies along a direction that fell back is the zero vector, so an engine moves nothing.
module _ {f : Format} {d : Step} {i : ℕ} (g : Grounded f d i) where
  axis_said : (read_after_drive f d i).reply.noaxis ≡ true → (axis_in f d i).fellback ≡ true
  axis_said h = sym (no_axis_exactly f d i g.stepped.accepted g.stepped.counted g.contact) ∙ h

  forward_said : (read_after_drive f d i).reply.noforward ≡ true → (forward_in f d i).fellback ≡ true
  forward_said h = sym (no_forward_exactly f d i g.stepped.accepted g.stepped.counted g.contact) ∙ h

  pub no_axis_no_side : (read_after_drive f d i).reply.noaxis ≡ true → NoSide f d i
  no_axis_no_side h = no_side f d i g (axis_said h)

  pub no_forward_no_roll : powered_at d i ≡ false → (read_after_drive f d i).reply.noforward ≡ true → NoRoll f d i
  no_forward_no_roll unpowered h = no_roll f d i g (forward_said h) unpowered

  pub no_axis_is_dead : powered_at d i ≡ false → (read_after_drive f d i).reply.noaxis ≡ true → NoRoll f d i × NoSide f d i
  no_axis_is_dead unpowered h = (no_forward_no_roll unpowered (no_axis_then_no_forward f d i g.stepped.accepted g.stepped.counted h), no_axis_no_side h)

  pub no_axis_no_push : (read_after_drive f d i).reply.noaxis ≡ true → IsZeroV (scale_v f (axis_in f d i).vector (side_impulse f d i))
  no_axis_no_push h = no_side_push f d i g (axis_said h)

  pub no_forward_no_push : (read_after_drive f d i).reply.noforward ≡ true → IsZeroV (scale_v f (forward_in f d i).vector (forward_impulse f d i))
  no_forward_no_push h = no_forward_push f d i g (forward_said h)

-- ---- Change request 2026-07, "Roll influence per wheel." "With 0.1 everywhere demand 2 reads as it did": where each wheel of a step stores 0.1, the step is `fixed_step`, whose rule 9 has 0.1 for every wheel. From any table
-- of the right size, under any tuning.
pub step_as_before : (f : Format) (tune : WheelTuning → WheelTuning) (up n : ℕ) (r : Frame) (t : List Float) → length t ≡ at.SIZE → n ≤ at.WHEELS → AllTenth f t n → whole_step f tune up r n t ≡ fixed_step f tune up r n t
step_as_before f tune up n r t s l tenth = step_alike f tune r n l t s up tenth

-- so an accepted drive answers and stores what that step gives: `accepted_drive` with the step of before
pub drive_as_before : (f : Format) (t : List Float) (m : List ℕ) (r : Frame) (n : ℕ) → AllTenth f t n → refuse_drive f t m r n ≡ 0
    → drive_of f t m r n ≡ after (driven_by t n (fixed_step f stored (up_of m) r n t)) (fixed_step f stored (up_of m) r n t).table (marked m at.DRIVEN)
drive_as_before f t m r n tenth h =
    let a = (drive_says f t m r n h).early.frame in
    let same = step_as_before f stored (up_of m) n r t a.shape.sized (let e = a.each in let l = a.shape.room in omega arith) tenth in
    driven_is f t m r n h ∙ ap (λ (s : Work). after (driven_by t n s) s.table (marked m at.DRIVEN)) same

-- and which calls are accepted is as it was: 0.1 passes each test that a roll influence meets, and beside it refusal 10 asks of settings what it asked
pub tenth_accepted : (f : Format) → (within HANDED (roll_influence f) ≡ true) × ((within STORED (roll_influence f) ≡ true) × (in_unit (roll_influence f) ≡ true))
tenth_accepted f = tenth_passes f

pub ranges_as_before : (f : Format) (s : Settings) → IsTenth f s → settings_in_range s ≡ fixed_in_range s
ranges_as_before f s e = ranges_alike f s e

-- "a stored setting .. the add call takes it": what holds of the settings that every accepted add hands in holds of those that each used wheel stores. Over every history, as above.
module _ (f : Format) (lent : State) (up forward : ℕ) (l : List Call) (set-up : accepted f (SetUp up forward) lent ≡ true) where
  pub stored_as_added : (P : Settings → Type 0) → AddsHand f P l (run f (SetUp up forward) lent) → (i : ℕ) → i < count_after f (SetUp up forward ∷ l) lent → P (wheel_at (run_all f (SetUp up forward ∷ l) lent).table i).settings
  stored_as_added P k = stored_from_set_up P f lent up forward l set-up k

  -- so where every accepted add hands in 0.1, as code 1 does, every accepted drive is that of before
  pub history_as_before : AddsHand f (IsTenth f) l (run f (SetUp up forward) lent) → (r : Frame) (n : ℕ) → let now = run_all f (SetUp up forward ∷ l) lent in accepted f (Drive r n) now ≡ true
      → drive_of f now.table now.whole r n ≡ after (driven_by now.table n (fixed_step f stored (up_of now.whole) r n now.table)) (fixed_step f stored (up_of now.whole) r n now.table).table (marked now.whole at.DRIVEN)
  unfolding accepted answered
  history_as_before k r n h =
      let s = run_all f (SetUp up forward ∷ l) lent in
      let z : refuse_drive f s.table s.whole r n ≡ 0 = sym (drive_number f s.table s.whole r n) ∙ eqb-true _ 0 h in
      let each = (drive_says f s.table s.whole r n z).early.frame.each in
      drive_as_before f s.table s.whole r n (λ i u. stored_as_added (IsTenth f) k i (omega arith)) z

-- ---- Change request 2026-11, "Steering by angle." "Take the angle itself, from −2 to 2 radians, and turn about minus the wheel's world direction, made unit length, at each aim. .. The rotation then goes the old path." Of an
-- accepted aim from any stored state, with the chassis c, and i the number of a used wheel.
module _ (f : Format) (t : List Float) (m : List ℕ) (c : Chassis) (i : ℕ) (passed : refuse_aim f t m c ≡ 0) (used : i < count_of m) where
  -- wheel i as the aim finds it, the world direction that this aim works out for it, and the rotation that an angle makes there
  abbrev pub aimed : Wheel
  aimed = wheel_at t i

  abbrev pub direction : Vector
  direction = direction_under f c.pose aimed

  abbrev pub turn : Float → Rotation
  turn angle = rotation_from_angle f (normalize_or_zero f (neg_v direction)).vector angle

  -- a wheel that keeps an angle is steered by that rotation, and one that keeps a rotation by it, as ever
  pub steered_by_angle : (angle : Float) → steering_of aimed.controls.steering ≡ ByAngle angle → (wheel_at (aim_of f t m c).table i).place.axle ≡ axle_under f c.pose (turn angle) aimed
  unfolding steering_rotation steering_axis
  steered_by_angle angle e = aimed_axle f t m c i passed used (ByAngle angle) e

  pub steered_by_rotation : (q : Rotation) → steering_of aimed.controls.steering ≡ ByRotation q → (wheel_at (aim_of f t m c).table i).place.axle ≡ axle_under f c.pose q aimed
  unfolding steering_rotation
  steered_by_rotation q e = aimed_axle f t m c i passed used (ByRotation q) e

  -- "at aim, an axis whose normalising falls back to zero, or a rotation so made outside 01's band, is 17": so here neither is
  pub accepted_turn : (angle : Float) → steering_of aimed.controls.steering ≡ ByAngle angle → ((normalize_or_zero f (neg_v direction)).fellback ≡ false) × (rotation_in_range f (turn angle) ≡ true)
  unfolding steering_axis
  accepted_turn angle e = let tested = aimed_turn f t m c i passed used angle e in (tested.axis, tested.rotation)

  -- "Each must lie within 2^-20 of its Taylor sum through the twelfth power, the sum stated over whole numbers scaled to a common denominator": so they do, where the table holds numbers of the format
  pub accepted_turn_near_taylor : (angle : Float) → steering_of aimed.controls.steering ≡ ByAngle angle → Held f t
      → NearTaylor f (minus? (half_of f angle)) (count f (half_of f angle)) (sine_of f (half_of f angle)) (cosine_of f (half_of f angle))
  accepted_turn_near_taylor angle e h = half_near_taylor f angle (angle_fits f t i angle h e) (angle_within f t m c i passed used angle e)

  -- an angle of 0, of either sign, is the identity but for the sign of zeros
  pub angle_zero_turns_nothing : (s : Bool) → steering_of aimed.controls.steering ≡ ByAngle (fin s 0 (pos 0)) → TurnsNothing (turn (fin s 0 (pos 0)))
  angle_zero_turns_nothing s e = zero_turns_nothing f _ s (accepted_turn (fin s 0 (pos 0)) e).1

-- "The row keeps the last control given, angle or rotation": after accepted controls of wheel i, and any calls but an accepted set-up or other accepted controls of it, each accepted aim steers it by what was given, about the
-- direction of that aim. So a turned chassis is steered right with no new control. From any table of the right shape.
module _ (f : Format) (s : State) (i : ℕ) (given : Controls) (l : List Call) (shape : Shape s.table s.whole) (set : accepted f (SetControls i given) s ≡ true) (none : none_steers f i l (run f (SetControls i given) s) ≡ true) where
  -- what is lent then
  abbrev pub then : State
  then = run_all f l (run f (SetControls i given) s)

  keeps : Keeps f i (kept_controls given) then.table then.whole
  unfolding run
  keeps = kept_by_all f i (kept_controls given) l (run f (SetControls i given) s) (left_by f (SetControls i given) s shape).shape none (kept_by_controls f i given s set)

  pub row_keeps_controls : controls_of (wheel_at then.table i).controls ≡ given
  row_keeps_controls = ap controls_of keeps.controls ∙ controls_kept given

  pub steered_at_each_aim : (c : Chassis) → refuse_aim f then.table then.whole c ≡ 0
      → (wheel_at (aim_of f then.table then.whole c).table i).place.axle
      ≡ axle_under f c.pose (steering_rotation f (direction_under f c.pose (wheel_at then.table i)) given.steering) (wheel_at then.table i)
  steered_at_each_aim c p = aimed_axle f then.table then.whole c i p keeps.used given.steering (steering_of_kept f i given keeps)

-- ---- Change request 2026-13, "More brake, never less braking." "For an unpowered grounded wheel, with chassis after the springs, hit, ground, number of grounded wheels and own row but for the brake held the same, show
-- that a greater brake never gives a rolling demand of smaller magnitude, nor one of the opposite sign unless a zero is involved. It speaks of the demand before the slide test, for two accepted steps."
-- `forward_demand` is that demand. The wheel of `e` is grounded and unpowered as that of `d` is: it has the same hit and the same engine force.
module _ {f : Format} {d e : Step} {i : ℕ} (g : Grounded f d i) (s : Stepped f e i) (unpowered : powered_at d i ≡ false) (a : AlikeButForBrake f d e i) where
  pub more_brake : lt (brake_of d i) (brake_of e i) ≡ true → BrakesNoLess f (forward_demand f d i) (forward_demand f e i)
  more_brake h = demand_no_less a g s unpowered h

  -- Equal brakes, both zeros counted equal: each brakes no less than the other, so the two demands have one size, and one sign where they are not zero.
  pub equal_brake : eq (brake_of d i) (brake_of e i) ≡ true → BrakesNoLess f (forward_demand f d i) (forward_demand f e i) × BrakesNoLess f (forward_demand f e i) (forward_demand f d i)
  equal_brake h = demand_equal a g s unpowered h

  -- The very same brake: the very same demand, a zero's sign included.
  pub same_brake : brake_of d i ≡ brake_of e i → forward_demand f d i ≡ forward_demand f e i
  same_brake h = demand_same a g s unpowered h
