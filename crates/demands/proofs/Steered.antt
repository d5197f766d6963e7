-- Steering by angle, over the calls. In order: what is kept is what was given; the angle that a row keeps; the axle that an aim leaves, and what refusal 17 let through; an angle of 0; what each call and a list of calls leave of a wheel's controls. Assumes nothing.
use Prim.Native.Nat.{ℕ, ◌+◌, ◌≤◌, ◌<◌}
use mathlib.Core.Bool.{Bool, true, false, not, cond, ◌&&◌, true≢false}
use mathlib.Core.List.{List, [], ◌∷◌}
use mathlib.Core.Path.{◌≡◌, refl, sym, ap, subst, ◌∙◌}
use native.Mathlib.Omega.{arith}
use borrow.Author.Tests.{eqb-true, eqb-false, eq-eqb}
use lib.Dec.{T, eqb}
use lib.IntN.{pos}
use lib.Ieee.{Float, nan, inf, fin, Format, binary32, binary64, is_nan, fits, mul, lt, le, eq, ne, neg}
use lib.Ieee.Scale.{finite}
use lib.ListN.{length, set, length-set}
use Rattle.real.specs.Number.{zero, two}
use Rattle.real.specs.Scalar.{within, reads_yes}
use Rattle.real.proofs.NotZero.{finite_of_add, finite_of_square}
use Rattle.real.proofs.Nought.{mul_nought_right, zero_of_nought}
use Rattle.vector.specs.declared.Vector.{Vector}
use Rattle.vector.specs.Arithmetic.{scale_v}
use Rattle.angle.specs.Angle.{half_of}
use Rattle.angle.proofs.Taylor.{sine_of_zero, cosine_of_zero}
use Rattle.body.specs.declared.Chassis.{Chassis}
use Rattle.wheel.specs.declared.Steering.{Steering}
use Rattle.wheel.specs.declared.Steering.TheVariants.{ByRotation, ByAngle}
use Rattle.wheel.specs.declared.Controls.{Controls}
use Rattle.wheel.specs.declared.KeptSteering.{KeptSteering}
use Rattle.wheel.specs.declared.KeptControls.{KeptControls}
use Rattle.wheel.specs.declared.Wheel.{Wheel}
use Rattle.wheel.specs.Parts.{with_controls}
use Rattle.wheel.specs.Steering.{kept_steering, steering_of, kept_controls, controls_of, rotation_from_angle, steering_rotation}
use Rattle.wheel.specs.Ray.{update_wheel_transform}
use Rattle.table.specs.Layout as at
use Rattle.table.specs.Rows.{wheel_at, put_wheel, chassis_at, put_chassis}
use Rattle.table.proofs.Laws.{length_keep, wheel_put, wheel_other, wheel_stays}
use Rattle.ranges.specs.Ranges.{BAND-LOW, BAND-HIGH, sum_of_squares, rotation_in_range, steering_in_range}
use Rattle.ranges.proofs.Says.{Between, range_says, rotation_says, wheel_says, stored_settings_say}
use Rattle.ground.specs.Frame.{Frame}
use Rattle.passes.specs.Passes.{stored, transforms, transform_at}
use Rattle.passes.specs.Step.{whole_step}
use Rattle.passes.proofs.Laws.{wheel_each}
use Rattle.refusals.specs.Shape.{count_of}
use Rattle.refusals.specs.After.{After, after, marked}
use Rattle.refusals.specs.Steered.{steering_ok, wheel_steered_ok}
use Rattle.refusals.proofs.Says.{Shape, TurnTested, turn_says, steered_say}
use Rattle.refusals.proofs.Settled.{settled_number, settled_done}
use Rattle.set_up.specs.SetUp.{set_up}
use Rattle.add_wheel.specs.Add.{add_wheel, new_wheel}
use Rattle.add_wheel.proofs.Accepted.{add_says}
use Rattle.set_controls.specs.Controls.{set_controls, refuse_controls, unaimed}
use Rattle.set_controls.proofs.Accepted.{set_controls_says}
use Rattle.read_wheel.specs.Read.{read_wheel}
use Rattle.aim.specs.Aim.{aim_of, refuse_aim, aimed_table}
use Rattle.aim.proofs.Accepted.{aim_says, steered_says}
use Rattle.drive.specs.Drive.{drive_under, drive_of, refuse_drive}
use Rattle.drive.proofs.Accepted.{drive_says}
use Rattle.demands.specs.History.{State, Call, SetUp, AddWheel, SetControls, Aim, Drive, ReadWheel, answered, accepted, run, run_all}
use Rattle.demands.specs.Held.{Held}
use Rattle.demands.specs.Fallback.{IsZero}
use Rattle.demands.specs.Steered.{direction_under, axle_under, TurnsNothing, steers, none_steers}
use Rattle.demands.proofs.Shapes.{count_marked, count_counted}
use Rattle.demands.proofs.Marks.{settled_has, left_by}
use Rattle.demands.proofs.Stored.{unaimed_count}
use Rattle.demands.proofs.Quiet.{both_true}
use Rattle.demands.proofs.Each.{each_of_held}
use Rattle.demands.proofs.HeldCalls.{wheel_at_held}
use Rattle.demands.proofs.Passed.{cast_keeps_controls, wheel_stepped}
use Rattle.demands.proofs.Updates.{aimed_is}

-- ---- what is kept is what was given
steering_kept : (s : Steering) → steering_of (kept_steering s) ≡ s
unfolding steering_of kept_steering reads_yes ne eq
steering_kept (ByRotation q) = refl
steering_kept (ByAngle angle) = refl

pub controls_kept : (c : Controls) → controls_of (kept_controls c) ≡ c
unfolding controls_of kept_controls
controls_kept c = ap (λ (s : Steering). record { engine = c.engine; brake = c.brake; steering = s }) (steering_kept c.steering)

-- ---- the angle of a wheel that is steered by one is a number of its row
angle_of : Steering → Float
angle_of (ByRotation q) = zero
angle_of (ByAngle angle) = angle

kept_angle : (k : KeptSteering) (angle : Float) → steering_of k ≡ ByAngle angle → k.angle ≡ angle
unfolding steering_of angle_of
kept_angle k angle = either (reads_yes k.kind)
  where
    by_angle : Steering → Bool
    by_angle (ByRotation q) = false
    by_angle (ByAngle a) = true

    either : (b : Bool) → cond b (ByAngle k.angle) (ByRotation k.rotation) ≡ ByAngle angle → k.angle ≡ angle
    either true e = ap angle_of e
    either false e = absurd (true≢false (sym (ap by_angle e)))

pub angle_fits : (f : Format) (t : List Float) (i : ℕ) (angle : Float) → Held f t → steering_of (wheel_at t i).controls.steering ≡ ByAngle angle → T (fits f angle)
angle_fits f t i angle h e =
    let held = (wheel_at_held f t i (each_of_held f t h)).controls in
    subst (λ (x : Float). T (fits f x)) (kept_angle (wheel_at t i).controls.steering angle e) held.1.1.1.1.1.1.0

-- ---- wheel i after an accepted aim
module _ (f : Format) (t : List Float) (m : List ℕ) (c : Chassis) (i : ℕ) (passed : refuse_aim f t m c ≡ 0) (counted : i < count_of m) where
  shape : Shape t m
  shape = (aim_says f t m c passed).shape

  placed_wheel : wheel_at (aimed_table f c (count_of m) t) i ≡ update_wheel_transform f c.pose (wheel_at t i)
  unfolding aimed_table transforms transform_at
  placed_wheel = wheel_each (transform_at f c.pose) (count_of m) (put_chassis t c) (length_keep t c shape.sized) shape.room i counted ∙ ap (update_wheel_transform f c.pose) (wheel_stays t c i)

  pub aimed_wheel : wheel_at (aim_of f t m c).table i ≡ update_wheel_transform f c.pose (wheel_at t i)
  aimed_wheel = ap (λ (x : After _). wheel_at x.table i) (aimed_is f t m c passed) ∙ placed_wheel

  pub aimed_axle : (s : Steering) → steering_of (wheel_at t i).controls.steering ≡ s
      → (wheel_at (aim_of f t m c).table i).place.axle ≡ axle_under f c.pose (steering_rotation f (direction_under f c.pose (wheel_at t i)) s) (wheel_at t i)
  unfolding update_wheel_transform
  aimed_axle s e = ap (λ (w : Wheel). w.place.axle) aimed_wheel ∙ ap (λ (x : Steering). axle_under f c.pose (steering_rotation f (direction_under f c.pose (wheel_at t i)) x) (wheel_at t i)) e

  pub aimed_turn : (angle : Float) → steering_of (wheel_at t i).controls.steering ≡ ByAngle angle → TurnTested f (direction_under f c.pose (wheel_at t i)) angle
  unfolding wheel_steered_ok steering_ok update_wheel_transform
  aimed_turn angle e =
      turn_says f _ angle
      (ap (steering_ok f (direction_under f c.pose (wheel_at t i))) (sym e)
      ∙ ap (wheel_steered_ok f) (sym placed_wheel)
      ∙ steered_say f (aimed_table f c (count_of m) t) (count_of m) i (steered_says f t m c passed) counted)

  pub angle_within : (angle : Float) → steering_of (wheel_at t i).controls.steering ≡ ByAngle angle → within two angle ≡ true
  unfolding controls_of steering_in_range within
  angle_within angle e =
      let ranges = wheel_says f t i (stored_settings_say f t (count_of m) i (aim_says f t m c passed).ranges counted) in
      let between = range_says (neg two) two angle (ap (steering_in_range f) (sym e) ∙ ranges.controls.steering) in
      rw (between.below, between.above)

-- ---- an angle of 0, of either sign
half_of_zero : (f : Format) (s : Bool) → half_of f (fin s 0 (pos 0)) ≡ fin s 0 (pos 0)
unfolding half_of mul
half_of_zero binary32 true = refl
half_of_zero binary32 false = refl
half_of_zero binary64 true = refl
half_of_zero binary64 false = refl

-- what lies in the band is no NaN and no infinity, so no part of such a rotation is
finite_of_band : (x : Float) → Between BAND-LOW BAND-HIGH x → T (finite x)
unfolding le lt eq
finite_of_band nan h = absurd (true≢false (sym h.above))
finite_of_band (inf true) h = absurd (true≢false (sym h.above))
finite_of_band (inf false) h = absurd (true≢false (sym h.below))
finite_of_band (fin s m e) h = tt

zero_part : (f : Format) (x : Float) (s : Bool) → T (finite (mul f x (fin s 0 (pos 0)))) → IsZero (mul f x (fin s 0 (pos 0)))
zero_part f x s h = zero_of_nought _ (mul_nought_right f x (fin s 0 (pos 0)) refl) (no_nan _ h)
  where
    no_nan : (y : Float) → T (finite y) → T (not (is_nan y))
    no_nan nan t = absurd t
    no_nan (inf u) t = absurd t
    no_nan (fin u m e) t = unfold is_nan in tt

pub zero_turns_nothing : (f : Format) (axis : Vector) (s : Bool) → rotation_in_range f (rotation_from_angle f axis (fin s 0 (pos 0))) ≡ true → TurnsNothing (rotation_from_angle f axis (fin s 0 (pos 0)))
unfolding rotation_from_angle scale_v sum_of_squares
zero_turns_nothing f axis s h =
    rw (half_of_zero f s, sine_of_zero f s, cosine_of_zero f s)
    (let sum = finite_of_add f _ _ (finite_of_band _ (rw (half_of_zero f s, sine_of_zero f s) at (rotation_says f _ h))) in
    let first = finite_of_add f _ _ sum.0 in
    let start = finite_of_add f _ _ first.0 in
    record {
      b = record {
        x = zero_part f axis.x s (finite_of_square f _ start.0);
        y = zero_part f axis.y s (finite_of_square f _ start.1);
        z = zero_part f axis.z s (finite_of_square f _ first.1);
      };
      w = refl;
    })

-- ---- wheel i keeps the controls k through a call that does not steer it
module _ (f : Format) (i : ℕ) (k : KeptControls) where
  pub record Keeps (t : List Float) (m : List ℕ) : Type 0 where
    pub used : i < count_of m
    pub controls : (wheel_at t i).controls ≡ k

  aimed_controls : (c : Chassis) (n : ℕ) (t : List Float) → length t ≡ at.SIZE → n ≤ at.WHEELS → i < n → (wheel_at (aimed_table f c n t) i).controls ≡ (wheel_at t i).controls
  unfolding aimed_table transforms transform_at update_wheel_transform
  aimed_controls c n t s l u =
      ap (λ (w : Wheel). w.controls) (wheel_each (transform_at f c.pose) n (put_chassis t c) (length_keep t c s) l i u ∙ ap (update_wheel_transform f c.pose) (wheel_stays t c i))

  stepped_controls : (up : ℕ) (r : Frame) (n : ℕ) (t : List Float) → length t ≡ at.SIZE → n ≤ at.WHEELS → i < n → (wheel_at (whole_step f stored up r n t).table i).controls ≡ (wheel_at t i).controls
  stepped_controls up r n t s l u =
      ap (λ (w : Wheel). w.controls) (wheel_stepped f stored r n l t s i u up) ∙ cast_keeps_controls f (wheel_at t i).settings.tuning (chassis_at t).body (r.answer i) (wheel_at t i)

  -- an accepted call that would steer it is none
  not_both : (a b : Bool) → not (a && b) ≡ true → b ≡ true → a ≡ false
  not_both true true h e = sym h
  not_both true false h e = absurd (true≢false (sym e))
  not_both false b h e = refl

  kept_by : (c : Call) (s : State) → Shape s.table s.whole → not (steers i c && accepted f c s) ≡ true → Keeps s.table s.whole → Keeps (run f c s).table (run f c s).whole
  unfolding run accepted answered steers set_up add_wheel set_controls aim_of drive_of drive_under refuse_drive read_wheel
  kept_by (SetUp up forward) s shape q h =
      settled_has Keeps _ _ _ s.table s.whole h
      (λ z. absurd (true≢false (not_both true _ q (eq-eqb _ 0 (settled_number _ _ _ s.table s.whole (λ number. number) refl refl ∙ z)))))
  kept_by (AddWheel settings) s shape q h =
      let n = count_of s.whole in
      let m = set s.whole at.COUNT (n + 1) in
      let count : count_of (marked m at.NEW) ≡ n + 1 = count_marked m (length-set s.whole at.COUNT (n + 1) ∙ shape.four) at.NEW ∙ count_counted s.whole shape.four (n + 1) in
      settled_has Keeps _ _ _ s.table s.whole h
      (λ z.
      let u = h.used in
      record {
        used = omega arith;
        controls = ap (λ (w : Wheel). w.controls) (wheel_other s.table n i (new_wheel settings) (λ e. omega arith) shape.sized (add_says s.table s.whole settings z).free) ∙ h.controls;
      })
  kept_by (SetControls j controls) s shape q h =
      settled_has Keeps _ _ _ s.table s.whole h
      (λ z.
      let other = not_both (eqb j i) _ q (eq-eqb _ 0 (settled_number _ _ _ s.table s.whole (λ number. number) refl refl ∙ z)) in
      let used = (set_controls_says f s.table s.whole j controls z).used in
      record {
        used = rw (unaimed_count s.whole shape.four) h.used;
        controls =
            ap (λ (w : Wheel). w.controls) (wheel_other s.table j i _ (λ e. eqb-false j i other (sym e)) shape.sized (let r = shape.room in omega arith))
            ∙ h.controls;
      })
  kept_by (Aim chassis) s shape q h =
      settled_has Keeps _ _ _ s.table s.whole h
      (λ z. record { used = rw (count_marked s.whole shape.four at.AIMED) h.used; controls = aimed_controls chassis (count_of s.whole) s.table shape.sized shape.room h.used ∙ h.controls })
  kept_by (Drive frame n) s shape q h =
      settled_has Keeps _ _ _ s.table s.whole h
      (λ z.
      let each = (drive_says f s.table s.whole frame n z).early.frame.each in
      let u = h.used in
      record {
        used = rw (count_marked s.whole shape.four at.DRIVEN) h.used;
        controls = stepped_controls _ frame n s.table shape.sized (let r = shape.room in omega arith) (omega arith) ∙ h.controls;
      })
  kept_by (ReadWheel j) s shape q h = settled_has Keeps _ _ _ s.table s.whole h (λ z. h)

  -- ---- a list of calls
  pub kept_by_all : (l : List Call) (s : State) → Shape s.table s.whole → none_steers f i l s ≡ true → Keeps s.table s.whole → Keeps (run_all f l s).table (run_all f l s).whole
  unfolding run_all run none_steers
  kept_by_all [] s _ q h = h
  kept_by_all (c ∷ l) s shape q h =
      let p = both_true _ _ q in
      kept_by_all l (run f c s) (left_by f c s shape).shape p.1 (kept_by c s shape p.0 h)

-- ---- controls that were accepted
controls_are : (f : Format) (t : List Float) (m : List ℕ) (i : ℕ) (c : Controls) → refuse_controls f t m i c ≡ 0 → set_controls f t m i c ≡ after 0 (put_wheel t i (with_controls (wheel_at t i) (kept_controls c))) (unaimed m)
unfolding set_controls
controls_are f t m i c z = sym (settled_done _ _ (λ number. number) _ _ t m refl z refl)

pub kept_by_controls : (f : Format) (i : ℕ) (c : Controls) (s : State) → accepted f (SetControls i c) s ≡ true → Keeps f i (kept_controls c) (run f (SetControls i c) s).table (run f (SetControls i c) s).whole
unfolding run accepted answered
kept_by_controls f i c s h =
    let z : refuse_controls f s.table s.whole i c ≡ 0 = sym (controls_number f s.table s.whole i c) ∙ eqb-true _ 0 h in
    let tested = set_controls_says f s.table s.whole i c z in
    subst (λ (x : After ℕ). Keeps f i (kept_controls c) x.table x.whole) (sym (controls_are f s.table s.whole i c z))
    (record {
      used = rw (unaimed_count s.whole tested.shape.four) tested.used;
      controls =
          ap (λ (w : Wheel). w.controls)
          (wheel_put s.table i (with_controls (wheel_at s.table i) (kept_controls c)) tested.shape.sized (let u = tested.used in let r = tested.shape.room in omega arith));
    })
  where
    controls_number : (f : Format) (t : List Float) (m : List ℕ) (i : ℕ) (c : Controls) → (set_controls f t m i c).reply ≡ refuse_controls f t m i c
    controls_number f t m i c = unfold set_controls in settled_number _ _ _ t m (λ number. number) refl refl

-- ---- so each of the two steerings is the one that was given last
pub steering_of_kept : (f : Format) (i : ℕ) (c : Controls) {t : List Float} {m : List ℕ} → Keeps f i (kept_controls c) t m → steering_of (wheel_at t i).controls.steering ≡ c.steering
unfolding kept_controls
steering_of_kept f i c h = ap (λ (k : KeptControls). steering_of k.steering) h.controls ∙ steering_kept c.steering
