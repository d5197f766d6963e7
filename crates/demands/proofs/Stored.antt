-- Each used wheel stores the settings that an add handed in: what holds of those that every accepted add hands in holds of every used row. In order: what an aim and a drive leave of a wheel's settings; the count after controls; a row put; each call; a history. Assumes nothing.
use Prim.Native.Nat.{ℕ, ◌+◌, ◌≤◌, ◌<◌}
use mathlib.Core.Bool.{Bool, true, false}
use mathlib.Core.List.{List, [], ◌∷◌}
use mathlib.Core.Path.{◌≡◌, refl, sym, ap, subst, ◌∙◌}
use native.Mathlib.Omega.{arith}
use borrow.Author.Tests.{eqb-true, eqb-false, eq-eqb}
use lib.Dec.{eqb}
use lib.Ieee.{Float, Format}
use lib.ListN.{length, set, length-set}
use Rattle.lists.specs.Pick.{pick}
use Rattle.body.specs.declared.Chassis.{Chassis}
use Rattle.wheel.specs.declared.Settings.{Settings}
use Rattle.wheel.specs.declared.Wheel.{Wheel}
use Rattle.wheel.specs.Ray.{update_wheel_transform}
use Rattle.table.specs.Layout as at
use Rattle.table.specs.Rows.{wheel_at, put_wheel, chassis_at, put_chassis}
use Rattle.table.proofs.Laws.{length_keep, wheel_put, wheel_other, wheel_stays}
use Rattle.ground.specs.Frame.{Frame}
use Rattle.passes.specs.Passes.{stored, transforms, transform_at}
use Rattle.passes.specs.Step.{whole_step}
use Rattle.passes.proofs.Laws.{wheel_each}
use Rattle.refusals.specs.Shape.{count_of, mark_of}
use Rattle.refusals.specs.After.{marked}
use Rattle.refusals.proofs.Says.{Shape}
use Rattle.refusals.proofs.Settled.{settled_number}
use Rattle.set_up.specs.SetUp.{set_up}
use Rattle.add_wheel.specs.Add.{add_wheel, new_wheel}
use Rattle.add_wheel.proofs.Accepted.{add_says}
use Rattle.set_controls.specs.Controls.{set_controls, unaimed}
use Rattle.set_controls.proofs.Accepted.{set_controls_says}
use Rattle.read_wheel.specs.Read.{read_wheel}
use Rattle.aim.specs.Aim.{aim_of, aimed_table}
use Rattle.drive.specs.Drive.{drive_under, drive_of, refuse_drive}
use Rattle.drive.proofs.Accepted.{drive_says}
use Rattle.demands.specs.History.{State, Call, SetUp, AddWheel, SetControls, Aim, Drive, ReadWheel, answered, accepted, run, run_all}
use Rattle.demands.specs.Fixed.{AddHands, AddsHand}
use Rattle.demands.proofs.Shapes.{count_marked, count_counted}
use Rattle.demands.proofs.Marks.{settled_has, fresh, set_up_shape, set_up_leaves, left_by}
use Rattle.demands.proofs.Passed.{cast_keeps_settings, wheel_stepped}

-- ---- what an aim and a drive leave of a used wheel's settings
aimed_settings : (f : Format) (c : Chassis) (n : ℕ) (t : List Float) → length t ≡ at.SIZE → n ≤ at.WHEELS → (i : ℕ) → i < n → (wheel_at (aimed_table f c n t) i).settings ≡ (wheel_at t i).settings
unfolding aimed_table transforms transform_at update_wheel_transform
aimed_settings f c n t s l i u =
    ap (λ (w : Wheel). w.settings) (wheel_each (transform_at f c.pose) n (put_chassis t c) (length_keep t c s) l i u ∙ ap (update_wheel_transform f c.pose) (wheel_stays t c i))

stepped_settings : (f : Format) (up : ℕ) (r : Frame) (n : ℕ) (t : List Float) → length t ≡ at.SIZE → n ≤ at.WHEELS → (i : ℕ) → i < n → (wheel_at (whole_step f stored up r n t).table i).settings ≡ (wheel_at t i).settings
stepped_settings f up r n t s l i u =
    ap (λ (w : Wheel). w.settings) (wheel_stepped f stored r n l t s i u up) ∙ cast_keeps_settings f (wheel_at t i).settings.tuning (chassis_at t).body (r.answer i) (wheel_at t i)

-- ---- the whole numbers after controls
pub unaimed_count : (m : List ℕ) → length m ≡ at.WHOLE → count_of (unaimed m) ≡ count_of m
unfolding unaimed pick
unaimed_count m four = either (eqb (mark_of m) at.AIMED)
  where
    either : (b : Bool) → count_of (pick b (marked m at.NEW) m) ≡ count_of m
    either true = count_marked m four at.NEW
    either false = refl

module _ (P : Settings → Type 0) where
  abbrev Stored : List Float → List ℕ → Type 0
  Stored t m = (i : ℕ) → i < count_of m → P (wheel_at t i).settings

  -- ---- a row put
  put_has : (t : List Float) (j : ℕ) (w : Wheel) → length t ≡ at.SIZE → j < at.WHEELS → P w.settings → (i : ℕ) → ((i ≡ j → ⊥) → P (wheel_at t i).settings) → P (wheel_at (put_wheel t j w) i).settings
  put_has t j w s l own i others = either (eqb i j) refl
    where
      either : (b : Bool) → eqb i j ≡ b → P (wheel_at (put_wheel t j w) i).settings
      either true e = rw (eqb-true i j e, wheel_put t j w s l) own
      either false e = rw (wheel_other t j i w (eqb-false i j e) s l) (others (eqb-false i j e))

  module _ (f : Format) where
    -- ---- each call
    stored_by : (c : Call) (s : State) → Shape s.table s.whole → (accepted f c s ≡ true → AddHands P c) → Stored s.table s.whole → Stored (run f c s).table (run f c s).whole
    unfolding run accepted answered AddHands set_up add_wheel new_wheel set_controls aim_of drive_of drive_under refuse_drive read_wheel
    stored_by (SetUp up forward) s shape k h = settled_has Stored _ _ _ s.table s.whole h (λ z i u. absurd (omega arith))
    stored_by (AddWheel settings) s shape k h =
        let n = count_of s.whole in
        let m = set s.whole at.COUNT (n + 1) in
        let count : count_of (marked m at.NEW) ≡ n + 1 = count_marked m (length-set s.whole at.COUNT (n + 1) ∙ shape.four) at.NEW ∙ count_counted s.whole shape.four (n + 1) in
        settled_has Stored _ _ _ s.table s.whole h
        (λ z i u.
        let own = k (eq-eqb _ 0 (settled_number _ _ _ s.table s.whole (λ number. number) refl refl ∙ z)) in
        put_has s.table n (new_wheel settings) shape.sized (add_says s.table s.whole settings z).free own i (λ ne. h i (omega arith)))
    stored_by (SetControls j controls) s shape k h =
        settled_has Stored _ _ _ s.table s.whole h
        (λ z i u.
        let used = (set_controls_says f s.table s.whole j controls z).used in
        let v : i < count_of s.whole = rw (unaimed_count s.whole shape.four) at u in
        put_has s.table j _ shape.sized (let r = shape.room in omega arith) (h j used) i (λ ne. h i v))
    stored_by (Aim chassis) s shape k h =
        settled_has Stored _ _ _ s.table s.whole h
        (λ z i u.
        let v : i < count_of s.whole = rw (count_marked s.whole shape.four at.AIMED) at u in
        rw (aimed_settings f chassis (count_of s.whole) s.table shape.sized shape.room i v) (h i v))
    stored_by (Drive frame n) s shape k h =
        settled_has Stored _ _ _ s.table s.whole h
        (λ z i u.
        let each = (drive_says f s.table s.whole frame n z).early.frame.each in
        let v : i < count_of s.whole = rw (count_marked s.whole shape.four at.DRIVEN) at u in
        rw (stepped_settings f _ frame n s.table shape.sized (let r = shape.room in omega arith) i (omega arith)) (h i v))
    stored_by (ReadWheel i) s shape k h = settled_has Stored _ _ _ s.table s.whole h (λ z. h)

    -- ---- a history from an accepted set-up, of whatever was lent
    stored_by_all : (l : List Call) (s : State) → Shape s.table s.whole → AddsHand f P l s → Stored s.table s.whole → Stored (run_all f l s).table (run_all f l s).whole
    unfolding run_all run AddsHand
    stored_by_all [] s shape k h = h
    stored_by_all (c ∷ l) s shape k h = stored_by_all l (run f c s) (left_by f c s shape).shape k.1 (stored_by c s shape k.0 h)

    pub stored_from_set_up : (lent : State) (up forward : ℕ) (l : List Call) → accepted f (SetUp up forward) lent ≡ true → AddsHand f P l (run f (SetUp up forward) lent)
        → Stored (run_all f (SetUp up forward ∷ l) lent).table (run_all f (SetUp up forward ∷ l) lent).whole
    unfolding run_all
    stored_from_set_up lent up forward l a k =
        let start = set_up_leaves f lent up forward a in
        subst (λ (s : State). Stored (run_all f l s).table (run_all f l s).whole) (sym start.0) (stored_by_all l (fresh up forward) (set_up_shape up forward start.1) (subst (AddsHand f P l) start.0 k) (λ i u. absurd (omega arith)))
