-- In a table our calls wrote, with the mark aimed, rule 1's transforms are those of the kept chassis. In order: rule 1 twice is rule 1; a row and the chassis put back as they were; an aimed table aimed again;
-- what each call and a history leave. Assumes nothing.
use Prim.Native.Nat.{ℕ, zero, suc, ◌+◌, ◌≤◌, ◌<◌}
use mathlib.Core.Bool.{Bool, true, false}
use mathlib.Core.List.{List, [], ◌∷◌, ◌++◌}
use mathlib.Core.Path.{◌≡◌, refl, sym, ap, subst, ◌∙◌}
use native.Mathlib.Omega.{arith}
use borrow.Author.Tests.{eqb-false}
use lib.Dec.{eqb}
use lib.Ieee.{Float, Format, nan}
use lib.ListN.{length, set, take, drop, length-set, take-append-drop}
use lib.Seq.{drop-cons, take_all}
use Rattle.lists.specs.Pick.{pick}
use Rattle.lists.specs.Part.{part, paste}
use Rattle.lists.specs.Counted.{iter, listed}
use Rattle.lists.proofs.Parts.{length_part}
use Rattle.lists.proofs.Turns.{iter_keeps}
use Rattle.vector.specs.declared.Pose.{Pose}
use Rattle.body.specs.declared.Chassis.{Chassis}
use Rattle.wheel.specs.declared.Wheel.{Wheel}
use Rattle.wheel.specs.Ray.{update_wheel_transform}
use Rattle.table.specs.Layout as at
use Rattle.table.specs.Rows.{number_at, vector_at, rotation_at, inertia_at, info_at, place_at, settings_at, tuning_at, steering_at, controls_at, approach_at, motion_at, fallbacks_at, wheel_of, row_of, row_start, wheel_at, put_wheel, chassis_of, chassis_list, chassis_at, put_chassis}
use Rattle.table.proofs.Laws.{length_keep, chassis_put}
use Rattle.passes.specs.Passes.{changed, each_wheel, transform_at, transforms}
use Rattle.passes.proofs.Laws.{chassis_each, wheel_each}
use Rattle.refusals.specs.Shape.{count_of, mark_of}
use Rattle.refusals.specs.After.{marked}
use Rattle.refusals.proofs.Says.{Shape}
use Rattle.set_up.specs.SetUp.{set_up}
use Rattle.add_wheel.specs.Add.{add_wheel}
use Rattle.set_controls.specs.Controls.{set_controls, unaimed}
use Rattle.read_wheel.specs.Read.{read_wheel}
use Rattle.aim.specs.Aim.{aim_of, aimed_table}
use Rattle.drive.specs.Drive.{drive_under, drive_of}
use Rattle.demands.specs.History.{State, Call, SetUp, AddWheel, SetControls, Aim, Drive, ReadWheel, answered, accepted, run, run_all}
use Rattle.demands.specs.Update.{Placed}
use Rattle.demands.proofs.Shapes.{mark_marked, count_marked}
use Rattle.demands.proofs.Marks.{settled_has, fresh, set_up_shape, set_up_leaves, left_by}

-- ---- rule 1 of a wheel that has had it
transform_twice : (f : Format) (pose : Pose) (w : Wheel) → update_wheel_transform f pose (update_wheel_transform f pose w) ≡ update_wheel_transform f pose w
unfolding update_wheel_transform
transform_twice f pose w = refl

-- ---- a list as its numbers; a row and the chassis put back
listed_is_part : (l : List Float) (k a : ℕ) → a + k ≤ length l → listed (number_at l) k a ≡ part l a k
unfolding listed part
listed_is_part l zero a h = refl
listed_is_part l (suc k) a h = rw (drop-cons l a nan (omega arith)) (ap (λ (r : List Float). number_at l a ∷ r) (listed_is_part l k (suc a) (omega arith)))

part_whole : (l : List Float) (k : ℕ) → length l ≡ k → part l 0 k ≡ l
unfolding part
part_whole l k e = take_all k l (omega arith)

listed_is_all : (l : List Float) (k : ℕ) → length l ≡ k → listed (number_at l) k 0 ≡ l
listed_is_all l k e = listed_is_part l k 0 (omega arith) ∙ part_whole l k e

row_of_wheel : (r : List Float) → length r ≡ at.ROW → row_of (wheel_of r) ≡ r
unfolding listed row_of wheel_of info_at place_at settings_at tuning_at steering_at controls_at approach_at motion_at fallbacks_at vector_at rotation_at
row_of_wheel r e = listed_is_all r at.ROW e

list_of_chassis : (l : List Float) → length l ≡ at.KEPT → chassis_list (chassis_of l) ≡ l
unfolding listed chassis_list chassis_of vector_at rotation_at inertia_at
list_of_chassis l e = listed_is_all l at.KEPT e

paste_back : (t : List Float) (a k : ℕ) → length (part t a k) ≡ k → paste t a (part t a k) ≡ t
unfolding paste part
paste_back t a k e = rw e (ap (λ (r : List Float). take a t ++ r) (take-append-drop k (drop a t)) ∙ take-append-drop a t)

paste_part : (t : List Float) (a k : ℕ) → a + k ≤ length t → paste t a (part t a k) ≡ t
paste_part t a k h = paste_back t a k (length_part t a k h)

wheel_back : (t : List Float) (i : ℕ) → length t ≡ at.SIZE → i < at.WHEELS → put_wheel t i (wheel_at t i) ≡ t
unfolding put_wheel wheel_at
wheel_back t i s l =
    ap (paste t (row_start i)) (row_of_wheel (part t (row_start i) at.ROW) (length_part t (row_start i) at.ROW (omega arith))) ∙ paste_part t (row_start i) at.ROW (omega arith)

chassis_back : (t : List Float) → length t ≡ at.SIZE → put_chassis t (chassis_at t) ≡ t
unfolding put_chassis chassis_at
chassis_back t s = ap (paste t 0) (list_of_chassis (part t 0 at.KEPT) (length_part t 0 at.KEPT (omega arith))) ∙ paste_part t 0 at.KEPT (omega arith)

-- ---- the first n wheels of a table are placed under its kept chassis
abbrev pub AllPlaced : Format → List Float → ℕ → Type 0
AllPlaced f t n = (i : ℕ) → i < n → Placed f t i

pub placed_by_aim : (f : Format) (c : Chassis) (n : ℕ) (t : List Float) → length t ≡ at.SIZE → n ≤ at.WHEELS → AllPlaced f (aimed_table f c n t) n
unfolding aimed_table transforms transform_at
placed_by_aim f c n t s l i u =
    let t' = put_chassis t c in
    let s' = length_keep t c s in
    let kept : chassis_at (each_wheel (transform_at f c.pose) n t') ≡ c = chassis_each _ n t' s' l ∙ chassis_put t c in
    let own : wheel_at (each_wheel (transform_at f c.pose) n t') i ≡ update_wheel_transform f c.pose (wheel_at t' i) = wheel_each _ n t' s' l i u in
    own ∙ sym (transform_twice f c.pose (wheel_at t' i))
    ∙ ap (update_wheel_transform f c.pose) (sym own)
    ∙ ap (λ (x : Chassis). update_wheel_transform f x.pose (wheel_at (each_wheel (transform_at f c.pose) n t') i)) (sym kept)

-- so that rule 1 under the kept chassis leaves the table as it is
pub placed_again : (f : Format) (t : List Float) (n : ℕ) → length t ≡ at.SIZE → n ≤ at.WHEELS → AllPlaced f t n → transforms f (chassis_at t).pose n (put_chassis t (chassis_at t)) ≡ t
unfolding transforms transform_at each_wheel changed
placed_again f t n s l p =
    ap (iter (changed (transform_at f (chassis_at t).pose)) n 0) (chassis_back t s)
    ∙ iter_keeps (changed (transform_at f (chassis_at t).pose)) (λ (x : List Float). x ≡ t) n
    (λ i x u e. rw e (ap (put_wheel t i) (sym (p i u)) ∙ wheel_back t i s (omega arith))) n 0 t (omega arith) refl

-- ---- a state whose wheels are placed if its mark is aimed
abbrev pub PlacedIfAimed : Format → List Float → List ℕ → Type 0
PlacedIfAimed f t m = mark_of m ≡ at.AIMED → AllPlaced f t (count_of m)

not_aimed_lem : (f : Format) (t : List Float) (m : List ℕ) (mark : ℕ) → mark_of m ≡ mark → (mark ≡ at.AIMED → ⊥) → PlacedIfAimed f t m
not_aimed_lem f t m mark e ne h = absurd (ne (sym e ∙ h))

unaimed_placed : (f : Format) (t : List Float) (m : List ℕ) → length m ≡ at.WHOLE → PlacedIfAimed f t (unaimed m)
unfolding unaimed pick
unaimed_placed f t m four = either (eqb (mark_of m) at.AIMED) refl
  where
    either : (b : Bool) → eqb (mark_of m) at.AIMED ≡ b → PlacedIfAimed f t (pick b (marked m at.NEW) m)
    either true e = not_aimed_lem f t (marked m at.NEW) at.NEW (mark_marked m four at.NEW) (λ k. omega arith)
    either false e = not_aimed_lem f t m (mark_of m) refl (eqb-false (mark_of m) at.AIMED e)

-- ---- each call
placed_by : (f : Format) (c : Call) (s : State) → Shape s.table s.whole → PlacedIfAimed f s.table s.whole → PlacedIfAimed f (run f c s).table (run f c s).whole
unfolding run answered set_up add_wheel set_controls aim_of drive_of drive_under read_wheel
placed_by f (SetUp up forward) s shape h = settled_has (PlacedIfAimed f) _ _ _ s.table s.whole h (λ z. not_aimed_lem f (fresh up forward).table (fresh up forward).whole at.NEW refl (λ k. omega arith))
placed_by f (AddWheel settings) s shape h =
    let m = set s.whole at.COUNT (count_of s.whole + 1) in
    settled_has (PlacedIfAimed f) _ _ _ s.table s.whole h (λ z. not_aimed_lem f _ (marked m at.NEW) at.NEW (mark_marked m (length-set s.whole at.COUNT _ ∙ shape.four) at.NEW) (λ k. omega arith))
placed_by f (SetControls i controls) s shape h = settled_has (PlacedIfAimed f) _ _ _ s.table s.whole h (λ z. unaimed_placed f _ s.whole shape.four)
placed_by f (Aim chassis) s shape h =
    settled_has (PlacedIfAimed f) _ _ _ s.table s.whole h (λ z e. rw (count_marked s.whole shape.four at.AIMED) (placed_by_aim f chassis (count_of s.whole) s.table shape.sized shape.room))
placed_by f (Drive frame n) s shape h = settled_has (PlacedIfAimed f) _ _ _ s.table s.whole h (λ z. not_aimed_lem f _ (marked s.whole at.DRIVEN) at.DRIVEN (mark_marked s.whole shape.four at.DRIVEN) (λ k. omega arith))
placed_by f (ReadWheel i) s shape h = settled_has (PlacedIfAimed f) _ _ _ s.table s.whole h (λ z. h)

-- ---- a history from an accepted set-up, of whatever was lent
placed_by_all : (f : Format) (l : List Call) (s : State) → Shape s.table s.whole → PlacedIfAimed f s.table s.whole → PlacedIfAimed f (run_all f l s).table (run_all f l s).whole
unfolding run_all run
placed_by_all f [] s shape h = h
placed_by_all f (c ∷ l) s shape h = placed_by_all f l (run f c s) (left_by f c s shape).shape (placed_by f c s shape h)

pub placed_from_set_up : (f : Format) (lent : State) (up forward : ℕ) (l : List Call) → accepted f (SetUp up forward) lent ≡ true
    → PlacedIfAimed f (run_all f (SetUp up forward ∷ l) lent).table (run_all f (SetUp up forward ∷ l) lent).whole
unfolding run_all
placed_from_set_up f lent up forward l a =
    let start = set_up_leaves f lent up forward a in
    let s = fresh up forward in
    subst (λ (x : State). PlacedIfAimed f (run_all f l x).table (run_all f l x).whole) (sym start.0)
    (placed_by_all f l s (set_up_shape up forward start.1) (not_aimed_lem f s.table s.whole at.NEW refl (λ k. omega arith)))
