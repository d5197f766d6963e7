-- Laws on a row in which some numbers are written. In order: a list by its elements; a row written is the row of the wheel written, in general; each part and each group of numbers, where the row is
-- spelled out; one writing after another; a row of a table, as it is lent and as it comes back. Assumes nothing.
use Prim.Native.Nat.{ℕ, suc, ◌+◌, ◌-◌}
use mathlib.Core.List.{List, [], ◌∷◌, ◌++◌}
use mathlib.Core.Path.{◌≡◌, refl, sym, ap, ◌∙◌}
use native.Mathlib.Omega.{arith}
use lib.ListN.{length, get_or, set, take, drop}
use lib.Ieee.{Float, nan}
use Rattle.lists.specs.Counted.{listed}
use Rattle.lists.specs.Part.{part}
use Rattle.lists.proofs.Parts.{part_is, paste_is}
use Rattle.tyre.specs.declared.Approach.{Approach}
use Rattle.tyre.specs.declared.Friction.{Friction}
use Rattle.wheel.specs.declared.RayCastInfo.{RayCastInfo}
use Rattle.wheel.specs.declared.Place.{Place}
use Rattle.wheel.specs.declared.Settings.{Settings}
use Rattle.wheel.specs.declared.KeptControls.{KeptControls}
use Rattle.wheel.specs.declared.Motion.{Motion}
use Rattle.wheel.specs.declared.Fallbacks.{Fallbacks}
use Rattle.wheel.specs.declared.Wheel.{Wheel}
use Rattle.wheel.specs.Parts.{with_info, with_place, with_settings, with_controls, with_approach, with_motion, with_fallbacks, with_force, with_friction, with_rotation}
use Rattle.table.specs.Layout as at
use Rattle.table.specs.Rows.{vector_at, rotation_at, info_at, info_list, place_at, place_list, tuning_at, settings_at, settings_list, steering_at, controls_at, controls_list, approach_at, approach_list, motion_at, motion_list, fallbacks_at, fallbacks_list, wheel_of, row_of, row_start, wheel_at, put_wheel}
use Rattle.table.proofs.Laws.{length_row, wheel_of_row}

-- ---- a list is the list of its elements
module _ {A : Type 0} (d : A) where
  listed_from : (l : List A) (f : ℕ → A) (i : ℕ) → ((j : ℕ) → f (i + j) ≡ get_or l j d) → listed f (length l) i ≡ l
  unfolding listed
  listed_from [] f i h = refl
  listed_from (x ∷ l) f i h =
      let here : i ≡ i + 0 = omega arith in
      ap (λ (y : A). y ∷ listed f (length l) (suc i)) (ap f here ∙ h 0)
      ∙ ap (λ (r : List A). x ∷ r) (listed_from l f (suc i) (λ j. let there : suc i + j ≡ i + suc j = omega arith in ap f there ∙ h (suc j)))

  pub listed_all : (l : List A) → l ≡ listed (λ i. get_or l i d) (length l) 0
  listed_all l = sym (listed_from l (λ i. get_or l i d) 0 (λ j. let there : 0 + j ≡ j = omega arith in ap (λ (k : ℕ). get_or l k d) there))

-- ---- `over` writes into a row what `new` changes of a wheel, if it does so where the row is spelled out
pub record Writes (over : List Float → List Float) (new : Wheel → Wheel) : Type 0 where
  pub spelled : (g : ℕ → Float) → over (listed g at.ROW 0) ≡ row_of (new (wheel_of (listed g at.ROW 0)))

pub row_written : {over : List Float → List Float} {new : Wheel → Wheel} → Writes over new → (r : List Float) → length r ≡ at.ROW → over r ≡ row_of (new (wheel_of r))
row_written {over} {new} h r n =
    let all : r ≡ listed (λ i. get_or r i nan) at.ROW 0 = listed_all nan r ∙ ap (λ (k : ℕ). listed (λ i. get_or r i nan) k 0) n in
    ap over all ∙ h.spelled (λ i. get_or r i nan) ∙ ap (λ (l : List Float). row_of (new (wheel_of l))) (sym all)

-- the same where the numbers from a to e came back as xs
abbrev over : ℕ → ℕ → List Float → List Float → List Float
over a e ys r = take a r ++ (ys ++ drop (e - a) (drop a r))

pub record WritesPart (a e : ℕ) (xs : List Float) (new : Wheel → Wheel) : Type 0 where
  pub whole : Writes (over a e xs) new

pub part_written : {a e : ℕ} {xs : List Float} {new : Wheel → Wheel} → WritesPart a e xs new → (r ys : List Float) → length r ≡ at.ROW → ys ≡ xs
    → over a e ys r ≡ row_of (new (wheel_of r))
part_written {a} {e} h r ys n k = ap (λ (l : List Float). over a e l r) k ∙ row_written h.whole r n

-- ---- each part, and the narrower groups of numbers
abbrev friction_over : Friction → List Float → List Float
friction_over d r = set (set (set r (at.MOTION-AT + at.FORWARD-IMPULSE) d.forward) (at.MOTION-AT + at.SIDE-IMPULSE) d.side) (at.MOTION-AT + at.SKID) d.skid

pub record AllWrites : Type 0 where
  pub info : (i : RayCastInfo) → WritesPart at.INFO-AT at.PLACE-AT (info_list i) (λ w. with_info w i)
  pub place : (p : Place) → WritesPart at.PLACE-AT at.SETTINGS-AT (place_list p) (λ w. with_place w p)
  pub settings : (s : Settings) → WritesPart at.SETTINGS-AT at.CONTROLS-AT (settings_list s) (λ w. with_settings w s)
  pub controls : (c : KeptControls) → WritesPart at.CONTROLS-AT at.APPROACH-AT (controls_list c) (λ w. with_controls w c)
  pub approach : (a : Approach) → WritesPart at.APPROACH-AT at.MOTION-AT (approach_list a) (λ w. with_approach w a)
  pub motion : (m : Motion) → WritesPart at.MOTION-AT at.FALLBACKS-AT (motion_list m) (λ w. with_motion w m)
  pub fallbacks : (b : Fallbacks) → WritesPart at.FALLBACKS-AT at.ROW (fallbacks_list b) (λ w. with_fallbacks w b)
  pub force : (x : Float) → Writes (λ r. set r (at.MOTION-AT + at.FORCE) x) (λ w. with_force w x)
  pub friction : (d : Friction) → Writes (friction_over d) (λ w. with_friction w d)
  pub rotation : (x y : Float) → Writes (λ r. set (set r (at.MOTION-AT + at.ROTATION) x) (at.MOTION-AT + at.SPIN) y) (λ w. with_rotation w x y)

pub writes : AllWrites
unfolding listed row_of wheel_of vector_at rotation_at info_at place_at settings_at tuning_at steering_at controls_at approach_at motion_at fallbacks_at
writes = record {
  info = λ i. record { whole = record { spelled = λ g. refl } };
  place = λ p. record { whole = record { spelled = λ g. refl } };
  settings = λ s. record { whole = record { spelled = λ g. refl } };
  controls = λ c. record { whole = record { spelled = λ g. refl } };
  approach = λ a. record { whole = record { spelled = λ g. refl } };
  motion = λ m. record { whole = record { spelled = λ g. refl } };
  fallbacks = λ b. record { whole = record { spelled = λ g. refl } };
  force = λ x. record { spelled = λ g. refl };
  friction = λ d. record { spelled = λ g. refl };
  rotation = λ x y. record { spelled = λ g. refl };
}

-- what is written after a row of a wheel is written into that wheel
pub written_after : (new : Wheel → Wheel) (r s : List Float) (w : Wheel) → r ≡ row_of (new (wheel_of s)) → s ≡ row_of w → r ≡ row_of (new w)
written_after new r s w e h = e ∙ ap (λ (v : Wheel). row_of (new v)) (ap wheel_of h ∙ wheel_of_row w)

-- ---- the row of wheel i of a table, lent from a on: as it is lent, and the table once it is back
pub row_lent : (t : List Float) (a i : ℕ) → a ≡ row_start i → take ((a + at.ROW) - a) (drop a t) ≡ part t (row_start i) at.ROW
row_lent t a i s = rw s (part_is t (row_start i) at.ROW)

pub put_written : (new : Wheel → Wheel) (t ys : List Float) (a i : ℕ) → a ≡ row_start i → ys ≡ row_of (new (wheel_of (take ((a + at.ROW) - a) (drop a t))))
    → take a t ++ (ys ++ drop ((a + at.ROW) - a) (drop a t)) ≡ put_wheel t i (new (wheel_at t i))
unfolding put_wheel wheel_at
put_written new t ys a i s e =
    let row : ys ≡ row_of (new (wheel_of (part t (row_start i) at.ROW))) = e ∙ ap (λ (r : List Float). row_of (new (wheel_of r))) (row_lent t a i s) in
    rw s (paste_is t ys _ (row_start i) at.ROW row (sym (length_row (new (wheel_of (part t (row_start i) at.ROW))))))
