-- Laws on the rows of the table. In order: lengths; what is put is got; other rows and the chassis stay. Assumes nothing.
use Prim.Native.Nat.{ℕ, ◌+◌, ◌*◌, ◌≤◌, ◌<◌}
use mathlib.Core.List.{List}
use mathlib.Core.Path.{◌≡◌, refl, ap, ◌∙◌}
use native.Mathlib.Omega.{arith}
use lib.ListN.{length}
use lib.Ieee.{Float}
use Rattle.lists.specs.Part.{part, paste}
use Rattle.lists.proofs.Parts.{length_paste, part_paste, part_after, row_same, row_other, head_kept}
use Rattle.body.specs.declared.Chassis.{Chassis}
use Rattle.wheel.specs.declared.Wheel.{Wheel}
use Rattle.table.specs.Layout as at
use Rattle.table.specs.Rows.{vector_at, rotation_at, inertia_at, info_at, place_at, tuning_at, settings_at, steering_at, controls_at, approach_at, motion_at, fallbacks_at, wheel_of, row_of, row_start, wheel_at, put_wheel, chassis_of, chassis_list, chassis_at, put_chassis}

-- ---- lengths
pub length_row : (w : Wheel) → length (row_of w) ≡ at.ROW
unfolding row_of
length_row w = refl

pub length_chassis : (c : Chassis) → length (chassis_list c) ≡ at.KEPT
unfolding chassis_list
length_chassis c = refl

-- a row of a wheel that the table has room for
fits : (t : List Float) (i : ℕ) → length t ≡ at.SIZE → i < at.WHEELS → row_start i + at.ROW ≤ length t
fits t i s l = omega arith

starts : (t : List Float) (i : ℕ) → length t ≡ at.SIZE → i < at.WHEELS → row_start i ≤ length t
starts t i s l = omega arith

pub length_put : (t : List Float) (i : ℕ) (w : Wheel) → length t ≡ at.SIZE → i < at.WHEELS → length (put_wheel t i w) ≡ at.SIZE
unfolding put_wheel
length_put t i w s l = length_paste t (row_start i) (row_of w) (rw (length_row w) (fits t i s l)) ∙ s

pub length_keep : (t : List Float) (c : Chassis) → length t ≡ at.SIZE → length (put_chassis t c) ≡ at.SIZE
unfolding put_chassis
length_keep t c s = length_paste t 0 (chassis_list c) (rw (length_chassis c) (omega arith)) ∙ s

-- ---- what is put is got
pub wheel_of_row : (w : Wheel) → wheel_of (row_of w) ≡ w
unfolding wheel_of row_of vector_at rotation_at info_at place_at settings_at tuning_at steering_at controls_at approach_at motion_at fallbacks_at
wheel_of_row w = refl

pub chassis_of_list : (c : Chassis) → chassis_of (chassis_list c) ≡ c
unfolding chassis_of chassis_list vector_at rotation_at inertia_at
chassis_of_list c = refl

pub wheel_put : (t : List Float) (i : ℕ) (w : Wheel) → length t ≡ at.SIZE → i < at.WHEELS → wheel_at (put_wheel t i w) i ≡ w
unfolding wheel_at put_wheel
wheel_put t i w s l = ap wheel_of (row_same t at.KEPT at.ROW i (row_of w) (length_row w) (starts t i s l)) ∙ wheel_of_row w

pub chassis_put : (t : List Float) (c : Chassis) → chassis_at (put_chassis t c) ≡ c
unfolding chassis_at put_chassis
chassis_put t c = ap chassis_of (rw (length_chassis c) at (part_paste t 0 (chassis_list c) (omega arith))) ∙ chassis_of_list c

-- ---- other rows and the chassis stay
pub wheel_other : (t : List Float) (i j : ℕ) (w : Wheel) → (j ≡ i → ⊥) → length t ≡ at.SIZE → i < at.WHEELS → wheel_at (put_wheel t i w) j ≡ wheel_at t j
unfolding wheel_at put_wheel
wheel_other t i j w ne s l = ap wheel_of (row_other t at.KEPT at.ROW i j (row_of w) (length_row w) ne (starts t i s l))

pub chassis_stays : (t : List Float) (i : ℕ) (w : Wheel) → length t ≡ at.SIZE → i < at.WHEELS → chassis_at (put_wheel t i w) ≡ chassis_at t
unfolding chassis_at put_wheel
chassis_stays t i w s l = ap chassis_of (head_kept t at.KEPT at.ROW i (row_of w) (starts t i s l))

pub wheel_stays : (t : List Float) (c : Chassis) (i : ℕ) → wheel_at (put_chassis t c) i ≡ wheel_at t i
unfolding wheel_at put_chassis
wheel_stays t c i = ap wheel_of (after (part_after t 0 (i * at.ROW) at.ROW (chassis_list c) (omega arith)))
  where
    after : part (paste t 0 (chassis_list c)) (0 + (length (chassis_list c) + i * at.ROW)) at.ROW ≡ part t (0 + (length (chassis_list c) + i * at.ROW)) at.ROW → part (paste t 0 (chassis_list c)) (row_start i) at.ROW ≡ part t (row_start i) at.ROW
    after h =
        let e : 0 + (length (chassis_list c) + i * at.ROW) ≡ row_start i = rw (length_chassis c) (omega arith) in
        rw e at h
