-- An aim and a drive as one update. In order: the engine forces that a drive reads are those from before the aim; an aim with the drive after it; a drive of a table whose wheels are placed. Assumes nothing.
use Prim.Native.Nat.{ℕ, zero, suc, ◌+◌, ◌≤◌, ◌<◌}
use mathlib.Core.Bool.{Bool, not}
use mathlib.Core.List.{List}
use mathlib.Core.Path.{◌≡◌, refl, sym, ap, ◌∙◌}
use native.Mathlib.Omega.{arith}
use lib.Ieee.{Float, Format, lt}
use lib.ListN.{length}
use lib.Seq.{set-set}
use Rattle.lists.specs.Counted.{every}
use Rattle.real.specs.Number as real
use Rattle.body.specs.declared.Chassis.{Chassis}
use Rattle.wheel.specs.declared.Wheel.{Wheel}
use Rattle.wheel.specs.Ray.{update_wheel_transform}
use Rattle.table.specs.Layout as at
use Rattle.table.specs.Rows.{chassis_at, put_chassis}
use Rattle.table.proofs.Laws.{length_keep, wheel_stays}
use Rattle.ground.specs.Frame.{Frame}
use Rattle.passes.specs.Passes.{stored, transforms, transform_at}
use Rattle.passes.specs.Step.{whole_step}
use Rattle.passes.proofs.Laws.{wheel_each}
use Rattle.refusals.specs.Shape.{count_of, up_of, forward_of}
use Rattle.refusals.specs.After.{After, after, marked}
use Rattle.refusals.proofs.Settled.{settled_done}
use Rattle.aim.specs.Aim.{AimReply, aim_of, refuse_aim, not_aimed, aimed_by, aimed_table}
use Rattle.aim.proofs.Accepted.{aim_says}
use Rattle.drive.specs.Drive.{drive_under, drive_of, refuse_drive, not_driven, driven_by, idle_at, wakes}
use Rattle.drive.proofs.Accepted.{drive_says}
use Rattle.demands.specs.Update.{update_of, updated}
use Rattle.demands.proofs.Shapes.{count_marked, up_marked}
use Rattle.demands.proofs.Transforms.{PlacedIfAimed, placed_again}

-- ---- the engine forces
every_same : (p q : ℕ → Bool) (k i : ℕ) → ((j : ℕ) → i ≤ j → j < i + k → p j ≡ q j) → every p k i ≡ every q k i
unfolding every
every_same p q zero i h = refl
every_same p q (suc k) i h = rw (h i (omega arith) (omega arith), every_same p q k (suc i) (λ j a b. h j (omega arith) (omega arith)))

wakes_aimed : (f : Format) (c : Chassis) (n : ℕ) (t : List Float) → length t ≡ at.SIZE → n ≤ at.WHEELS → wakes (aimed_table f c n t) n ≡ wakes t n
unfolding wakes idle_at aimed_table transforms transform_at update_wheel_transform
wakes_aimed f c n t s l =
    ap not (every_same _ _ n 0 (λ j a b.
    ap (λ (w : Wheel). not (lt real.zero w.controls.engine)) (wheel_each (transform_at f c.pose) n (put_chassis t c) (length_keep t c s) l j (omega arith))
    ∙ ap (λ (w : Wheel). not (lt real.zero w.controls.engine)) (wheel_stays t c j)))

-- ---- an accepted drive, and an accepted aim
pub driven_is : (f : Format) (t : List Float) (m : List ℕ) (r : Frame) (n : ℕ) → refuse_drive f t m r n ≡ 0
    → drive_of f t m r n ≡ after (driven_by t n (whole_step f stored (up_of m) r n t)) (whole_step f stored (up_of m) r n t).table (marked m at.DRIVEN)
unfolding drive_of drive_under refuse_drive
driven_is f t m r n h = sym (settled_done _ _ not_driven _ _ t m refl h refl)

pub aimed_is : (f : Format) (t : List Float) (m : List ℕ) (c : Chassis) → refuse_aim f t m c ≡ 0
    → aim_of f t m c ≡ after (aimed_by f (forward_of m) c (count_of m) (aimed_table f c (count_of m) t)) (aimed_table f c (count_of m) t) (marked m at.AIMED)
unfolding aim_of
aimed_is f t m c p = sym (settled_done _ _ not_aimed _ _ t m refl p refl)

module _ (f : Format) (t : List Float) (m : List ℕ) where
  -- a drive of a table whose wheels are placed under its kept chassis
  pub update_of_placed : (r : Frame) (n : ℕ) → PlacedIfAimed f t m → refuse_drive f t m r n ≡ 0 → drive_of f t m r n ≡ updated f m (chassis_at t) r n t
  unfolding updated update_of
  update_of_placed r n placed h =
      let a = (drive_says f t m r n h).early.frame in
      let same = placed_again f t n a.shape.sized (let e = a.each in let l = a.shape.room in omega arith) (rw a.each (placed a.aimed)) in
      driven_is f t m r n h
      ∙ ap (λ (x : List Float). after (driven_by t n (whole_step f stored (up_of m) r n x)) (whole_step f stored (up_of m) r n x).table (marked m at.DRIVEN)) (sym same)

  module _ (c : Chassis) (r : Frame) (n : ℕ) (p : refuse_aim f t m c ≡ 0) where
    pub update_speed : (aim_of f t m c).reply.speed ≡ (update_of f (up_of m) (forward_of m) c r n t).speed
    unfolding update_of aimed_by
    update_speed = ap (λ (x : After AimReply). x.reply.speed) (aimed_is f t m c p)

    aimed_driven_lem : refuse_drive f (aimed_table f c (count_of m) t) (marked m at.AIMED) r n ≡ 0 → drive_of f (aimed_table f c (count_of m) t) (marked m at.AIMED) r n ≡ updated f m c r n t
    unfolding updated update_of driven_by aimed_table
    aimed_driven_lem q =
        let a = (aim_says f t m c p).shape in
        let e : n ≡ count_of m = (drive_says f (aimed_table f c (count_of m) t) (marked m at.AIMED) r n q).early.frame.each ∙ count_marked m a.four at.AIMED in
        let w : wakes (aimed_table f c (count_of m) t) (count_of m) ≡ wakes t (count_of m) = wakes_aimed f c (count_of m) t a.sized a.room in
        rw (e, ← set-set m at.MARK at.AIMED at.DRIVEN, ← up_marked m a.four at.AIMED, ← w) (rw e at (driven_is f (aimed_table f c (count_of m) t) (marked m at.AIMED) r n q))

    pub update_driven : refuse_drive f (aim_of f t m c).table (aim_of f t m c).whole r n ≡ 0 → drive_of f (aim_of f t m c).table (aim_of f t m c).whole r n ≡ updated f m c r n t
    update_driven q = let e = aimed_is f t m c p in rw e (aimed_driven_lem (rw e at q))
