-- The two centres that a read gives after an accepted drive. In order: what a cast keeps, and the length that it gives; rule 1's centre; when a read is accepted, and what it is then; the centre after an aim; a wheel of an accepted drive, and that
-- it can be read; the same where its transforms are those of the kept chassis, and the aim after it. Assumes nothing.
use Prim.Native.Nat.{ℕ, ◌<◌}
use mathlib.Core.Bool.{true}
use mathlib.Core.List.{List}
use mathlib.Core.Path.{◌≡◌, refl, sym, ap, ◌∙◌}
use native.Mathlib.Omega.{arith}
use borrow.Author.Tests.{lt-ltb, eq-eqb}
use lib.ListN.{length}
use lib.Ieee.{Float, Format}
use Rattle.lists.specs.Pick.{pick}
use Rattle.lists.specs.Refusal.{first_failed}
use Rattle.vector.specs.declared.Pose.{Pose}
use Rattle.body.specs.declared.Body.{Body}
use Rattle.body.specs.declared.Chassis.{Chassis}
use Rattle.wheel.specs.declared.Wheel.{Wheel}
use Rattle.wheel.specs.declared.RayAnswer.{RayAnswer}
use Rattle.wheel.specs.declared.RayAnswer.TheVariants.{Nothing, Hit, HitUp}
use Rattle.wheel.specs.Parts.{with_motion, with_fallbacks}
use Rattle.wheel.specs.Ray.{centre_of, settled_centre, update_wheel_transform, ray_cast, hit_of, miss_of}
use Rattle.table.specs.Layout as at
use Rattle.table.specs.Rows.{wheel_at, chassis_at, put_chassis}
use Rattle.table.specs.Bounds.{stored_within}
use Rattle.table.proofs.Laws.{length_keep, wheel_stays}
use Rattle.ground.specs.Frame.{grounded_at}
use Rattle.passes.specs.Passes.{stored, transforms, transform_at}
use Rattle.passes.specs.Step.{whole_step}
use Rattle.passes.proofs.Laws.{wheel_each}
use Rattle.refusals.specs.Shape.{count_of, mark_of, up_of}
use Rattle.refusals.specs.After.{After, after, marked}
use Rattle.refusals.proofs.Says.{Shape}
use Rattle.refusals.proofs.Settled.{settled_done}
use Rattle.read_wheel.specs.Read.{refuse_read, not_read, reading_of, read_wheel}
use Rattle.aim.specs.Aim.{AimReply, aim_of, refuse_aim, aimed_table}
use Rattle.aim.proofs.Accepted.{aim_says}
use Rattle.drive.specs.Drive.{drive_of}
use Rattle.demands.specs.Update.{Placed}
use Rattle.demands.specs.Impulses.{Step, Accepted, stored_wheel, driven_wheel}
use Rattle.demands.specs.Settled.{after_drive, read_after_drive, length_by, drive_length, with_length, centre_under}
use Rattle.demands.proofs.Shapes.{shape_ok_lem, shape_other_table, shape_marked, mark_marked, count_marked}
use Rattle.demands.proofs.Sizes.{length_whole_step}
use Rattle.demands.proofs.Updates.{driven_is, aimed_is}
use Rattle.demands.proofs.Passed.{wheel_stepped}
use Rattle.demands.proofs.Impulses.{tests, room, driven_table, fallbacks_at}

-- ---- one wheel: rules 3 to 5 keep its hard point, its place and its settings, and give its length
module _ (f : Format) (kept : Body) where
  cast_of : (answer : RayAnswer) (w : Wheel) → let x = ray_cast f w.settings.tuning kept answer w in
      (x.info.hard ≡ w.info.hard) × ((x.place ≡ w.place) × ((x.settings ≡ w.settings) × (x.info.length ≡ length_by f answer w)))
  unfolding ray_cast hit_of miss_of length_by
  cast_of Nothing w = (refl, (refl, (refl, refl)))
  cast_of (Hit time normal named) w = (refl, (refl, (refl, refl)))
  cast_of (HitUp time normal upward named) w = (refl, (refl, (refl, refl)))

-- rule 1 of a wheel whose transforms are those of the pose
placed_centre : (f : Format) (pose : Pose) (w : Wheel) (length : Float) → w ≡ update_wheel_transform f pose w → centre_of f w.info.hard w.place.direction length ≡ centre_under f pose (with_length w length)
unfolding update_wheel_transform
placed_centre f pose w length h =
    ap (λ (x : Wheel). centre_of f x.info.hard x.place.direction length) h

-- rule 1's centre goes by the settings and the length alone
centre_of_same : (f : Format) (pose : Pose) (w x : Wheel) → x.settings ≡ w.settings → centre_under f pose x ≡ centre_under f pose (with_length w x.info.length)
unfolding update_wheel_transform
centre_of_same f pose w x e = rw e

-- ---- a read that no test refuses
read_accepted : (t : List Float) (m : List ℕ) (i : ℕ) → Shape t m → i < count_of m → mark_of m ≡ at.DRIVEN → stored_within t (count_of m) ≡ true → refuse_read t m i ≡ 0
unfolding refuse_read first_failed pick
read_accepted t m i shape used mark within = rw (shape_ok_lem t m shape, lt-ltb i (count_of m) used, eq-eqb (mark_of m) at.DRIVEN mark, within)

pub read_done : (f : Format) (t : List Float) (m : List ℕ) (i : ℕ) → refuse_read t m i ≡ 0 → read_wheel f t m i ≡ after (reading_of f (wheel_at t i)) t m
unfolding read_wheel
read_done f t m i z = sym (settled_done _ _ not_read _ _ t m refl z refl)

-- ---- rule 1's centre of a used wheel, after an accepted aim
aimed_centre : (f : Format) (c : Chassis) (t : List Float) (m : List ℕ) (i : ℕ) → refuse_aim f t m c ≡ 0 → i < count_of m → (wheel_at (aim_of f t m c).table i).place.centre ≡ centre_under f c.pose (wheel_at t i)
unfolding aimed_table transforms transform_at
aimed_centre f c t m i p used =
    let a = (aim_says f t m c p).shape in
    ap (λ (x : After AimReply). (wheel_at x.table i).place.centre) (aimed_is f t m c p)
    ∙ ap (λ (x : Wheel). x.place.centre) (wheel_each (transform_at f c.pose) (count_of m) (put_chassis t c) (length_keep t c a.sized) a.room i used)
    ∙ ap (centre_under f c.pose) (wheel_stays t c i)

-- ---- wheel i of an accepted drive
module _ (f : Format) (d : Step) (i : ℕ) (accepted : Accepted f d) (counted : i < d.n) where
  abbrev w : Wheel
  w = stored_wheel d i

  abbrev cast : Wheel
  cast = ray_cast f w.settings.tuning (chassis_at d.table).body (d.frame.answer i) w

  pub driven_of_cast : driven_wheel f d i ≡ with_fallbacks (with_motion cast (driven_wheel f d i).motion) (fallbacks_at f d i)
  unfolding grounded_at
  driven_of_cast = rw (driven_table f d accepted) (wheel_stepped f stored d.frame d.n (room f d accepted) d.table (tests f d accepted).early.frame.shape.sized i counted (up_of d.whole))

  pub driven_settled : settled_centre f (driven_wheel f d i) ≡ centre_of f w.info.hard w.place.direction (drive_length f d i)
  unfolding settled_centre
  driven_settled =
      let by = cast_of f (chassis_at d.table).body (d.frame.answer i) w in
      ap (settled_centre f) driven_of_cast ∙ (let hard = by.0 in let place = by.1.0 in let length = by.1.1.1 in cc)

  pub driven_place : (driven_wheel f d i).place ≡ w.place
  driven_place = ap (λ (x : Wheel). x.place) driven_of_cast ∙ (cast_of f (chassis_at d.table).body (d.frame.answer i) w).1.0

  -- every test of a read lets it through
  stepped_shape : Shape (whole_step f stored (up_of d.whole) d.frame d.n d.table).table (marked d.whole at.DRIVEN)
  stepped_shape =
      let a = (tests f d accepted).early.frame in
      shape_marked (shape_other_table a.shape _ (length_whole_step f stored d.table _ d.frame d.n a.shape.sized (room f d accepted))) at.DRIVEN (omega arith)

  read_passed : refuse_read (whole_step f stored (up_of d.whole) d.frame d.n d.table).table (marked d.whole at.DRIVEN) i ≡ 0
  read_passed =
      let a = (tests f d accepted).early.frame in
      let count = count_marked d.whole a.shape.four at.DRIVEN in
      read_accepted _ _ i stepped_shape (let e = a.each in rw count (omega arith)) (mark_marked d.whole a.shape.four at.DRIVEN) (rw (count, ← a.each) (tests f d accepted).step.storable)

  pub read_after_drive_lem : read_after_drive f d i ≡ after (reading_of f (driven_wheel f d i)) (drive_of f d.table d.whole d.frame d.n).table (drive_of f d.table d.whole d.frame d.n).whole
  read_after_drive_lem = rw (driven_is f d.table d.whole d.frame d.n accepted) (read_done f _ _ i read_passed)

  pub shape_after_drive : Shape (after_drive f d).table (after_drive f d).whole
  shape_after_drive = rw (driven_is f d.table d.whole d.frame d.n accepted) stepped_shape

  -- ---- its transforms are those of the kept chassis, as in every table that our calls wrote
  module _ (placed : Placed f d.table i) where
    pub settled_of_placed : settled_centre f (driven_wheel f d i) ≡ centre_under f (chassis_at d.table).pose (with_length w (drive_length f d i))
    settled_of_placed = driven_settled ∙ placed_centre f (chassis_at d.table).pose w (drive_length f d i) placed

    -- rule 1 under the same pose, of the wheel as the drive left it, gives the settled centre
    settled_again : centre_under f (chassis_at d.table).pose (driven_wheel f d i) ≡ settled_centre f (driven_wheel f d i)
    settled_again =
        let by = cast_of f (chassis_at d.table).body (d.frame.answer i) w in
        let settings : (driven_wheel f d i).settings ≡ w.settings = ap (λ (x : Wheel). x.settings) driven_of_cast ∙ by.1.1.0 in
        let length : (driven_wheel f d i).info.length ≡ drive_length f d i = ap (λ (x : Wheel). x.info.length) driven_of_cast ∙ by.1.1.1 in
        centre_of_same f (chassis_at d.table).pose w (driven_wheel f d i) settings
        ∙ ap (λ (x : Float). centre_under f (chassis_at d.table).pose (with_length w x)) length
        ∙ sym settled_of_placed

    pub next_centre : (c : Chassis) → c.pose ≡ (chassis_at d.table).pose → refuse_aim f (after_drive f d).table (after_drive f d).whole c ≡ 0
        → (wheel_at (aim_of f (after_drive f d).table (after_drive f d).whole c).table i).place.centre ≡ settled_centre f (driven_wheel f d i)
    next_centre c same p =
        let a = (tests f d accepted).early.frame in
        let count = count_marked d.whole a.shape.four at.DRIVEN in
        let used : i < count_of (drive_of f d.table d.whole d.frame d.n).whole =
        rw (driven_is f d.table d.whole d.frame d.n accepted, count) (let e = a.each in omega arith) in
        aimed_centre f c _ _ i p used ∙ ap (λ (pose : Pose). centre_under f pose (driven_wheel f d i)) same ∙ settled_again
