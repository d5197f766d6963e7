-- What an accepted aim has tested: by its first tests, by all, and by its answer; and of its wheels as it placed them, refusal 17. Assumes nothing.
use Prim.Native.Nat.{ℕ}
use mathlib.Core.Bool.{true}
use mathlib.Core.List.{List}
use mathlib.Core.Path.{◌≡◌, refl, sym, ◌∙◌}
use lib.Ieee.{Float, Format}
use Rattle.lists.specs.Pick.{pick}
use Rattle.lists.specs.All.{all}
use Rattle.lists.specs.Refusal.{first_failed}
use Rattle.lists.proofs.Picks.{pick_zero}
use Rattle.lists.proofs.Refusals.{numbered, append_passed, passed_of_append}
use Rattle.body.specs.declared.Chassis.{Chassis}
use Rattle.table.specs.Bounds.{stored_within}
use Rattle.refusals.specs.Shape.{count_of}
use Rattle.ranges.specs.Ranges.{stored_in_range}
use Rattle.refusals.specs.Steered.{all_steered_ok}
use Rattle.refusals.specs.After.{after}
use Rattle.refusals.proofs.Says.{Shape, shape_says}
use Rattle.refusals.proofs.Settled.{settled_number}
use Rattle.aim.specs.Aim.{AimReply, aimed_table, chassis_tests, place_tests, refuse_aim, not_aimed, aimed_by, aim_of}

pub record AimTested (f : Format) (t : List Float) (m : List ℕ) : Type 0 where
  pub shape : Shape t m
  pub stored : stored_within t (count_of m) ≡ true
  pub ranges : stored_in_range f t (count_of m) ≡ true

pub all_numbered : (f : Format) (t : List Float) (m : List ℕ) (c : Chassis) → all numbered (chassis_tests f t m c) ≡ true
unfolding chassis_tests all pick
all_numbered f t m c = refl

pub chassis_tests_say : (f : Format) (t : List Float) (m : List ℕ) (c : Chassis) → first_failed (chassis_tests f t m c) ≡ 0 → AimTested f t m
unfolding chassis_tests first_failed
chassis_tests_say f t m c h =
    let shape = pick_zero _ _ _ h in
    let handed = pick_zero _ _ _ shape.1 in
    let stored = pick_zero _ _ _ handed.1 in
    let chassis = pick_zero _ _ _ stored.1 in
    let ranges = pick_zero _ _ _ chassis.1 in
    record { shape = shape_says t m shape.0; stored = stored.0; ranges = ranges.0 }

-- the same of a callee's answer
pub tested_shape : (f : Format) (t : List Float) (m : List ℕ) (c : Chassis) → 0 ≡ first_failed (chassis_tests f t m c) → Shape t m
tested_shape f t m c h = (chassis_tests_say f t m c (sym h)).shape

pub aim_says : (f : Format) (t : List Float) (m : List ℕ) (c : Chassis) → refuse_aim f t m c ≡ 0 → AimTested f t m
unfolding refuse_aim
aim_says f t m c h = chassis_tests_say f t m c (passed_of_append (chassis_tests f t m c) (place_tests f c (count_of m) t) h)

-- each angle makes a rotation
pub steered_says : (f : Format) (t : List Float) (m : List ℕ) (c : Chassis) → refuse_aim f t m c ≡ 0 → all_steered_ok f (aimed_table f c (count_of m) t) (count_of m) ≡ true
unfolding refuse_aim place_tests first_failed
steered_says f t m c h =
    let first = passed_of_append (chassis_tests f t m c) (place_tests f c (count_of m) t) h in
    (pick_zero _ _ _ (sym (append_passed (chassis_tests f t m c) (place_tests f c (count_of m) t) (all_numbered f t m c) first) ∙ h)).0

-- the same of an answer with the number 0
pub accepted_aim_says : (f : Format) (t : List Float) (m : List ℕ) (c : Chassis) {reply : AimReply} {t' : List Float} {m' : List ℕ} → after reply t' m' ≡ aim_of f t m c → reply.number ≡ 0 → AimTested f t m
unfolding aim_of not_aimed aimed_by
accepted_aim_says f t m c e h =
    let number : (aim_of f t m c).reply.number ≡ 0 = rw (← e) h in
    aim_says f t m c (sym (settled_number (refuse_aim f t m c) not_aimed _ t m (λ r. r.number) refl refl) ∙ number)
