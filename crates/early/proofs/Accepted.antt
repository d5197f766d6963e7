-- What the tests of a drive before its step tell where none refused; in order: that none refuses with 0; what a drive is handed, by the tests of it, and by all. Assumes nothing.
use Prim.Native.Nat.{ℕ}
use mathlib.Core.Bool.{Bool, true}
use mathlib.Core.List.{List, ◌++◌}
use mathlib.Core.Path.{◌≡◌, refl, sym, ◌∙◌}
use borrow.Author.Tests.{eqb-true, leb-true}
use lib.ListN.{length}
use lib.Ieee.{Float, Format}
use Rattle.lists.specs.Pick.{pick}
use Rattle.lists.specs.All.{all}
use Rattle.lists.specs.Refusal.{first_failed}
use Rattle.lists.proofs.Picks.{pick_zero}
use Rattle.lists.proofs.Refusals.{numbered, append_passed, passed_of_append}
use Rattle.wheel.specs.declared.RayAnswer.{RayAnswer}
use Rattle.table.specs.Layout as at
use Rattle.table.specs.Bounds.{stored_within}
use Rattle.ground.specs.Frame.{Frame, FitTogether}
use Rattle.refusals.specs.Shape.{count_of, mark_of}
use Rattle.ranges.specs.Ranges.{in_unit, stored_in_range}
use Rattle.refusals.specs.Normals.{all_normals_ok}
use Rattle.refusals.proofs.Says.{Shape, shape_says, answers_say}
use Rattle.early.specs.Early.{frame_tests, number_tests, range_tests, early_tests}

-- ---- no test of a drive refuses with 0
pub frame_numbered : (t : List Float) (m : List ℕ) (bodies : List Float) (dynamic : List Bool) (answer : ℕ → RayAnswer) (n : ℕ) → all numbered (frame_tests t m bodies dynamic answer n) ≡ true
unfolding frame_tests all pick
frame_numbered t m bodies dynamic answer n = refl

pub handed_numbered : (f : Format) (t : List Float) (m : List ℕ) (dt : Float) (bodies : List Float) (dynamic : List Bool) (answer : ℕ → RayAnswer) (n : ℕ)
    → all numbered (frame_tests t m bodies dynamic answer n ++ number_tests f t dt bodies answer n) ≡ true
unfolding frame_tests number_tests all pick
handed_numbered f t m dt bodies dynamic answer n = refl

pub early_numbered : (f : Format) (t : List Float) (m : List ℕ) (r : Frame) (n : ℕ) → all numbered (early_tests f t m r n) ≡ true
unfolding early_tests frame_tests number_tests range_tests all pick
early_numbered f t m r n = refl

-- ---- what the tests tell
pub record FrameTested (t : List Float) (m : List ℕ) (bodies : List Float) (dynamic : List Bool) (answer : ℕ → RayAnswer) (n : ℕ) : Type 0 where
  pub shape : Shape t m
  pub aimed : mark_of m ≡ at.AIMED
  pub each : n ≡ count_of m
  pub lists : FitTogether bodies dynamic answer n

pub frame_tests_say : (t : List Float) (m : List ℕ) (bodies : List Float) (dynamic : List Bool) (answer : ℕ → RayAnswer) (n : ℕ)
    → first_failed (frame_tests t m bodies dynamic answer n) ≡ 0 → FrameTested t m bodies dynamic answer n
unfolding frame_tests first_failed
frame_tests_say t m bodies dynamic answer n h =
    let shape = pick_zero _ _ _ h in
    let aimed = pick_zero _ _ _ shape.1 in
    let each = pick_zero _ _ _ aimed.1 in
    let room = pick_zero _ _ _ each.1 in
    let sized = pick_zero _ _ _ room.1 in
    let named = pick_zero _ _ _ sized.1 in
    record {
      shape = shape_says t m shape.0;
      aimed = eqb-true _ _ aimed.0;
      each = eqb-true _ _ each.0;
      lists = record { grounds = record { room = leb-true _ _ room.0; sized = eqb-true _ _ sized.0 }; named = λ i l. answers_say (length dynamic) answer n i named.0 l };
    }

pub record EarlyTested (f : Format) (t : List Float) (m : List ℕ) (r : Frame) (n : ℕ) : Type 0 where
  pub frame : FrameTested t m r.bodies r.dynamic r.answer n
  pub stored : stored_within t n ≡ true
  pub normals : all_normals_ok f r.answer n ≡ true
  pub unit : in_unit r.dt ≡ true
  pub ranges : stored_in_range f t n ≡ true

numbers_say : (f : Format) (t : List Float) (dt : Float) (bodies : List Float) (answer : ℕ → RayAnswer) (n : ℕ) → first_failed (number_tests f t dt bodies answer n) ≡ 0
    → (stored_within t n ≡ true) × (all_normals_ok f answer n ≡ true)
unfolding number_tests first_failed
numbers_say f t dt bodies answer n h =
    let dt = pick_zero _ _ _ h in
    let handed = pick_zero _ _ _ dt.1 in
    let normals = pick_zero _ _ _ handed.1 in
    let stored = pick_zero _ _ _ normals.1 in
    (stored.0, (pick_zero _ _ _ stored.1).0)

ranges_say : (f : Format) (t : List Float) (dt : Float) (bodies : List Float) (count n : ℕ) → first_failed (range_tests f t dt bodies count n) ≡ 0
    → (in_unit dt ≡ true) × (stored_in_range f t n ≡ true)
unfolding range_tests first_failed
ranges_say f t dt bodies count n h =
    let unit = pick_zero _ _ _ h in
    let masses = pick_zero _ _ _ unit.1 in
    (unit.0, (pick_zero _ _ _ masses.1).0)

pub early_tests_say : (f : Format) (t : List Float) (m : List ℕ) (r : Frame) (n : ℕ) → first_failed (early_tests f t m r n) ≡ 0 → EarlyTested f t m r n
unfolding early_tests
early_tests_say f t m r n h =
    let handed = passed_of_append _ _ h in
    let frame = passed_of_append _ _ handed in
    let numbers = numbers_say f t _ _ _ n (sym (append_passed _ _ (frame_numbered t m r.bodies r.dynamic r.answer n) frame) ∙ handed) in
    let ranges = ranges_say f t _ _ _ n (sym (append_passed _ _ (handed_numbered f t m r.dt r.bodies r.dynamic r.answer n) handed) ∙ h) in
    record { frame = frame_tests_say t m _ _ _ n frame; stored = numbers.0; normals = numbers.1; unit = ranges.0; ranges = ranges.1 }
