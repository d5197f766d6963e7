-- What an accepted drive has tested. Assumes nothing.
use Prim.Native.Nat.{ℕ}
use mathlib.Core.Bool.{true}
use mathlib.Core.List.{List}
use mathlib.Core.Path.{◌≡◌, sym, ◌∙◌}
use lib.Ieee.{Float, Format}
use Rattle.lists.specs.Refusal.{first_failed}
use Rattle.lists.proofs.Picks.{pick_zero}
use Rattle.lists.proofs.Refusals.{append_passed, passed_of_append}
use Rattle.ground.specs.Frame.{Frame}
use Rattle.passes.specs.Passes.{stored, demands_admitted}
use Rattle.passes.specs.Step.{demand_step, whole_step}
use Rattle.table.specs.Bounds.{stored_within}
use Rattle.refusals.specs.Shape.{up_of}
use Rattle.refusals.proofs.Says.{Shape}
use Rattle.early.specs.Early.{early_tests}
use Rattle.drive.specs.Drive.{step_tests, refuse_under, refuse_drive}
use Rattle.early.proofs.Accepted.{early_numbered, EarlyTested, early_tests_say}

-- what the tests of the step itself tell, refusals 7 and 8
pub record StepTested (f : Format) (t : List Float) (up : ℕ) (r : Frame) (n : ℕ) : Type 0 where
  pub demands : demands_admitted f stored r.dt r.answer n (demand_step f stored r n t).table ≡ true
  pub storable : stored_within (whole_step f stored up r n t).table n ≡ true

pub record DriveTested (f : Format) (t : List Float) (m : List ℕ) (r : Frame) (n : ℕ) : Type 0 where
  pub early : EarlyTested f t m r n
  pub step : StepTested f t (up_of m) r n

-- the shape, of a callee's answer
pub tested_shape : (f : Format) (t : List Float) (m : List ℕ) (r : Frame) (n : ℕ) → 0 ≡ first_failed (early_tests f t m r n) → Shape t m
tested_shape f t m r n h = (early_tests_say f t m r n (sym h)).frame.shape

step_says : (f : Format) (t : List Float) (up : ℕ) (r : Frame) (n : ℕ) → first_failed (step_tests f stored t up r n) ≡ 0 → StepTested f t up r n
unfolding step_tests first_failed
step_says f t up r n h =
    let demands = pick_zero _ _ _ h in
    record { demands = demands.0; storable = (pick_zero _ _ _ demands.1).0 }

pub drive_says : (f : Format) (t : List Float) (m : List ℕ) (r : Frame) (n : ℕ) → refuse_drive f t m r n ≡ 0 → DriveTested f t m r n
unfolding refuse_drive refuse_under
drive_says f t m r n h =
    let early = passed_of_append (early_tests f t m r n) _ h in
    let step = sym (append_passed _ _ (early_numbered f t m r n) early) ∙ h in
    record { early = early_tests_say f t m r n early; step = step_says f t (up_of m) r n step }
