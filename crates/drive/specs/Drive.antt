-- Document 01, "What a vehicle keeps". Drive: takes dt, at most 64 ground bodies and one ray answer per wheel, works on the kept chassis and stores its new velocities; mark driven. Definitions only.
-- The tests that come first read what is stored; then a step is made under the tuning that counts for each wheel, with its own tests. A drive is that under the stored ones.
use Rattle.std.specs.Prelude.{ℕ, Bool, not, false, List, [], ◌∷◌, ◌++◌, Float}
use Rattle.std.specs.Float.{Format}
use Rattle.std.specs.Float.Ieee.{lt}
use Rattle.lists.specs.Counted.{every}
use Rattle.lists.specs.Refusal.{Test, ◌or◌, first_failed}
use Rattle.real.specs.Number.{zero}
use Rattle.vector.specs.declared.Vector.{Vector}
use Rattle.vector.specs.Arithmetic.{zero_v}
use Rattle.tyre.specs.declared.WheelTuning.{WheelTuning}
use Rattle.table.specs.Layout as at
use Rattle.table.specs.Rows.{wheel_at}
use Rattle.table.specs.Bounds.{stored_within}
use Rattle.ground.specs.Frame.{Frame}
use Rattle.passes.specs.Passes.{stored, demands_admitted}
use Rattle.passes.specs.Step.{Work, demand_step, whole_step}
use Rattle.refusals.specs.Shape.{up_of}
use Rattle.refusals.specs.After.{After, after, settled, marked}
use Rattle.drive.specs.declared.Driven.{Driven}
use Rattle.early.specs.Early.{early_tests}

-- ---- the refusals, in the order 1, 5, 6, 2, 12, 10 (crate `early`), 7, 8. `r` is what the drive is given, n how many ray answers it has
-- the tests of the step itself, under the tuning that counts
unfoldable pub step_tests : Format → (WheelTuning → WheelTuning) → List Float → ℕ → Frame → ℕ → List Test
step_tests f tune t up r n =
    demands_admitted f tune r.dt r.answer n (demand_step f tune r n t).table or 7
    ∷ stored_within (whole_step f tune up r n t).table n or 8
    ∷ []

unfoldable pub refuse_under : Format → (WheelTuning → WheelTuning) → List Float → List ℕ → Frame → ℕ → ℕ
refuse_under f tune t m r n = first_failed (early_tests f t m r n ++ step_tests f tune t (up_of m) r n)

unfoldable pub refuse_drive : Format → List Float → List ℕ → Frame → ℕ → ℕ
refuse_drive f t m r n = refuse_under f stored t m r n

-- ---- the answer: the six velocities, and whether any engine force is above 0 (the wake rule)
unfoldable pub idle_at : List Float → ℕ → Bool
idle_at t i = not (lt zero (wheel_at t i).controls.engine)

unfoldable pub wakes : List Float → ℕ → Bool
wakes t n = not (every (idle_at t) n 0)

-- the reply: its number, and the answer, zeros where it is refused
pub record DriveReply : Type 0 where
  pub number : ℕ
  pub linvel : Vector
  pub angvel : Vector
  pub wake : Bool

-- what the code answers as the reply
abbrev pub drive_reply : Driven → DriveReply
drive_reply d = record { number = 0; linvel = d.linvel; angvel = d.angvel; wake = d.wake }

unfoldable pub not_driven : ℕ → DriveReply
not_driven number = record { number = number; linvel = zero_v; angvel = zero_v; wake = false }

unfoldable pub driven_by : List Float → ℕ → Work → DriveReply
driven_by t n s = record { number = 0; linvel = s.chassis.body.linvel; angvel = s.chassis.body.angvel; wake = wakes t n }

unfoldable pub drive_under : Format → (WheelTuning → WheelTuning) → List Float → List ℕ → Frame → ℕ → After DriveReply
drive_under f tune t m r n =
    let s = whole_step f tune (up_of m) r n t in
    settled (refuse_under f tune t m r n) not_driven (after (driven_by t n s) s.table (marked m at.DRIVEN)) t m

unfoldable pub drive_of : Format → List Float → List ℕ → Frame → ℕ → After DriveReply
drive_of f t m r n = drive_under f stored t m r n
