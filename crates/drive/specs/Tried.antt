-- A step that is tried: a reply, and the table as it is left. What an inner function of the drive does; no public contract speaks of it. Definitions only.
use Rattle.std.specs.Prelude.{ℕ, List, eqb, Float}
use Rattle.std.specs.Float.{Format}
use Rattle.lists.specs.Pick.{pick}
use Rattle.lists.specs.Refusal.{first_failed}
use Rattle.tyre.specs.declared.WheelTuning.{WheelTuning}
use Rattle.ground.specs.Frame.{Frame}
use Rattle.passes.specs.Step.{whole_step}
use Rattle.drive.specs.Drive.{DriveReply, step_tests, not_driven, driven_by}

pub record Tried : Type 0 where
  pub reply : DriveReply
  pub table : List Float

abbrev pub tried : DriveReply → List Float → Tried
tried d t = record { reply = d; table = t }

-- the step with its own refusals, 7 and 8
unfoldable pub try_step : Format → (WheelTuning → WheelTuning) → List Float → ℕ → Frame → ℕ → Tried
try_step f tune t up r n =
    let number = first_failed (step_tests f tune t up r n) in
    pick (eqb number 0) (tried (driven_by t n (whole_step f tune up r n t)) (whole_step f tune up r n t).table) (tried (not_driven number) t)
