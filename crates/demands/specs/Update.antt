-- Demand 2 of an aim and the drive after it: one update of the source, whose rays the host casts in between. Definitions only.
use Rattle.std.specs.Prelude.{ℕ, List, ◌≡◌, Float}
use Rattle.std.specs.Float.{Format}
use Rattle.body.specs.declared.Chassis.{Chassis}
use Rattle.wheel.specs.Ray.{update_wheel_transform}
use Rattle.table.specs.Layout as at
use Rattle.table.specs.Rows.{wheel_at, chassis_at, put_chassis}
use Rattle.ground.specs.Frame.{Frame}
use Rattle.passes.specs.Passes.{stored, transforms}
use Rattle.passes.specs.Step.{Work, whole_step}
use Rattle.refusals.specs.Shape.{up_of, forward_of}
use Rattle.refusals.specs.After.{After, after, marked}
use Rattle.aim.specs.Aim.{speed_of}
use Rattle.drive.specs.Drive.{DriveReply, driven_by}

-- rule 1 of wheel i under the kept chassis changes nothing: its hard point, centre, direction and axle are those of the kept chassis
abbrev pub Placed : Format → List Float → ℕ → Type 0
Placed f t i = wheel_at t i ≡ update_wheel_transform f (chassis_at t).pose (wheel_at t i)

-- the signed speed, and the table with the chassis as they stand at the end
pub record Update : Type 0 where
  pub speed : Float
  pub work : Work

-- Rules 1 to 10 over the first n wheels of a table: the chassis is kept and rule 1's transforms are worked out under its pose; rule 2's speed; rules 3 to 10 with the answers of the rays. `up` and `forward` are the axes.
unfoldable pub update_of : Format → ℕ → ℕ → Chassis → Frame → ℕ → List Float → Update
update_of f up forward c r n t = record { speed = speed_of f forward c; work = whole_step f stored up r n (transforms f c.pose n (put_chassis t c)) }

-- its answer, with the table and the whole numbers as it leaves them
unfoldable pub updated : Format → List ℕ → Chassis → Frame → ℕ → List Float → After DriveReply
updated f m c r n t =
    let s = (update_of f (up_of m) (forward_of m) c r n t).work in
    after (driven_by t n s) s.table (marked m at.DRIVEN)
