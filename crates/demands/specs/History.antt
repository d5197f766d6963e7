-- Demand 1, "In a table our calls wrote, a wheel not yet driven can't be read": the calls that a host may make, one after another, with any arguments and whatever each answers. Definitions only.
use Rattle.std.specs.Prelude.{ℕ, Bool, true, false, not, ◌&&◌, ◌||◌, List, [], ◌∷◌, eqb, Float}
use Rattle.std.specs.Float.{Format}
use Rattle.body.specs.declared.Chassis.{Chassis}
use Rattle.wheel.specs.declared.Settings.{Settings}
use Rattle.wheel.specs.declared.Controls.{Controls}
use Rattle.ground.specs.Frame.{Frame}
use Rattle.refusals.specs.Shape.{count_of}
use Rattle.refusals.specs.After.{After, after}
use Rattle.set_up.specs.SetUp.{set_up}
use Rattle.add_wheel.specs.Add.{add_wheel}
use Rattle.set_controls.specs.Controls.{set_controls}
use Rattle.read_wheel.specs.Read.{read_wheel}
use Rattle.aim.specs.Aim.{aim_of}
use Rattle.drive.specs.Drive.{drive_of}

-- what a host lends: the table and the whole numbers beside it
pub record State : Type 0 where
  pub table : List Float
  pub whole : List ℕ

abbrev pub state : List Float → List ℕ → State
state t m = record { table = t; whole = m }

-- a call, with what it is handed: the two axes; a wheel's settings; a wheel's number and its controls; the chassis; a frame and how many ray answers it has; a wheel's number
pub data Call : Type 0 where
  SetUp : ℕ → ℕ → Call
  AddWheel : Settings → Call
  SetControls : ℕ → Controls → Call
  Aim : Chassis → Call
  Drive : Frame → ℕ → Call
  ReadWheel : ℕ → Call

-- the number that a call answers, with the table and the whole numbers as it leaves them
abbrev pub numbered : {R : Type 0} → (R → ℕ) → After R → After ℕ
numbered number x = after (number x.reply) x.table x.whole

unfoldable pub answered : Format → Call → State → After ℕ
answered f (SetUp up forward) s = set_up s.table s.whole up forward
answered f (AddWheel settings) s = add_wheel s.table s.whole settings
answered f (SetControls i controls) s = set_controls f s.table s.whole i controls
answered f (Aim chassis) s = numbered (λ r. r.number) (aim_of f s.table s.whole chassis)
answered f (Drive frame n) s = numbered (λ r. r.number) (drive_of f s.table s.whole frame n)
answered f (ReadWheel i) s = numbered (λ r. r.number) (read_wheel f s.table s.whole i)

unfoldable pub accepted : Format → Call → State → Bool
accepted f c s = eqb (answered f c s).reply 0

-- what is lent after a call, and after a list of calls, the first of them first
unfoldable pub run : Format → Call → State → State
run f c s = state (answered f c s).table (answered f c s).whole

unfoldable pub run_all : Format → List Call → State → State
run_all f [] s = s
run_all f (c ∷ l) s = run_all f l (run f c s)

-- the calls after which the wheels are driven, and those after which they no longer are: set controls and read do neither
unfoldable pub drives : Call → Bool
drives (SetUp up forward) = false
drives (AddWheel settings) = false
drives (SetControls i controls) = false
drives (Aim chassis) = false
drives (Drive frame n) = true
drives (ReadWheel i) = false

unfoldable pub undrives : Call → Bool
undrives (SetUp up forward) = true
undrives (AddWheel settings) = true
undrives (SetControls i controls) = false
undrives (Aim chassis) = true
undrives (Drive frame n) = false
undrives (ReadWheel i) = false

-- none of the calls is an accepted set-up, add or aim
unfoldable pub none_undrives : Format → List Call → State → Bool
none_undrives f [] s = true
none_undrives f (c ∷ l) s = not (undrives c && accepted f c s) && none_undrives f l (run f c s)

-- one of the calls is an accepted drive, and after it none is an accepted set-up, add or aim
unfoldable pub driven_since : Format → List Call → State → Bool
driven_since f [] s = false
driven_since f (c ∷ l) s = driven_since f l (run f c s) || ((drives c && accepted f c s) && none_undrives f l (run f c s))

-- after the calls: how many wheels there are, and the number that a read of wheel i answers
abbrev pub count_after : Format → List Call → State → ℕ
count_after f l s = count_of (run_all f l s).whole

abbrev pub read_after : Format → List Call → State → ℕ → ℕ
read_after f l s i = (read_wheel f (run_all f l s).table (run_all f l s).whole i).reply.number
