-- Document 01, "Scenario program": the call that a code asks for, its answer number and, if accepted, its results as words. `l` has the words of a whole code, and zeros behind them. Definitions only.
use Rattle.std.specs.Prelude.{ℕ, ◌≤◌, List, [], ◌≡◌, eqb, Float, length, Result}
use Rattle.std.specs.Float.{Format}
use Rattle.lists.specs.Pick.{pick}
use Rattle.lists.specs.Part.{paste}
use Rattle.wheel.specs.declared.Settings.{Settings}
use Rattle.wheel.specs.declared.Controls.{Controls}
use Rattle.wheel.specs.Ray.{answer_at}
use Rattle.ground.specs.Frame.{Frame, frame}
use Rattle.refusals.specs.Shape.{count_of}
use Rattle.refusals.specs.After.{After, after}
use Rattle.add_wheel.specs.Add.{add_wheel}
use Rattle.set_controls.specs.Controls.{set_controls}
use Rattle.read_wheel.specs.Read.{ReadReply, read_wheel}
use Rattle.aim.specs.Aim.{aim_of}
use Rattle.drive.specs.Drive.{drive_of}
use Rattle.grammar.specs.declared.Asked.{Asked}
use Rattle.grammar.specs.Layout as code
use Rattle.grammar.specs.Grammar.{asked}
use Rattle.scenario.specs.Decode.{number_from, rolled_from, settings_from, wheel_from, controls_from, controls_by_angle_from, chassis_from}
use Rattle.frame_words.specs.Frame.{step_from, body_count_from, bodies_from, flags_from, answer_count_from, answers_start, answers_from}
use Rattle.refusals.specs.Refused.{replied}
use Rattle.refusals.specs.declared.Refusal.{Refusal}
use Rattle.perform.specs.declared.Car.{Car}
use Rattle.replies.specs.Replies.{aim_results, drive_results, read_results, settled_results, all_results}

-- ---- what a code is answered: a number and the results
pub record Answered : Type 0 where
  pub number : ℕ
  pub results : List ℕ

abbrev pub answered : ℕ → List ℕ → Answered
answered number results = record { number = number; results = results }

-- a call's reply told so: a refusal has no results
unfoldable pub told : {R : Type 0} → (R → ℕ) → (R → List ℕ) → After R → After Answered
told number results x =
    after (answered (number x.reply) (pick (eqb (number x.reply) 0) (results x.reply) [])) x.table x.whole

-- a reply that is a number alone
unfoldable pub numbered : After ℕ → After Answered
numbered x = told (λ n. n) (λ n. []) x

-- ---- the call of each code
-- an add, with the settings that its code has
abbrev pub add_call : Settings → List Float → List ℕ → After Answered
add_call s t m = numbered (add_wheel t m s)

-- controls of the wheel that the code names, with the steering that it has
abbrev pub controls_call : Format → Controls → List ℕ → List Float → List ℕ → After Answered
controls_call f c l t m = numbered (set_controls f t m (wheel_from l) c)

abbrev pub aim_call : Format → List ℕ → List Float → List ℕ → After Answered
aim_call f l t m = told (λ r. r.number) (aim_results f (count_of m)) (aim_of f t m (chassis_from f l))

-- the frame of a drive, and how many answers it has
unfoldable pub answers_of : List ℕ → ℕ
answers_of l = answer_count_from l (body_count_from l)

unfoldable pub frame_from : Format → List ℕ → Frame
frame_from f l =
    let bodies = body_count_from l in
    frame (step_from f l) (bodies_from f l bodies) (flags_from l bodies) (answer_at (answers_from f l (answers_start bodies) (answers_of l)))

abbrev pub drive_call : Format → List ℕ → List Float → List ℕ → After Answered
drive_call f l t m = told (λ r. r.number) (drive_results f) (drive_of f t m (frame_from f l) (answers_of l))

-- a read, by the results that its code has
abbrev pub read_call : Format → (ReadReply → List ℕ) → List ℕ → List Float → List ℕ → After Answered
read_call f results l t m = told (λ r. r.number) results (read_wheel f t m (wheel_from l))

-- an answer 0 that changes nothing
abbrev pub no_call : List Float → List ℕ → After Answered
no_call t m = after (answered 0 []) t m

-- by what is asked for. An unknown code is no case of a whole code: the grammar lets none through
unfoldable pub call_for : Format → Asked → List ℕ → List Float → List ℕ → After Answered
call_for f Asked.End l t m = no_call t m
call_for f Asked.Add l t m = add_call (settings_from f l) t m
call_for f Asked.Controls l t m = controls_call f (controls_from f l) l t m
call_for f Asked.Aim l t m = aim_call f l t m
call_for f Asked.Drive l t m = drive_call f l t m
call_for f Asked.Read l t m = read_call f (read_results f) l t m
call_for f Asked.AddRolled l t m = add_call (rolled_from f l) t m
call_for f Asked.ReadSettled l t m = read_call f (settled_results f) l t m
call_for f Asked.ReadAll l t m = read_call f (all_results f) l t m
call_for f Asked.ControlsByAngle l t m = controls_call f (controls_by_angle_from f l) l t m
call_for f Asked.Unknown l t m = no_call t m

unfoldable pub call_of : Format → List ℕ → List Float → List ℕ → After Answered
call_of f l t m = call_for f (asked (number_from l 0)) l t m

-- ---- words with the counts that a well-formed drive has
pub record Counted (l : List ℕ) : Type 0 where
  pub bodies : body_count_from l ≤ code.BODIES
  pub answers : answers_of l ≤ code.ANSWERS

-- the number of what the code answers: 0 where the call is accepted; and how many results it has: none where it is refused
abbrev pub number_in : Result ℕ Refusal → ℕ
number_in r = replied (λ count. 0) (λ number. number) r

abbrev pub count_in : Result ℕ Refusal → ℕ
count_in r = replied (λ count. count) (λ number. 0) r

-- a call is made: its number, its results in the lent ones and how many they are, and the table and the whole numbers as it leaves them
pub record Performs (x : After Answered) (r : Result ℕ Refusal) (before results : List ℕ) (c : Car) : Type 0 where
  pub number : number_in r ≡ x.reply.number
  pub count : count_in r ≡ length x.reply.results
  pub lent : results ≡ paste before 0 x.reply.results
  pub table : c.table ≡ x.table
  pub whole : c.whole ≡ x.whole
