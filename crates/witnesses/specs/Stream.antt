-- The calls of a history as the codes of the scenario stream, by the field order of docs/STREAM.md, and what each is answered: its number and, if accepted, its results, each number by its pattern. Definitions only.
use Rattle.std.specs.Prelude.{ℕ, zero, suc, List, [], ◌∷◌, ◌++◌, Float, length}
use Rattle.std.specs.Float.{binary32}
use Rattle.lists.specs.Pick.{pick}
use Rattle.wheel.specs.declared.Steering.{Steering}
use Rattle.wheel.specs.declared.Steering.TheVariants.{ByRotation, ByAngle}
use Rattle.wheel.specs.declared.RayAnswer.{RayAnswer}
use Rattle.wheel.specs.declared.RayAnswer.TheVariants.{Nothing, Hit, HitUp}
use Rattle.table.specs.Rows.{vector_list, settings_list, handed_controls, chassis_list}
use Rattle.refusals.specs.Shape.{count_of}
use Rattle.read_wheel.specs.Read.{read_wheel}
use Rattle.aim.specs.Aim.{aim_of}
use Rattle.drive.specs.Drive.{drive_of}
use Rattle.grammar.specs.Layout as code
use Rattle.scenario.specs.Results.{words_of}
use Rattle.replies.specs.Replies.{aim_results, drive_results, all_results}
use Rattle.demands.specs.History.{State, Call, SetUp, AddWheel, SetControls, Aim, Drive, ReadWheel, answered, accepted, run}

abbrev pub patterns : List Float → List ℕ
patterns l = words_of binary32 l

unfoldable pub answer_words : RayAnswer → List ℕ
answer_words Nothing = code.NOTHING ∷ []
answer_words (Hit time normal named) = code.HIT ∷ patterns (time ∷ vector_list normal) ++ (named ∷ [])
answer_words (HitUp time normal upward named) = code.HIT-UP ∷ patterns (time ∷ vector_list normal ++ vector_list upward) ++ (named ∷ [])

-- k answers from wheel i on
unfoldable pub answers_words : (ℕ → RayAnswer) → ℕ → ℕ → List ℕ
answers_words answer zero i = []
answers_words answer (suc k) i = answer_words (answer i) ++ answers_words answer k (suc i)

-- controls have another code with an angle than with a rotation
unfoldable pub controls_code : Steering → ℕ
controls_code (ByRotation q) = code.CONTROLS
controls_code (ByAngle angle) = code.CONTROLS-BY-ANGLE

-- a set-up has no code: the stream starts set up. The frames here have no ground bodies. A wheel is added by code 6, as code 1 adds one with 0.1; it is read by code 9, whose first results are those of codes 5 and 8.
unfoldable pub call_words : Call → List ℕ
call_words (SetUp up forward) = []
call_words (AddWheel settings) = code.ADD-ROLLED ∷ patterns (settings_list settings)
call_words (SetControls i controls) = controls_code controls.steering ∷ i ∷ patterns (handed_controls controls)
call_words (Aim chassis) = code.AIM ∷ patterns (chassis_list chassis)
call_words (Drive frame n) = code.DRIVE ∷ patterns (frame.dt ∷ []) ++ (length frame.dynamic ∷ n ∷ answers_words frame.answer n 0)
call_words (ReadWheel i) = code.READ-ALL ∷ i ∷ []

unfoldable pub stream_words : List Call → List (List ℕ)
stream_words [] = []
stream_words (c ∷ l) = call_words c ∷ stream_words l

-- ---- what is answered
unfoldable pub results_of : Call → State → List ℕ
results_of (SetUp up forward) s = []
results_of (AddWheel settings) s = []
results_of (SetControls i controls) s = []
results_of (Aim chassis) s = aim_results binary32 (count_of s.whole) (aim_of binary32 s.table s.whole chassis).reply
results_of (Drive frame n) s = drive_results binary32 (drive_of binary32 s.table s.whole frame n).reply
results_of (ReadWheel i) s = all_results binary32 (read_wheel binary32 s.table s.whole i).reply

unfoldable pub answer_of : Call → State → List ℕ
answer_of c s = (answered binary32 c s).reply ∷ pick (accepted binary32 c s) (results_of c s) []

unfoldable pub answers_to : List Call → State → List (List ℕ)
answers_to [] s = []
answers_to (c ∷ l) s = answer_of c s ∷ answers_to l (run binary32 c s)
