-- Document 01, refusals 2 and 6: the numbers that a call is handed, and the ray answers of a drive. Definitions only.
use Rattle.std.specs.Prelude.{ℕ, Bool, true, leb, Float}
use Rattle.lists.specs.Pick.{◌and◌}
use Rattle.lists.specs.Counted.{every}
use Rattle.vector.specs.declared.Vector.{Vector}
use Rattle.body.specs.declared.Chassis.{Chassis}
use Rattle.wheel.specs.declared.Settings.{Settings}
use Rattle.wheel.specs.declared.Controls.{Controls}
use Rattle.wheel.specs.declared.RayAnswer.{RayAnswer}
use Rattle.wheel.specs.declared.RayAnswer.TheVariants.{Nothing, Hit, HitUp}
use Rattle.table.specs.Rows.{vector_list, settings_list, handed_controls, chassis_list}
use Rattle.table.specs.Bounds.{all_within, HANDED}
use Rattle.ranges.specs.Ranges.{in_unit}

-- ---- refusal 2: a number handed in is finite and at most 2^20 in magnitude
unfoldable pub settings_handed : Settings → Bool
settings_handed s = all_within HANDED (settings_list s)

unfoldable pub controls_handed : Controls → Bool
controls_handed c = all_within HANDED (handed_controls c)

unfoldable pub chassis_handed : Chassis → Bool
chassis_handed c = all_within HANDED (chassis_list c)

unfoldable pub vector_handed : Vector → Bool
vector_handed v = all_within HANDED (vector_list v)

-- the normals of an answer: the upward one too, whatever the time
unfoldable pub normals_handed : RayAnswer → Bool
normals_handed Nothing = true
normals_handed (Hit time normal named) = vector_handed normal
normals_handed (HitUp time normal upward named) = vector_handed normal and vector_handed upward

-- ---- refusal 6: a time is no NaN and from 0 to 1, and a named body is in the list of `bodies` bodies
unfoldable pub hit_ok : ℕ → Float → ℕ → Bool
hit_ok bodies time named = in_unit time and leb named bodies

unfoldable pub answer_ok : ℕ → RayAnswer → Bool
answer_ok bodies Nothing = true
answer_ok bodies (Hit time normal named) = hit_ok bodies time named
answer_ok bodies (HitUp time normal upward named) = hit_ok bodies time named

-- ---- each of the first n answers, `answer i` being that of wheel i
unfoldable pub answers_ok : ℕ → (ℕ → RayAnswer) → ℕ → Bool
answers_ok bodies answer n = every (λ i. answer_ok bodies (answer i)) n 0

unfoldable pub all_normals_handed : (ℕ → RayAnswer) → ℕ → Bool
all_normals_handed answer n = every (λ i. normals_handed (answer i)) n 0
