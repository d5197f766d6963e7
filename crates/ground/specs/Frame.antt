-- What a drive is given: its time step, its ground bodies and a ray answer for each wheel. Definitions only.
use Rattle.std.specs.Prelude.{ℕ, ◌-◌, ◌*◌, ◌≤◌, ◌<◌, Bool, false, List, ◌≡◌, eqb, length, get_or, Float, Option, None, Some}
use Rattle.lists.specs.Pick.{pick}
use Rattle.lists.specs.Counted.{tally}
use Rattle.wheel.specs.declared.RayAnswer.{RayAnswer}
use Rattle.body.specs.declared.GroundBody.{GroundBody}
use Rattle.ground.specs.declared.Frame as handed
use Rattle.wheel.specs.Ray.{answer_at, is_grounded, named_of}
use Rattle.table.specs.Layout as at
use Rattle.table.specs.Rows.{body_at}

-- `answer` is the ray answer of each wheel, by its number
pub record Frame : Type 0 where
  pub dt : Float
  pub bodies : List Float
  pub dynamic : List Bool
  pub answer : ℕ → RayAnswer

abbrev pub frame : Float → List Float → List Bool → (ℕ → RayAnswer) → Frame
frame dt bodies dynamic answer = record { dt = dt; bodies = bodies; dynamic = dynamic; answer = answer }

-- the same of what a drive is handed
abbrev pub frame_of : handed.Frame → Frame
frame_of r = frame r.dt r.bodies.now r.dynamic.now (answer_at r.answers.now)

-- whether wheel i is grounded, and how many of the first n are: every hit grounds its wheel (rule 7)
unfoldable pub grounded_at : (ℕ → RayAnswer) → ℕ → Bool
grounded_at answer i = is_grounded (answer i)

unfoldable pub grounded_wheels : (ℕ → RayAnswer) → ℕ → ℕ
grounded_wheels answer n = tally (grounded_at answer) n 0

-- the ground body of a number: 0 none, k body k − 1 of the list; and that under a wheel, by its answer
unfoldable pub ground_named : List Float → List Bool → ℕ → Option GroundBody
ground_named bodies dynamic named =
    pick (eqb named 0) None (Some (record { body = body_at bodies (named - 1); dynamic = get_or dynamic (named - 1) false }))

unfoldable pub ground_under : List Float → List Bool → RayAnswer → Option GroundBody
ground_under bodies dynamic answer = ground_named bodies dynamic (named_of answer)

-- the lists of a drive fit together (refusal 6): a flag for each of at most 64 bodies, and each of the first n answers names one of them or none
pub record Grounds (bodies : List Float) (dynamic : List Bool) : Type 0 where
  pub room : length dynamic ≤ at.BODIES
  pub sized : length bodies ≡ length dynamic * at.BODY

pub record FitTogether (bodies : List Float) (dynamic : List Bool) (answer : ℕ → RayAnswer) (n : ℕ) : Type 0 where
  pub grounds : Grounds bodies dynamic
  pub named : (i : ℕ) → i < n → named_of (answer i) ≤ length dynamic
