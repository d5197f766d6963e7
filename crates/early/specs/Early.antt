-- Document 01, "Refusal numbers": the tests of a drive that come before its step, in the order 1, 5, 6, 2, 12, 10 (change request 2026-03: "12, after 2 and before 10"). They read what is stored and what is handed in. Definitions only.
use Rattle.std.specs.Prelude.{ℕ, ◌*◌, Bool, List, [], ◌∷◌, ◌++◌, eqb, leb, length, Float, Result}
use Rattle.std.specs.Float.{Format}
use Rattle.lists.specs.Refusal.{Test, ◌or◌}
use Rattle.real.specs.Scalar.{within}
use Rattle.wheel.specs.declared.RayAnswer.{RayAnswer}
use Rattle.table.specs.Layout as at
use Rattle.table.specs.Rows.{chassis_at}
use Rattle.table.specs.Bounds.{HANDED, all_within, stored_within}
use Rattle.ground.specs.declared.Listed.{Listed}
use Rattle.ground.specs.Frame.{Frame}
use Rattle.refusals.specs.declared.Refusal.{Refusal}
use Rattle.refusals.specs.Refused.{replied}
use Rattle.refusals.specs.Shape.{count_of, mark_of, shape_ok}
use Rattle.ranges.specs.Ranges.{in_unit, chassis_in_range, bodies_in_range, stored_in_range}
use Rattle.refusals.specs.Handed.{answers_ok, all_normals_handed}
use Rattle.refusals.specs.Normals.{all_normals_ok}

-- `r` is what the drive is given, n how many ray answers it has
unfoldable pub frame_tests : List Float → List ℕ → List Float → List Bool → (ℕ → RayAnswer) → ℕ → List Test
frame_tests t m bodies dynamic answer n =
    shape_ok t m or 1
    ∷ eqb (mark_of m) at.AIMED or 5
    ∷ eqb n (count_of m) or 6
    ∷ leb (length dynamic) at.BODIES or 6
    ∷ eqb (length bodies) (length dynamic * at.BODY) or 6
    ∷ answers_ok (length dynamic) answer n or 6
    ∷ []

unfoldable pub number_tests : Format → List Float → Float → List Float → (ℕ → RayAnswer) → ℕ → List Test
number_tests f t dt bodies answer n =
    within HANDED dt or 2
    ∷ all_within HANDED bodies or 2
    ∷ all_normals_handed answer n or 2
    ∷ stored_within t n or 2
    ∷ all_normals_ok f answer n or 12
    ∷ []

unfoldable pub range_tests : Format → List Float → Float → List Float → ℕ → ℕ → List Test
range_tests f t dt bodies count n =
    in_unit dt or 10
    ∷ bodies_in_range bodies count or 10
    ∷ stored_in_range f t n or 10
    ∷ chassis_in_range f (chassis_at t) or 10
    ∷ []

unfoldable pub early_tests : Format → List Float → List ℕ → Frame → ℕ → List Test
early_tests f t m r n =
    frame_tests t m r.bodies r.dynamic r.answer n
    ++ number_tests f t r.dt r.bodies r.answer n
    ++ range_tests f t r.dt r.bodies (length r.dynamic) n

-- the number of what the tests answer: 0 where the drive goes on
abbrev pub early_number : Result Listed Refusal → ℕ
early_number r = replied (λ on. 0) (λ n. n) r
