-- The lists of a drive: a flag for each ground body, and for each wheel the kind of its ray answer, the body that it names and the ray's numbers. Definitions only.
-- Lists that do not fit together are refusal 6, at its place in the order 1, 5, 6, 2, 12, 10, 7, 8: after the drive's own 1 and 5, before the rest.
use Rattle.std.specs.Prelude.{ℕ, ◌+◌, ◌*◌, Bool, List, [], ◌∷◌, eqb, leb, length, get_or, replicate, Float}
use Rattle.lists.specs.Pick.{pick, ◌and◌}
use Rattle.lists.specs.Part.{paste}
use Rattle.lists.specs.All.{all}
use Rattle.lists.specs.Counted.{listed}
use Rattle.lists.specs.Refusal.{Test, ◌or◌}
use Rattle.wheel.specs.declared.RayAnswer.{RayAnswer}
use Rattle.wheel.specs.declared.RayAnswer.TheVariants.{Nothing, Hit, HitUp}
use Rattle.table.specs.Layout as table
use Rattle.table.specs.Rows.{number_at, vector_at}
use Rattle.wheel.specs.Ray.{answer_at}
use Rattle.ground.specs.Frame.{Frame, frame}
use Rattle.refusals.specs.Shape.{mark_of, shape_ok}
use Rattle.flat_in.specs.Layout as at

-- ---- whether they fit together
unfoldable pub at_most : ℕ → ℕ → Bool
at_most most x = leb x most

-- at most 64 flags, each 0 or 1
unfoldable pub flags_fit : List ℕ → Bool
flags_fit dynamic = leb (length dynamic) table.BODIES and all (at_most at.DYNAMIC) dynamic

-- at most 16 kinds, each 0, 1 or 2, with a named body and a ray's numbers for each
unfoldable pub answers_fit : List ℕ → List ℕ → List Float → Bool
answers_fit kinds named rays =
    leb (length kinds) table.WHEELS
    and eqb (length named) (length kinds)
    and eqb (length rays) (length kinds * at.RAY)
    and all (at_most at.HIT-UP) kinds

unfoldable pub lists_fit : List ℕ → List ℕ → List ℕ → List Float → Bool
lists_fit dynamic kinds named rays = flags_fit dynamic and answers_fit kinds named rays

unfoldable pub list_tests : List Float → List ℕ → List ℕ → List ℕ → List ℕ → List Float → List Test
list_tests t m dynamic kinds named rays =
    shape_ok t m or 1
    ∷ eqb (mark_of m) table.AIMED or 5
    ∷ lists_fit dynamic kinds named rays or 6
    ∷ []

-- ---- whether body i is dynamic
unfoldable pub flag_in : List ℕ → ℕ → Bool
flag_in dynamic i = eqb (get_or dynamic i 0) at.DYNAMIC

unfoldable pub flags_in : List ℕ → List Bool
flags_in dynamic = listed (flag_in dynamic) (length dynamic) 0

-- ---- what the ray of wheel i met, by its kind, which reads only its own numbers
abbrev pub ray_start : ℕ → ℕ
ray_start i = i * at.RAY

unfoldable pub hit_in : List ℕ → List Float → ℕ → RayAnswer
hit_in named rays i = Hit (number_at rays (ray_start i + at.TIME)) (vector_at rays (ray_start i + at.NORMAL)) (get_or named i 0)

unfoldable pub hit_up_in : List ℕ → List Float → ℕ → RayAnswer
hit_up_in named rays i =
    HitUp (number_at rays (ray_start i + at.TIME)) (vector_at rays (ray_start i + at.NORMAL)) (vector_at rays (ray_start i + at.UPWARD)) (get_or named i 0)

unfoldable pub answer_in : List ℕ → List ℕ → List Float → ℕ → RayAnswer
answer_in kinds named rays i =
    pick (eqb (get_or kinds i 0) at.HIT) (hit_in named rays i) (pick (eqb (get_or kinds i 0) at.HIT-UP) (hit_up_in named rays i) Nothing)

-- an answer for each kind; and the same with nothing for the wheels after them
unfoldable pub given_in : List ℕ → List ℕ → List Float → List RayAnswer
given_in kinds named rays = listed (answer_in kinds named rays) (length kinds) 0

unfoldable pub answers_in : List ℕ → List ℕ → List Float → List RayAnswer
answers_in kinds named rays = paste (replicate table.WHEELS Nothing) 0 (given_in kinds named rays)

-- ---- what the drive is given
unfoldable pub frame_in : Float → List Float → List ℕ → List ℕ → List ℕ → List Float → Frame
frame_in dt bodies dynamic kinds named rays = frame dt bodies (flags_in dynamic) (answer_at (given_in kinds named rays))
