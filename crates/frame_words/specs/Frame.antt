-- The lists of a drive, read from its words: the field order of docs/STREAM.md. Past the end of the words stand zeros. Definitions only.
use Rattle.std.specs.Prelude.{ℕ, zero, suc, ◌+◌, ◌*◌, ◌/◌, ◌%◌, Bool, List, [], ◌∷◌, eqb, Float}
use Rattle.std.specs.Float.{Format}
use Rattle.lists.specs.Pick.{pick}
use Rattle.lists.specs.Counted.{listed}
use Rattle.wheel.specs.declared.RayAnswer.{RayAnswer}
use Rattle.wheel.specs.declared.RayAnswer.TheVariants.{Nothing, Hit, HitUp}
use Rattle.table.specs.Layout as table
use Rattle.grammar.specs.Layout as code
use Rattle.scenario.specs.Layout as at
use Rattle.scenario.specs.Decode.{number_from, float_from, vector_from}

-- ---- the step
unfoldable pub step_from : Format → List ℕ → Float
step_from f l = float_from f l at.STEP

-- ---- the bodies
unfoldable pub body_count_from : List ℕ → ℕ
body_count_from l = number_from l at.BODY-COUNT

-- where body i starts
abbrev pub body_start : ℕ → ℕ
body_start i = at.BODIES + i * at.BODY-WORDS

-- number k of the bodies as they are lent: the bodies have BODY numbers each
unfoldable pub body_number_from : Format → List ℕ → ℕ → Float
body_number_from f l k = float_from f l (body_start (k / table.BODY) + k % table.BODY)

unfoldable pub bodies_from : Format → List ℕ → ℕ → List Float
bodies_from f l bodies = listed (body_number_from f l) (bodies * table.BODY) 0

-- whether body i is dynamic
unfoldable pub flag_from : List ℕ → ℕ → Bool
flag_from l i = eqb (number_from l (body_start i + at.FLAG)) code.DYNAMIC

unfoldable pub flags_from : List ℕ → ℕ → List Bool
flags_from l bodies = listed (flag_from l) bodies 0

-- ---- the answers
unfoldable pub answer_count_from : List ℕ → ℕ → ℕ
answer_count_from l bodies = number_from l (body_start bodies)

-- where the answers start
abbrev pub answers_start : ℕ → ℕ
answers_start bodies = body_start bodies + 1

unfoldable pub hit_from : Format → List ℕ → ℕ → RayAnswer
hit_from f l a = Hit (float_from f l (a + at.TIME)) (vector_from f l (a + at.NORMAL)) (number_from l (a + at.HIT-BODY))

unfoldable pub hit_up_from : Format → List ℕ → ℕ → RayAnswer
hit_up_from f l a = HitUp (float_from f l (a + at.TIME)) (vector_from f l (a + at.NORMAL)) (vector_from f l (a + at.UPWARD)) (number_from l (a + at.HIT-UP-BODY))

-- the answer at a, and how many words it takes, by its kind
unfoldable pub answer_from : Format → List ℕ → ℕ → RayAnswer
answer_from f l a = pick (eqb (number_from l a) code.HIT) (hit_from f l a) (pick (eqb (number_from l a) code.HIT-UP) (hit_up_from f l a) Nothing)

unfoldable pub answer_words : ℕ → ℕ
answer_words kind = pick (eqb kind code.HIT) at.HIT-WORDS (pick (eqb kind code.HIT-UP) at.HIT-UP-WORDS 1)

-- so many answers from a on
unfoldable pub answers_from : Format → List ℕ → ℕ → ℕ → List RayAnswer
answers_from f l a zero = []
answers_from f l a (suc answers) = answer_from f l a ∷ answers_from f l (a + answer_words (number_from l a)) answers
