-- Change request 2026-03, refusal 12: "Refuse any hit whose normal's sum of squares lies outside 1 − 2^-10 to 1 + 2^-10, save the zero normal at time 0; the upward normal is held to the same band."
-- Definitions only.
use Rattle.std.specs.Prelude.{ℕ, Bool, true, Float}
use Rattle.std.specs.Float.{Format}
use Rattle.lists.specs.Pick.{pick, ◌and◌}
use Rattle.lists.specs.Counted.{every}
use Rattle.vector.specs.declared.Vector.{Vector}
use Rattle.vector.specs.Arithmetic.{dot_v}
use Rattle.wheel.specs.declared.RayAnswer.{RayAnswer}
use Rattle.wheel.specs.declared.RayAnswer.TheVariants.{Nothing, Hit, HitUp}
use Rattle.wheel.specs.Ray.{is_undefined}
use Rattle.ranges.specs.Ranges.{in_band}

-- the sum of squares is the dot with itself; the band is a rotation's, both ends accepted
unfoldable pub normal_ok : Format → Vector → Bool
normal_ok f v = in_band (dot_v f v v)

-- save the zero normal at time 0: all three parts zero, zeros of either sign
unfoldable pub hit_normal_ok : Format → Float → Vector → Bool
hit_normal_ok f time normal = pick (is_undefined time normal) true (normal_ok f normal)

-- the upward normal, whatever the time; a zero one is outside the band
unfoldable pub normals_ok : Format → RayAnswer → Bool
normals_ok f Nothing = true
normals_ok f (Hit time normal named) = hit_normal_ok f time normal
normals_ok f (HitUp time normal upward named) = hit_normal_ok f time normal and normal_ok f upward

-- each of the first n answers, `answer i` being that of wheel i
unfoldable pub all_normals_ok : Format → (ℕ → RayAnswer) → ℕ → Bool
all_normals_ok f answer n = every (λ i. normals_ok f (answer i)) n 0
