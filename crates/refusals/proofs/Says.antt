-- What a test that did not refuse tells its caller, a record for each. In order: refusal 1 (sizes, the whole shape); refusal 6 (one answer, the first n); refusal 12 (the first n); refusal 17 (the first n, one angle). What refusal 10 tells stands in crate `ranges`,
-- what refusal 2 tells in the table's laws. Assumes nothing.
use Prim.Native.Nat.{ℕ, ◌≤◌, ◌<◌}
use mathlib.Core.Bool.{Bool, true, false, not, cond, true≢false}
use mathlib.Core.List.{List}
use mathlib.Core.Path.{◌≡◌, refl, sym}
use native.Mathlib.Omega.{arith}
use borrow.Author.Tests.{eqb-true, leb-true}
use lib.ListN.{length}
use lib.Ieee.{Float, Format}
use Rattle.lists.proofs.Picks.{pick_true, told_yes}
use Rattle.real.specs.Number.{zero, one}
use Rattle.vector.specs.declared.Vector.{Vector}
use Rattle.wheel.specs.declared.RayAnswer.{RayAnswer}
use Rattle.wheel.specs.declared.RayAnswer.TheVariants.{Nothing, Hit, HitUp}
use Rattle.wheel.specs.Steering.{steering_axis, rotation_from_angle}
use Rattle.table.specs.Layout as at
use Rattle.table.specs.Rows.{wheel_at}
use Rattle.ranges.specs.Ranges.{rotation_in_range}
use Rattle.refusals.specs.Shape.{count_of, mark_of, up_of, forward_of, sizes_ok, axes_ok, status_ok, shape_ok}
use Rattle.wheel.specs.Ray.{named_of}
use Rattle.refusals.specs.Handed.{hit_ok, answer_ok, answers_ok}
use Rattle.refusals.specs.Normals.{normals_ok, all_normals_ok}
use Rattle.refusals.specs.Steered.{turn_ok, wheel_steered_ok, all_steered_ok}
use Rattle.ranges.proofs.Says.{Between, unit_says, up_to}

-- ---- refusal 1
pub record Sizes (t : List Float) (m : List ℕ) : Type 0 where
  pub sized : length t ≡ at.SIZE
  pub four : length m ≡ at.WHOLE

pub sizes_say : (t : List Float) (m : List ℕ) → sizes_ok t m ≡ true → Sizes t m
unfolding sizes_ok
sizes_say t m h =
    let p = pick_true _ _ h in
    record { sized = eqb-true _ _ p.0; four = eqb-true _ _ p.1 }

-- a whole number's place is in the list where a callee's answer b was not refused: what a read of it asks
pub place_in_whole : (t : List Float) (m : List ℕ) (b : Bool) (k : ℕ) → b ≡ sizes_ok t m → not b ≡ false → k < at.WHOLE → k < length m
place_in_whole t m b k p q l =
    let s = sizes_say t m (told_yes b (sizes_ok t m) p q) in
    omega arith

pub record Shape (t : List Float) (m : List ℕ) : Type 0 where
  pub sized : length t ≡ at.SIZE
  pub four : length m ≡ at.WHOLE
  pub room : count_of m ≤ at.WHEELS
  pub marked : mark_of m ≤ at.DRIVEN
  pub up : up_of m ≤ 2
  pub forward : forward_of m ≤ 2

pub shape_says : (t : List Float) (m : List ℕ) → shape_ok t m ≡ true → Shape t m
unfolding shape_ok status_ok axes_ok
shape_says t m h =
    let p = pick_true _ _ h in
    let q = pick_true _ _ p.1 in
    let s = sizes_say t m p.0 in
    let k = pick_true _ _ q.0 in
    let a = pick_true _ _ q.1 in
    record {
      sized = s.sized;
      four = s.four;
      room = leb-true _ _ k.0;
      marked = leb-true _ _ k.1;
      up = leb-true _ _ a.0;
      forward = leb-true _ _ a.1;
    }

pub place_in_shape : (t : List Float) (m : List ℕ) (b : Bool) (k : ℕ) → b ≡ shape_ok t m → not b ≡ false → k < at.WHOLE → k < length m
place_in_shape t m b k p q l =
    let s = shape_says t m (told_yes b (shape_ok t m) p q) in
    omega arith

-- ---- refusal 6
pub record HitRange (bodies : ℕ) (time : Float) (named : ℕ) : Type 0 where
  pub within : Between zero one time
  pub listed : named ≤ bodies

pub hit_says : (bodies : ℕ) (time : Float) (named : ℕ) → hit_ok bodies time named ≡ true → HitRange bodies time named
unfolding hit_ok
hit_says bodies time named h =
    let p = pick_true _ _ h in
    record { within = unit_says time p.0; listed = leb-true _ _ p.1 }

pub answer_says : (bodies : ℕ) (a : RayAnswer) → answer_ok bodies a ≡ true → named_of a ≤ bodies
unfolding answer_ok named_of
answer_says bodies Nothing h = omega arith
answer_says bodies (Hit time normal named) h = (hit_says bodies time named h).listed
answer_says bodies (HitUp time normal upward named) h = (hit_says bodies time named h).listed

pub answers_say : (bodies : ℕ) (answer : ℕ → RayAnswer) (n i : ℕ) → answers_ok bodies answer n ≡ true → i < n → named_of (answer i) ≤ bodies
unfolding answers_ok
answers_say bodies answer n i h l = answer_says bodies (answer i) (up_to (λ j. answer_ok bodies (answer j)) n i h l)

-- ---- refusal 12
pub normals_say : (f : Format) (answer : ℕ → RayAnswer) (n i : ℕ) → all_normals_ok f answer n ≡ true → i < n → normals_ok f (answer i) ≡ true
unfolding all_normals_ok
normals_say f answer n i h l = up_to (λ j. normals_ok f (answer j)) n i h l

-- ---- refusal 17
pub steered_say : (f : Format) (t : List Float) (n i : ℕ) → all_steered_ok f t n ≡ true → i < n → wheel_steered_ok f (wheel_at t i) ≡ true
unfolding all_steered_ok
steered_say f t n i h l = up_to (λ j. wheel_steered_ok f (wheel_at t j)) n i h l

-- an angle whose axis did not fall back, and whose rotation is in the band
pub record TurnTested (f : Format) (direction : Vector) (angle : Float) : Type 0 where
  pub axis : (steering_axis f direction).fellback ≡ false
  pub rotation : rotation_in_range f (rotation_from_angle f (steering_axis f direction).vector angle) ≡ true

pub turn_says : (f : Format) (direction : Vector) (angle : Float) → turn_ok f direction angle ≡ true → TurnTested f direction angle
unfolding turn_ok
turn_says f direction angle h =
    let p = both (steering_axis f direction).fellback _ h in
    record { axis = p.0; rotation = p.1 }
  where
    both : (a b : Bool) → cond a false b ≡ true → (a ≡ false) × (b ≡ true)
    both true b h = absurd (true≢false (sym h))
    both false b h = (refl, h)
