-- Laws on records that are gathered from a table, rescaled and put back. In order: record i once it is gathered and once it is rescaled;
-- two passes that do the same to each wheel; the three steps are the pass. Assumes nothing.
use Prim.Native.Nat.{ℕ, zero, suc, ◌+◌, ◌≤◌, ◌<◌}
use mathlib.Core.List.{List, map}
use mathlib.Core.Path.{◌≡◌, refl, ap, ◌∙◌}
use native.Mathlib.Omega.{arith}
use lib.ListN.{length, take, drop, get_or, length-map, get_or-append, get_or-map}
use lib.Seq.{get_or-take, length-take-le}
use lib.Ieee.{Float, Format, lt}
use Rattle.lists.specs.Counted.{iter}
use Rattle.wheel.specs.declared.Wheel.{Wheel}
use Rattle.tyre.specs.Grip.{airborne, rescaled_by, rescaled_of}
use Rattle.wheel.specs.Parts.{friction_in, with_friction}
use Rattle.table.specs.Layout as at
use Rattle.table.specs.Rows.{wheel_at, put_wheel}
use Rattle.table.proofs.Laws.{length_put, wheel_other}
use Rattle.passes.specs.Passes.{changed, each_wheel, rescale_at, rescales}
use Rattle.passes.proofs.Gives.{length_gives, gives_at}
use Rattle.slides.specs.Slides.{none, gathered, rescaled_first, slide_over, scattered}

none_stays : (f : Format) → none ≡ rescaled_of f none
unfolding rescaled_of rescaled_by lt
none_stays f = refl

module _ (t : List Float) (n : ℕ) (l : n ≤ at.WHEELS) where
  length_gathered : length (gathered n t) ≡ at.WHEELS
  unfolding gathered
  length_gathered = length_gives friction_in none t airborne n

  -- ---- record i, gathered, and then rescaled
  record_gathered : (i : ℕ) → i < n → get_or (gathered n t) i none ≡ friction_in (wheel_at t i)
  unfolding gathered
  record_gathered i h = gives_at friction_in none t airborne n i l h

  record_rescaled : (f : Format) (i : ℕ) → i < n → get_or (rescaled_first f n (gathered n t)) i none ≡ rescaled_of f (friction_in (wheel_at t i))
  unfolding rescaled_first
  record_rescaled f i h =
      let first : length (map (rescaled_of f) (take n (gathered n t))) ≡ n = length-map (take n (gathered n t)) (rescaled_of f) ∙ length-take-le n (gathered n t) (omega (arith, length_gathered)) in
      get_or-append (map (rescaled_of f) (take n (gathered n t))) (drop n (gathered n t)) none i (omega arith)
      ∙ ap (get_or (map (rescaled_of f) (take n (gathered n t))) i) (none_stays f)
      ∙ get_or-map (rescaled_of f) (take n (gathered n t)) i none
      ∙ ap (rescaled_of f) (get_or-take n (gathered n t) i none h ∙ record_gathered i h)

-- ---- two passes that do the same to each wheel
module _ (g h : ℕ → Wheel → Wheel) where
  turns_alike : (k i : ℕ) (t : List Float) → length t ≡ at.SIZE → i + k ≤ at.WHEELS → ((j : ℕ) → i ≤ j → j < i + k → g j (wheel_at t j) ≡ h j (wheel_at t j))
      → iter (changed g) k i t ≡ iter (changed h) k i t
  unfolding iter changed
  turns_alike zero i t s l same = refl
  turns_alike (suc k) i t s l same =
      rw (same i (omega arith) (omega arith))
      (turns_alike k (suc i) (put_wheel t i (h i (wheel_at t i))) (length_put t i _ s (omega arith)) (omega arith)
      (λ j a b. rw (wheel_other t i j (h i (wheel_at t i)) (λ e. omega arith) s (omega arith)) (same j (omega arith) (omega arith))))

  pub passes_alike : (n : ℕ) (t : List Float) → length t ≡ at.SIZE → n ≤ at.WHEELS → ((j : ℕ) → j < n → g j (wheel_at t j) ≡ h j (wheel_at t j)) → each_wheel g n t ≡ each_wheel h n t
  unfolding each_wheel
  passes_alike n t s l same = turns_alike n 0 t s (omega arith) (λ j a b. same j (omega arith))

-- ---- gathered, rescaled and scattered, the table is as the pass leaves it
pub scattered_is_pass : (f : Format) (n : ℕ) (t : List Float) → length t ≡ at.SIZE → n ≤ at.WHEELS → scattered (rescaled_first f n (gathered n t)) n t ≡ rescales f n t
unfolding scattered rescales slide_over rescale_at
scattered_is_pass f n t s l = passes_alike _ _ n t s l (λ j h. ap (with_friction (wheel_at t j)) (record_rescaled t n l f j h))
