-- Laws on a value that is worked out for each of the first n wheels, in a list with room for all. In order: what k turns from i on leave; the list's length; value i; the loop's laws as a set. Assumes nothing.
use Prim.Native.Nat.{ℕ, zero, suc, ◌+◌, ◌≤◌, ◌<◌}
use mathlib.Core.List.{List}
use mathlib.Core.Path.{◌≡◌, refl, ◌∙◌}
use native.Mathlib.Decide.{dec_lt}
use native.Mathlib.Omega.{arith}
use lib.ListN.{length, get_or, length-set, length-replicate}
use lib.Seq.{get_or-set_same, get_or-set_other}
use lib.Ieee.{Float}
use Rattle.lists.specs.Counted.{iter}
use Rattle.lists.proofs.Turns.{turning_start, turning_again, turning_done}
use Rattle.wheel.specs.declared.Wheel.{Wheel}
use Rattle.table.specs.Layout as at
use Rattle.table.specs.Rows.{wheel_at}
use Rattle.passes.specs.Passes.{given, each_gives}

-- `d` is what is read past the end of the list
module _ {A : Type 0} (v : Wheel → A) (d : A) (t : List Float) where
  length_giving : (k i : ℕ) (l : List A) → length (iter (given v t) k i l) ≡ length l
  unfolding iter given
  length_giving zero i l = refl
  length_giving (suc k) i l = length_giving k (suc i) _ ∙ length-set l i _

  given_outside : (k i j : ℕ) (l : List A) → j < i → get_or (iter (given v t) k i l) j d ≡ get_or l j d
  unfolding iter given
  given_outside zero i j l h = refl
  given_outside (suc k) i j l h = given_outside k (suc i) j _ (omega arith) ∙ get_or-set_other l i j _ d (λ e. omega arith)

  given_inside : (k i j : ℕ) (l : List A) → i ≤ j → j < i + k → j < length l → get_or (iter (given v t) k i l) j d ≡ v (wheel_at t j)
  unfolding iter given
  given_inside zero i j l a b c = absurd (omega arith)
  given_inside (suc k) i j l a b c =
      elim (dec_lt i j) [
        | yes u ↦ given_inside k (suc i) j _ u (omega arith) (omega (arith, length-set l i (v (wheel_at t i))))
        | no u ↦ (
            let e : j ≡ i = omega arith in
            given_outside k (suc i) j _ (omega arith) ∙ rw e (get_or-set_same l i _ d (omega arith)))
      ]

  module _ (none : A) (n : ℕ) where
    pub length_gives : length (each_gives v none n t) ≡ at.WHEELS
    unfolding each_gives
    length_gives = length_giving n 0 _ ∙ length-replicate at.WHEELS none

    pub gives_at : (i : ℕ) → n ≤ at.WHEELS → i < n → get_or (each_gives v none n t) i d ≡ v (wheel_at t i)
    unfolding each_gives
    gives_at i l h = given_inside n 0 i _ (omega arith) (omega arith) (omega (arith, length-replicate at.WHEELS none))

-- what a loop that gives them cites
pub ruleset giving = (turning_start, turning_again, turning_done)
