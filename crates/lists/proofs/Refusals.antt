-- Laws on `first_failed` of one list of tests before another. In order: the first list refuses; it passes, and the second decides; both pass, and so does the first. Assumes nothing.
use Prim.Native.Nat.{ℕ, zero, suc}
use mathlib.Core.Bool.{Bool, true, false, not}
use mathlib.Core.List.{List, [], ◌∷◌, ◌++◌}
use mathlib.Core.Path.{◌≡◌, refl, sym}
use native.Mathlib.Omega.{arith}
use borrow.Author.Tests.{eqb-false, not-true}
use lib.Dec.{eqb}
use Rattle.lists.specs.Pick.{pick}
use Rattle.lists.specs.All.{all}
use Rattle.lists.specs.Refusal.{Test, first_failed}
use Rattle.lists.proofs.Picks.{pick_true}

pub append_refused : (a b : List Test) (k : ℕ) → first_failed a ≡ suc k → first_failed (a ++ b) ≡ suc k
unfolding first_failed pick
append_refused [] b k h = absurd (omega arith)
append_refused (t ∷ a) b k h = go t.holds h (append_refused a b k)
  where
    go : (holds : Bool) → pick holds (first_failed a) t.number ≡ suc k → (first_failed a ≡ suc k → first_failed (a ++ b) ≡ suc k)
        → pick holds (first_failed (a ++ b)) t.number ≡ suc k
    go true e later = later e
    go false e later = e

-- the same of a number that a callee answered
pub append_refused_by : (a b : List Test) (n : ℕ) → n ≡ first_failed a → (n ≡ 0 → ⊥) → n ≡ first_failed (a ++ b)
append_refused_by a b zero e h = absurd (h refl)
append_refused_by a b (suc k) e h = sym (append_refused a b k (sym e))

-- a test that refuses with a number that is not 0
abbrev pub numbered : Test → Bool
numbered t = not (eqb t.number 0)

pub append_passed : (a b : List Test) → all numbered a ≡ true → first_failed a ≡ 0 → first_failed (a ++ b) ≡ first_failed b
unfolding first_failed pick all
append_passed [] b l h = refl
append_passed (t ∷ a) b l h = let p = pick_true (numbered t) (all numbered a) l in go t.holds p.0 h (append_passed a b p.1)
  where
    go : (holds : Bool) → numbered t ≡ true → pick holds (first_failed a) t.number ≡ 0 → (first_failed a ≡ 0 → first_failed (a ++ b) ≡ first_failed b)
        → pick holds (first_failed (a ++ b)) t.number ≡ first_failed b
    go true p e later = later e
    go false p e later = absurd (eqb-false t.number 0 (not-true _ p) e)

pub passed_of_append : (a b : List Test) → first_failed (a ++ b) ≡ 0 → first_failed a ≡ 0
passed_of_append a b h = go (first_failed a) refl
  where
    go : (n : ℕ) → first_failed a ≡ n → n ≡ 0
    go zero e = refl
    go (suc k) e = let r = append_refused a b k e in absurd (omega arith)
