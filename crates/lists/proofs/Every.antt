-- What a list of which `all` holds tells of each element. How a chain of iterators answers `all` stands in Chains. Assumes nothing.
use Prim.Native.Nat.{ℕ, zero, suc, ◌<◌}
use mathlib.Core.Bool.{Bool, true}
use mathlib.Core.List.{List, [], ◌∷◌}
use mathlib.Core.Path.{◌≡◌}
use native.Mathlib.Nat.{not-suc-le-zero, le_of_suc-le-suc}
use lib.ListN.{length, get_or}
use Rattle.lists.specs.All.{all}
use Rattle.lists.proofs.Picks.{pick_true}

module _ {A : Type 0} (p : A → Bool) where
  -- every element passes, read back at one of them
  pub all_at : (s : List A) (i : ℕ) (z : A) → i < length s → all p s ≡ true → p (get_or s i z) ≡ true
  unfolding all
  all_at [] i z l h = absurd (not-suc-le-zero l)
  all_at (x ∷ s) zero z l h = (pick_true (p x) (all p s) h).0
  all_at (x ∷ s) (suc i) z l h = all_at s i z (le_of_suc-le-suc l) (pick_true (p x) (all p s) h).1
