-- Counted loops: k turns, numbered from i on. Definitions only.
use Rattle.std.specs.Prelude.{ℕ, zero, suc, Bool, true, List, [], ◌∷◌}
use Rattle.lists.specs.Pick.{pick, ◌and◌}

-- each turn changes the state s
module _ {S : Type 0} (f : ℕ → S → S) where
  unfoldable pub iter : ℕ → ℕ → S → S
  iter zero i s = s
  iter (suc k) i s = iter k (suc i) (f i s)

-- whether a test holds of each number
unfoldable pub every : (ℕ → Bool) → ℕ → ℕ → Bool
every p zero i = true
every p (suc k) i = p i and every p k (suc i)

-- of how many numbers it holds
unfoldable pub tally : (ℕ → Bool) → ℕ → ℕ → ℕ
tally p zero i = zero
tally p (suc k) i = pick (p i) (suc (tally p k (suc i))) (tally p k (suc i))

-- the values of a function at each number
module _ {A : Type 0} (f : ℕ → A) where
  unfoldable pub listed : ℕ → ℕ → List A
  listed zero i = []
  listed (suc k) i = f i ∷ listed k (suc i)
