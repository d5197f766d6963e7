-- Laws on `iter`, `every`, `tally` and `listed`. A loop `while i < n` has the invariant that what is left to do gives what the whole gives: `iter f (n - i) i now ≡ iter f n 0 start`. Assumes nothing.
use Prim.Native.Nat.{ℕ, zero, suc, ◌+◌, ◌-◌, ◌≤◌, ◌<◌}
use mathlib.Core.Bool.{Bool, true, false}
use mathlib.Core.List.{[], ◌∷◌}
use mathlib.Core.Path.{◌≡◌, refl, ap}
use native.Mathlib.Decide.{dec_lt}
use native.Mathlib.Omega.{arith}
use lib.ListN.{length}
use Rattle.lists.specs.Pick.{pick}
use Rattle.lists.specs.Counted.{iter, every, tally, listed}

module _ {S : Type 0} (f : ℕ → S → S) where
  -- one turn
  pub iter_turn : (n i : ℕ) (s : S) → i < n → iter f (n - i) i s ≡ iter f (n - (i + 1)) (i + 1) (f i s)
  unfolding iter
  iter_turn n i s l =
      let a : n - i ≡ suc (n - (i + 1)) = omega arith in
      let b : i + 1 ≡ suc i = omega arith in
      rw (a, b)

  -- no turn is left
  pub iter_end : (n i : ℕ) (s : S) → n ≤ i → iter f (n - i) i s ≡ s
  unfolding iter
  iter_end n i s l =
      let a : n - i ≡ 0 = omega arith in
      rw a

  -- none is done
  pub iter_start : (n : ℕ) (s : S) → iter f (n - 0) 0 s ≡ iter f n 0 s
  iter_start n s =
      let a : n - 0 ≡ n = omega arith in
      rw a

  -- what each turn keeps is kept
  pub iter_keeps : (P : S → Type 0) (n : ℕ) → ((i : ℕ) (s : S) → i < n → P s → P (f i s)) → (k i : ℕ) (s : S) → i + k ≤ n → P s → P (iter f k i s)
  unfolding iter
  iter_keeps P n h zero i s l p = p
  iter_keeps P n h (suc k) i s l p = iter_keeps P n h k (suc i) (f i s) (omega arith) (h i s (omega arith) p)

  -- the two steps of such a loop's proof
  pub iter_again : (n i : ℕ) (s s' whole : S) → i < n → s' ≡ f i s → iter f (n - i) i s ≡ whole → iter f (n - (i + 1)) (i + 1) s' ≡ whole
  iter_again n i s s' whole l e h = rw (e, ← iter_turn n i s l) h

  pub iter_done : (n i : ℕ) (s whole : S) → n ≤ i → iter f (n - i) i s ≡ whole → s ≡ whole
  iter_done n i s whole l h = rw (iter_end n i s l) at h

-- the same as a record: a loop at its turn i of n
module _ {S : Type 0} (f : ℕ → S → S) (n : ℕ) (start : S) where
  pub record Turning (i : ℕ) (s : S) : Type 0 where
    pub upto : i ≤ n
    pub rest : iter f (n - i) i s ≡ iter f n 0 start

  pub turning_start : Turning 0 start
  turning_start = record { upto = omega arith; rest = iter_start f n start }

  pub turning_again : (i : ℕ) (s s' : S) → Turning i s → i < n → s' ≡ f i s → Turning (i + 1) s'
  turning_again i s s' h l e = record { upto = omega arith; rest = iter_again f n i s s' _ l e h.rest }

  pub turning_done : (i : ℕ) (s : S) → Turning i s → n ≤ i → s ≡ iter f n 0 start
  turning_done i s h l = iter_done f n i s _ l h.rest

left_suc : (n i : ℕ) → i < n → n - i ≡ suc (n - suc i)
left_suc n i l = omega arith

left_none : (n i : ℕ) → n ≤ i → n - i ≡ 0
left_none n i l = omega arith

next : (i : ℕ) → i + 1 ≡ suc i
next i = omega arith

-- a loop that tests each number: the invariant is `every p n 0 ≡ every p (n - i) i`
module _ (p : ℕ → Bool) where
  pub every_start : (n : ℕ) → every p n 0 ≡ every p (n - 0) 0
  every_start n =
      let a : n - 0 ≡ n = omega arith in
      rw a

  pub every_yes : (n i : ℕ) → i < n → p i ≡ true → every p (n - i) i ≡ every p (n - (i + 1)) (i + 1)
  unfolding every pick
  every_yes n i l e = rw (left_suc n i l, next i, e)

  pub every_no : (n i : ℕ) → i < n → p i ≡ false → every p (n - i) i ≡ false
  unfolding every pick
  every_no n i l e = rw (left_suc n i l, e)

  pub every_end : (n i : ℕ) → n ≤ i → every p (n - i) i ≡ true
  unfolding every
  every_end n i l = rw (left_none n i l)

  -- a loop that counts: the invariant is `g + tally p (n - i) i ≡ tally p n 0`
  pub tally_yes : (n i g whole : ℕ) → i < n → p i ≡ true → g + tally p (n - i) i ≡ whole → g + 1 + tally p (n - (i + 1)) (i + 1) ≡ whole
  unfolding tally pick
  tally_yes n i g whole l e h =
      let k : g + suc (tally p (n - suc i) (suc i)) ≡ whole = rw (left_suc n i l, e) at h in
      rw (next i) (omega arith)

  pub tally_no : (n i g whole : ℕ) → i < n → p i ≡ false → g + tally p (n - i) i ≡ whole → g + tally p (n - (i + 1)) (i + 1) ≡ whole
  unfolding tally pick
  tally_no n i g whole l e h =
      let k : g + tally p (n - suc i) (suc i) ≡ whole = rw (left_suc n i l, e) at h in
      rw (next i) k

  pub tally_end : (n i g whole : ℕ) → n ≤ i → g + tally p (n - i) i ≡ whole → g ≡ whole
  unfolding tally
  tally_end n i g whole l h =
      let k : g + 0 ≡ whole = rw (left_none n i l) at h in
      omega arith

  -- there are no more than the turns
  pub tally_le : (k i : ℕ) → tally p k i ≤ k
  unfolding tally pick
  tally_le zero i = omega arith
  tally_le (suc k) i = go (p i) (tally p k (suc i)) (tally_le k (suc i))
    where
      go : (b : Bool) (t : ℕ) → t ≤ k → pick b (suc t) t ≤ suc k
      go true t h = omega arith
      go false t h = omega arith

  -- every number up to n passes, read back at one of them
  pub every_at : (k i j : ℕ) → every p k i ≡ true → i ≤ j → j < i + k → p j ≡ true
  unfolding every pick
  every_at zero i j h l u = absurd (omega arith)
  every_at (suc k) i j h l u = go (p i) refl h (λ (r : every p k (suc i) ≡ true) (g : suc i ≤ j). every_at k (suc i) j r g (omega arith))
    where
      go : (b : Bool) → p i ≡ b → pick b (every p k (suc i)) false ≡ true → (every p k (suc i) ≡ true → suc i ≤ j → p j ≡ true) → p j ≡ true
      go true e r later = elim (dec_lt i j) [
        | yes g ↦ later r g
        | no g ↦ (
            let s : j ≡ i = omega arith in
            rw s e)
      ]
      go false e r later = let z : ◌≡◌ {A = ℕ} 0 1 = cc in absurd (omega arith)

-- a list of values: how many, and those that are left once i are taken
module _ {A : Type 0} (f : ℕ → A) where
  pub length_listed : (k i : ℕ) → length (listed f k i) ≡ k
  unfolding listed
  length_listed zero i = refl
  length_listed (suc k) i = ap suc (length_listed k (suc i))

  pub listed_start : (n : ℕ) → listed f (n - 0) 0 ≡ listed f n 0
  listed_start n =
      let a : n - 0 ≡ n = omega arith in
      rw a

  pub listed_more : (n i : ℕ) → i < n → listed f (n - i) i ≡ f i ∷ listed f (n - (i + 1)) (i + 1)
  unfolding listed
  listed_more n i l = rw (left_suc n i l, next i)

  pub listed_end : (n i : ℕ) → n ≤ i → listed f (n - i) i ≡ []
  unfolding listed
  listed_end n i l = rw (left_none n i l)
