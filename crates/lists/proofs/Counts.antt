-- Laws from `s.iter().filter(f).count()`, in the words of std's lists, to `tally`: how many elements pass, by their places. Assumes nothing.
use Prim.Native.Nat.{ℕ, suc, ◌+◌}
use mathlib.Core.Bool.{Bool, true, false, cond}
use mathlib.Core.List.{List, [], ◌∷◌}
use mathlib.Core.Path.{◌≡◌, refl, sym, ◌∙◌}
use native.Mathlib.Omega.{arith}
use lib.ListN.{length, get_or}
use Rattle.std.specs.List.{count_by}
use Rattle.std.proofs.lemmas.List.Sums.{sum_by-cons}
use Rattle.lists.specs.Pick.{pick}
use Rattle.lists.specs.Counted.{tally}

module _ {A : Type 0} (p : A → Bool) where
  one : (a b : Bool) (m n : ℕ) → a ≡ b → m ≡ n → cond a 1 0 + m ≡ pick b (suc n) n
  unfolding pick
  one true b m n e h = rw (← e) (omega arith)
  one false b m n e h = rw (← e) (omega arith)

  count_from : (d : A) (s : List A) (q : ℕ → Bool) (i : ℕ) → ((j : ℕ) → q (i + j) ≡ p (get_or s j d)) → count_by p s ≡ tally q (length s) i
  unfolding tally
  count_from d [] q i h = refl
  count_from d (x ∷ s) q i h =
      let here : i + 0 ≡ i = omega arith in
      let first : q i ≡ p x = rw here at (h 0) in
      sum_by-cons (λ (y : A). cond (p y) 1 0) x s ∙ one (p x) (q i) _ _ (sym first) (count_from d s q (suc i) (λ j. let there : suc i + j ≡ i + suc j = omega arith in rw there (h (suc j))))

  pub count_chain : (d : A) (r : ℕ) (s : List A) → r ≡ count_by p s → r ≡ tally (λ i. p (get_or s i d)) (length s) 0
  count_chain d r s e = e ∙ count_from d s (λ i. p (get_or s i d)) 0 (λ j. let there : 0 + j ≡ j = omega arith in rw there)
