-- Laws on a pass over a list, as a loop makes it: `up_to f i xs` is xs with f applied to its first i elements. In order: its length; a turn; the end. Assumes nothing.
use mathlib.Core.Path.{◌≡◌, refl, sym, ap, ◌∙◌}
use Prim.Native.Nat.{ℕ, zero, suc, ◌+◌, ◌≤◌}
use native.Mathlib.Numerals.{add-one}
use native.Mathlib.Nat.{not-suc-le-zero, le_of_suc-le-suc}
use mathlib.Core.List.{List, [], ◌∷◌, map}
use lib.ListN.{length, get_or, set}

module _ {A : Type 0} (f : A → A) where
  abbrev pub up_to : ℕ → List A → List A
  up_to zero xs = xs
  up_to (suc i) [] = []
  up_to (suc i) (x ∷ xs) = f x ∷ up_to i xs

  pub up_to_length : (i : ℕ) (xs : List A) → length (up_to i xs) ≡ length xs
  up_to_length zero xs = refl
  up_to_length (suc i) [] = refl
  up_to_length (suc i) (x ∷ xs) = ap suc (up_to_length i xs)

  -- a turn
  pub up_to_set : (i : ℕ) (xs : List A) (d : A) → set (up_to i xs) i (f (get_or (up_to i xs) i d)) ≡ up_to (suc i) xs
  up_to_set zero [] d = refl
  up_to_set zero (x ∷ xs) d = refl
  up_to_set (suc i) [] d = refl
  up_to_set (suc i) (x ∷ xs) d = ap {B = List A} (λ r. f x ∷ r) (up_to_set i xs d)

  -- the same of lists by their equations, where element i becomes y
  pub up_to_turn : (i : ℕ) (xs ys zs : List A) (d y : A) → ys ≡ up_to i xs → zs ≡ set ys i y → y ≡ f (get_or ys i d) → zs ≡ up_to (i + 1) xs
  up_to_turn i xs ys zs d y e z q = rw (z, q, e) (up_to_set i xs d ∙ ap (λ (k : ℕ). up_to k xs) (sym (add-one i)))

  -- the end
  pub up_to_all : (i : ℕ) (xs : List A) → length xs ≤ i → up_to i xs ≡ map f xs
  up_to_all zero [] l = refl
  up_to_all zero (x ∷ xs) l = absurd (not-suc-le-zero l)
  up_to_all (suc i) [] l = refl
  up_to_all (suc i) (x ∷ xs) l = ap {B = List A} (λ r. f x ∷ r) (up_to_all i xs (le_of_suc-le-suc l))
