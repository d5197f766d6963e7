-- From the leading digits of a root, one more of them than a format keeps, to the value nearest to the root. The last of the digits says which way to go; where it is 1 the root is above the middle,
-- since the number under the root is even and no odd square is. Assumes nothing.
use mathlib.Core.Path.{◌≡◌, refl, sym, ap, ◌∙◌}
use mathlib.Core.Logic.{◌⊎◌, inl, inr, ⊎_elim}
use Prim.Native.Nat.{ℕ, zero, suc, ◌+◌, ◌*◌, ◌/◌, ◌%◌, ◌^◌, ◌≤◌, ◌<◌}
use native.Mathlib.Nat.{add-zero, mod-lt, le_trans, le_of_eq, lt_of_lt_of_le, lt_of_le_of_lt, mul-pos, mul-le-mul_right, mul-lt-mul_of_pos_right, mul-mul-mul_comm}
use native.Mathlib.Omega.{arith}
use lib.Dec.{lit<}
use lib.Pow.{pow_pos}
use lib.Ieee.{Float, Format, prec, hid}
use Rattle.real.specs.Units.{unit, Count}
use Rattle.real.specs.Root.{Nearest}
use Rattle.real.proofs.Squares.{below_twice, below_twice_strict, above_twice}
use Rattle.real.proofs.Gap.{twice_hid, gap}

-- S is the even number v with 2 * k zeros after it, and n the root of v cut to a whole number: the root of S has n for its leading digits, and k digits after them
pub record Leading (f : Format) (S n k : ℕ) : Type 0 where
  pub v : ℕ
  pub is : S ≡ v * (2 ^ k * 2 ^ k)
  pub even : v % 2 ≡ 0
  pub lower : n * n ≤ v
  pub upper : v < (n + 1) * (n + 1)
  pub big : 2 ^ prec f ≤ n

-- the count of the nearest value: n without its last digit, rounded up
abbrev pub rounded : ℕ → ℕ → ℕ
rounded n k = (n + 1) / 2 * (2 * 2 ^ k)

-- ---- n is even or odd, and what is rounded is n or n + 1
parity : (n : ℕ) → (n % 2 ≡ 0) ⊎ (n % 2 ≡ 1)
parity n = go (n % 2) (mod-lt n (lit< tt))
  where
    go : (r : ℕ) → r < 2 → (r ≡ 0) ⊎ (r ≡ 1)
    go zero h = inl refl
    go (suc r) h = inr (omega arith)

module _ (n K : ℕ) where
  halved : (b q : ℕ) → n + b ≡ 2 * q → q * (2 * K) ≡ (n + b) * K
  halved b q e = omega (arith, ap (λ (x : ℕ). x * K) e)

  even_up : n % 2 ≡ 0 → (n + 1) / 2 * (2 * K) ≡ n * K
  even_up e = halved 0 ((n + 1) / 2) (omega arith) ∙ ap (λ (x : ℕ). x * K) (add-zero n)

  even_next : n % 2 ≡ 0 → suc (n / 2) * (2 * K) ≡ (n + 2) * K
  even_next e = halved 2 (suc (n / 2)) (omega arith)

  even_cut : n % 2 ≡ 0 → n / 2 * (2 * K) ≡ n * K
  even_cut e = halved 0 (n / 2) (omega arith) ∙ ap (λ (x : ℕ). x * K) (add-zero n)

  odd_up : n % 2 ≡ 1 → (n + 1) / 2 * (2 * K) ≡ (n + 1) * K
  odd_up e = halved 1 ((n + 1) / 2) (omega arith)

  odd_next : n % 2 ≡ 1 → suc (n / 2) * (2 * K) ≡ (n + 1) * K
  odd_next e = halved 1 (suc (n / 2)) (omega arith)

  odd_cut : n % 2 ≡ 1 → n / 2 * (2 * K) + K ≡ n * K
  odd_cut e = omega (arith, odd_next e)

module _ (f : Format) (S n k : ℕ) (h : Leading f S n k) where
  pub lower_scaled : n * 2 ^ k * (n * 2 ^ k) ≤ S
  lower_scaled = le_trans (le_of_eq (mul-mul-mul_comm n (2 ^ k) n (2 ^ k))) (le_trans (mul-le-mul_right (2 ^ k * 2 ^ k) h.lower) (le_of_eq (sym h.is)))

  pub upper_scaled : S < (n + 1) * 2 ^ k * ((n + 1) * 2 ^ k)
  upper_scaled =
      lt_of_le_of_lt (le_of_eq h.is) (lt_of_lt_of_le (mul-lt-mul_of_pos_right h.upper (mul-pos (pow_pos k) (pow_pos k))) (le_of_eq (sym (mul-mul-mul_comm (n + 1) (2 ^ k) (n + 1) (2 ^ k)))))

  -- an odd n is below the root
  lower_strict : n % 2 ≡ 1 → n * 2 ^ k * (n * 2 ^ k) < S
  lower_strict o =
      lt_of_le_of_lt (le_of_eq (mul-mul-mul_comm n (2 ^ k) n (2 ^ k)))
      (lt_of_lt_of_le (mul-lt-mul_of_pos_right (odd_square n (n / 2) h.v (split n o) h.lower h.even) (mul-pos (pow_pos k) (pow_pos k))) (le_of_eq (sym h.is)))
    where
      split : (n : ℕ) → n % 2 ≡ 1 → n ≡ 2 * (n / 2) + 1
      split n o = omega arith

      odd_square : (n q v : ℕ) → n ≡ 2 * q + 1 → n * n ≤ v → v % 2 ≡ 0 → n * n < v
      odd_square n q v e l z = let a : n * n ≡ (2 * q + 1) * n = ap (λ (x : ℕ). x * n) e in omega arith

  between : (y : Float) (c : ℕ) → Count f y c → (c ≤ n / 2 * (2 * 2 ^ k)) ⊎ (suc (n / 2) * (2 * 2 ^ k) ≤ c)
  between y c C = gap f y c (n / 2) k C (half_big (2 ^ prec f) (hid f) n (twice_hid f) h.big)
    where
      half_big : (P H n : ℕ) → P ≡ 2 * H → P ≤ n → H ≤ n / 2
      half_big P H n e b = omega arith

  pub below : (y : Float) (c : ℕ) → Count f y c → c < rounded n k → (c + rounded n k) * (c + rounded n k) < 4 * S
  below y c C l = ⊎_elim whole half (parity n)
    where
      N : ℕ
      N = rounded n k

      whole : n % 2 ≡ 0 → (c + N) * (c + N) < 4 * S
      whole e = below_twice_strict (c + N) (n * 2 ^ k) S (omega (arith, even_up n (2 ^ k) e)) lower_scaled

      at_most : n % 2 ≡ 1 → (c ≤ n / 2 * (2 * 2 ^ k)) ⊎ (suc (n / 2) * (2 * 2 ^ k) ≤ c) → c + N ≤ n * 2 ^ k + n * 2 ^ k
      at_most o (inl g) = omega (arith, odd_up n (2 ^ k) o, odd_cut n (2 ^ k) o)
      at_most o (inr g) = omega (arith, odd_up n (2 ^ k) o, odd_next n (2 ^ k) o)

      half : n % 2 ≡ 1 → (c + N) * (c + N) < 4 * S
      half o = below_twice (c + N) (n * 2 ^ k) S (at_most o (between y c C)) (lower_strict o)

  pub above : (y : Float) (c : ℕ) → Count f y c → rounded n k < c → 4 * S < (c + rounded n k) * (c + rounded n k)
  above y c C l = above_twice (c + N) ((n + 1) * 2 ^ k) S (⊎_elim (whole (between y c C)) half (parity n)) upper_scaled
    where
      N : ℕ
      N = rounded n k

      whole : (c ≤ n / 2 * (2 * 2 ^ k)) ⊎ (suc (n / 2) * (2 * 2 ^ k) ≤ c) → n % 2 ≡ 0 → (n + 1) * 2 ^ k + (n + 1) * 2 ^ k ≤ c + N
      whole (inl g) e = omega (arith, even_up n (2 ^ k) e, even_cut n (2 ^ k) e)
      whole (inr g) e = omega (arith, even_up n (2 ^ k) e, even_next n (2 ^ k) e)

      half : n % 2 ≡ 1 → (n + 1) * 2 ^ k + (n + 1) * 2 ^ k ≤ c + N
      half o = omega (arith, odd_up n (2 ^ k) o)

pub nearest : (f : Format) (a n k : ℕ) (r : Float) → Leading f (a * unit f) n k → Count f r (rounded n k) → Nearest f a r
nearest f a n k r h C = record { n = rounded n k; counted = C; below = below f (a * unit f) n k h; above = above f (a * unit f) n k h }
