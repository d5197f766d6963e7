-- Squares of whole numbers against a number S that lies between two of them. Assumes nothing.
use Prim.Native.Nat.{ℕ, ◌+◌, ◌*◌, ◌≤◌, ◌<◌}
use native.Mathlib.Nat.{lt_of_not-le, not-le_of_lt, lt_of_le_of_lt, le_of_lt, mul-le-mul, mul-le-mul_left, mul-lt-mul_of_pos_right}
use native.Mathlib.Omega.{arith}

pub square_le : {x y : ℕ} → x ≤ y → x * x ≤ y * y
square_le h = mul-le-mul h h

pub square_lt : {x y : ℕ} → x < y → x * x < y * y
square_lt {x} {y} h = lt_of_le_of_lt (mul-le-mul_left x (le_of_lt h)) (mul-lt-mul_of_pos_right h (above_zero x y h))
  where
    above_zero : (x y : ℕ) → x < y → 0 < y
    above_zero x y h = omega arith

pub lt_of_square_lt : (x y : ℕ) → x * x < y * y → x < y
lt_of_square_lt x y h = lt_of_not-le (λ (g : y ≤ x). not-le_of_lt h (square_le g))

pub le_of_square_lt : (x y : ℕ) → x * x < (y + 1) * (y + 1) → x ≤ y
le_of_square_lt x y h = omega (arith, lt_of_square_lt x (y + 1) h)

-- a sum of two values, against twice the root of S
pub below_twice : (w lo S : ℕ) → w ≤ lo + lo → lo * lo < S → w * w < 4 * S
below_twice w lo S h k = omega (arith, square_le h)

pub below_twice_strict : (w lo S : ℕ) → w < lo + lo → lo * lo ≤ S → w * w < 4 * S
below_twice_strict w lo S h k = omega (arith, square_lt h)

pub above_twice : (w hi S : ℕ) → hi + hi ≤ w → S < hi * hi → 4 * S < w * w
above_twice w hi S h k = omega (arith, square_le h)
