-- The whole number that rounding takes for a fraction, `closest`, is within a half of it. Assumes nothing.
use mathlib.Core.Path.{◌≡◌, subst}
use mathlib.Core.Bool.{not}
use Prim.Native.Nat.{ℕ, suc, ◌+◌, ◌*◌, ◌/◌, ◌%◌, ◌≤◌, ◌<◌, compare, Ordering}
use native.Mathlib.Nat.{div-add-mod', mod-lt, mul-le-mul_right}
use native.Mathlib.Omega.{arith}
use lib.Dec.{T, is_le, compare_is_eq, leb→le, nleb→lt, eqb, eqb→eq, eqb_refl}
use lib.Arith.{lt_of_le-ne}
use lib.Ieee.{nearest}
use lib.Ieee.Fits.{nearest-le}
use lib.Ieee.Nearest.{closest, nearest-ge}

-- what `compare` says
abbrev pub Compares : Ordering → ℕ → ℕ → Type 0
Compares Ordering.lt a b = a < b
Compares Ordering.eq a b = a ≡ b
Compares Ordering.gt a b = b < a

pub compares : (a b : ℕ) → Compares (compare a b) a b
compares a b = go (compare a b) (leb→le a b) (nleb→lt a b) (eqb→eq a b) (λ (e : a ≡ b). subst (λ (x : ℕ). T (eqb a x)) e (eqb_refl a))
  where
    go : (o : Ordering) → (T (is_le o) → a ≤ b) → (T (not (is_le o)) → b < a) → (T (compare_is_eq o) → a ≡ b) → (a ≡ b → T (compare_is_eq o)) → Compares o a b
    go Ordering.lt h k e n = lt_of_le-ne (h tt) n
    go Ordering.eq h k e n = e tt
    go Ordering.gt h k e n = k tt

-- g is within a half of a / b
abbrev pub WithinHalf : ℕ → ℕ → ℕ → Type 0
WithinHalf g a b = (g * b * 2 ≤ a * 2 + b) × (a * 2 ≤ g * b * 2 + b)

-- q and r are a's quotient and remainder by b
lower : (a b q r : ℕ) → q * b + r ≡ a → r * 2 < b → WithinHalf q a b
lower a b q r e h = omega arith

upper : (a b q r : ℕ) → q * b + r ≡ a → r < b → b < r * 2 → WithinHalf (suc q) a b
upper a b q r e l h = omega arith

either : (a b q r g : ℕ) → q * b + r ≡ a → r * 2 ≡ b → q ≤ g → g ≤ suc q → WithinHalf g a b
either a b q r g e h l u = omega (arith, mul-le-mul_right b l, mul-le-mul_right b u)

nearest_half : (o : Ordering) (a b q r : ℕ) → q * b + r ≡ a → r < b → Compares o (r * 2) b → WithinHalf (nearest q o) a b
nearest_half Ordering.lt a b q r e l c = lower a b q r e c
nearest_half Ordering.eq a b q r e l c = either a b q r (nearest q Ordering.eq) e c (nearest-ge q Ordering.eq) (nearest-le q Ordering.eq)
nearest_half Ordering.gt a b q r e l c = upper a b q r e l c

pub closest_half : (a b : ℕ) → 0 < b → WithinHalf (closest a b) a b
closest_half a b B = nearest_half (compare (a % b * 2) b) a b (a / b) (a % b) (div-add-mod' a b) (mod-lt a B) (compares (a % b * 2) b)
