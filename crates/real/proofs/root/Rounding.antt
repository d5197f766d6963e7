-- `rounded`, for either format: the argument of `whole_root`, how many digits the root has, and the pattern that it makes. Assumes nothing.
use mathlib.Core.Path.{◌≡◌, refl, sym, ap, ◌∙◌, subst}
use mathlib.Core.Bool.{false, not}
use Prim.Native.Nat.{ℕ, suc, ◌+◌, ◌-◌, ◌*◌, ◌/◌, ◌%◌, ◌^◌, ◌≤◌, ◌<◌}
use native.Mathlib.Nat.{le_trans, le_of_eq, lt_of_le_of_lt, mul_assoc, mul_left_comm, mul-le-mul, mul-le-mul_left, mod-eq_of_lt, pow-succ'}
use native.Mathlib.Omega.{arith}
use lib.Dec.{T, lit<, lit≤}
use lib.Arith.{digits_lt}
use lib.Pow.{pow-add, pow_mono, shl_exact}
use lib.Bits.{bit_and, bit_or, and_mask, or_shifted}
use lib.Ieee.{Format, binary32, binary64, prec, low, hid, ones, of_bits, nan_bits}
use lib.Ieee.Bits.{of_bits-fits}
use lib.Ieee.Exact.{HasValue}
use Rattle.real.specs.Units.{unit}
use Rattle.real.specs.Root.{Nearest}
use Rattle.real.proofs.Squares.{lt_of_square_lt, le_of_square_lt}
use Rattle.real.proofs.LeadingRoot.{rounded, nearest}
use Rattle.real.proofs.root.Patterns.{normal, not_nan}

-- ---- the code's numbers: the exponent that stands for units, what is added to its half, and the largest exponent
abbrev pub origin : Format → ℕ
origin binary32 = 24
origin binary64 = 54

abbrev pub offset : Format → ℕ
offset binary32 = 52
offset binary64 = 485

abbrev pub limit : Format → ℕ
limit binary32 = 277
limit binary64 = 2099

-- the bits of a word
abbrev pub width : Format → ℕ
width binary32 = 32
width binary64 = 64

-- `e & 1`
pub low_bit : (e : ℕ) → bit_and e 1 ≡ e % 2
low_bit e = and_mask e 1

low_bit_lt : (e : ℕ) → e % 2 < 2
low_bit_lt e = omega arith

-- what the code hands to `whole_root`, the number under the root counted in first places, and that number itself
abbrev pub handed : Format → ℕ → ℕ → ℕ
handed f m e = m * 2 ^ (1 + bit_and e 1) % 2 ^ width f

abbrev under : Format → ℕ → ℕ → ℕ
under f m e = m * 2 ^ (suc (prec f) + e % 2)

module _ (f : Format) (m e : ℕ) (h : m < 2 ^ prec f) where
  handed_is : handed f m e ≡ m * 2 ^ (1 + e % 2)
  handed_is = ap (λ (x : ℕ). m * 2 ^ (1 + x) % 2 ^ width f) (low_bit e) ∙ shl_exact {a = m} (prec f) (1 + e % 2) (width f) h (room f)
    where
      room : (f : Format) → prec f + (1 + e % 2) ≤ width f
      room binary32 = omega (arith, low_bit_lt e)
      room binary64 = omega (arith, low_bit_lt e)

  pub handed_lt : handed f m e < 4 * 2 ^ prec f
  handed_lt = lt_of_le_of_lt (le_trans (le_of_eq handed_is) (mul-le-mul_left m (pow_mono (most (e % 2) (low_bit_lt e))))) (omega (arith, h))
    where
      most : (b : ℕ) → b < 2 → 1 + b ≤ 2
      most b k = omega arith

  under_is : handed f m e * 2 ^ prec f ≡ under f m e
  under_is =
      ap (λ (x : ℕ). x * 2 ^ prec f) handed_is
      ∙ mul_assoc m (2 ^ (1 + e % 2)) (2 ^ prec f)
      ∙ ap (λ (x : ℕ). m * x) (sym (pow-add 2 (1 + e % 2) (prec f)) ∙ ap (λ (x : ℕ). 2 ^ x) (sum (prec f) (e % 2)))
    where
      sum : (p b : ℕ) → 1 + b + p ≡ suc p + b
      sum p b = omega arith

-- ---- how many digits the root has
module _ (f : Format) (m e n : ℕ) where
  root_ge : hid f ≤ m → under f m e < (n + 1) * (n + 1) → 2 ^ prec f ≤ n
  root_ge h u = le_of_square_lt (2 ^ prec f) n (lt_of_le_of_lt (le_trans (square f) (mul-le-mul h (pow_mono (more (suc (prec f)) (e % 2))))) u)
    where
      square : (f : Format) → 2 ^ prec f * 2 ^ prec f ≤ hid f * 2 ^ suc (prec f)
      square binary32 = lit≤ tt
      square binary64 = lit≤ tt

      more : (p b : ℕ) → p ≤ p + b
      more p b = omega arith

  -- so far below the next power of two that rounding up stays below it
  root_le : m < 2 ^ prec f → n * n ≤ under f m e → n + 1 < 2 * 2 ^ prec f
  root_le h l = last f n (lt_of_square_lt n (2 * 2 ^ prec f - 1) (lt_of_le_of_lt l (lt_of_le_of_lt (mul-le-mul (pred (2 ^ prec f) m h) (pow_mono (most (suc (prec f)) (e % 2) (low_bit_lt e)))) (square f))))
    where
      pred : (P m : ℕ) → m < P → m ≤ P - 1
      pred P m h = omega arith

      most : (p b : ℕ) → b < 2 → p + b ≤ p + 1
      most p b k = omega arith

      square : (f : Format) → (2 ^ prec f - 1) * 2 ^ (suc (prec f) + 1) < (2 * 2 ^ prec f - 1) * (2 * 2 ^ prec f - 1)
      square binary32 = lit< tt
      square binary64 = lit< tt

      last : (f : Format) (n : ℕ) → n < 2 * 2 ^ prec f - 1 → n + 1 < 2 * 2 ^ prec f
      last binary32 n h = omega arith
      last binary64 n h = omega arith

pub root_fits : (f : Format) (m e n : ℕ) → m < 2 ^ prec f → n * n ≤ handed f m e * 2 ^ prec f → n + 1 < 2 * 2 ^ prec f
root_fits f m e n h l = root_le f m e n h (le_trans l (le_of_eq (under_is f m e h)))

-- ---- the pattern: the rounded root without its leading digit, under the exponent
-- how many digits of the root stand after the n that are worked out
abbrev after : Format → ℕ → ℕ
after f e = e / 2 + (offset f - 2)

module _ (f : Format) (e t : ℕ) (E : e ≤ limit f) (less : t < hid f) where
  field : (e / 2 + offset f ≡ suc (suc (after f e))) × (suc (suc (after f e)) < ones f) × ((e / 2 + offset f) * hid f < 2 ^ width f)
  field = go f E
    where
      go : (f : Format) → e ≤ limit f → (e / 2 + offset f ≡ suc (suc (after f e))) × (suc (suc (after f e)) < ones f) × ((e / 2 + offset f) * hid f < 2 ^ width f)
      go binary32 h = omega arith
      go binary64 h = omega arith

  joined : bit_or ((e / 2 + offset f) * hid f % 2 ^ width f) t ≡ suc (suc (after f e)) * hid f + t
  joined = ap (λ (x : ℕ). bit_or x t) (mod-eq_of_lt field.2) ∙ or_shifted (e / 2 + offset f) (prec f - 1) t less ∙ ap (λ (x : ℕ). x * hid f + t) field.0

  pub no_nan : T (not (nan_bits f (bit_or ((e / 2 + offset f) * hid f % 2 ^ width f) t)))
  no_nan = not_nan f (bit_or ((e / 2 + offset f) * hid f % 2 ^ width f) t) (lt_of_le_of_lt (le_of_eq joined) (digits_lt field.1 less))

abbrev pattern : Format → ℕ → ℕ → ℕ
pattern f e n = bit_or ((e / 2 + offset f) * hid f % 2 ^ width f) (bit_and ((n + 1) / 2) (hid f - 1))

module _ (f : Format) (e n : ℕ) (E : e ≤ limit f) (big : 2 ^ prec f ≤ n) (small : n + 1 < 2 * 2 ^ prec f) where
  fraction : ((n + 1) / 2 % hid f < hid f) × (hid f + (n + 1) / 2 % hid f ≡ (n + 1) / 2)
  fraction = go f big small
    where
      go : (f : Format) → 2 ^ prec f ≤ n → n + 1 < 2 * 2 ^ prec f → ((n + 1) / 2 % hid f < hid f) × (hid f + (n + 1) / 2 % hid f ≡ (n + 1) / 2)
      go binary32 a b = omega arith
      go binary64 a b = omega arith

  value : HasValue (of_bits f (pattern f e n)) false (rounded n (after f e)) (unit f)
  value =
      let t = (n + 1) / 2 % hid f in
      let k = after f e in
      let is : pattern f e n ≡ suc (suc k) * hid f + t = ap (λ (x : ℕ). bit_or ((e / 2 + offset f) * hid f % 2 ^ width f) x) (and_mask ((n + 1) / 2) (prec f - 1)) ∙ joined f e t E fraction.0 in
      let c : (hid f + t) * 2 ^ suc k ≡ rounded n k = ap (λ (x : ℕ). x * 2 ^ suc k) fraction.1 ∙ ap (λ (x : ℕ). (n + 1) / 2 * x) (pow-succ' 2 k) in
      subst (λ (b : ℕ). HasValue (of_bits f b) false (rounded n k) (unit f)) (sym is)
      (subst (λ (x : ℕ). HasValue (of_bits f (suc (suc k) * hid f + t)) false x (unit f)) c (normal f (suc k) t (field f e t E fraction.0).1 fraction.0))

-- ---- the number under the root, and its zeros
even : (f : Format) (m e : ℕ) → under f m e % 2 ≡ 0
even f m e = go m (prec f + e % 2) (suc (prec f) + e % 2) (next (prec f) (e % 2))
  where
    next : (p b : ℕ) → suc p + b ≡ suc (p + b)
    next p b = omega arith

    go : (m j i : ℕ) → i ≡ suc j → m * 2 ^ i % 2 ≡ 0
    go m j i e = let a : m * 2 ^ i ≡ 2 * (m * 2 ^ j) = ap (λ (x : ℕ). m * 2 ^ x) e ∙ ap (λ (x : ℕ). m * x) (pow-succ' 2 j) ∙ mul_left_comm m 2 (2 ^ j) in omega arith

zeros : (f : Format) (a m e : ℕ) → a * 2 ^ origin f ≡ m * 2 ^ e → a * unit f ≡ under f m e * (2 ^ after f e * 2 ^ after f e)
zeros f a m e h =
    let k = after f e in
    let up = low f - origin f in
    let left : a * unit f ≡ m * 2 ^ (e + up) = ap (λ (x : ℕ). a * 2 ^ x) (split f) ∙ ap (λ (x : ℕ). a * x) (pow-add 2 (origin f) up) ∙ sym (mul_assoc a (2 ^ origin f) (2 ^ up)) ∙ ap (λ (x : ℕ). x * 2 ^ up) h ∙ pair m e up in
    left ∙ ap (λ (x : ℕ). m * 2 ^ x) (exponent f e) ∙ sym (ap (λ (x : ℕ). under f m e * x) (sym (pow-add 2 k k)) ∙ pair m (suc (prec f) + e % 2) (k + k))
  where
    pair : (m i j : ℕ) → m * 2 ^ i * 2 ^ j ≡ m * 2 ^ (i + j)
    pair m i j = mul_assoc m (2 ^ i) (2 ^ j) ∙ ap (λ (x : ℕ). m * x) (sym (pow-add 2 i j))

    split : (f : Format) → low f ≡ origin f + (low f - origin f)
    split binary32 = refl
    split binary64 = refl

    exponent : (f : Format) (e : ℕ) → e + (low f - origin f) ≡ suc (prec f) + e % 2 + (after f e + after f e)
    exponent binary32 e = omega arith
    exponent binary64 e = omega arith

-- ---- n is what `whole_root` returns
module _ (f : Format) (m e n : ℕ) (lo : hid f ≤ m) (hi : m < 2 ^ prec f) (E : e ≤ limit f) (l : n * n ≤ handed f m e * 2 ^ prec f) (u : handed f m e * 2 ^ prec f < (n + 1) * (n + 1)) where
  lower : n * n ≤ under f m e
  lower = le_trans l (le_of_eq (under_is f m e hi))

  upper : under f m e < (n + 1) * (n + 1)
  upper = lt_of_le_of_lt (le_of_eq (sym (under_is f m e hi))) u

  pub is_nearest : (a : ℕ) → a * 2 ^ origin f ≡ m * 2 ^ e → Nearest f a (of_bits f (pattern f e n))
  is_nearest a h =
      nearest f a n (after f e) (of_bits f (pattern f e n))
      (record { v = under f m e; is = zeros f a m e h; even = even f m e; lower = lower; upper = upper; big = root_ge f m e n lo upper })
      (of_bits-fits f (pattern f e n), value f e n E (root_ge f m e n lo upper) (root_le f m e n hi lower))
