-- No value of a format lies between q * (2 * 2 ^ k) and (q + 1) * (2 * 2 ^ k) units, where q has all the digits that the format keeps. Assumes nothing.
use mathlib.Core.Path.{◌≡◌, refl, sym, ap, ◌∙◌, subst}
use mathlib.Core.Logic.{◌⊎◌, inl, inr}
use Prim.Native.Nat.{ℕ, suc, ◌-◌, ◌*◌, ◌^◌, ◌≤◌, ◌<◌}
use native.Mathlib.Nat.{le_trans, le_of_eq, le_of_lt, lt_of_not-le, mul_assoc, mul-le-mul, mul-le-mul_right, pow-succ', sub-add_cancel}
use native.Mathlib.Omega.{arith}
use native.Mathlib.Decide.{dec_le}
use lib.Pow.{pow-add, pow_mono}
use lib.Ieee.{Float, Format, binary32, binary64, prec, hid}
use Rattle.real.specs.Units.{Count}
use Rattle.real.proofs.Counts.{Digits, digits, count_of, finite_of}

pub twice_hid : (f : Format) → 2 ^ prec f ≡ 2 * hid f
twice_hid binary32 = refl
twice_hid binary64 = refl

-- fewer zeros than k + 1: the count is too small
few_zeros : (f : Format) (m j k q : ℕ) → j ≤ k → m < 2 ^ prec f → hid f ≤ q → m * 2 ^ j ≤ q * (2 * 2 ^ k)
few_zeros f m j k q h a b =
    let t = twice_hid f in
    let c : m * 2 ^ j ≤ 2 * hid f * 2 ^ k = mul-le-mul (le_trans (le_of_lt a) (le_of_eq t)) (pow_mono h) in
    omega (arith, mul-le-mul_right (2 ^ k) b)

-- k + 1 zeros or more: the count is a multiple of 2 ^ (k + 1)
many_zeros : (m j k : ℕ) → suc k ≤ j → m * 2 ^ j ≡ m * 2 ^ (j - suc k) * (2 * 2 ^ k)
many_zeros m j k h =
    ap (λ (x : ℕ). m * 2 ^ x) (sym (sub-add_cancel h))
    ∙ ap (λ (x : ℕ). m * x) (pow-add 2 (j - suc k) (suc k) ∙ ap (λ (x : ℕ). 2 ^ (j - suc k) * x) (pow-succ' 2 k))
    ∙ sym (mul_assoc m (2 ^ (j - suc k)) (2 * 2 ^ k))

multiple : (c w q u : ℕ) → c ≡ w * u → Dec (w ≤ q) → (c ≤ q * u) ⊎ (suc q * u ≤ c)
multiple c w q u e (yes h) = inl (le_trans (le_of_eq e) (mul-le-mul_right u h))
multiple c w q u e (no h) = inr (le_trans (mul-le-mul_right u (lt_of_not-le h)) (le_of_eq (sym e)))

pub gap_of_digits : (f : Format) (c q k : ℕ) → Digits f c → hid f ≤ q → (c ≤ q * (2 * 2 ^ k)) ⊎ (suc q * (2 * 2 ^ k) ≤ c)
gap_of_digits f c q k d b = go (dec_le d.zeros k)
  where
    go : Dec (d.zeros ≤ k) → (c ≤ q * (2 * 2 ^ k)) ⊎ (suc q * (2 * 2 ^ k) ≤ c)
    go (yes h) = inl (le_trans (le_of_eq d.is) (few_zeros f d.lead d.zeros k q h d.few b))
    go (no h) = let w = d.lead * 2 ^ (d.zeros - suc k) in multiple c w q (2 * 2 ^ k) (d.is ∙ many_zeros d.lead d.zeros k (lt_of_not-le h)) (dec_le w q)

pub gap : (f : Format) (y : Float) (c q k : ℕ) → Count f y c → hid f ≤ q → (c ≤ q * (2 * 2 ^ k)) ⊎ (suc q * (2 * 2 ^ k) ≤ c)
gap f y c q k h b = gap_of_digits f c q k (subst (Digits f) (count_of f y _ c h.1) (digits f y h.0 (finite_of y _ c _ h.1))) b
