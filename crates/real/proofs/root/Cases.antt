-- `root_of` at each kind of bit pattern, for either format, in the terms of the code. Assumes nothing.
use mathlib.Core.Path.{◌≡◌, refl, sym, ap, ◌∙◌, subst}
use mathlib.Core.Bool.{Bool, true, false, cond, true≢false}
use Prim.Native.Nat.{ℕ, zero, suc, ◌+◌, ◌-◌, ◌*◌, ◌/◌, ◌%◌, ◌^◌, ◌≤◌, ◌<◌}
use native.Mathlib.Nat.{le_trans, le_of_eq, lt_of_lt_of_le, lt_of_le_of_lt, le-add_right, sub-le, mul_assoc, mul-pos, mul-le-mul_right, mul-lt-mul_of_pos_right, mod-eq_of_lt}
use native.Mathlib.Omega.{arith}
use lib.IntN.{pos}
use lib.Dec.{T, leb, eqb, le→leb, eqb_refl, lit≤}
use lib.Pow.{pow-add, pow_pos, pow_mono}
use lib.Count.{count_leading_zeros, leading_top}
use lib.Bits.{bit_and, bit_or, and_mask, or_shifted_r}
use lib.Ieee.{Float, nan, inf, fin, Format, binary32, binary64, prec, low, hid, ones, top, odd, is_nan, sub, of_fields, of_bits}
use lib.Ieee.Bits.{is_true, of_bits-fits}
use lib.Ieee.Exact.{HasValue, odd_sign}
use lib.Ieee.Positive.{positive_of_value}
use Rattle.real.specs.Units.{unit}
use Rattle.real.specs.Root.{root_of, Nearest}
use Rattle.real.proofs.Counts.{lt_of_pow_lt}
use Rattle.real.proofs.CorrectlyRounded.{nearest_is_root_of}
use Rattle.real.proofs.root.Patterns.{of_bits_is, fields, normal, subnormal}
use Rattle.real.proofs.root.Rounding.{origin, limit, width}

-- ---- a NaN
pub of_nan : (f : Format) (x : Float) → is_nan x ≡ true → x ≡ root_of f x
unfolding is_nan root_of
of_nan f nan e = refl
of_nan f (inf s) e = absurd (true≢false (sym e))
of_nan f (fin s m d) e = absurd (true≢false (sym e))

-- ---- the pattern without its sign, `bits & MAGNITUDE`, and its digits, `bits & FRACTION`
magnitude : (f : Format) (b : ℕ) → bit_and b (top f - 1) ≡ b % top f
magnitude binary32 b = and_mask b 31
magnitude binary64 b = and_mask b 63

fraction : (f : Format) (b : ℕ) → bit_and b (hid f - 1) ≡ b % hid f
fraction f b = and_mask b (prec f - 1)

-- ---- a zero
pub of_zero : (f : Format) (b : ℕ) → bit_and b (top f - 1) ≡ 0 → of_bits f b ≡ root_of f (of_bits f b)
unfolding root_of
of_zero f b h =
    let z = parts f (sym (magnitude f b) ∙ h) in
    let s = leb (top f) b in
    let e : of_bits f b ≡ fin s 0 (pos 0) = of_bits_is f b ∙ ap (λ (x : ℕ). of_fields f s x (b % hid f)) z.0 ∙ ap (λ (t : ℕ). of_fields f s 0 t) z.1 ∙ no_digit s in
    subst (λ (y : Float). y ≡ root_of f y) (sym e) refl
  where
    parts : (f : Format) → b % top f ≡ 0 → (b % top f / hid f ≡ 0) × (b % hid f ≡ 0)
    parts binary32 h = omega arith
    parts binary64 h = omega arith

    no_digit : (s : Bool) → of_fields f s 0 0 ≡ fin s 0 (pos 0)
    no_digit s = unfold of_fields odd in refl

-- ---- a number below zero
below_zero : (f : Format) (y : Float) (a c : ℕ) → HasValue y true a c → 0 < a → nan ≡ root_of f y
unfolding root_of
below_zero f nan a c h A = refl
below_zero f (inf s) a c h A = absurd h
below_zero f (fin s zero e) a c h A = absurd (positive_of_value (fin false zero e) a c (refl, h.1) A)
below_zero f (fin true (suc m) e) a c h A = refl
below_zero f (fin false (suc m) e) a c h A = absurd (true≢false (sym h.0))

negative_fields : (f : Format) (x t : ℕ) → (x ≡ 0 → 0 < t) → nan ≡ root_of f (of_fields f true x t)
unfolding of_fields
negative_fields f zero t h = below_zero f (odd (prec f) true t 0 (low f)) (t * 2 ^ 0) (unit f) (odd_sign (prec f) true t 0 (low f)) (mul-pos (h refl) (pow_pos 0))
negative_fields f (suc x) t h = go (eqb (suc x) (ones f)) (eqb t 0)
  where
    go : (p q : Bool) → nan ≡ root_of f (cond p (cond q (inf true) nan) (odd (prec f) true (hid f + t) x (low f)))
    go true true = unfold root_of in refl
    go true false = unfold root_of in refl
    go false q = below_zero f (odd (prec f) true (hid f + t) x (low f)) ((hid f + t) * 2 ^ x) (unit f) (odd_sign (prec f) true (hid f + t) x (low f)) (mul-pos (lt_of_lt_of_le (pow_pos (prec f - 1)) (le-add_right (hid f) t)) (pow_pos x))

pub of_negative : (f : Format) (b : ℕ) → (bit_and b (top f - 1) ≡ 0 → ⊥) → b / top f ≡ 1 → sub f (of_bits f (ones f * hid f)) (of_bits f (ones f * hid f)) ≡ root_of f (of_bits f b)
of_negative f b h s =
    no_number f
    ∙ negative_fields f (b % top f / hid f) (b % hid f) (some_digit f (λ (z : b % top f ≡ 0). h (magnitude f b ∙ z)))
    ∙ ap (root_of f) (sym (of_bits_is f b ∙ ap (λ (p : Bool). of_fields f p (b % top f / hid f) (b % hid f)) (is_true (leb (top f) b) (le→leb (top f) b (sign_set f s)))))
  where
    -- an infinity less an infinity
    no_number : (f : Format) → sub f (of_bits f (ones f * hid f)) (of_bits f (ones f * hid f)) ≡ nan
    no_number binary32 = unfold sub of_bits in refl
    no_number binary64 = unfold sub of_bits in refl

    sign_set : (f : Format) → b / top f ≡ 1 → top f ≤ b
    sign_set binary32 h = omega arith
    sign_set binary64 h = omega arith

    some_digit : (f : Format) → (b % top f ≡ 0 → ⊥) → b % top f / hid f ≡ 0 → 0 < b % hid f
    some_digit binary32 h z = omega arith
    some_digit binary64 h z = omega arith

-- ---- the infinity, and above it the NaNs
top_fields : (f : Format) (x t : ℕ) → suc x ≡ ones f → of_fields f false (suc x) t ≡ root_of f (of_fields f false (suc x) t)
unfolding of_fields
top_fields f x t e = go (eqb (suc x) (ones f)) (eqb t 0) (subst (λ (y : ℕ). T (eqb (suc x) y)) e (eqb_refl (suc x)))
  where
    go : (p q : Bool) → T p → cond p (cond q (inf false) nan) (odd (prec f) false (hid f + t) x (low f)) ≡ root_of f (cond p (cond q (inf false) nan) (odd (prec f) false (hid f + t) x (low f)))
    go true true h = unfold root_of in refl
    go true false h = unfold root_of in refl
    go false q h = absurd h

pub of_top : (f : Format) (b : ℕ) → ones f * hid f ≤ b → b < 2 * top f → (b / top f ≡ 1 → ⊥) → of_bits f b ≡ root_of f (of_bits f b)
of_top f b h l s =
    let z = parts f h l s in
    let e : of_bits f b ≡ of_fields f false (suc (ones f - 1)) (b % hid f) = ap (of_bits f) z.0 ∙ fields f (suc (ones f - 1)) (b % hid f) z.2 z.3 in
    subst (λ (y : Float). y ≡ root_of f y) (sym e) (top_fields f (ones f - 1) (b % hid f) z.1)
  where
    parts : (f : Format) → ones f * hid f ≤ b → b < 2 * top f → (b / top f ≡ 1 → ⊥) → (b ≡ suc (ones f - 1) * hid f + b % hid f) × (suc (ones f - 1) ≡ ones f) × (suc (ones f - 1) < suc (ones f)) × (b % hid f < hid f)
    parts binary32 h l s = omega arith
    parts binary64 h l s = omega arith

-- ---- what is left is a finite number above zero
pub is_positive : (f : Format) (b : ℕ) → (bit_and b (top f - 1) ≡ 0 → ⊥) → b < ones f * hid f → (0 < b) × (b < ones f * hid f)
is_positive f b h l = (some f (λ (z : b % top f ≡ 0). h (magnitude f b ∙ z)), l)
  where
    some : (f : Format) → (b % top f ≡ 0 → ⊥) → 0 < b
    some binary32 h = omega arith
    some binary64 h = omega arith

-- r is nearest to the root of m * 2 ^ (e - origin) units, as `rounded` has it
abbrev Near : Format → ℕ → ℕ → Float → Type 0
Near f m e r = (a : ℕ) → a * 2 ^ origin f ≡ m * 2 ^ e → Nearest f a r

-- ---- a normal number: its field is not 0
pub with_leading : (f : Format) (b : ℕ) → bit_or (bit_and b (hid f - 1)) (hid f) ≡ hid f + b % hid f
with_leading binary32 b = ap (λ (x : ℕ). bit_or x (hid binary32)) (fraction binary32 b) ∙ or_shifted_r 1 23 (b % 2 ^ 23) (omega arith)
with_leading binary64 b = ap (λ (x : ℕ). bit_or x (hid binary64)) (fraction binary64 b) ∙ or_shifted_r 1 52 (b % 2 ^ 52) (omega arith)

module _ (f : Format) (b : ℕ) (l : b < ones f * hid f) where
  pub normal_asks : (hid f ≤ bit_or (bit_and b (hid f - 1)) (hid f)) × (bit_or (bit_and b (hid f - 1)) (hid f) < 2 ^ prec f) × (b / hid f + (origin f - 1) ≤ limit f)
  normal_asks = let e = with_leading f b in let z = go f l in (le_trans z.0 (le_of_eq (sym e)), lt_of_le_of_lt (le_of_eq e) z.1, z.2)
    where
      go : (f : Format) → b < ones f * hid f → (hid f ≤ hid f + b % hid f) × (hid f + b % hid f < 2 ^ prec f) × (b / hid f + (origin f - 1) ≤ limit f)
      go binary32 h = omega arith
      go binary64 h = omega arith

  pub of_normal : (r : Float) → (b / hid f ≡ 0 → ⊥) → Near f (bit_or (bit_and b (hid f - 1)) (hid f)) (b / hid f + (origin f - 1)) r → r ≡ root_of f (of_bits f b)
  of_normal r h p =
      let m = hid f + b % hid f in
      let x = b / hid f - 1 in
      let z = parts f l h in
      let v : HasValue (of_bits f b) false (m * 2 ^ x) (unit f) = subst (λ (y : ℕ). HasValue (of_bits f y) false (m * 2 ^ x) (unit f)) z.0 (normal f x (b % hid f) z.1 z.2) in
      let e : m * 2 ^ x * 2 ^ origin f ≡ bit_or (bit_and b (hid f - 1)) (hid f) * 2 ^ (b / hid f + (origin f - 1)) =
      mul_assoc m (2 ^ x) (2 ^ origin f) ∙ ap (λ (y : ℕ). m * y) (sym (pow-add 2 x (origin f)) ∙ ap (λ (y : ℕ). 2 ^ y) z.4) ∙ ap (λ (y : ℕ). y * 2 ^ (b / hid f + (origin f - 1))) (sym (with_leading f b)) in
      nearest_is_root_of f (of_bits f b) r (m * 2 ^ x) (of_bits-fits f b) v (mul-pos z.3 (pow_pos x)) (p (m * 2 ^ x) e)
    where
      parts : (f : Format) → b < ones f * hid f → (b / hid f ≡ 0 → ⊥)
          → (suc (b / hid f - 1) * hid f + b % hid f ≡ b) × (suc (b / hid f - 1) < ones f) × (b % hid f < hid f) × (0 < hid f + b % hid f) × (b / hid f - 1 + origin f ≡ b / hid f + (origin f - 1))
      parts binary32 h k = omega arith
      parts binary64 h k = omega arith

-- ---- a subnormal number: the fraction is the pattern itself. Its leading digit is `places` below that of a normal number
abbrev places : Format → ℕ → ℕ
places f t = count_leading_zeros (width f) t - (width f - prec f)

narrow : (f : Format) → 2 ^ prec f ≤ 2 ^ width f
narrow binary32 = lit≤ tt
narrow binary64 = lit≤ tt

leading_at : (f : Format) (t : ℕ) → 0 < t → t < hid f → (j : ℕ) × (count_leading_zeros (width f) t + suc j ≡ width f) × (2 ^ j ≤ t) × (t < 2 ^ suc j) × (j < prec f - 1)
leading_at f t h k =
    let z = leading_top (width f) t h (lt_of_lt_of_le k (le_trans (pow_mono (sub-le (prec f) 1)) (narrow f))) in
    (z.0, z.1, z.2, z.3, lt_of_pow_lt z.0 (prec f - 1) (lt_of_le_of_lt z.2 k))

places_add : (f : Format) (l j : ℕ) → l + suc j ≡ width f → j < prec f - 1 → (width f - prec f ≤ l) × (l - (width f - prec f) ≤ prec f - 1) × (j + (l - (width f - prec f)) ≡ prec f - 1) × (suc j + (l - (width f - prec f)) ≡ prec f)
places_add binary32 l j e h = omega arith
places_add binary64 l j e h = omega arith

module _ (f : Format) (b : ℕ) (some : 0 < b) (low : b / hid f ≡ 0) where
  below : b < hid f
  below = go f low
    where
      go : (f : Format) → b / hid f ≡ 0 → b < hid f
      go binary32 h = omega arith
      go binary64 h = omega arith

  fraction_is : bit_and b (hid f - 1) ≡ b
  fraction_is = fraction f b ∙ mod-eq_of_lt below

  pub places_fit : (width f - prec f ≤ count_leading_zeros (width f) (bit_and b (hid f - 1))) × (places f (bit_and b (hid f - 1)) ≤ prec f - 1)
  places_fit =
      let z = leading_at f b some below in
      let s = places_add f (count_leading_zeros (width f) b) z.0 z.1 z.4 in
      subst (λ (t : ℕ). (width f - prec f ≤ count_leading_zeros (width f) t) × (places f t ≤ prec f - 1)) (sym fraction_is) (s.0, s.1)

  -- the shifted fraction has all the digits that the format keeps
  full : (hid f ≤ b * 2 ^ places f b) × (b * 2 ^ places f b < 2 ^ prec f)
  full =
      let z = leading_at f b some below in
      let j = z.0 in
      let p = places f b in
      let s = places_add f (count_leading_zeros (width f) b) j z.1 z.4 in (
        le_trans (le_of_eq (ap (λ (x : ℕ). 2 ^ x) (sym s.2) ∙ pow-add 2 j p)) (mul-le-mul_right (2 ^ p) z.2),
        lt_of_lt_of_le (mul-lt-mul_of_pos_right z.3 (pow_pos p)) (le_of_eq (sym (pow-add 2 (suc j) p) ∙ ap (λ (x : ℕ). 2 ^ x) s.3)),
      )

  shifted_is : bit_and b (hid f - 1) * 2 ^ places f (bit_and b (hid f - 1)) % 2 ^ width f ≡ b * 2 ^ places f b
  shifted_is = ap (λ (t : ℕ). t * 2 ^ places f t % 2 ^ width f) fraction_is ∙ mod-eq_of_lt (lt_of_lt_of_le full.1 (narrow f))

  pub subnormal_asks : (hid f ≤ bit_and b (hid f - 1) * 2 ^ places f (bit_and b (hid f - 1)) % 2 ^ width f)
      × (bit_and b (hid f - 1) * 2 ^ places f (bit_and b (hid f - 1)) % 2 ^ width f < 2 ^ prec f)
      × (origin f - places f (bit_and b (hid f - 1)) ≤ limit f)
  subnormal_asks = (le_trans full.0 (le_of_eq (sym shifted_is)), lt_of_le_of_lt (le_of_eq shifted_is) full.1, at_most f (places f (bit_and b (hid f - 1))))
    where
      at_most : (f : Format) (z : ℕ) → origin f - z ≤ limit f
      at_most binary32 z = omega arith
      at_most binary64 z = omega arith

  pub of_subnormal : (r : Float) → Near f (bit_and b (hid f - 1) * 2 ^ places f (bit_and b (hid f - 1)) % 2 ^ width f) (origin f - places f (bit_and b (hid f - 1))) r → r ≡ root_of f (of_bits f b)
  of_subnormal r p =
      let t = bit_and b (hid f - 1) in
      let z = places f t in
      let e : b * 2 ^ origin f ≡ t * 2 ^ z % 2 ^ width f * 2 ^ (origin f - z) =
      ap (λ (x : ℕ). b * 2 ^ x) (back f z places_fit.1)
      ∙ ap (λ (x : ℕ). b * x) (pow-add 2 z (origin f - z))
      ∙ sym (mul_assoc b (2 ^ z) (2 ^ (origin f - z)))
      ∙ ap (λ (x : ℕ). x * 2 ^ (origin f - z)) (ap (λ (x : ℕ). b * 2 ^ places f x) fraction_is ∙ sym shifted_is) in
      nearest_is_root_of f (of_bits f b) r b (of_bits-fits f b) (subnormal f b below) some (p b e)
    where
      back : (f : Format) (z : ℕ) → z ≤ prec f - 1 → origin f ≡ z + (origin f - z)
      back binary32 z h = omega arith
      back binary64 z h = omega arith
