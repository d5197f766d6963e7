-- A value that is a NaN or not below zero. What is rounded with the sign + is one (round_not_negative), and so are products and inverses of such values (mul_not_negative, inverse_not_negative), every root
-- (root_not_negative), and what passes the test `0 <= x` (not_negative_of_le). One that is no NaN passes that test (le_of_not_negative), as whatever was raised to 0 does (zero_le_not_below_zero); one that is
-- at most a finite value is finite (finite_of_le); and one that is below 1 is finite, and at most 1 in units (below_one). Assumes nothing.
use mathlib.Core.Path.{◌≡◌, refl, sym, ap, ap₂, ◌∙◌, subst}
use Prim.Native.Nat.{ℕ, zero, suc, ◌+◌, ◌*◌, ◌^◌, ◌≤◌, ◌<◌, zero-le}
use native.Mathlib.Nat.{le_trans, le_of_eq, le_of_lt, eq_of_mul-eq-mul_right, mul-pos}
use native.Mathlib.Omega.{arith}
use mathlib.Core.Bool.{Bool, true, false, not, ◌||◌, beq, cond, true≢false}
use lib.Dec.{T, ltb, eqb, ltb→lt}
use lib.Pow.{pow_pos}
use lib.Ieee.{Float, nan, inf, fin, Format, prec, emax, low, unlike, up, down, level, is_nan, odd, units, round, mul, div, lt, eq, le, fits}
use lib.Ieee.Bits.{is_true}
use lib.Ieee.Fits.{up_pos, down_pos, round_is}
use lib.Ieee.Exact.{HasValue, round_exact}
use lib.Ieee.Order.{drop, kept, le_of_values}
use lib.Ieee.Scale.{finite}
use Rattle.real.specs.Number.{zero as nought, one}
use Rattle.real.specs.Root.{root_of}
use Rattle.real.specs.Scalar.{inverse_of, not_below_zero}
use Rattle.real.specs.Units.{unit, count}
use Rattle.real.proofs.SignedCounts.{Counted, count_of, own_count, one_counted, lt_counts, at_most_zero}

-- a NaN, +infinity, a number with the sign +, or a zero
abbrev pub NotNegative : Float → Type 0
NotNegative nan = Unit {0}
NotNegative (inf s) = T (not s)
NotNegative (fin s m e) = T s → m ≡ 0

-- ---- rounding
pub round_not_negative : (f : Format) (a c : ℕ) → NotNegative (round f false a c)
unfolding units odd
round_not_negative f a c = subst NotNegative (sym (round_is f false a c)) (inside (ltb (q * 2 ^ k) (2 ^ (low f + suc (emax f)))) q)
  where
    q : ℕ
    q = kept (prec f) (a * 2 ^ low f) c

    k : ℕ
    k = drop (prec f) (a * 2 ^ low f) c

    inside : (b : Bool) (q : ℕ) → NotNegative (cond b (odd (suc (prec f)) false q k (low f)) (inf false))
    inside true zero = λ (t : ⊥). absurd t
    inside true (suc q) = λ (t : ⊥). absurd t
    inside false q = tt

round_zero : (f : Format) (s : Bool) (a c : ℕ) → a ≡ 0 → 0 < c → NotNegative (round f s a c)
round_zero f s a c e C = subst (λ (z : ℕ). NotNegative (round f s z c)) (sym e) (of_value (round f s 0 c) (round_exact f s 0 c 0 0 C (pow_pos (prec f)) (pow_pos (low f + suc (emax f))) (omega arith)))
  where
    of_value : (x : Float) → HasValue x s 0 c → NotNegative x
    of_value nan h = tt
    of_value (inf t) h = absurd h
    of_value (fin t m e) h = λ (y : T t). eq_of_mul-eq-mul_right (up e * c) (mul-pos (up_pos e) C) m 0 (omega (arith, h.1))

-- ---- products, inverses, roots

-- an infinity times m
infinite : (s : Bool) (m : ℕ) → (T s → m ≡ 0) → NotNegative (cond (eqb m 0) nan (inf s))
infinite true m z = subst (λ (n : ℕ). NotNegative (cond (eqb n 0) nan (inf true))) (sym (z tt)) tt
infinite false m z = either (eqb m 0)
  where
    either : (b : Bool) → NotNegative (cond b nan (inf false))
    either true = tt
    either false = tt

pub mul_not_negative : (f : Format) (x y : Float) → NotNegative x → NotNegative y → NotNegative (mul f x y)
unfolding mul
mul_not_negative f nan y p q = tt
mul_not_negative f (inf true) y p q = absurd p
mul_not_negative f (inf false) nan p q = tt
mul_not_negative f (inf false) (inf true) p q = absurd q
mul_not_negative f (inf false) (inf false) p q = tt
mul_not_negative f (inf false) (fin true n d) p q = infinite true n q
mul_not_negative f (inf false) (fin false n d) p q = infinite false n q
mul_not_negative f (fin s m e) nan p q = tt
mul_not_negative f (fin s m e) (inf true) p q = absurd q
mul_not_negative f (fin true m e) (inf false) p q = infinite true m p
mul_not_negative f (fin false m e) (inf false) p q = infinite false m p
mul_not_negative f (fin true m e) (fin t n d) p q = round_zero f (unlike true t) (m * up e * (n * up d)) (down e * down d) (ap (λ (z : ℕ). z * up e * (n * up d)) (p tt) ∙ omega arith) (mul-pos (down_pos e) (down_pos d))
mul_not_negative f (fin false m e) (fin true n d) p q = round_zero f true (m * up e * (n * up d)) (down e * down d) (ap (λ (z : ℕ). m * up e * (z * up d)) (q tt) ∙ omega arith) (mul-pos (down_pos e) (down_pos d))
mul_not_negative f (fin false m e) (fin false n d) p q = round_not_negative f (m * up e * (n * up d)) (down e * down d)

-- both zeros are equal
pub level_zero : (s t : Bool) (x y : ℕ) → x ≡ 0 → y ≡ 0 → level s x t y ≡ true
level_zero s t x y e d = ap₂ (λ (a b : ℕ). level s a t b) e d ∙ or_true (beq s t)
  where
    or_true : (b : Bool) → b || true ≡ true
    or_true true = refl
    or_true false = refl

cond_not_negative : (b : Bool) (x y : Float) → NotNegative x → NotNegative y → NotNegative (cond b x y)
cond_not_negative true x y p q = p
cond_not_negative false x y p q = q

pub inverse_not_negative : (f : Format) (x : Float) → NotNegative x → NotNegative (inverse_of f x)
unfolding inverse_of eq div
inverse_not_negative f nan p = tt
inverse_not_negative f (inf true) p = absurd p
inverse_not_negative f (inf false) p = λ (t : ⊥). absurd t
inverse_not_negative f (fin true m e) p = rw (level_zero true false (m * up e * 1) (0 * 1 * down e) (omega (arith, ap (λ (n : ℕ). n * up e) (p tt))) (omega arith)) (λ (t : ⊥). absurd t)
inverse_not_negative f (fin false m e) p =
    cond_not_negative (eq (fin false m e) nought) nought (div f one (fin false m e)) (λ (t : ⊥). absurd t)
    (cond_not_negative (eqb m 0) (inf false) (round f false (1 * 1 * down e) (m * up e * 1)) tt (round_not_negative f (1 * 1 * down e) (m * up e * 1)))

pub root_not_negative : (f : Format) (x : Float) → NotNegative (root_of f x)
unfolding root_of
root_not_negative f nan = tt
root_not_negative f (inf true) = tt
root_not_negative f (inf false) = tt
root_not_negative f (fin s zero e) = λ (t : T s). refl
root_not_negative f (fin true (suc m) e) = tt
root_not_negative f (fin false (suc m) e) = round_not_negative f _ _

-- ---- the test `0 <= x`
pub not_negative_of_le : (x : Float) → le nought x ≡ true → NotNegative x
unfolding le
not_negative_of_le nan h = tt
not_negative_of_le (inf true) h = absurd (true≢false (sym h))
not_negative_of_le (inf false) h = tt
not_negative_of_le (fin true m e) h = λ (t : T true). eq_of_mul-eq-mul_right (up e) (up_pos e) m 0 (omega (arith, (at_most_zero (0 * 1 * down e) (m * up e * 1) h).1))
not_negative_of_le (fin false m e) h = λ (t : ⊥). absurd t

pub le_of_not_negative : (x : Float) → NotNegative x → T (not (is_nan x)) → le nought x ≡ true
unfolding le is_nan
le_of_not_negative nan p n = absurd n
le_of_not_negative (inf true) p n = absurd p
le_of_not_negative (inf false) p n = refl
le_of_not_negative (fin true m e) p n = level_zero false true (0 * 1 * down e) (m * up e * 1) (omega arith) (omega (arith, ap (λ (n : ℕ). n * up e) (p tt)))
le_of_not_negative (fin false m e) p n = is_true (le nought (fin false m e)) (le_of_values nought (fin false m e) 0 1 (m * up e) (down e) (pow_pos 0) (down_pos e) (refl, refl) (refl, refl) (omega arith))

pub zero_le_not_below_zero : (x : Float) → le nought (not_below_zero x) ≡ true
unfolding le not_below_zero
zero_le_not_below_zero x = either (lt nought x) refl
  where
    either : (b : Bool) → lt nought x ≡ b → le nought (cond b x nought) ≡ true
    either true e = ap (λ (b : Bool). b || eq nought x) e
    either false e = refl

-- ---- below a finite value, and below 1
pub finite_of_le : (x y : Float) → NotNegative x → T (finite y) → le x y ≡ true → T (finite x)
unfolding le
finite_of_le nan y p t h = absurd (true≢false (sym h))
finite_of_le (inf true) y p t h = absurd p
finite_of_le (inf false) nan p t h = absurd t
finite_of_le (inf false) (inf s) p t h = absurd t
finite_of_le (inf false) (fin s m e) p t h = absurd (true≢false (sym h))
finite_of_le (fin s m e) y p t h = tt

pub below_one : (f : Format) (x : Float) → T (fits f x) → NotNegative x → lt x one ≡ true → T (finite x) × (count f x ≤ unit f)
unfolding lt
below_one f nan g p h = absurd (true≢false (sym h))
below_one f (inf true) g p h = absurd p
below_one f (inf false) g p h = absurd (true≢false (sym h))
below_one f (fin true m e) g p h =
    let none : Counted f (fin true m e) true 0 = record { value = (refl, ap (λ (n : ℕ). n * up e * unit f) (p tt) ∙ omega arith) } in
    (tt, le_trans (le_of_eq (count_of none)) zero-le)
below_one f (fin false m e) g p h =
    let below : ltb (count f (fin false m e)) (unit f) ≡ true = sym (lt_counts (own_count f (fin false m e) g tt) (one_counted f)) ∙ h in
    (tt, le_of_lt (ltb→lt (count f (fin false m e)) (unit f) (subst T (sym below) tt)))
