-- A value that is a NaN or a zero. What is equal to 0 is one (nought_of_zero), and a fraction of 0 rounds to such a number (round_zero, round_nought); minus one, the sum and the difference of two, a product with one, one divided by anything, and the root of one are such values (neg_nought, add_nought, sub_nought,
-- mul_nought_left, mul_nought_right, div_nought, root_nought); the reciprocal of one is not finite and above 0 (reciprocal_unusable); one that is no NaN is equal to 0 (zero_of_nought), as 0 times a finite number is
-- (zero_mul_finite), and clamped to ± a bound it still is (clamp_zero). Assumes nothing.
use mathlib.Core.Path.{◌≡◌, refl, sym, ap, subst, ◌∙◌}
use Prim.Native.Nat.{ℕ, zero, suc, ◌+◌, ◌-◌, ◌*◌, ◌/◌, ◌<◌, min}
use native.Mathlib.Nat.{eq_of_mul-eq-mul_right, mul-pos, zero-mul, zero-div, zero-min}
use native.Mathlib.Omega.{arith}
use mathlib.Core.Bool.{Bool, true, false, not, ◌&&◌, beq, cond, true≢false}
use borrow.Author.Tests.{eqb-false}
use lib.Dec.{T, ltb, eqb, eqb→eq}
use lib.Pow.{pow_pos}
use lib.Ieee.{Float, nan, inf, fin, Format, prec, emax, low, unlike, up, down, is_nan, round, neg, add, sub, sum, mul, div, lt, eq, fits}
use lib.Ieee.Fits.{up_pos, down_pos, and_l}
use lib.Ieee.Exact.{HasValue, round_exact}
use lib.Ieee.Scale.{finite}
use Rattle.real.specs.Number.{zero as nought, one}
use Rattle.real.specs.Root.{root_of}
use Rattle.real.specs.Scalar.{usable, clamp_of}
use Rattle.real.specs.Units.{unit}
use Rattle.real.proofs.SignedCounts.{zero_counted, eq_counts}
use Rattle.real.proofs.NotNegative.{level_zero}
use Rattle.real.proofs.Clamping.{Signed, reach, clamp_signed}

abbrev pub Nought : Float → Type 0
Nought nan = Unit {0}
Nought (inf s) = ⊥
Nought (fin s m e) = m ≡ 0

-- ---- what is equal to 0 is one
pub nought_of_zero : (x : Float) → eq x nought ≡ true → Nought x
unfolding eq
nought_of_zero nan h = tt
nought_of_zero (inf s) h = absurd (true≢false (sym h))
nought_of_zero (fin s m e) h =
    let none : m * up e * 1 ≡ 0 * 1 * down e = eqb→eq (m * up e * 1) (0 * 1 * down e) (and_l (eqb (m * up e * 1) (0 * 1 * down e)) _ (subst T (sym h) tt)) in
    eq_of_mul-eq-mul_right (up e) (up_pos e) m 0 (omega arith)

-- ---- rounding
round_zero : (f : Format) (s : Bool) (a c : ℕ) → a ≡ 0 → 0 < c → eq (round f s a c) nought ≡ true
unfolding eq
round_zero f s a c e C =
    subst (λ (z : ℕ). eq (round f s z c) nought ≡ true) (sym e) (of_value (round f s 0 c) (round_exact f s 0 c 0 0 C (pow_pos (prec f)) (pow_pos (low f + suc (emax f))) (omega arith)))
  where
    of_value : (x : Float) → HasValue x s 0 c → eq x nought ≡ true
    of_value nan h = absurd h
    of_value (inf t) h = absurd h
    of_value (fin t m e) h =
        let none : m ≡ 0 = eq_of_mul-eq-mul_right (up e * c) (mul-pos (up_pos e) C) m 0 (omega (arith, h.1)) in
        level_zero t false (m * up e * 1) (0 * 1 * down e) (ap (λ (z : ℕ). z * up e * 1) none ∙ omega arith) (omega arith)

round_nought : (f : Format) (s : Bool) (a c : ℕ) → a ≡ 0 → 0 < c → Nought (round f s a c)
round_nought f s a c e C = nought_of_zero (round f s a c) (round_zero f s a c e C)

-- ---- the operations
pub neg_nought : (x : Float) → Nought x → Nought (neg x)
unfolding neg
neg_nought nan p = tt
neg_nought (inf s) p = absurd p
neg_nought (fin s m e) p = p

sum_nought : (f : Format) (s t : Bool) (a b c : ℕ) → a ≡ 0 → b ≡ 0 → 0 < c → Nought (sum f s a t b c)
unfolding sum
sum_nought f s t a b c p q C = either (beq s t) (ltb a b)
  where
    either : (u v : Bool) → Nought (cond u (round f s (a + b) c) (cond v (round f t (b - a) c) (round f (s && ltb b a) (a - b) c)))
    either true v = round_nought f s (a + b) c (omega arith) C
    either false true = round_nought f t (b - a) c (omega arith) C
    either false false = round_nought f (s && ltb b a) (a - b) c (omega arith) C

pub add_nought : (f : Format) (x y : Float) → Nought x → Nought y → Nought (add f x y)
unfolding add
add_nought f nan y p q = tt
add_nought f (inf s) y p q = absurd p
add_nought f (fin s m e) nan p q = tt
add_nought f (fin s m e) (inf t) p q = absurd q
add_nought f (fin s m e) (fin t n d) p q =
    sum_nought f s t (m * up e * down d) (n * up d * down e) (down e * down d) (ap (λ (z : ℕ). z * up e * down d) p ∙ omega arith) (ap (λ (z : ℕ). z * up d * down e) q ∙ omega arith) (mul-pos (down_pos e) (down_pos d))

pub sub_nought : (f : Format) (x y : Float) → Nought x → Nought y → Nought (sub f x y)
unfolding sub
sub_nought f x y p q = add_nought f x (neg y) p (neg_nought y q)

pub mul_nought_left : (f : Format) (x y : Float) → Nought x → Nought (mul f x y)
unfolding mul
mul_nought_left f nan y p = tt
mul_nought_left f (inf s) y p = absurd p
mul_nought_left f (fin s m e) nan p = tt
mul_nought_left f (fin s m e) (inf t) p = subst (λ (z : ℕ). Nought (cond (eqb z 0) nan (inf (unlike s t)))) (sym p) tt
mul_nought_left f (fin s m e) (fin t n d) p = round_nought f (unlike s t) (m * up e * (n * up d)) (down e * down d) (ap (λ (z : ℕ). z * up e * (n * up d)) p ∙ omega arith) (mul-pos (down_pos e) (down_pos d))

pub mul_nought_right : (f : Format) (x y : Float) → Nought y → Nought (mul f x y)
unfolding mul
mul_nought_right f nan y q = tt
mul_nought_right f (inf s) nan q = tt
mul_nought_right f (inf s) (inf t) q = absurd q
mul_nought_right f (inf s) (fin t n d) q = subst (λ (z : ℕ). Nought (cond (eqb z 0) nan (inf (unlike s t)))) (sym q) tt
mul_nought_right f (fin s m e) nan q = tt
mul_nought_right f (fin s m e) (inf t) q = absurd q
mul_nought_right f (fin s m e) (fin t n d) q = round_nought f (unlike s t) (m * up e * (n * up d)) (down e * down d) (ap (λ (z : ℕ). m * up e * (z * up d)) q ∙ omega arith) (mul-pos (down_pos e) (down_pos d))

-- a finite number times 0
pub zero_mul_finite : (f : Format) (x : Float) → T (finite x) → eq (mul f nought x) nought ≡ true
unfolding mul
zero_mul_finite f nan t = absurd t
zero_mul_finite f (inf s) t = absurd t
zero_mul_finite f (fin s m e) t = round_zero f (unlike false s) (0 * 1 * (m * up e)) (1 * down e) (omega arith) (mul-pos (omega arith) (down_pos e))

pub div_nought : (f : Format) (x y : Float) → Nought x → Nought (div f x y)
unfolding div
div_nought f nan y p = tt
div_nought f (inf s) y p = absurd p
div_nought f (fin s m e) nan p = tt
div_nought f (fin s m e) (inf t) p = refl
div_nought f (fin s m e) (fin t n d) p = either (eqb n 0) refl
  where
    either : (b : Bool) → eqb n 0 ≡ b → Nought (cond b (cond (eqb m 0) nan (inf (unlike s t))) (round f (unlike s t) (m * up e * down d) (n * up d * down e)))
    either true h = subst (λ (z : ℕ). Nought (cond (eqb z 0) nan (inf (unlike s t)))) (sym p) tt
    either false h =
        let apart : n ≡ 0 → ⊥ = eqb-false n 0 h in
        round_nought f (unlike s t) (m * up e * down d) (n * up d * down e) (ap (λ (z : ℕ). z * up e * down d) p ∙ omega arith) (mul-pos (mul-pos (omega arith) (up_pos d)) (down_pos e))

pub root_nought : (f : Format) (x : Float) → Nought x → Nought (root_of f x)
unfolding root_of
root_nought f nan p = tt
root_nought f (inf s) p = absurd p
root_nought f (fin s zero e) p = refl
root_nought f (fin s (suc m) e) p = absurd (omega arith)

-- ---- 1 divided by one is a NaN or infinite
pub reciprocal_unusable : (f : Format) (x : Float) → Nought x → usable (div f one x) ≡ false
unfolding usable div lt
reciprocal_unusable f nan p = refl
reciprocal_unusable f (inf s) p = absurd p
reciprocal_unusable f (fin s m e) p = subst (λ (z : ℕ). usable (div f one (fin s z e)) ≡ false) (sym p) (either s)
  where
    either : (s : Bool) → usable (div f one (fin s 0 e)) ≡ false
    either true = refl
    either false = refl

-- ---- one that is no NaN
pub zero_of_nought : (x : Float) → Nought x → T (not (is_nan x)) → eq x nought ≡ true
unfolding is_nan eq
zero_of_nought nan p n = absurd n
zero_of_nought (inf s) p n = absurd p
zero_of_nought (fin s m e) p n = level_zero s false (m * up e * 1) (0 * 1 * down e) (ap (λ (z : ℕ). z * up e * 1) p ∙ omega arith) (omega arith)

-- clamped to ± a bound that is not negative
pub clamp_zero : {f : Format} {b : Float} {c : ℕ} → Signed f b false c → (x : Float) → Nought x → T (fits f x) → T (not (is_nan x)) → eq (clamp_of x (neg b) b) nought ≡ true
unfolding is_nan
clamp_zero {f} {b} {c} B x p g n =
    let clamped = clamp_signed B x g n in
    let none : reach f x c ≡ 0 = reach_of x p n in
    eq_counts clamped.counted (zero_counted f) ∙ level_zero clamped.sign false (reach f x c) 0 none refl
  where
    reach_of : (x : Float) → Nought x → T (not (is_nan x)) → reach f x c ≡ 0
    reach_of nan p n = absurd n
    reach_of (inf s) p n = absurd p
    reach_of (fin s m e) p n = subst (λ (z : ℕ). min (z * up e * unit f / down e) c ≡ 0) (sym p) (rw (zero-mul, zero-mul, zero-div) (zero-min c))
