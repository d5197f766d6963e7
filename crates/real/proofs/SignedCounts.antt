-- Finite values by their signs and counts. The laws, in order: `Counted f x s a` says that x has the sign s and a units, and `Holds f u` that u units are a value of the format; each value has its own
-- (own_count, own_holds), and they fix what is asked of it (count_of, sign_of, finite_of, neg_counted, of_fractions); zero and the powers of two (power_holds, power_counted, zero_counted, one_counted, fraction_counted);
-- the order of two values is that of their signs and counts (lt_counts, eq_counts, le_counts), and what a passed test says of the counts (at_most_plus, at_most_minus, at_most_zero). Assumes nothing.
use mathlib.Core.Path.{◌≡◌, refl, sym, ap, ap₂, ◌∙◌}
use Prim.Native.Nat.{ℕ, suc, ◌+◌, ◌-◌, ◌*◌, ◌^◌, ◌≤◌, ◌<◌}
use native.Mathlib.Nat.{le_of_eq, le_of_lt, lt_of_mul-lt-mul_right, mul-lt-mul_of_pos_right, eq_of_mul-eq-mul_right, mul-pos, one-mul}
use native.Mathlib.Omega.{arith}
use mathlib.Core.Bool.{Bool, true, false, not, ◌&&◌, ◌||◌, true≢false}
use lib.IntN.{ℤ, negsuc}
use lib.Dec.{T, ltb, eqb, ltb→lt, lt→ltb, eqb→eq, lit<, lit≤}
use lib.Pow.{pow-add, pow_pos, pow-lt}
use lib.Ieee.{Float, nan, inf, fin, Format, binary32, binary64, prec, emax, low, up, down, below, level, neg, lt, eq, le, fits}
use lib.Ieee.Fits.{down_pos, eq→eqb}
use lib.Ieee.Exact.{HasValue}
use lib.Ieee.Scale.{finite, overflow}
use Rattle.real.specs.Number.{zero, one, power}
use Rattle.real.specs.Units.{unit, count, minus?}
use Rattle.real.proofs.Counts.{Digits, digits, count_lt, has_count, count_of as count-of-value, finite_of as finite-of-value}

-- ---- a value, and its count

-- x is finite, has the sign s, and is a units in size
pub record Counted (f : Format) (x : Float) (s : Bool) (a : ℕ) : Type 0 where
  pub value : HasValue x s a (unit f)

pub own_count : (f : Format) (x : Float) → T (fits f x) → T (finite x) → Counted f x (minus? x) (count f x)
own_count f x h t = record { value = has_count f x h t }

pub count_of : {f : Format} {x : Float} {s : Bool} {a : ℕ} → Counted f x s a → count f x ≡ a
count_of {f} {x} {s} {a} h = count-of-value f x s a h.value

pub finite_of : {f : Format} {x : Float} {s : Bool} {a : ℕ} → Counted f x s a → T (finite x)
finite_of {f} {x} {s} {a} h = finite-of-value x s a (unit f) h.value

pub sign_of : {f : Format} {x : Float} {s : Bool} {a : ℕ} → Counted f x s a → minus? x ≡ s
sign_of {x = nan} h = absurd h.value
sign_of {x = inf t} h = absurd h.value
sign_of {x = fin t m e} h = h.value.0

pub neg_counted : {f : Format} {x : Float} {s : Bool} {a : ℕ} → Counted f x s a → Counted f (neg x) (not s) a
unfolding neg
neg_counted {x = nan} h = absurd h.value
neg_counted {x = inf t} h = absurd h.value
neg_counted {x = fin t m e} h = record { value = (ap not h.value.0, h.value.1) }

-- what holds of two values in this form holds of any two that are counted
pub of_fractions : {f : Format} {x y : Float} {s t : Bool} {a b : ℕ} (P : Float → Float → Type 0)
    → ((m n : ℕ) (e d : ℤ) → m * up e * unit f ≡ a * down e → n * up d * unit f ≡ b * down d → P (fin s m e) (fin t n d)) → Counted f x s a → Counted f y t b → P x y
of_fractions {x = nan} P g h k = absurd h.value
of_fractions {x = inf u} P g h k = absurd h.value
of_fractions {x = fin u m e} {y = nan} P g h k = absurd k.value
of_fractions {x = fin u m e} {y = inf w} P g h k = absurd k.value
of_fractions {x = fin u m e} {y = fin w n d} P g h k = rw (h.value.0, k.value.0) (g m n e d h.value.1 k.value.1)

-- ---- a count that the format holds

-- u units are a finite value of the format: no more digits than it keeps, and below what overflows
pub record Holds (f : Format) (u : ℕ) : Type 0 where
  pub places : Digits f u
  pub under : u < overflow f

pub own_holds : (f : Format) (x : Float) → T (fits f x) → T (finite x) → Holds f (count f x)
own_holds f x h t = record { places = digits f x h t; under = count_lt f x h t }

-- both formats hold 2 ^ 127
pub power_holds : (f : Format) (k : ℕ) → k ≤ 127 → Holds f (2 ^ k * unit f)
power_holds f k h = record {
  places = record { lead = 1; zeros = k + low f; is = rw (pow-add 2 k (low f)) (omega arith); few = one_few f };
  under = rw (← (pow-add 2 k (low f))) (pow-lt (omega (arith, wide f)));
}
  where
    one_few : (f : Format) → 1 < 2 ^ prec f
    one_few binary32 = lit< tt
    one_few binary64 = lit< tt

    wide : (f : Format) → 127 ≤ emax f
    wide binary32 = lit≤ tt
    wide binary64 = lit≤ tt

-- ---- constants
pub power_counted : (f : Format) (k : ℕ) → Counted f (power k) false (2 ^ k * unit f)
power_counted f k = record { value = (refl, omega arith) }

pub zero_counted : (f : Format) → Counted f zero false 0
zero_counted f = record { value = (refl, omega arith) }

pub one_counted : (f : Format) → Counted f one false (unit f)
one_counted f = record { value = (refl, omega arith) }

-- 2 ^ -(k + 1)
pub fraction_counted : (f : Format) (k : ℕ) → suc k ≤ low f → Counted f (fin false 1 (negsuc k)) false (2 ^ (low f - suc k))
fraction_counted f k h =
    let split : low f ≡ low f - suc k + suc k = omega arith in
    record { value = (refl, one-mul (unit f) ∙ ap (λ (z : ℕ). 2 ^ z) split ∙ pow-add 2 (low f - suc k) (suc k)) }

-- ---- the order of two values: below and equal, by their signs and counts
same_test : (a b : Bool) → (T a → T b) → (T b → T a) → a ≡ b
same_test true true h k = refl
same_test true false h k = absurd (h tt)
same_test false true h k = absurd (k tt)
same_test false false h k = refl

-- x and y are in the ratio of a and b
module _ (p q : ℕ) (P : 0 < p) (Q : 0 < q) where
  ltb_ratio : (x y a b : ℕ) → x * p ≡ a * q → y * p ≡ b * q → ltb x y ≡ ltb a b
  ltb_ratio x y a b e d = same_test (ltb x y) (ltb a b) (λ (t : T (ltb x y)). lt→ltb a b (there (ltb→lt x y t))) (λ (t : T (ltb a b)). lt→ltb x y (back (ltb→lt a b t)))
    where
      there : x < y → a < b
      there h =
          let l : x * p < y * p = mul-lt-mul_of_pos_right h P in
          lt_of_mul-lt-mul_right q (omega arith)

      back : a < b → x < y
      back h =
          let l : a * q < b * q = mul-lt-mul_of_pos_right h Q in
          lt_of_mul-lt-mul_right p (omega arith)

  eqb_ratio : (x y a b : ℕ) → x * p ≡ a * q → y * p ≡ b * q → eqb x y ≡ eqb a b
  eqb_ratio x y a b e d =
      same_test (eqb x y) (eqb a b)
      (λ (t : T (eqb x y)). eq→eqb (eq_of_mul-eq-mul_right q Q a b (sym e ∙ ap (λ (z : ℕ). z * p) (eqb→eq x y t) ∙ d)))
      (λ (t : T (eqb a b)). eq→eqb (eq_of_mul-eq-mul_right p P x y (e ∙ ap (λ (z : ℕ). z * q) (eqb→eq a b t) ∙ sym d)))

  below_ratio : (s t : Bool) (x y a b : ℕ) → x * p ≡ a * q → y * p ≡ b * q → below s x t y ≡ below s a t b
  below_ratio false false x y a b e d = ltb_ratio x y a b e d
  below_ratio false true x y a b e d = refl
  below_ratio true false x y a b e d = ltb_ratio 0 (x + y) 0 (a + b) (omega arith) (omega arith)
  below_ratio true true x y a b e d = ltb_ratio y x b a d e

  level_ratio : (s t : Bool) (x y a b : ℕ) → x * p ≡ a * q → y * p ≡ b * q → level s x t y ≡ level s a t b
  level_ratio s t x y a b e d = rw (eqb_ratio x y a b e d, eqb_ratio x 0 a 0 e (omega arith))

module _ (f : Format) (s t : Bool) (a b m n : ℕ) (e d : ℤ) (p : m * up e * unit f ≡ a * down e) (q : n * up d * unit f ≡ b * down d) where
  left : m * up e * down d * unit f ≡ a * (down e * down d)
  left = omega (arith, ap (λ (z : ℕ). z * down d) p)

  right : n * up d * down e * unit f ≡ b * (down e * down d)
  right = omega (arith, ap (λ (z : ℕ). z * down e) q)

  lt_fractions : lt (fin s m e) (fin t n d) ≡ below s a t b
  unfolding lt
  lt_fractions = below_ratio (unit f) (down e * down d) (pow_pos (low f)) (mul-pos (down_pos e) (down_pos d)) s t (m * up e * down d) (n * up d * down e) a b left right

  eq_fractions : eq (fin s m e) (fin t n d) ≡ level s a t b
  unfolding eq
  eq_fractions = level_ratio (unit f) (down e * down d) (pow_pos (low f)) (mul-pos (down_pos e) (down_pos d)) s t (m * up e * down d) (n * up d * down e) a b left right

pub lt_counts : {f : Format} {x y : Float} {s t : Bool} {a b : ℕ} → Counted f x s a → Counted f y t b → lt x y ≡ below s a t b
lt_counts {f} {s = s} {t} {a} {b} h k = of_fractions (λ (x y : Float). lt x y ≡ below s a t b) (lt_fractions f s t a b) h k

pub eq_counts : {f : Format} {x y : Float} {s t : Bool} {a b : ℕ} → Counted f x s a → Counted f y t b → eq x y ≡ level s a t b
eq_counts {f} {s = s} {t} {a} {b} h k = of_fractions (λ (x y : Float). eq x y ≡ level s a t b) (eq_fractions f s t a b) h k

-- ±a ≤ ±b
abbrev pub at_most : Bool → ℕ → Bool → ℕ → Bool
at_most s a t b = below s a t b || level s a t b

pub le_counts : {f : Format} {x y : Float} {s t : Bool} {a b : ℕ} → Counted f x s a → Counted f y t b → le x y ≡ at_most s a t b
unfolding le
le_counts h k = ap₂ ◌||◌ (lt_counts h k) (eq_counts h k)

-- what such a test says, once it has passed
le_of_either : (p q : Bool) {a b : ℕ} → (T p → a < b) → (T q → a ≡ b) → p || (q && true) ≡ true → a ≤ b
le_of_either true q l e h = le_of_lt (l tt)
le_of_either false true l e h = le_of_eq (e tt)
le_of_either false false l e h = absurd (true≢false (sym h))

pub at_most_plus : (a b : ℕ) → at_most false a false b ≡ true → a ≤ b
at_most_plus a b h = le_of_either (ltb a b) (eqb a b) (ltb→lt a b) (eqb→eq a b) h

pub at_most_minus : (a b : ℕ) → at_most true a true b ≡ true → b ≤ a
at_most_minus a b h = le_of_either (ltb b a) (eqb a b) (ltb→lt b a) (λ (t : T (eqb a b)). sym (eqb→eq a b t)) h

-- nothing but zero is at most minus zero
pub at_most_zero : (a b : ℕ) → at_most false a true b ≡ true → (a ≡ 0) × (b ≡ 0)
at_most_zero a b h = both (eqb a b) (eqb a 0) (eqb→eq a b) (eqb→eq a 0) h
  where
    both : (p q : Bool) → (T p → a ≡ b) → (T q → a ≡ 0) → p && q ≡ true → (a ≡ 0) × (b ≡ 0)
    both true true e z h = (z tt, sym (e tt) ∙ z tt)
    both true false e z h = absurd (true≢false (sym h))
    both false q e z h = absurd (true≢false (sym h))
