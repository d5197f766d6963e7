-- From a float to grains. A value of at most 1 times GRAINS is exact; so what `grains_of` hands to the cast is within the cast's range (grained_above, grained_below), and loses there just what `grains_of` cuts off
-- (grained_cut). Each value of at most 1 passes the test for it (within_of_counted, grains_of_counted), and none has more than GRAINS (grains_most). Assumes nothing.
use Rattle.std.proofs.Common.{◌≡◌, ℕ, zero, suc, ◌+◌, ◌*◌, ◌/◌, ◌^◌, ◌<◌, ◌≤◌, Bool, true, false, cond, not, ◌&&◌, ◌||◌, T, eqb, ltb, pos, sym, refl, ap₂, zero-le, mul_assoc, div-lt_iff_lt-mul, le_antisymm, mul-pos, arith, lt→ltb, nltb→le, pow_pos}
use native.Mathlib.Nat.{min-eq_left, zero-div}
use lib.Dec.{leb-suc-zero}
use lib.Pow.{le_ones}
use lib.Ieee.{Float, nan, inf, fin, Format, low, unlike, up, down, below, to_unsigned, neg, mul, lt, fits}
use lib.Ieee.Bits.{is_true}
use lib.Ieee.Fits.{and_i, eq→eqb, down_pos}
use lib.Ieee.Nearest.{div_same}
use Rattle.real.specs.Number.{zero as nought, one, power}
use Rattle.real.specs.Scalar.{within}
use Rattle.real.specs.Units.{unit, count}
use Rattle.real.proofs.SignedCounts.{Counted, count_of, neg_counted, Holds, own_holds, zero_counted, one_counted, power_counted, lt_counts, at_most, le_counts}
use Rattle.real.proofs.Bounds.{Bounded, bounded_of_within, bounded_counted}
use Rattle.angle.specs.Angle.{GRAINS, grains_of}
use Rattle.angle.proofs.Quotients.{quotient_most}
use Rattle.angle.proofs.Exact.{unit_under, holds_shifted, mul_exact}

-- what the cast leaves of a value: it cuts the fraction off
cut_off : {f : Format} {x : Float} {a : ℕ} (w : ℕ) → Counted f x false a → a < 2 ^ w * unit f → to_unsigned w x ≡ a / unit f
unfolding to_unsigned
cut_off {x = nan} w h l = absurd h.value
cut_off {x = inf s} w h l = absurd h.value
cut_off {f} {x = fin s m e} {a} w h l =
    let same : m * up e / down e ≡ a / unit f = div_same (m * up e) (down e) a (unit f) (down_pos e) (pow_pos (low f)) h.value.1 in
    rw (h.value.0, same) (min-eq_left (le_ones w ((div-lt_iff_lt-mul (pow_pos (low f))).1 l)))

grains_exact : {f : Format} {x : Float} {s : Bool} {a : ℕ} → Counted f x s a → Holds f a → a ≤ unit f → Counted f (mul f x (power 30)) (unlike s false) (a * GRAINS)
grains_exact {f} {a = a} h v l = mul_exact h (power_counted f 30) (holds_shifted 30 v (unit_under f l)) (sym (mul_assoc a (2 ^ 30) (unit f)))

-- a value without its sign, which a zero keeps: so its size has the sign + or is a zero
abbrev size_of : Float → Float
size_of x = cond (lt x nought) (neg x) x

data Size (f : Format) (x : Float) (a : ℕ) : Type 0 where
  plus : Counted f x false a → Size f x a
  minus_zero : Counted f x true 0 → a ≡ 0 → Size f x a

size_counted : {f : Format} {x : Float} {s : Bool} {a : ℕ} → Counted f x s a → Size f (size_of x) a
size_counted {f} {x} {s} {a} h = by_sign s a h (lt_counts h (zero_counted f))
  where
    by_sign : (s : Bool) (a : ℕ) → Counted f x s a → lt x nought ≡ below s a false 0 → Size f (cond (lt x nought) (neg x) x) a
    by_sign false a h e = rw (e, leb-suc-zero a) (plus h)
    by_sign true zero h e = rw e (minus_zero h refl)
    by_sign true (suc n) h e = rw (e, is_true (ltb 0 (suc n + 0)) (lt→ltb 0 (suc n + 0) (omega arith))) (plus (neg_counted h))

-- what is left of it without its fraction
size_cut_off : {f : Format} {x : Float} {a : ℕ} (w : ℕ) → Size f x a → a < 2 ^ w * unit f → to_unsigned w x ≡ a / unit f
unfolding to_unsigned
size_cut_off w (plus h) l = cut_off w h l
size_cut_off {x = nan} w (minus_zero h z) l = absurd h.value
size_cut_off {x = inf s} w (minus_zero h z) l = absurd h.value
size_cut_off {f} {x = fin s m e} w (minus_zero h z) l = rw (h.value.0, z, zero-div (unit f)) refl

size_above : {f : Format} {x : Float} {a : ℕ} → Size f x a → T (lt (fin true 1 (pos 0)) x)
unfolding neg
size_above {f} {a = a} (plus h) = rw (lt_counts (neg_counted (one_counted f)) h) (lt→ltb 0 (unit f + a) (omega (arith, pow_pos (low f))))
size_above {f} (minus_zero h z) = rw (lt_counts (neg_counted (one_counted f)) h) (lt→ltb 0 (unit f) (pow_pos (low f)))

size_below : {f : Format} {x : Float} {a : ℕ} (w : ℕ) → Size f x a → a < 2 ^ w * unit f → T (lt x (power w))
size_below {f} {a = a} w (plus h) l = rw (lt_counts h (power_counted f w)) (lt→ltb a (2 ^ w * unit f) l)
size_below {f} w (minus_zero h z) l = rw (lt_counts h (power_counted f w)) (lt→ltb 0 (0 + 2 ^ w * unit f) (omega (arith, mul-pos (pow_pos w) (pow_pos (low f)))))

-- what `grains_of` hands to the cast
abbrev grained : Format → Float → Float
grained f h = mul f (size_of h) (power 30)

module _ (f : Format) (h : Float) (held : T (fits f h)) (inside : within one h ≡ true) where
  bounded : Bounded f (unit f) h
  bounded = bounded_of_within (one_counted f) h held inside

  grained_size : Size f (grained f h) (count f h * GRAINS)
  grained_size = elim (size_counted (bounded_counted bounded)) [
    | plus k ↦ plus (grains_exact k (own_holds f h held bounded.fine) bounded.most)
    | minus_zero k z ↦ minus_zero (grains_exact k (rw z at (own_holds f h held bounded.fine)) (rw z at bounded.most)) (rw z refl)
  ]

  few : count f h * GRAINS < 2 ^ 64 * unit f
  few = omega (arith, bounded.most, pow_pos (low f))

  pub grained_above : T (lt (fin true 1 (pos 0)) (grained f h))
  grained_above = size_above grained_size

  pub grained_below : T (lt (grained f h) (power 64))
  grained_below = size_below 64 grained_size few

  pub grained_cut : to_unsigned 64 (grained f h) ≡ grains_of f h
  unfolding grains_of
  grained_cut = rw inside (size_cut_off 64 grained_size few)

-- ---- a number within 1 passes the test
or_of : (p q : Bool) → (T (not p) → T q) → p || q ≡ true
or_of true q h = refl
or_of false true h = refl
or_of false false h = absurd (h tt)

-- ±a is at most ±b, the signs alike, and unlike
at_most_alike : (a b : ℕ) (e : Bool) → (a ≡ b → T e) → a ≤ b → ltb a b || (e && true) ≡ true
at_most_alike a b e h l = or_of (ltb a b) (e && true) (λ (n : T (not (ltb a b))). and_i e true (h (le_antisymm l (nltb→le a b n))) tt)

at_most_unlike : (a b : ℕ) → ltb 0 (a + b) || (eqb a b && eqb a 0) ≡ true
at_most_unlike a b = or_of (ltb 0 (a + b)) (eqb a b && eqb a 0) both_zero
  where
    both_zero : T (not (ltb 0 (a + b))) → T (eqb a b && eqb a 0)
    both_zero n =
        let none : a + b ≤ 0 = nltb→le 0 (a + b) n in
        let same : a ≡ b = omega arith in
        let nothing : a ≡ 0 = omega arith in
        and_i (eqb a b) (eqb a 0) (eq→eqb same) (eq→eqb nothing)

pub within_of_counted : {f : Format} {x : Float} {s : Bool} {a : ℕ} → Counted f x s a → a ≤ unit f → within one x ≡ true
unfolding within
within_of_counted {f} {x} {s} {a} h l = rw (le_counts h (one_counted f), le_counts (neg_counted (one_counted f)) h) (by_sign s)
  where
    by_sign : (s : Bool) → at_most s a false (unit f) && at_most true (unit f) s a ≡ true
    by_sign false = ap₂ ◌&&◌ (at_most_alike a (unit f) (eqb a (unit f)) eq→eqb l) (at_most_unlike (unit f) a)
    by_sign true = ap₂ ◌&&◌ (at_most_unlike a (unit f)) (at_most_alike a (unit f) (eqb (unit f) a) (λ (e : a ≡ unit f). eq→eqb (sym e)) l)

pub grains_of_counted : {f : Format} {x : Float} {s : Bool} {a : ℕ} → Counted f x s a → a ≤ unit f → grains_of f x ≡ a * GRAINS / unit f
unfolding grains_of
grains_of_counted h l = rw (within_of_counted h l, count_of h) refl

pub grains_most : (f : Format) (h : Float) → T (fits f h) → grains_of f h ≤ GRAINS
unfolding grains_of
grains_most f h held = either (within one h) refl
  where
    either : (b : Bool) → within one h ≡ b → cond b (count f h * GRAINS / unit f) 0 ≤ GRAINS
    either true e = quotient_most (pow_pos (low f)) (omega (arith, (bounded f h held e).most))
    either false e = zero-le
