-- From a program's tests to counts. A value that passes `within most` is finite, and has at most as many units as `most` (bounded_of_within, within_power): so it has a count, and is no NaN (bounded_counted,
-- bounded_not_nan). One that passes `least <= x` has the sign +, and at least as many units as `least` (at_least_of_le). `x < y` of two values with the sign + orders their counts (count_lt_of_lt, count_le_of_not_lt).
-- Assumes nothing.
use mathlib.Core.Path.{◌≡◌, refl, sym, ◌∙◌, subst}
use Prim.Native.Nat.{ℕ, ◌*◌, ◌^◌, ◌≤◌, ◌<◌}
use native.Mathlib.Nat.{lt_irrefl}
use mathlib.Core.Bool.{Bool, true, false, not, true≢false}
use lib.Dec.{T, ltb→lt, nltb→le}
use lib.Ieee.{Float, nan, inf, fin, Format, neg, lt, le, fits, is_nan}
use lib.Ieee.Bits.{is_true}
use lib.Ieee.Fits.{and_l, and_r}
use lib.Ieee.Scale.{finite}
use Rattle.real.specs.Number.{power}
use Rattle.real.specs.Scalar.{within}
use Rattle.real.specs.Units.{unit, count, minus?}
use Rattle.real.proofs.SignedCounts.{Counted, finite_of, neg_counted, own_count, power_counted, lt_counts, at_most, le_counts, at_most_plus, at_most_minus, at_most_zero}

-- a finite value of the format, of at most c units
pub record Bounded (f : Format) (c : ℕ) (x : Float) : Type 0 where
  pub fit : T (fits f x)
  pub fine : T (finite x)
  pub most : count f x ≤ c

pub bounded_counted : {f : Format} {c : ℕ} {x : Float} → Bounded f c x → Counted f x (minus? x) (count f x)
bounded_counted {f} {x = x} b = own_count f x b.fit b.fine

pub bounded_not_nan : {f : Format} {c : ℕ} {x : Float} → Bounded f c x → T (not (is_nan x))
unfolding is_nan
bounded_not_nan {x = nan} b = b.fine
bounded_not_nan {x = inf s} b = tt
bounded_not_nan {x = fin s m e} b = tt

finite_between : (most x : Float) → T (finite most) → le x most ≡ true → le (neg most) x ≡ true → T (finite x)
unfolding le neg
finite_between nan x t h k = absurd t
finite_between (inf s) x t h k = absurd t
finite_between (fin s m e) nan t h k = absurd (true≢false (sym h))
finite_between (fin s m e) (inf true) t h k = absurd (true≢false (sym k))
finite_between (fin s m e) (inf false) t h k = absurd (true≢false (sym h))
finite_between (fin s m e) (fin u n d) t h k = tt

pub bounded_of_within : {f : Format} {most : Float} {c : ℕ} → Counted f most false c → (x : Float) → T (fits f x) → within most x ≡ true → Bounded f c x
unfolding within
bounded_of_within {f} {most} {c} b x g h =
    let t : T (within most x) = subst T (sym h) tt in
    let not_above = is_true (le x most) (and_l (le x most) (le (neg most) x) t) in
    let not_below = is_true (le (neg most) x) (and_r (le x most) (le (neg most) x) t) in
    let fine = finite_between most x (finite_of b) not_above not_below in
    let own = own_count f x g fine in
    record { fit = g; fine = fine; most = size (minus? x) (sym (le_counts own b) ∙ not_above) (sym (le_counts (neg_counted b) own) ∙ not_below) }
  where
    size : (s : Bool) → at_most s (count f x) false c ≡ true → at_most true c s (count f x) ≡ true → count f x ≤ c
    size true h k = at_most_minus c (count f x) k
    size false h k = at_most_plus (count f x) c h

pub within_power : (f : Format) (k : ℕ) (x : Float) → T (fits f x) → within (power k) x ≡ true → Bounded f (2 ^ k * unit f) x
within_power f k = bounded_of_within (power_counted f k)

pub at_least_of_le : {f : Format} {least x : Float} {s : Bool} {a c : ℕ} → Counted f least false c → 0 < c → Counted f x s a → le least x ≡ true → (s ≡ false) × (c ≤ a)
at_least_of_le {s = s} {a} {c} b C h t = by_sign s (sym (le_counts b h) ∙ t)
  where
    by_sign : (s : Bool) → at_most false c s a ≡ true → (s ≡ false) × (c ≤ a)
    by_sign true t = absurd (lt_irrefl 0 (subst (λ (z : ℕ). 0 < z) (at_most_zero c a t).0 C))
    by_sign false t = (refl, at_most_plus c a t)

pub count_lt_of_lt : {f : Format} {x y : Float} {a b : ℕ} → Counted f x false a → Counted f y false b → lt x y ≡ true → a < b
count_lt_of_lt {a = a} {b} h k t = ltb→lt a b (subst T (sym t ∙ lt_counts h k) tt)

pub count_le_of_not_lt : {f : Format} {x y : Float} {a b : ℕ} → Counted f x false a → Counted f y false b → lt x y ≡ false → b ≤ a
count_le_of_not_lt {a = a} {b} h k t = nltb→le a b (subst (λ (z : Bool). T (not z)) (sym t ∙ lt_counts h k) tt)
