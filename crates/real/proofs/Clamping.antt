-- The clamp of a value v to ± a bound b that is not negative, in counts. `Signed` is a count with a sign that a zero may have lost: each value has its own (own_signed), and one that passes `0 <= x` has the
-- sign + (signed_of_le); their order is that of sign and count (lt_signed), so the smaller of two that are not negative has no more units (count_le_of_le), and of two that are equal each has as many (count_eq_of_eq).
-- The laws of the clamp: the result has v's sign, and is as large as the smaller of v and b, an infinite v counting as b (clamp_signed, clamp_count); so it is at most the bound (clamp_le), keeps v's sign unless it is zero (clamp_sign), is a finite value of the format (clamp_finite, clamp_fits), and does not shrink as the
-- bound grows (clamp_mono). A NaN stays one (not_nan_of_clamp). Assumes nothing.
use mathlib.Core.Path.{◌≡◌, refl, sym, ap, ◌∙◌, subst}
use Prim.Native.Nat.{ℕ, zero, suc, ◌≤◌, ◌<◌, min, zero-le}
use native.Mathlib.Nat.{le_refl, le_trans, le_of_eq, le_of_lt, lt_irrefl, zero-add, add-zero, zero-lt-suc, min-le_right, min-eq_left, min-eq_right}
use native.Mathlib.Omega.{arith}
use mathlib.Core.Bool.{Bool, true, false, not, cond, true≢false}
use lib.Dec.{T, ltb, eqb, ltb→lt, nltb→le, eqb→eq, leb-suc-zero}
use lib.Ieee.{Float, nan, inf, fin, Format, below, is_nan, neg, lt, le, eq, fits}
use lib.Ieee.Fits.{cond-fits, and_l}
use lib.Ieee.Scale.{finite}
use Rattle.real.specs.Number.{zero as nought}
use Rattle.real.specs.Scalar.{raised_of, lowered_of, clamp_of}
use Rattle.real.specs.Units.{count, minus?}
use Rattle.real.proofs.SignedCounts.{Counted, count_of, finite_of, sign_of, neg_counted, own_count, zero_counted, lt_counts, eq_counts, at_most, le_counts, at_most_plus, at_most_zero}

-- z has u units, and the sign s unless it is zero
pub record Signed (f : Format) (z : Float) (s : Bool) (u : ℕ) : Type 0 where
  pub sign : Bool
  pub counted : Counted f z sign u
  pub kept : 0 < u → sign ≡ s

pub own_signed : {f : Format} {x : Float} {s : Bool} {a : ℕ} → Counted f x s a → Signed f x s a
own_signed {s = s} h = record { sign = s; counted = h; kept = λ y. refl }

neg_signed : {f : Format} {x : Float} {s : Bool} {a : ℕ} → Signed f x s a → Signed f (neg x) (not s) a
neg_signed {a = a} h = record { sign = not h.sign; counted = neg_counted h.counted; kept = λ (y : 0 < a). ap not (h.kept y) }

pub signed_of_le : {f : Format} {x : Float} {s : Bool} {a : ℕ} → Counted f x s a → le nought x ≡ true → Signed f x false a
signed_of_le {f} {x} {s} {a} h t = record { sign = s; counted = h; kept = plus s (sym (le_counts (zero_counted f) h) ∙ t) }
  where
    plus : (s : Bool) → at_most false 0 s a ≡ true → 0 < a → s ≡ false
    plus true t y = absurd (lt_irrefl 0 (subst (λ (z : ℕ). 0 < z) (at_most_zero 0 a t).1 y))
    plus false t y = refl

-- ---- the order: a zero's sign makes no difference
below_of_zero : (s t : Bool) (b : ℕ) → below s 0 t b ≡ below false 0 t b
below_of_zero false t b = refl
below_of_zero true false b = ap (ltb 0) (zero-add b)
below_of_zero true true b = leb-suc-zero b

below_by_zero : (s t : Bool) (a : ℕ) → below s a t 0 ≡ below s a false 0
below_by_zero s false a = refl
below_by_zero false true a = sym (leb-suc-zero a)
below_by_zero true true a = ap (ltb 0) (sym (add-zero a))

below_kept : (s s' t t' : Bool) (a b : ℕ) → (0 < a → s ≡ s') → (0 < b → t ≡ t') → below s a t b ≡ below s' a t' b
below_kept s s' t t' a b h k = first a h ∙ second b k
  where
    first : (a : ℕ) → (0 < a → s ≡ s') → below s a t b ≡ below s' a t b
    first zero h = below_of_zero s t b ∙ sym (below_of_zero s' t b)
    first (suc a) h = ap (λ (z : Bool). below z (suc a) t b) (h (zero-lt-suc a))

    second : (b : ℕ) → (0 < b → t ≡ t') → below s' a t b ≡ below s' a t' b
    second zero k = below_by_zero s' t a ∙ sym (below_by_zero s' t' a)
    second (suc b) k = ap (λ (z : Bool). below s' a z (suc b)) (k (zero-lt-suc b))

pub lt_signed : {f : Format} {x y : Float} {s t : Bool} {a b : ℕ} → Signed f x s a → Signed f y t b → lt x y ≡ below s a t b
lt_signed {s = s} {t} {a} {b} h k = lt_counts h.counted k.counted ∙ below_kept h.sign s k.sign t a b h.kept k.kept

pub count_le_of_le : {f : Format} {x y : Float} {a b : ℕ} → Signed f x false a → Signed f y false b → le x y ≡ true → a ≤ b
count_le_of_le {a = a} {b} h k t = by_signs h.sign k.sign a h.kept (sym (le_counts h.counted k.counted) ∙ t)
  where
    by_signs : (s t : Bool) (a : ℕ) → (0 < a → s ≡ false) → at_most s a t b ≡ true → a ≤ b
    by_signs s t zero z q = zero-le
    by_signs true t (suc a) z q = absurd (true≢false (z (zero-lt-suc a)))
    by_signs false true (suc a) z q = rw (at_most_zero (suc a) b q).0 zero-le
    by_signs false false (suc a) z q = at_most_plus (suc a) b q

pub count_eq_of_eq : {f : Format} {x y : Float} {s t : Bool} {a b : ℕ} → Signed f x s a → Signed f y t b → eq x y ≡ true → a ≡ b
count_eq_of_eq {a = a} {b} h k t = eqb→eq a b (and_l (eqb a b) _ (subst T (sym (sym (eq_counts h.counted k.counted) ∙ t)) tt))

-- ---- the clamp

-- the smaller of x, which has c units, and v, which has a
smaller : {f : Format} {x v : Float} {s : Bool} {a c : ℕ} (p : Bool) → Signed f x s c → Signed f v s a → p ≡ ltb c a → Signed f (cond p x v) s (min a c)
smaller {a = a} {c} true h k e = rw (min-eq_right (le_of_lt (ltb→lt c a (subst T e tt)))) h
smaller {a = a} {c} false h k e = rw (min-eq_left (nltb→le c a (subst (λ (z : Bool). T (not z)) e tt))) k

-- an infinity lies beyond all finite values
beyond : (s : Bool) (x : Float) → T (finite x) → (lt (inf s) x ≡ s) × (lt x (inf s) ≡ not s)
unfolding lt
beyond s nan t = absurd t
beyond s (inf u) t = absurd t
beyond s (fin u m e) t = (refl, refl)

-- how many units of v a bound of c units lets through
abbrev pub reach : Format → Float → ℕ → ℕ
reach f nan c = 0
reach f (inf s) c = c
reach f (fin s m e) c = min (count f (fin s m e)) c

module _ {f : Format} {b : Float} {c : ℕ} (B : Signed f b false c) where
  clamp_finite_signed : {v : Float} {s : Bool} {a : ℕ} → Signed f v s a → Signed f (clamp_of v (neg b) b) s (min a c)
  unfolding clamp_of raised_of lowered_of
  clamp_finite_signed {v} {s = true} h =
      let z = smaller (lt v (neg b)) (neg_signed B) h (lt_signed h (neg_signed B)) in
      rw (lt_signed B z) z
  clamp_finite_signed {v} {s = false} h = rw (lt_signed h (neg_signed B)) (smaller (lt b v) B h (lt_signed B h))

  -- an infinity is clamped to the bound
  clamp_infinite_signed : (s : Bool) → Signed f (clamp_of (inf s) (neg b) b) s c
  unfolding clamp_of raised_of lowered_of
  clamp_infinite_signed true = rw ((beyond true (neg b) (finite_of (neg_signed B).counted)).0, lt_signed B (neg_signed B)) (neg_signed B)
  clamp_infinite_signed false = rw ((beyond false (neg b) (finite_of (neg_signed B).counted)).0, (beyond false b (finite_of B.counted)).1) B

  pub clamp_signed : (v : Float) → T (fits f v) → T (not (is_nan v)) → Signed f (clamp_of v (neg b) b) (minus? v) (reach f v c)
  unfolding is_nan
  clamp_signed nan g n = absurd n
  clamp_signed (inf s) g n = clamp_infinite_signed s
  clamp_signed (fin s m e) g n = clamp_finite_signed (own_signed (own_count f (fin s m e) g tt))

  module _ (v : Float) (g : T (fits f v)) (n : T (not (is_nan v))) where
    pub clamp_count : count f (clamp_of v (neg b) b) ≡ reach f v c
    clamp_count = count_of (clamp_signed v g n).counted

    pub clamp_le : count f (clamp_of v (neg b) b) ≤ c
    clamp_le = le_trans (le_of_eq clamp_count) (no_more v)
      where
        no_more : (v : Float) → reach f v c ≤ c
        no_more nan = zero-le
        no_more (inf s) = le_refl c
        no_more (fin s m e) = min-le_right (count f (fin s m e)) c

    pub clamp_sign : 0 < count f (clamp_of v (neg b) b) → minus? (clamp_of v (neg b) b) ≡ minus? v
    clamp_sign y = let z = clamp_signed v g n in sign_of z.counted ∙ z.kept (subst (λ (u : ℕ). 0 < u) clamp_count y)

    pub clamp_finite : T (finite (clamp_of v (neg b) b))
    clamp_finite = finite_of (clamp_signed v g n).counted

pub clamp_fits : (f : Format) (lo hi v : Float) → T (fits f lo) → T (fits f hi) → T (fits f v) → T (fits f (clamp_of v lo hi))
unfolding clamp_of raised_of lowered_of
clamp_fits f lo hi v l h g = cond-fits f (lt hi (raised_of lo v)) hi (raised_of lo v) h (cond-fits f (lt v lo) lo v l g)

pub clamp_mono : {f : Format} {b b' : Float} {c c' : ℕ} → Signed f b false c → Signed f b' false c' → c ≤ c' → (v : Float) → T (fits f v) → T (not (is_nan v)) → count f (clamp_of v (neg b) b) ≤ count f (clamp_of v (neg b') b')
clamp_mono {f} {c = c} {c'} B B' h v g n = rw (clamp_count B v g n, clamp_count B' v g n) (more v)
  where
    more : (v : Float) → reach f v c ≤ reach f v c'
    more nan = zero-le
    more (inf s) = h
    more (fin s m e) = min_mono (count f (fin s m e))
      where
        min_mono : (a : ℕ) → min a c ≤ min a c'
        min_mono a = omega arith

pub not_nan_of_clamp : (lo hi v : Float) → T (finite (clamp_of v lo hi)) → T (not (is_nan v))
unfolding clamp_of raised_of lowered_of lt is_nan
not_nan_of_clamp lo nan nan t = absurd t
not_nan_of_clamp lo (inf s) nan t = absurd t
not_nan_of_clamp lo (fin s m e) nan t = absurd t
not_nan_of_clamp lo hi (inf s) t = tt
not_nan_of_clamp lo hi (fin s m e) t = tt
