-- What `root_of` gives of a number above zero: the leading digits of the root, and the value that they round to. Assumes nothing.
use mathlib.Core.Path.{◌≡◌, refl, sym, ap, ◌∙◌, subst}
use mathlib.Core.Bool.{true, false}
use Prim.Native.Nat.{ℕ, zero, suc, ◌+◌, ◌-◌, ◌*◌, ◌/◌, ◌%◌, ◌^◌, ◌≤◌, ◌<◌}
use native.Mathlib.Nat.{le_trans, le_of_eq, lt_of_lt_of_le, lt_of_le_of_lt, lt_of_not-le, not-le_of_lt, mul_assoc, mul-pos, mul-le-mul_right, mul-le-mul_left, mul-lt-mul_of_pos_right, mul-mul-mul_comm, le_of_mul-le-mul_right, lt_of_mul-lt-mul_right, mul-div-mul_right, le-div_iff_mul-le, lt-div-mul-add, div-mul-le_self, pow-succ', add-sub_of_le}
use native.Mathlib.Omega.{arith}
use lib.Dec.{T, lit≤}
use lib.Pow.{pow-add, pow_pos, pow_mono}
use lib.Ieee.{Float, nan, inf, fin, Format, binary32, binary64, prec, emax, low, size, round, fits}
use lib.Ieee.Digits.{size-lt, size_reaches}
use lib.Ieee.Fits.{round-fits}
use lib.Ieee.Exact.{HasValue}
use lib.Ieee.Nearest.{closest}
use lib.Ieee.Order.{drop}
use lib.Ieee.Scale.{grid, overflow, round_val}
use lib.Ieee.Positive.{positive, positive-finite}
use Rattle.real.specs.Units.{unit, count, Count}
use Rattle.real.specs.Root.{whole_root, root_of_units, root_of}
use Rattle.real.proofs.Counts.{Digits, lt_of_pow_lt, count_pos, digits, count_lt}
use Rattle.real.proofs.Squares.{square_le, lt_of_square_lt, le_of_square_lt}
use Rattle.real.proofs.Closest.{WithinHalf, closest_half}
use Rattle.real.proofs.WholeRoot.{IsWholeRoot, is_whole_root}
use Rattle.real.proofs.LeadingRoot.{Leading, rounded}

-- ---- the root of S, cut to units of K
module _ (S v K r : ℕ) (some : 0 < K) (is : S ≡ v * (K * K)) (w : IsWholeRoot S r) where
  cut_lower : r / K * (r / K) ≤ v
  cut_lower =
      le_of_mul-le-mul_right
      (le_trans (le_of_eq (sym (mul-mul-mul_comm (r / K) K (r / K) K))) (le_trans (square_le (div-mul-le_self r K)) (le_trans w.lower (le_of_eq is)))) (mul-pos some some)

  cut_upper : v < (r / K + 1) * (r / K + 1)
  cut_upper =
      lt_of_mul-lt-mul_right (K * K)
      (lt_of_le_of_lt (le_of_eq (sym is)) (lt_of_lt_of_le w.upper (le_trans (square_le (next (r / K) K r (lt-div-mul-add some))) (le_of_eq (mul-mul-mul_comm (r / K + 1) K (r / K + 1) K)))))
    where
      next : (q K r : ℕ) → r < q * K + K → r + 1 ≤ (q + 1) * K
      next q K r h = omega arith

-- ---- the halfway point above r, which has r for its whole part, rounds as its leading digits say
whole_part : (r U : ℕ) → 0 < U → (2 * r + 1) * U / (2 * U) ≡ r
whole_part r U h = mul-div-mul_right (2 * r + 1) 2 h ∙ halves r
  where
    halves : (r : ℕ) → (2 * r + 1) / 2 ≡ r
    halves r = omega arith

rounds : (g r n K U : ℕ) → 0 < U → 0 < K → n * K ≤ r → r < n * K + K → WithinHalf g ((2 * r + 1) * U) (2 * U * (2 * K)) → g ≡ (n + 1) / 2
rounds g r n K U u some lo hi (a, b) = between g n (lt_of_mul-lt-mul_right K above) (lt_of_mul-lt-mul_right K below)
  where
    a' : g * K * 8 ≤ (2 * r + 1) * 2 + 4 * K
    a' = le_of_mul-le-mul_right {k = U} (omega arith) u

    b' : (2 * r + 1) * 2 ≤ g * K * 8 + 4 * K
    b' = le_of_mul-le-mul_right {k = U} (omega arith) u

    above : 2 * g * K < (n + 2) * K
    above = omega (arith, a')

    below : n * K < (2 * g + 1) * K
    below = omega (arith, b')

    between : (g n : ℕ) → 2 * g < n + 2 → n < 2 * g + 1 → g ≡ (n + 1) / 2
    between g n h k = omega arith

-- ---- S has few digits, and its root r more than the format keeps: k after the leading ones
module _ (f : Format) (S r k : ℕ) (d : Digits f S) (whole : IsWholeRoot S r) (sized : suc (prec f) + k ≡ size r) where
  reaches : 2 ^ prec f * 2 ^ k ≤ r
  reaches = le_trans (le_of_eq (sym (pow-add 2 (prec f) k))) (size_reaches r (prec f + k) (last (prec f) k (size r) sized))
    where
      last : (p k z : ℕ) → suc p + k ≡ z → p + k < z
      last p k z e = omega arith

  -- so S has 2 * k zeros at its end, and one more
  enough : suc (k + k) ≤ d.zeros
  enough = cancel (prec f) k d.zeros (lt_of_pow_lt (prec f + k + (prec f + k)) (prec f + d.zeros) large)
    where
      cancel : (p k j : ℕ) → p + k + (p + k) < p + j → k + k < j
      cancel p k j h = omega arith

      large : 2 ^ (prec f + k + (prec f + k)) < 2 ^ (prec f + d.zeros)
      large =
          lt_of_le_of_lt (le_trans (le_of_eq (pow-add 2 (prec f + k) (prec f + k))) (le_trans (square_le (le_trans (le_of_eq (pow-add 2 (prec f) k)) reaches)) (le_trans whole.lower (le_of_eq d.is))))
          (lt_of_lt_of_le (mul-lt-mul_of_pos_right d.few (pow_pos d.zeros)) (le_of_eq (sym (pow-add 2 (prec f) d.zeros))))

  split : S ≡ d.lead * (2 * 2 ^ (d.zeros - suc (k + k))) * (2 ^ k * 2 ^ k)
  split =
      let j = d.zeros - suc (k + k) in
      let e : 2 ^ d.zeros ≡ 2 * 2 ^ j * (2 ^ k * 2 ^ k) = ap (λ (x : ℕ). 2 ^ x) (back d.zeros (k + k) enough) ∙ pow-add 2 (suc j) (k + k) ∙ ap (λ (x : ℕ). x * 2 ^ (k + k)) (pow-succ' 2 j) ∙ ap (λ (x : ℕ). 2 * 2 ^ j * x) (pow-add 2 k k) in
      d.is ∙ ap (λ (x : ℕ). d.lead * x) e ∙ sym (mul_assoc d.lead (2 * 2 ^ j) (2 ^ k * 2 ^ k))
    where
      back : (z b : ℕ) → suc b ≤ z → z ≡ suc (z - suc b) + b
      back z b h = omega arith

  leading : Leading f S (r / 2 ^ k) k
  leading =
      let v = d.lead * (2 * 2 ^ (d.zeros - suc (k + k))) in
      record {
        v = v;
        is = split;
        even = even d.lead (2 ^ (d.zeros - suc (k + k)));
        lower = cut_lower S v (2 ^ k) r (pow_pos k) split whole;
        upper = cut_upper S v (2 ^ k) r (pow_pos k) split whole;
        big = (le-div_iff_mul-le (pow_pos k)).1 reaches;
      }
    where
      even : (m p : ℕ) → m * (2 * p) % 2 ≡ 0
      even m p = let e : m * (2 * p) ≡ 2 * (m * p) = omega arith in omega arith

-- ---- the value that r and a half units round to
module _ (f : Format) (r k : ℕ) (sized : suc (prec f) + k ≡ size r) where
  drops : drop (prec f) ((2 * r + 1) * unit f) (2 * unit f) ≡ suc k
  drops = ap (λ (x : ℕ). size x - prec f) (whole_part r (unit f) (pow_pos (low f))) ∙ one_more (prec f) k (size r) sized
    where
      one_more : (p k z : ℕ) → suc p + k ≡ z → z - p ≡ suc k
      one_more p k z e = omega arith

  keeps : closest ((2 * r + 1) * unit f) (2 * unit f * (2 * 2 ^ k)) ≡ (r / 2 ^ k + 1) / 2
  keeps =
      let a = (2 * r + 1) * unit f in
      let b = 2 * unit f * (2 * 2 ^ k) in
      rounds (closest a b) r (r / 2 ^ k) (2 ^ k) (unit f) (pow_pos (low f)) (pow_pos k) (div-mul-le_self r (2 ^ k)) (lt-div-mul-add (pow_pos k)) (closest_half a b (above_zero (unit f) (2 ^ k) (mul-pos (pow_pos (low f)) (pow_pos k))))
    where
      above_zero : (u K : ℕ) → 0 < u * K → 0 < 2 * u * (2 * K)
      above_zero u K h = omega arith

  grid_is : grid f (2 * r + 1) (2 * unit f) ≡ rounded (r / 2 ^ k) k
  grid_is =
      let a = (2 * r + 1) * unit f in
      ap (λ (j : ℕ). closest a (2 * unit f * 2 ^ j) * 2 ^ j) drops ∙ ap (λ (x : ℕ). closest a (2 * unit f * x) * x) (pow-succ' 2 k) ∙ ap (λ (g : ℕ). g * (2 * 2 ^ k)) keeps

-- ---- a units have a root of more digits than the format keeps, and one that is far from overflow
ample : (f : Format) → prec f + prec f ≤ low f
ample binary32 = lit≤ tt
ample binary64 = lit≤ tt

root_digits : (f : Format) (a r : ℕ) → 0 < a → IsWholeRoot (a * unit f) r → suc (prec f) ≤ size r
root_digits f a r some whole =
    size_gt r (prec f)
    (le_of_square_lt (2 ^ prec f) r (lt_of_le_of_lt (le_trans (le_of_eq (sym (pow-add 2 (prec f) (prec f)))) (le_trans (pow_mono (ample f)) (at_least a (unit f) some))) whole.upper))
  where
    at_least : (a u : ℕ) → 0 < a → u ≤ a * u
    at_least a u h = omega (arith, mul-le-mul_right u h)

    size_gt : (n j : ℕ) → 2 ^ j ≤ n → suc j ≤ size n
    size_gt n j h = lt_of_not-le (λ (g : size n ≤ j). not-le_of_lt (lt_of_lt_of_le (size-lt n) (pow_mono g)) h)

quarter : (f : Format) → 4 * unit f ≤ overflow f
quarter f = le_trans (le_of_eq (sym (pow-add 2 2 (low f)))) (pow_mono (more f))
  where
    more : (f : Format) → 2 + low f ≤ low f + suc (emax f)
    more binary32 = lit≤ tt
    more binary64 = lit≤ tt

no_overflow : (f : Format) (a r k : ℕ) → a < overflow f → IsWholeRoot (a * unit f) r → 0 < r / 2 ^ k → rounded (r / 2 ^ k) k < overflow f
no_overflow f a r k fine whole some =
    lt_of_le_of_lt (twice (r / 2 ^ k) (2 ^ k) r some (div-mul-le_self r (2 ^ k)))
    (lt_of_square_lt (2 * r) (overflow f) (squared r (a * unit f) (unit f) (overflow f) whole.lower (mul-lt-mul_of_pos_right fine (pow_pos (low f))) (quarter f)))
  where
    twice : (n K r : ℕ) → 0 < n → n * K ≤ r → (n + 1) / 2 * (2 * K) ≤ 2 * r
    twice n K r p h =
        let q : (n + 1) / 2 ≤ n = omega arith in
        omega (arith, mul-le-mul_right K q)

    squared : (r S u X : ℕ) → r * r ≤ S → S < X * u → 4 * u ≤ X → 2 * r * (2 * r) < X * X
    squared r S u X h l q = omega (arith, mul-le-mul_left X q)

-- the leading digits n of the root of a units, with k digits after them, and the value that they round to
pub record Rounds (f : Format) (a : ℕ) : Type 0 where
  pub n : ℕ
  pub k : ℕ
  pub leads : Leading f (a * unit f) n k
  pub counted : Count f (root_of_units f a) (rounded n k)

in_units : (f : Format) (a : ℕ) → Digits f a → Digits f (a * unit f)
in_units f a d = record {
  lead = d.lead;
  zeros = d.zeros + low f;
  is = ap (λ (x : ℕ). x * unit f) d.is ∙ mul_assoc d.lead (2 ^ d.zeros) (unit f) ∙ ap (λ (x : ℕ). d.lead * x) (sym (pow-add 2 d.zeros (low f)));
  few = d.few;
}

pub rounds_root : (f : Format) (a : ℕ) → 0 < a → Digits f a → a < overflow f → Rounds f a
unfolding root_of_units
rounds_root f a some d fine =
    let S = a * unit f in
    let r = whole_root (size S) S 0 in
    let whole = is_whole_root S in
    let k = size r - suc (prec f) in
    let sized : suc (prec f) + k ≡ size r = add-sub_of_le (root_digits f a r some whole) in
    let leads = leading f S r k (in_units f a d) whole sized in
    let e = grid_is f r k sized in
    let fit = no_overflow f a r k fine whole (le_trans (pow_pos (prec f)) leads.big) in
    record {
      n = r / 2 ^ k;
      k = k;
      leads = leads;
      counted = (
        round-fits f false (2 * r + 1) (2 * unit f),
        subst (λ (c : ℕ). HasValue (round f false (2 * r + 1) (2 * unit f)) false c (unit f)) e (round_val f (2 * r + 1) (2 * unit f) (subst (λ (c : ℕ). c < overflow f) (sym e) fit)),
      );
    }

-- ---- the same of a value above zero
pub rounds_positive : (f : Format) (x : Float) → T (fits f x) → T (positive x) → Rounds f (count f x)
rounds_positive f x h t = let u = positive-finite x t in rounds_root f (count f x) (count_pos f x h t) (digits f x h u) (count_lt f x h u)

pub root_of_positive : (f : Format) (x : Float) → T (positive x) → root_of f x ≡ root_of_units f (count f x)
unfolding root_of
root_of_positive f nan t = absurd t
root_of_positive f (inf s) t = absurd t
root_of_positive f (fin true m e) t = absurd t
root_of_positive f (fin false zero e) t = absurd t
root_of_positive f (fin false (suc m) e) t = refl
