-- A finite value that a format holds, as its count of units: it is that many units (`has_count`), and no other number of them (`count_of`); the count is a few digits with zeros after them (`digits`),
-- and below the first power of two that overflows (`count_lt`); and two values with the same count and no sign are the same (`same_value`). Assumes nothing.
use mathlib.Core.Path.{◌≡◌, refl, sym, ap, ◌∙◌, subst}
use mathlib.Core.Bool.{Bool, true, false, ◌&&◌, cond}
use Prim.Native.Nat.{ℕ, zero, suc, ◌+◌, ◌-◌, ◌*◌, ◌/◌, ◌%◌, ◌^◌, ◌≤◌, ◌<◌}
use native.Mathlib.Nat.{zero-mul, mul-pos, le_trans, le_of_eq, lt_of_lt_of_le, lt_of_le_of_lt, lt_of_not-le, not-le_of_lt, le_of_suc-le-suc, mul-one, one-mul, mul_assoc, mul_comm, mul_right_comm, mul-le-mul_right, mul-lt-mul_of_pos_right, lt_of_mul-lt-mul_right, mul-div_cancel, sub-add_cancel}
use lib.IntN.{ℤ, pos, negsuc}
use lib.Dec.{T, leb, ltb, eqb, ltb→lt, leb→le, eqb→eq}
use lib.Pow.{pow-add, pow_pos, pow_mono, pow-lt}
use lib.Ieee.{Float, nan, inf, fin, Format, prec, emax, low, hid, top, up, down, size, fits, of_bits, to_bits}
use lib.Ieee.Bits.{of_bits-to_bits}
use lib.Ieee.Fits.{and_l, and_r, up_pos, down_pos}
use lib.Ieee.Exact.{HasValue}
use lib.Ieee.Scale.{finite, overflow}
use lib.Ieee.Positive.{positive, value_pos}
use Rattle.real.specs.Units.{unit, count, minus?, Count}

-- ---- powers of two, in order
pub le_of_pow_le : (i j : ℕ) → 2 ^ i ≤ 2 ^ j → i ≤ j
le_of_pow_le i j h = le_of_suc-le-suc (lt_of_not-le (λ (g : suc j ≤ i). not-le_of_lt (pow-lt g) h))

pub lt_of_pow_lt : (i j : ℕ) → 2 ^ i < 2 ^ j → i < j
lt_of_pow_lt i j h = lt_of_not-le (λ (g : j ≤ i). not-le_of_lt h (pow_mono g))

-- ---- what `fits` says of a finite value
pub few_digits : (f : Format) (s : Bool) (m : ℕ) (e : ℤ) → T (fits f (fin s m e)) → m < 2 ^ prec f
unfolding fits
few_digits f s zero e h = pow_pos (prec f)
few_digits f s (suc m) e h =
    let A = eqb (suc m % 2) 1 in
    let B = ltb (suc m) (2 ^ prec f) in
    let C = leb (down e) (2 ^ low f) in
    ltb→lt (suc m) (2 ^ prec f) (and_r A B (and_l (A && B) C (and_l (A && B && C) (ltb (suc m * up e) (2 ^ suc (emax f) * down e)) h)))

pub whole_units : (f : Format) (s : Bool) (m : ℕ) (e : ℤ) → T (fits f (fin s m e)) → down e ≤ unit f
unfolding fits
whole_units f s zero e h = le_trans (le_trans (le_of_eq (sym (one-mul (down e)))) (mul-le-mul_right (down e) (up_pos e))) (le_trans (le_of_eq (eqb→eq (up e * down e) 1 h)) (pow_pos (low f)))
whole_units f s (suc m) e h =
    let A = eqb (suc m % 2) 1 && ltb (suc m) (2 ^ prec f) in
    let C = leb (down e) (2 ^ low f) in
    leb→le (down e) (2 ^ low f) (and_r A C (and_l (A && C) (ltb (suc m * up e) (2 ^ suc (emax f) * down e)) h))

in_range : (f : Format) (s : Bool) (m : ℕ) (e : ℤ) → T (fits f (fin s m e)) → m * up e < 2 ^ suc (emax f) * down e
unfolding fits
in_range f s zero e h = lt_of_le_of_lt (le_of_eq (zero-mul (up e))) (mul-pos (pow_pos (suc (emax f))) (down_pos e))
in_range f s (suc m) e h =
    let A = eqb (suc m % 2) 1 && ltb (suc m) (2 ^ prec f) && leb (down e) (2 ^ low f) in
    ltb→lt (suc m * up e) (2 ^ suc (emax f) * down e) (and_r A (ltb (suc m * up e) (2 ^ suc (emax f) * down e)) h)

-- ---- m * 2 ^ e, in units
zeros_after : (l m : ℕ) (e : ℤ) → down e ≤ 2 ^ l → (j : ℕ) × (m * up e * 2 ^ l ≡ m * 2 ^ j * down e)
zeros_after l m (pos a) h = (a + l, mul_assoc m (2 ^ a) (2 ^ l) ∙ ap (λ (x : ℕ). m * x) (sym (pow-add 2 a l)) ∙ sym (mul-one (m * 2 ^ (a + l))))
zeros_after l m (negsuc a) h =
    let back : l ≡ l - suc a + suc a = sym (sub-add_cancel (le_of_pow_le (suc a) l h)) in
    (l - suc a, ap (λ (x : ℕ). x * 2 ^ l) (mul-one m) ∙ ap (λ (x : ℕ). m * 2 ^ x) back ∙ ap (λ (x : ℕ). m * x) (pow-add 2 (l - suc a) (suc a)) ∙ sym (mul_assoc m (2 ^ (l - suc a)) (2 ^ suc a)))

-- the count of a value is its only one
pub count_of : (f : Format) (x : Float) (s : Bool) (c : ℕ) → HasValue x s c (unit f) → count f x ≡ c
count_of f nan s c h = absurd h
count_of f (inf t) s c h = absurd h
count_of f (fin t m e) s c h = ap (λ (z : ℕ). z / down e) h.1 ∙ mul-div_cancel c (down_pos e)

pub has_count : (f : Format) (x : Float) → T (fits f x) → T (finite x) → HasValue x (minus? x) (count f x) (unit f)
has_count f nan h t = absurd t
has_count f (inf s) h t = absurd t
has_count f (fin s m e) h t =
    let z = zeros_after (low f) m e (whole_units f s m e h) in
    (refl, z.1 ∙ ap (λ (c : ℕ). c * down e) (sym (count_of f (fin s m e) s (m * 2 ^ z.0) (refl, z.1))))

pub positive_has_count : (f : Format) (x : Float) → T (fits f x) → T (positive x) → HasValue x false (count f x) (unit f)
positive_has_count f nan h t = absurd t
positive_has_count f (inf s) h t = absurd t
positive_has_count f (fin true m e) h t = absurd t
positive_has_count f (fin false m e) h t = has_count f (fin false m e) h tt

pub count_pos : (f : Format) (x : Float) → T (fits f x) → T (positive x) → 0 < count f x
count_pos f x h t = value_pos x (count f x) (unit f) t (pow_pos (low f)) (positive_has_count f x h t)

-- no more digits than the format keeps, and zeros after them
pub record Digits (f : Format) (c : ℕ) : Type 0 where
  pub lead : ℕ
  pub zeros : ℕ
  pub is : c ≡ lead * 2 ^ zeros
  pub few : lead < 2 ^ prec f

pub digits : (f : Format) (x : Float) → T (fits f x) → T (finite x) → Digits f (count f x)
digits f nan h t = absurd t
digits f (inf s) h t = absurd t
digits f (fin s m e) h t =
    let z = zeros_after (low f) m e (whole_units f s m e h) in
    record { lead = m; zeros = z.0; is = count_of f (fin s m e) s (m * 2 ^ z.0) (refl, z.1); few = few_digits f s m e h }

pub count_lt : (f : Format) (x : Float) → T (fits f x) → T (finite x) → count f x < overflow f
count_lt f nan h t = absurd t
count_lt f (inf s) h t = absurd t
count_lt f (fin s m e) h t =
    lt_of_mul-lt-mul_right (down e)
    (subst (λ (z : ℕ). z < overflow f * down e) (has_count f (fin s m e) h t).1
    (lt_of_lt_of_le (mul-lt-mul_of_pos_right (in_range f s m e h) (pow_pos (low f)))
    (le_of_eq (mul_right_comm (2 ^ suc (emax f)) (down e) (unit f) ∙ ap (λ (z : ℕ). z * down e) (mul_comm (2 ^ suc (emax f)) (unit f) ∙ sym (pow-add 2 (low f) (suc (emax f))))))))

-- ---- a value is its count
pub finite_of : (x : Float) (s : Bool) (a c : ℕ) → HasValue x s a c → T (finite x)
finite_of nan s a c h = absurd h
finite_of (inf t) s a c h = absurd h
finite_of (fin t m e) s a c h = tt

abbrev pattern : Format → Bool → ℕ → ℕ
pattern f s n = cond s (top f) 0 + (size n - prec f) * hid f + n / 2 ^ (size n - prec f)

to_bits_is : (f : Format) (y : Float) (n : ℕ) → HasValue y false n (unit f) → to_bits f y ≡ pattern f false n
unfolding to_bits
to_bits_is f nan n h = absurd h
to_bits_is f (inf s) n h = absurd h
to_bits_is f (fin s m e) n h = ap (λ (b : Bool). pattern f b (count f (fin s m e))) h.0 ∙ ap (λ (x : ℕ). pattern f false x) (count_of f (fin s m e) false n h)

pub same_value : (f : Format) (r r' : Float) (n : ℕ) → Count f r n → Count f r' n → r ≡ r'
same_value f r r' n h k = sym (of_bits-to_bits f r h.0) ∙ ap (of_bits f) (to_bits_is f r n h.1 ∙ sym (to_bits_is f r' n k.1)) ∙ of_bits-to_bits f r' k.0
