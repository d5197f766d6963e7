-- What one rounding to nearest costs, in units. `Rounded f g n c` says that g units are n / c units rounded: they are near within one step (`Near`, with P = 2 ^ prec), or both are so small that the
-- format has no more digits for them. `Rounds` says it of a value. The laws, in order: what `round` makes is `Rounded` (grid_rounded), and it does not pass a value that the format holds (grid_le); the
-- fraction may be cut down (rounded_of_scaled); how near the result is where it is large (near_of_large, near_of_large_result), and where nothing is known of it (near_up_to_of_rounded, near_up_to_square);
-- what values round to, by their counts: a fraction (round_rounds), a product (mul_rounds; by a factor of at most 1, mul_shrinks; a square, square_rounds), a sum (add_rounds), a quotient (div_rounds) and an
-- inverse (inverse_rounds). Assumes nothing.
use mathlib.Core.Path.{◌≡◌, refl, sym, ap, ap₂, ◌∙◌, subst}
use Prim.Native.Nat.{ℕ, zero, suc, ◌+◌, ◌-◌, ◌*◌, ◌/◌, ◌%◌, ◌^◌, ◌≤◌, ◌<◌, compare}
use native.Mathlib.Nat.{le_trans, le_of_eq, le_of_lt, lt_of_lt_of_le, not-le_of_lt, lt_of_not-le, le_of_mul-le-mul_right, mul-le-mul, mul-le-mul_left, mul-le-mul_right, mul_assoc, mul-mul-mul_comm, mul-pos, le-div_iff_mul-le, div-lt_iff_lt-mul, eq_of_mul-eq-mul_right, le-add_right, le-add_left, zero-lt-suc, one-mul, lt_irrefl}
use native.Mathlib.Decide.{dec_le}
use native.Mathlib.Omega.{arith}
use mathlib.Core.Bool.{Bool, true, false}
use lib.IntN.{ℤ}
use lib.Dec.{eqb, eqb-suc-zero}
use lib.Pow.{pow-add, pow_pos, pow_mono}
use lib.Ieee.{Float, fin, Format, prec, low, hid, unlike, up, down, size, round, mul, add, div, le}
use lib.Ieee.Bits.{is_true}
use lib.Ieee.Digits.{size-lt, size_reaches}
use lib.Ieee.Fits.{round_is, two, two-le_pos, up_pos, down_pos}
use lib.Ieee.Exact.{units_val, round_exact}
use lib.Ieee.Nearest.{nearest-ge}
use lib.Ieee.Order.{drop, kept, round_mono}
use lib.Ieee.Scale.{grid, overflow, round_same, round_val, round_under, normal_of_rounded}
use Rattle.real.specs.Scalar.{inverse_of}
use Rattle.real.specs.Units.{unit}
use Rattle.real.proofs.Closest.{WithinHalf, closest_half}
use Rattle.real.proofs.Near.{by_of_le, by_of_step, by_le_trans, Near, near_mul, near_of_scaled, near_regroup, NearUpTo}
use Rattle.real.proofs.SignedCounts.{Counted, finite_of, of_fractions, Holds, zero_counted, one_counted, eq_counts, le_counts, at_most_plus}
use Rattle.real.proofs.NotNegative.{round_not_negative, finite_of_le}

-- ---- g units are n / c units rounded

-- one rounding moves a number by at most one part in this many: 2 ^ prec
abbrev pub parts : Format → ℕ
parts f = 2 * hid f

pub parts_pos : (f : Format) → 0 < parts f
parts_pos f = let h = pow_pos (prec f - 1) in omega arith

-- a number of `hid f` units or less has fewer digits than the format keeps: it is rounded to a whole number of units
pub data Rounded (f : Format) (g n c : ℕ) : Type 0 where
  large : Near (parts f) 1 (g * c) n → Rounded f g n c
  small : n ≤ hid f * c → g ≤ hid f → Rounded f g n c

pub grid_rounded : (f : Format) (a c : ℕ) → 0 < c → Rounded f (grid f a c) (a * unit f) c
grid_rounded f a c C = elim (dec_le (prec f) (size (n / c))) [ yes h ↦ large (many h) | no h ↦ small (few (lt_of_not-le h)) (few_result (lt_of_not-le h)) ]
  where
    n : ℕ
    n = a * unit f

    -- how many digits are dropped, and the spacing of the values there, times c
    k : ℕ
    k = drop (prec f) n c

    v : ℕ
    v = c * 2 ^ k

    near : (w H : ℕ) → WithinHalf w n v → H * v ≤ n → H ≤ w → Near (2 * H) 1 (w * v) n
    near w H h r l = record { above = by_of_step (omega (arith, mul-le-mul_right H h.0)); below = by_of_step (omega (arith, mul-le-mul_right H h.1, mul-le-mul_right v l)) }

    many : prec f ≤ size (n / c) → Near (parts f) 1 (grid f a c * c) n
    many h =
        let v_pos : 0 < v = mul-pos C (pow_pos k) in
        let p_pos : 0 < prec f = two-le_pos (prec f) (two f) in
        let top : 2 ^ (prec f - 1 + k) ≤ n / c = size_reaches (n / c) (prec f - 1 + k) (omega arith) in
        let r : hid f * v ≤ n = omega (arith, (le-div_iff_mul-le C).0 top, ap (λ (z : ℕ). z * c) (pow-add 2 (prec f - 1) k)) in
        let w : hid f ≤ kept (prec f) n c = le_trans ((le-div_iff_mul-le v_pos).1 r) (nearest-ge (n / v) (compare (n % v * 2) v)) in
        near_regroup (near (kept (prec f) n c) (hid f) (closest_half n v v_pos) r w) (omega arith) refl

    few : size (n / c) < prec f → n ≤ hid f * c
    few h = le_of_lt ((div-lt_iff_lt-mul C).0 (lt_of_lt_of_le (size-lt (n / c)) (pow_mono (omega arith))))

    few_result : size (n / c) < prec f → grid f a c ≤ hid f
    few_result h = elim (dec_le (grid f a c) (hid f)) [ yes g ↦ g | no g ↦ absurd (not-le_of_lt h (normal_of_rounded f a c (lt_of_not-le g))) ]

-- rounding does not pass a value that the format holds: so a bound on the exact fraction, if the format holds it, is one on the result
pub grid_le : (f : Format) (a c u : ℕ) → 0 < c → Holds f u → a * unit f ≤ u * c → (grid f a c < overflow f) × (grid f a c ≤ u)
grid_le f a c u C h l =
    let D = pow_pos (low f) in
    let p = h.places in
    let bound : Counted f (round f false u (unit f)) false u =
    record { value = round_exact f false u (unit f) p.lead p.zeros D p.few (subst (λ (z : ℕ). z < overflow f) p.is h.under) (ap (λ (z : ℕ). z * unit f) p.is) } in
    let ordered : le (round f false a c) (round f false u (unit f)) ≡ true = is_true (le (round f false a c) (round f false u (unit f))) (round_mono f a c u (unit f) C D l) in
    let under : grid f a c < overflow f = round_under f a c (finite_of_le (round f false a c) (round f false u (unit f)) (round_not_negative f a c) (finite_of bound) ordered) in
    let result : Counted f (round f false a c) false (grid f a c) = record { value = round_val f a c under } in
    (under, at_most_plus (grid f a c) u (sym (le_counts result bound) ∙ ordered))

-- the same fraction in other terms
pub rounded_of_scaled : {f : Format} {g n d : ℕ} (c : ℕ) → 0 < c → Rounded f g (n * c) (d * c) → Rounded f g n d
rounded_of_scaled {g = g} {d = d} c C (large h) = large (near_of_scaled c C (near_regroup h (sym (mul_assoc g d c)) refl))
rounded_of_scaled {f} {d = d} c C (small h k) = small (le_of_mul-le-mul_right (le_trans h (le_of_eq (sym (mul_assoc (hid f) d c)))) C) k

-- ---- how near the result is
pub near_of_large : {f : Format} {g n c : ℕ} → Rounded f g n c → hid f * c < n → Near (parts f) 1 (g * c) n
near_of_large (large h) l = h
near_of_large (small h k) l = absurd (not-le_of_lt l h)

pub near_of_large_result : {f : Format} {g n c : ℕ} → Rounded f g n c → hid f < g → Near (parts f) 1 (g * c) n
near_of_large_result (large h) l = h
near_of_large_result (small h k) l = absurd (not-le_of_lt l k)

pub near_up_to_of_rounded : {f : Format} {g n c : ℕ} → Rounded f g n c → NearUpTo (parts f) 1 (hid f * c) (g * c) n
near_up_to_of_rounded {f} {g} {n} {c} (large h) = record { above = by_le_trans h.above (le-add_right n (hid f * c)); below = by_le_trans h.below (le-add_right (g * c) (hid f * c)) }
near_up_to_of_rounded {f} {g} {n} {c} (small h k) = record {
  above = by_of_le (parts f) 1 (le_trans (mul-le-mul_right c k) (le-add_left (hid f * c) n));
  below = by_of_le (parts f) 1 (le_trans h (le-add_left (hid f * c) (g * c)));
}

pub near_up_to_square : {f : Format} {g n c : ℕ} → Rounded f g n c → NearUpTo (parts f) 2 (hid f * c * (hid f * c)) (g * c * (g * c)) (n * n)
near_up_to_square {f} {g} {n} {c} (large h) =
    let s = near_mul h h in
    record { above = by_le_trans s.above (le-add_right (n * n) (hid f * c * (hid f * c))); below = by_le_trans s.below (le-add_right (g * c * (g * c)) (hid f * c * (hid f * c))) }
near_up_to_square {f} {g} {n} {c} (small h k) =
    let l : g * c ≤ hid f * c = mul-le-mul_right c k in
    record {
      above = by_of_le (parts f) 2 (le_trans (mul-le-mul l l) (le-add_left (hid f * c * (hid f * c)) (n * n)));
      below = by_of_le (parts f) 2 (le_trans (mul-le-mul h h) (le-add_left (hid f * c * (hid f * c)) (g * c * (g * c))));
    }

-- ---- a value: z has the sign s and n / c units, rounded, and at most u
pub record Rounds (f : Format) (z : Float) (s : Bool) (n c u : ℕ) : Type 0 where
  pub units : ℕ
  pub counted : Counted f z s units
  pub rounded : Rounded f units n c
  pub most : units ≤ u

pub round_rounds : (f : Format) (s : Bool) (a c : ℕ) {u : ℕ} → 0 < c → Holds f u → a * unit f ≤ u * c → Rounds f (round f s a c) s (a * unit f) c u
round_rounds f s a c {u} C h l =
    let bound = grid_le f a c u C h l in
    let value = units_val f s (kept (prec f) (a * unit f) c) (drop (prec f) (a * unit f) c) bound.0 in
    record { units = grid f a c; counted = record { value = rw (round_is f s a c) value }; rounded = grid_rounded f a c C; most = bound.1 }

pub mul_round : {f : Format} {x y : Float} {s t : Bool} {a b : ℕ} → Counted f x s a → Counted f y t b → mul f x y ≡ round f (unlike s t) (a * b) (unit f * unit f)
unfolding mul
mul_round {f} {s = s} {t} {a} {b} h k = of_fractions (λ (x y : Float). mul f x y ≡ round f (unlike s t) (a * b) (unit f * unit f)) fractions h k
  where
    fractions : (m n : ℕ) (e d : ℤ) → m * up e * unit f ≡ a * down e → n * up d * unit f ≡ b * down d → mul f (fin s m e) (fin t n d) ≡ round f (unlike s t) (a * b) (unit f * unit f)
    fractions m n e d p q =
        round_same f (unlike s t) (m * up e * (n * up d)) (down e * down d) (a * b) (unit f * unit f) (mul-pos (down_pos e) (down_pos d)) (mul-pos (pow_pos (low f)) (pow_pos (low f)))
        (mul-mul-mul_comm (m * up e) (n * up d) (unit f) (unit f) ∙ ap₂ ◌*◌ p q ∙ mul-mul-mul_comm a (down e) b (down d))

pub mul_rounds : {f : Format} {x y : Float} {s t : Bool} {a b u : ℕ} → Counted f x s a → Counted f y t b → Holds f u → a * b ≤ u * unit f → Rounds f (mul f x y) (unlike s t) (a * b) (unit f) u
mul_rounds {f} {s = s} {t} {a} {b} {u} h k v l =
    let D = pow_pos (low f) in
    let r = round_rounds f (unlike s t) (a * b) (unit f * unit f) (mul-pos D D) v (le_trans (mul-le-mul_right (unit f) l) (le_of_eq (mul_assoc u (unit f) (unit f)))) in
    record { units = r.units; counted = rw (mul_round h k) r.counted; rounded = rounded_of_scaled (unit f) D r.rounded; most = r.most }

-- a factor of at most 1 makes no value larger: rounding keeps the order
pub mul_shrinks : {f : Format} {x y : Float} {s t : Bool} {a b : ℕ} → Counted f x s a → Holds f a → Counted f y t b → b ≤ unit f → Rounds f (mul f x y) (unlike s t) (a * b) (unit f) a
mul_shrinks {a = a} h v k l = mul_rounds h k v (mul-le-mul_left a l)

pub square_rounds : {f : Format} {x : Float} {s : Bool} {a u : ℕ} → Counted f x s a → Holds f u → a * a ≤ u * unit f → Rounds f (mul f x x) false (a * a) (unit f) u
square_rounds {s = true} h v l = mul_rounds h h v l
square_rounds {s = false} h v l = mul_rounds h h v l

-- two values that are not negative
add_round : {f : Format} {x y : Float} {a b : ℕ} → Counted f x false a → Counted f y false b → add f x y ≡ round f false (a + b) (unit f)
unfolding add
add_round {f} {a = a} {b} h k = of_fractions (λ (x y : Float). add f x y ≡ round f false (a + b) (unit f)) fractions h k
  where
    fractions : (m n : ℕ) (e d : ℤ) → m * up e * unit f ≡ a * down e → n * up d * unit f ≡ b * down d → add f (fin false m e) (fin false n d) ≡ round f false (a + b) (unit f)
    fractions m n e d p q =
        round_same f false (m * up e * down d + n * up d * down e) (down e * down d) (a + b) (unit f) (mul-pos (down_pos e) (down_pos d)) (pow_pos (low f))
        (omega (arith, ap (λ (z : ℕ). z * down d) p, ap (λ (z : ℕ). z * down e) q))

pub add_rounds : {f : Format} {x y : Float} {a b u : ℕ} → Counted f x false a → Counted f y false b → Holds f u → a + b ≤ u → Rounds f (add f x y) false (a + b) 1 u
add_rounds {f} {a = a} {b} h k v l =
    let D = pow_pos (low f) in
    let r = round_rounds f false (a + b) (unit f) D v (mul-le-mul_right (unit f) l) in
    record { units = r.units; counted = rw (add_round h k) r.counted; rounded = rounded_of_scaled (unit f) D (rw (one-mul (unit f)) r.rounded); most = r.most }

-- two values that are not negative, the second above zero
pub div_round : {f : Format} {x y : Float} {a b : ℕ} → Counted f x false a → Counted f y false b → 0 < b → div f x y ≡ round f false a b
unfolding div
div_round {f} {a = a} {b} h k B = of_fractions (λ (x y : Float). div f x y ≡ round f false a b) fractions h k
  where
    fractions : (m n : ℕ) (e d : ℤ) → m * up e * unit f ≡ a * down e → n * up d * unit f ≡ b * down d → div f (fin false m e) (fin false n d) ≡ round f false a b
    fractions m zero e d p q = absurd (omega (arith, mul-pos B (down_pos d)))
    fractions m (suc n) e d p q =
        let N = suc n * up d in
        let same : m * up e * down d * b * unit f ≡ a * (N * down e) * unit f = omega (arith, ap (λ (z : ℕ). z * (down d * b)) p, ap (λ (z : ℕ). z * (a * down e)) q) in
        rw (eqb-suc-zero n)
        (round_same f false (m * up e * down d) (N * down e) a b (mul-pos (mul-pos (zero-lt-suc n) (up_pos d)) (down_pos e)) B
        (eq_of_mul-eq-mul_right (unit f) (pow_pos (low f)) (m * up e * down d * b) (a * (N * down e)) same))

pub div_rounds : {f : Format} {x y : Float} {a b u : ℕ} → Counted f x false a → Counted f y false b → 0 < b → Holds f u → a * unit f ≤ u * b → Rounds f (div f x y) false (a * unit f) b u
div_rounds {f} {a = a} {b} h k B v l =
    let r = round_rounds f false a b B v l in
    record { units = r.units; counted = rw (div_round h k B) r.counted; rounded = r.rounded; most = r.most }

-- of a value above zero
pub inverse_rounds : {f : Format} {x : Float} {a u : ℕ} → Counted f x false a → 0 < a → Holds f u → unit f * unit f ≤ u * a → Rounds f (inverse_of f x) false (unit f * unit f) a u
unfolding inverse_of
inverse_rounds {f} {x} {a} h A v l = rw (eq_counts h (zero_counted f), not_zero a A) (div_rounds (one_counted f) h A v l)
  where
    not_zero : (a : ℕ) → 0 < a → eqb a 0 ≡ false
    not_zero zero A = absurd (lt_irrefl 0 A)
    not_zero (suc n) A = eqb-suc-zero n
