-- The settled centre of an accepted read is finite. In order: a sum of two counted values; a stored number and two more, as rule 1's centre has them; a number of a used row; the read. Assumes nothing.
use Prim.Native.Nat.{ℕ, ◌+◌, ◌-◌, ◌*◌, ◌^◌, ◌≤◌, ◌<◌}
use mathlib.Core.Bool.{Bool, true, false, cond, ◌&&◌, beq}
use mathlib.Core.List.{List}
use mathlib.Core.Path.{◌≡◌, ap}
use native.Mathlib.Nat.{le_trans, le_of_eq, mul-le-mul, mul-le-mul_right, mul-pos}
use native.Mathlib.Omega.{arith}
use lib.Dec.{T, ltb}
use lib.IntN.{ℤ}
use lib.ListN.{length, get_or}
use lib.Ieee.{Float, nan, fin, Format, add, mul, sum, round, up, down}
use lib.Ieee.Bits.{is_true}
use lib.Ieee.Fits.{down_pos}
use lib.Ieee.Scale.{finite}
use Rattle.lists.specs.Part.{part}
use Rattle.lists.proofs.Parts.{get_d_part}
use Rattle.vector.specs.Arithmetic.{add_v, scale_v}
use Rattle.wheel.specs.Ray.{centre_of, settled_centre}
use Rattle.real.specs.Units.{unit, count}
use Rattle.real.proofs.Bounds.{Bounded, bounded_counted, within_power}
use Rattle.real.proofs.Rounding.{round_rounds, mul_rounds}
use Rattle.real.proofs.SignedCounts.{Counted, finite_of, of_fractions, Holds, power_holds}
use Rattle.table.specs.Layout as at
use Rattle.table.specs.Rows.{row_start, wheel_at, wheel_of, info_at, place_at, vector_at}
use Rattle.table.specs.Bounds.{stored_within}
use Rattle.table.proofs.Within.{stored_within_says}
use Rattle.refusals.specs.Shape.{count_of}
use Rattle.read_wheel.specs.Read.{refuse_read}
use Rattle.read_wheel.proofs.Accepted.{read_says}
use Rattle.demands.specs.Held.{Held}
use Rattle.demands.specs.Settled.{is_finite}
use Rattle.demands.proofs.Each.{each_of_held, number_fits}

-- ---- a sum of two counted values that the format has room for
either_finite : (b : Bool) (x y : Float) → T (finite x) → T (finite y) → T (finite (cond b x y))
either_finite true x y p q = p
either_finite false x y p q = q

sum_finite : (f : Format) (s t : Bool) (a b c : ℕ) {u : ℕ} → 0 < c → Holds f u → (a + b) * unit f ≤ u * c → T (finite (sum f s a t b c))
unfolding sum
sum_finite f s t a b c {u} C v l =
    let rounds : (r : Bool) (n : ℕ) → n ≤ a + b → T (finite (round f r n c)) = λ r n h. finite_of (round_rounds f r n c C v (le_trans (mul-le-mul_right (unit f) h) l)).counted in
    let less = round f t (b - a) c in
    let more = round f (s && ltb b a) (a - b) c in
    either_finite (beq s t) (round f s (a + b) c) (cond (ltb a b) less more) (rounds s (a + b) (omega arith))
    (either_finite (ltb a b) less more (rounds t (b - a) (omega arith)) (rounds (s && ltb b a) (a - b) (omega arith)))

add_finite : {f : Format} {x y : Float} {s t : Bool} {a b u : ℕ} → Counted f x s a → Counted f y t b → Holds f u → a + b ≤ u → T (finite (add f x y))
unfolding add
add_finite {f} {s = s} {t} {a} {b} {u} h k v l = of_fractions (λ (x y : Float). T (finite (add f x y))) fractions h k
  where
    fractions : (m n : ℕ) (e d : ℤ) → m * up e * unit f ≡ a * down e → n * up d * unit f ≡ b * down d → T (finite (add f (fin s m e) (fin t n d)))
    fractions m n e d p q =
        let same : (m * up e * down d + n * up d * down e) * unit f ≡ (a + b) * (down e * down d) = omega (arith, ap (λ (z : ℕ). z * down d) p, ap (λ (z : ℕ). z * down e) q) in
        sum_finite f s t (m * up e * down d) (n * up d * down e) (down e * down d) (mul-pos (down_pos e) (down_pos d)) v (le_trans (le_of_eq same) (mul-le-mul_right (down e * down d) l))

-- ---- x + y × z of three numbers of at most 2^40 in magnitude
pub scaled_finite : (f : Format) (x y z : Float) → Bounded f (2 ^ 40 * unit f) x → Bounded f (2 ^ 40 * unit f) y → Bounded f (2 ^ 40 * unit f) z → T (finite (add f x (mul f y z)))
scaled_finite f x y z p q r =
    let product : count f y * count f z ≤ 2 ^ 80 * unit f * unit f = le_trans (mul-le-mul q.most r.most) (omega arith) in
    let m = mul_rounds (bounded_counted q) (bounded_counted r) (power_holds f 80 (omega arith)) product in
    add_finite (bounded_counted p) m.counted (power_holds f 81 (omega arith)) (let a = p.most in let b = m.most in omega arith)

-- ---- number k of a used row
pub row_bounded : (f : Format) (t : List Float) (n i k : ℕ) → length t ≡ at.SIZE → n ≤ at.WHEELS → stored_within t n ≡ true → Held f t → i < n → k < at.ROW
    → Bounded f (2 ^ 40 * unit f) (get_or (part t (row_start i) at.ROW) k nan)
row_bounded f t n i k s l w h u v =
    let number = get_d_part t (row_start i) at.ROW k nan v in
    rw number (within_power f 40 (get_or t (row_start i + k) nan) (number_fits f t (row_start i + k) (each_of_held f t h)) (stored_within_says t n (row_start i + k) s l w (omega arith)))

-- ---- an accepted read
both : (a b : Bool) → a ≡ true → b ≡ true → a && b ≡ true
both a b p q = rw (p, q)

pub settled_finite : (f : Format) (t : List Float) (m : List ℕ) (i : ℕ) → Held f t → refuse_read t m i ≡ 0 → is_finite (settled_centre f (wheel_at t i)) ≡ true
unfolding is_finite settled_centre centre_of add_v scale_v wheel_at wheel_of info_at place_at vector_at
settled_finite f t m i h z =
    let a = read_says t m i z in
    let row : (k : ℕ) → k < at.ROW → Bounded f (2 ^ 40 * unit f) (get_or (part t (row_start i) at.ROW) k nan) = λ k l. row_bounded f t (count_of m) i k a.shape.sized a.shape.room a.stored h a.used l in
    let part_finite : (k : ℕ) → k < 3 → finite (add f (get_or (part t (row_start i) at.ROW) (at.HARD + k) nan) (mul f (get_or (part t (row_start i) at.ROW) (at.PLACE-AT + at.WORLD-DIRECTION + k) nan) (get_or (part t (row_start i) at.ROW) at.LENGTH nan))) ≡ true =
    λ k l. is_true _ (scaled_finite f _ _ _ (row (at.HARD + k) (omega arith)) (row (at.PLACE-AT + at.WORLD-DIRECTION + k) (omega arith)) (row at.LENGTH (omega arith))) in
    both _ _ (part_finite 0 (omega arith)) (both _ _ (part_finite 1 (omega arith)) (part_finite 2 (omega arith)))
