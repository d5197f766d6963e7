-- When a rounded number is not zero, and what a usable reciprocal of a root says. In order: whether a fraction rounds to 0 does not depend on its sign (round_sign), and one of a unit or more does not (round_not_zero); a number whose
-- square is not rounded to 0 has more than about the root of a unit (square_not_zero); what is finite has finite parts (finite_of_add, finite_of_square); a root with a usable reciprocal is that of a number above zero
-- (positive_of_usable), and the reciprocal is not small (reciprocal_count); so such a number times that reciprocal is not zero (product_not_zero). Assumes nothing.
use mathlib.Core.Path.{◌≡◌, refl, sym, ap, subst, ◌∙◌}
use Prim.Native.Nat.{ℕ, zero, suc, ◌+◌, ◌-◌, ◌*◌, ◌^◌, ◌≤◌, ◌<◌}
use native.Mathlib.Nat.{le_trans, le_of_lt, lt_of_not-le, not-le_of_lt, mul-le-mul, mul-le-mul_right, mul-pos, eq_of_mul-eq-mul_right, zero-lt-suc}
use native.Mathlib.Decide.{dec_le}
use native.Mathlib.Omega.{arith}
use mathlib.Core.Bool.{Bool, true, false, ◌&&◌, ◌||◌, beq, cond, true≢false}
use lib.Dec.{T, eqb, ltb, lt→ltb, lit≤, lit<}
use lib.IntN.{ℤ, pos, negsuc}
use lib.Pow.{pow_pos}
use lib.Ieee.{Float, nan, inf, fin, Format, binary32, binary64, prec, emax, low, up, down, level, odd, units, round, unlike, add, mul, div, lt, eq, le, fits}
use lib.Ieee.Fits.{down_pos, round_is, div-fits}
use lib.Ieee.Bits.{is_true}
use lib.Ieee.Order.{drop, kept, round_mono}
use lib.Ieee.Positive.{positive, positive-finite}
use lib.Ieee.Scale.{finite, overflow}
use Rattle.real.specs.Number.{zero as nought, one}
use Rattle.real.specs.Root.{root_of}
use Rattle.real.specs.Scalar.{usable}
use Rattle.real.specs.Units.{unit, count, minus?}
use Rattle.real.proofs.SignedCounts.{Counted, own_count, own_holds, zero_counted, one_counted, fraction_counted, eq_counts, le_counts, at_most_plus, at_most_zero}
use Rattle.real.proofs.Rounding.{parts, parts_pos, mul_round, div_round}
use Rattle.real.proofs.NotNegative.{NotNegative, level_zero, round_not_negative}
use Rattle.real.proofs.Nought.{Nought, nought_of_zero, reciprocal_unusable}
use Rattle.real.proofs.Near.{le_of_by}
use Rattle.real.proofs.RootRounds.{root_rounds}

-- ---- a rounded number and zero
-- the sign of a finite number does not say whether it is zero
level_sign : (s : Bool) (x y : ℕ) → y ≡ 0 → level s x false y ≡ level false x false y
level_sign false x y e = refl
level_sign true x y e = subst (λ (z : ℕ). level true x false z ≡ level false x false z) (sym e) (twice (eqb x 0))
  where
    twice : (b : Bool) → b && (false || b) ≡ b && (true || b)
    twice true = refl
    twice false = refl

finite_sign : (s : Bool) (m : ℕ) (e : ℤ) → eq (fin s m e) nought ≡ eq (fin false m e) nought
unfolding eq
finite_sign s m e = level_sign s (m * up e * 1) (0 * 1 * down e) (omega arith)

units_sign : (f : Format) (s : Bool) (q k : ℕ) → eq (units f s q k) nought ≡ eq (units f false q k) nought
unfolding units odd
units_sign f s q k = go (ltb (q * 2 ^ k) (2 ^ (low f + suc (emax f)))) q
  where
    go : (b : Bool) (q : ℕ) → eq (cond b (odd (suc (prec f)) s q k (low f)) (inf s)) nought ≡ eq (cond b (odd (suc (prec f)) false q k (low f)) (inf false)) nought
    go true zero = finite_sign s zero (pos zero)
    go true (suc q) = finite_sign s _ _
    go false q = unfold eq in refl

round_sign : (f : Format) (s : Bool) (a c : ℕ) → eq (round f s a c) nought ≡ eq (round f false a c) nought
round_sign f s a c =
    rw (round_is f s a c, round_is f false a c) (units_sign f s (kept (prec f) (a * 2 ^ low f) c) (drop (prec f) (a * 2 ^ low f) c))

-- one unit, and half a unit, as `round` has them
unit_rounds : (f : Format) → eq (round f false 1 (unit f)) nought ≡ false
unfolding round eq
unit_rounds binary32 = refl
unit_rounds binary64 = refl

half_rounds : (f : Format) → round f false 1 (2 * unit f) ≡ nought
unfolding round
half_rounds binary32 = refl
half_rounds binary64 = refl

-- what is not negative, and at most zero, is zero
zero_of_le : (x y : Float) → NotNegative x → le x y ≡ true → Nought y → eq x nought ≡ true
unfolding le eq
zero_of_le nan y p h q = absurd (true≢false (sym h))
zero_of_le (inf true) y p h q = absurd p
zero_of_le (inf false) nan p h q = absurd (true≢false (sym h))
zero_of_le (inf false) (inf t) p h q = absurd q
zero_of_le (inf false) (fin t n d) p h q = absurd (true≢false (sym h))
zero_of_le (fin true m e) y p h q = level_zero true false (m * up e * 1) (0 * 1 * down e) (omega (arith, ap (λ (z : ℕ). z * up e) (p tt))) (omega arith)
zero_of_le (fin false m e) nan p h q = absurd (true≢false (sym h))
zero_of_le (fin false m e) (inf t) p h q = absurd q
zero_of_le (fin false m e) (fin t n d) p h q =
    let none : m * up e * down d ≡ 0 = either t h in
    let part : m * up e ≡ 0 = eq_of_mul-eq-mul_right (down d) (down_pos d) (m * up e) 0 (omega arith) in
    level_zero false false (m * up e * 1) (0 * 1 * down e) (omega arith) (omega arith)
  where
    either : (t : Bool) → le (fin false m e) (fin t n d) ≡ true → m * up e * down d ≡ 0
    either true h = (at_most_zero (m * up e * down d) (n * up d * down e) h).0
    either false h =
        let most = at_most_plus (m * up e * down d) (n * up d * down e) h in
        let z : n * up d * down e ≡ 0 = ap (λ (k : ℕ). k * up d * down e) q ∙ omega arith in
        omega arith

by_test : (b : Bool) {A : Type 0} → (b ≡ true → A) → (b ≡ false → A) → A
by_test true p q = p refl
by_test false p q = q refl

-- of a unit or more
pub round_not_zero : (f : Format) (s : Bool) (a c : ℕ) → 0 < c → c ≤ a * unit f → eq (round f s a c) nought ≡ false
round_not_zero f s a c C h =
    let ordered : le (round f false 1 (unit f)) (round f false a c) ≡ true =
    is_true (le (round f false 1 (unit f)) (round f false a c)) (round_mono f 1 (unit f) a c (pow_pos (low f)) C (omega arith)) in
    round_sign f s a c
    ∙ by_test (eq (round f false a c) nought)
    (λ k. absurd (true≢false (sym (zero_of_le _ _ (round_not_negative f 1 (unit f)) ordered (nought_of_zero _ k)) ∙ unit_rounds f)))
    (λ k. k)

-- ---- a number whose square is not rounded to 0
pub square_not_zero : {f : Format} {x : Float} {s : Bool} {a : ℕ} → Counted f x s a → eq (mul f x x) nought ≡ false → unit f < a * a * 2
square_not_zero {f} {x} {s} {a} h k = lt_of_not-le (λ small. true≢false (sym (none small) ∙ k))
  where
    like : (s : Bool) → unlike s s ≡ false
    like true = refl
    like false = refl

    none : a * a * 2 ≤ unit f → eq (mul f x x) nought ≡ true
    none l =
        let D = pow_pos (low f) in
        let ordered : le (round f false (a * a) (unit f * unit f)) (round f false 1 (2 * unit f)) ≡ true =
        is_true (le (round f false (a * a) (unit f * unit f)) (round f false 1 (2 * unit f)))
        (round_mono f (a * a) (unit f * unit f) 1 (2 * unit f) (mul-pos D D) (mul-pos (lit< tt) D) (omega (arith, mul-le-mul_right (unit f) l))) in
        rw (mul_round h h, like s) (zero_of_le _ _ (round_not_negative f (a * a) (unit f * unit f)) ordered (subst Nought (sym (half_rounds f)) refl))

-- ---- what is finite has finite parts
pub finite_of_add : (f : Format) (x y : Float) → T (finite (add f x y)) → T (finite x) × T (finite y)
unfolding add
finite_of_add f nan y h = absurd h
finite_of_add f (inf s) nan h = absurd h
finite_of_add f (inf s) (inf t) h = absurd (either (beq s t) h)
  where
    either : (b : Bool) → T (finite (cond b (inf s) nan)) → ⊥
    either true k = k
    either false k = k
finite_of_add f (inf s) (fin t n d) h = absurd h
finite_of_add f (fin s m e) nan h = absurd h
finite_of_add f (fin s m e) (inf t) h = absurd h
finite_of_add f (fin s m e) (fin t n d) h = (tt, tt)

pub finite_of_square : (f : Format) (x : Float) → T (finite (mul f x x)) → T (finite x)
unfolding mul
finite_of_square f nan h = absurd h
finite_of_square f (inf s) h = absurd h
finite_of_square f (fin s m e) h = tt

-- ---- a usable number is finite, and has no sign
usable_finite : (r : Float) → usable r ≡ true → T (finite r) × (minus? r ≡ false)
unfolding usable lt
usable_finite nan h = absurd (true≢false (sym h))
usable_finite (inf true) h = absurd (true≢false (sym h))
usable_finite (inf false) h = absurd (true≢false (sym h))
usable_finite (fin true m e) h = absurd (true≢false (sym h))
usable_finite (fin false m e) h = (tt, refl)

-- a root with a usable reciprocal is that of a number above zero
pub positive_of_usable : (f : Format) (x : Float) → usable (div f one (root_of f x)) ≡ true → T (positive x)
unfolding root_of usable div lt
positive_of_usable f nan h = absurd (true≢false (sym h))
positive_of_usable f (inf true) h = absurd (true≢false (sym h))
positive_of_usable f (inf false) h = absurd (true≢false (sym h))
positive_of_usable f (fin s zero e) h = absurd (true≢false (sym h ∙ reciprocal_unusable f (fin s zero e) refl))
positive_of_usable f (fin true (suc m) e) h = absurd (true≢false (sym h))
positive_of_usable f (fin false (suc m) e) h = lt→ltb 0 (suc m) (zero-lt-suc m)

-- ---- its reciprocal is not small: every root is at most 2 ^ 65, or 2 ^ 513, so a usable reciprocal is at least 2 ^ -65, or 2 ^ -513
abbrev reach : Format → ℕ
reach binary32 = 64
reach binary64 = 512

reach_rounds : (f : Format) → round f false 1 (2 ^ suc (reach f)) ≡ fin false 1 (negsuc (reach f))
unfolding round
reach_rounds binary32 = refl
reach_rounds binary64 = refl

reach_fits : (f : Format) → suc (reach f) ≤ low f
reach_fits binary32 = lit≤ tt
reach_fits binary64 = lit≤ tt

reach_wide : (f : Format) → overflow f * unit f * 2 ≤ unit f * 2 ^ suc (reach f) * (unit f * 2 ^ suc (reach f))
reach_wide binary32 = lit≤ tt
reach_wide binary64 = lit≤ tt

two_steps : (f : Format) → suc (parts f) ^ 2 * 1 ≤ parts f ^ 2 * 2
two_steps binary32 = lit≤ tt
two_steps binary64 = lit≤ tt

square_lt : (a b : ℕ) → a < b → a * a < b * b
square_lt a b h = omega (arith, mul-le-mul h h)

module _ (f : Format) (x : Float) (g : T (fits f x)) (h : usable (div f one (root_of f x)) ≡ true) where
  reciprocal_count : 2 ^ (low f - suc (reach f)) ≤ count f (div f one (root_of f x))
  reciprocal_count =
      let p = positive_of_usable f x h in
      let root = root_rounds f x g p in
      let b = root.units in
      let r = usable_finite (div f one (root_of f x)) h in
      let square : b * b * 1 ≤ count f x * unit f * 2 = le_of_by 1 2 (parts_pos f) (two_steps f) root.near.above in
      let under : count f x < overflow f = (own_holds f x g (positive-finite x p)).under in
      let most : b ≤ unit f * 2 ^ suc (reach f) = bounded b square under in
      let ordered : le (round f false 1 (2 ^ suc (reach f))) (round f false (unit f) b) ≡ true =
      is_true (le (round f false 1 (2 ^ suc (reach f))) (round f false (unit f) b)) (round_mono f 1 (2 ^ suc (reach f)) (unit f) b (pow_pos (suc (reach f))) (root_pos b root.counted) (omega arith)) in
      let above : le (fin false 1 (negsuc (reach f))) (div f one (root_of f x)) ≡ true = rw (div_round (one_counted f) root.counted (root_pos b root.counted), ← reach_rounds f) ordered in
      at_most_plus _ _ (sym (le_counts (fraction_counted f (reach f) (reach_fits f)) (rw r.1 at (own_count f (div f one (root_of f x)) (div-fits f one (root_of f x)) r.0))) ∙ above)
    where
      root_pos : (b : ℕ) → Counted f (root_of f x) false b → 0 < b
      root_pos zero k = absurd (true≢false (sym h ∙ reciprocal_unusable f (root_of f x) (nought_of_zero (root_of f x) (eq_counts k (zero_counted f)))))
      root_pos (suc b) k = zero-lt-suc b

      bounded : (b : ℕ) → b * b * 1 ≤ count f x * unit f * 2 → count f x < overflow f → b ≤ unit f * 2 ^ suc (reach f)
      bounded b square under =
          elim (dec_le b (unit f * 2 ^ suc (reach f))) [
            | yes l ↦ l
            | no l ↦ (
                let w : unit f * 2 ^ suc (reach f) < b = lt_of_not-le l in
                let wide = reach_wide f in
                let large : unit f * 2 ^ suc (reach f) * (unit f * 2 ^ suc (reach f)) < b * b = square_lt _ b w in
                let small : count f x * unit f * 2 ≤ overflow f * unit f * 2 = mul-le-mul_right 2 (mul-le-mul_right (unit f) (le_of_lt under)) in
                absurd (not-le_of_lt large (le_trans (omega arith) (le_trans small wide))))
          ]

-- ---- a number whose square is not rounded to 0, times such a reciprocal
abbrev least : Format → ℕ
least binary32 = 2 ^ 74
least binary64 = 2 ^ 536

least_square : (f : Format) → least f * least f * 2 ≤ unit f
least_square binary32 = lit≤ tt
least_square binary64 = lit≤ tt

least_product : (f : Format) → unit f ≤ least f * 2 ^ (low f - suc (reach f))
least_product binary32 = lit≤ tt
least_product binary64 = lit≤ tt

not_small : (f : Format) (a : ℕ) → unit f < a * a * 2 → least f ≤ a
not_small f a h =
    elim (dec_le (least f) a) [
      | yes l ↦ l
      | no l ↦ (
          let small : a * a ≤ least f * least f = mul-le-mul (le_of_lt (lt_of_not-le l)) (le_of_lt (lt_of_not-le l)) in
          absurd (not-le_of_lt h (le_trans (mul-le-mul_right 2 small) (least_square f))))
    ]

pub product_not_zero : (f : Format) (x y : Float) → T (fits f x) → usable (div f one (root_of f x)) ≡ true → T (fits f y) → T (finite y) → eq (mul f y y) nought ≡ false → eq (mul f y (div f one (root_of f x))) nought ≡ false
product_not_zero f x y g h k t q =
    let r = usable_finite (div f one (root_of f x)) h in
    let own = own_count f y k t in
    let large : least f ≤ count f y = not_small f (count f y) (square_not_zero own q) in
    let product : unit f ≤ count f y * count f (div f one (root_of f x)) = le_trans (least_product f) (mul-le-mul large (reciprocal_count f x g h)) in
    let D = pow_pos (low f) in
    rw (mul_round own (own_count f (div f one (root_of f x)) (div-fits f one (root_of f x)) r.0)) (round_not_zero f _ _ (unit f * unit f) (mul-pos D D) (mul-le-mul_right (unit f) product))
