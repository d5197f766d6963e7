-- The nested brackets, multiplied out, are the Taylor sums. By any divisors, the brackets less what is taken off are the sum of what is added (left_is); so with those of the cosine and of the sine (cosines, sines), which
-- `cosine_grains` and `sine_grains` have (cosine_grains_lem, sine_grains_lem), what is near to the brackets is near to the sums of `Taylor` (cosine_within, sine_within). Assumes nothing.
use Rattle.std.proofs.Common.{◌≡◌, ℕ, suc, ◌+◌, ◌*◌, ◌^◌, List, [], ◌∷◌, length, refl, ap, ◌∙◌, mul-le-mul_left, one-mul, pow-suc, arith, lit≤, pow-add}
use native.Mathlib.Nat.{pow-zero}
use Rattle.angle.specs.Angle.{GRAINS, sine_grains, cosine_grains}
use Rattle.angle.specs.Taylor.{denominator, term, cosine_adds, cosine_takes, sine_adds, sine_takes, PARTS, Within}
use Rattle.angle.proofs.Apart.{Apart}
use Rattle.angle.proofs.Nested.{Square, whole, left, left_off, grains, Large}

-- ---- powers
pow_one : (n : ℕ) → n ^ 1 ≡ n
pow_one n = pow-suc n 0 ∙ ap (λ (z : ℕ). z * n) (pow-zero n) ∙ one-mul n

two_more : (n k : ℕ) → n ^ (2 + k) ≡ n * n * n ^ k
two_more n k = pow-add n 2 k ∙ ap (λ (z : ℕ). z * n ^ k) (pow-suc n 1 ∙ ap (λ (z : ℕ). z * n) (pow_one n))

-- ---- brackets by their divisors, multiplied out

-- what the divisors multiply up to
abbrev coefficient : List ℕ → ℕ
coefficient [] = 1
coefficient (e ∷ es) = e * coefficient es

whole_is : (d : ℕ) (es : List ℕ) → whole (d * d) es ≡ coefficient es * d ^ (2 * length es)
unfolding whole
whole_is d [] = omega (arith, pow-zero d)
whole_is d (e ∷ es) =
    let k = 2 * length es in
    let twice : 2 * suc (length es) ≡ 2 + k = omega arith in
    let more : d ^ (2 * suc (length es)) ≡ d * d * d ^ k = ap (λ (z : ℕ). d ^ z) twice ∙ two_more d k in
    omega (arith, ap (λ (z : ℕ). e * (d * d) * z) (whole_is d es), ap (λ (z : ℕ). e * coefficient es * z) more)

-- the terms of c × (a / d)^j × the brackets, over d^m × their denominator: those that are added and those that are taken off
module _ (c m a d : ℕ) where
  abbrev piece : ℕ → List ℕ → ℕ
  piece j es = c * coefficient es * (a ^ j * d ^ (m + 2 * length es))

  abbrev mutual
    adds : ℕ → List ℕ → ℕ
    adds j [] = piece j []
    adds j (e ∷ es) = piece j (e ∷ es) + takes (2 + j) es

    takes : ℕ → List ℕ → ℕ
    takes j [] = 0
    takes j (e ∷ es) = adds (2 + j) es

  piece_is : (j : ℕ) (es : List ℕ) → c * (a ^ j * d ^ m) * whole (d * d) es ≡ piece j es
  piece_is j es = omega (arith, ap (λ (z : ℕ). c * (a ^ j * d ^ m) * z) (whole_is d es), ap (λ (z : ℕ). c * coefficient es * (a ^ j * z)) (pow-add d m (2 * length es)))

  module _ {q : ℕ} (sq : Square GRAINS (a * a) (d * d) q) where
    left_is : (j : ℕ) (es : List ℕ) → Large es → c * (a ^ j * d ^ m) * left (a * a) (d * d) es + takes j es ≡ adds j es
    unfolding left
    left_is j [] l = omega (arith, piece_is j [])
    left_is j (e ∷ es) l =
        let K = c * (a ^ j * d ^ m) in
        let inner = left (a * a) (d * d) es in
        let off : K * (left (a * a) (d * d) (e ∷ es) + a * a * inner) ≡ K * (e * (d * d) * whole (d * d) es) = ap (λ (z : ℕ). K * z) (left_off sq e es l) in
        let deeper : c * (a ^ (2 + j) * d ^ m) * inner ≡ c * (a * a * a ^ j * d ^ m) * inner = ap (λ (z : ℕ). c * (z * d ^ m) * inner) (two_more a j) in
        omega (arith, piece_is j (e ∷ es), left_is (2 + j) es l.1)

-- ---- near to the brackets is near to their sum

-- the sum is K times the brackets z / E
within_of_apart : {d c z adds takes : ℕ} (K E : ℕ) → denominator d ≡ K * E → K * z + takes * d ≡ adds * d → Apart PARTS (E * d) (c * E) z → Within d c adds takes
within_of_apart {d} {c} K E e sum h =
    let den : c * denominator d ≡ c * (K * E) = ap (λ (z : ℕ). c * z) e in
    let last : denominator d * d ≡ K * E * d = ap (λ (z : ℕ). z * d) e in
    record { notabove = omega (arith, mul-le-mul_left K h.above); notbelow = omega (arith, mul-le-mul_left K h.below) }

-- ---- the brackets of the cosine and of the sine
abbrev pub cosines : List ℕ
cosines = 1 * 2 ∷ 3 * 4 ∷ 5 * 6 ∷ 7 * 8 ∷ 9 * 10 ∷ 11 * 12 ∷ []

abbrev pub sines : List ℕ
sines = 2 * 3 ∷ 4 * 5 ∷ 6 * 7 ∷ 8 * 9 ∷ 10 * 11 ∷ []

pub cosines_large : Large cosines
cosines_large = (lit≤ tt, (lit≤ tt, (lit≤ tt, (lit≤ tt, (lit≤ tt, (lit≤ tt, tt))))))

pub sines_large : Large sines
sines_large = (lit≤ tt, (lit≤ tt, (lit≤ tt, (lit≤ tt, (lit≤ tt, tt)))))

pub cosine_grains_lem : (q : ℕ) → grains q cosines ≡ cosine_grains q
unfolding grains cosine_grains
cosine_grains_lem q = refl

pub sine_grains_lem : (q : ℕ) → grains q sines ≡ sine_grains q
unfolding grains sine_grains
sine_grains_lem q = refl

module _ (a d : ℕ) where
  cosine_whole : denominator d ≡ 1 * whole (d * d) cosines
  unfolding denominator
  cosine_whole = omega (arith, whole_is d cosines)

  sine_whole : denominator d ≡ 12 * (d * d) * whole (d * d) sines
  unfolding denominator
  sine_whole = omega (arith, ap (λ (z : ℕ). 12 * (d * d) * z) (whole_is d sines), two_more d 10)

  module _ {q : ℕ} (sq : Square GRAINS (a * a) (d * d) q) where
    cosine_sum : 1 * left (a * a) (d * d) cosines + cosine_takes a d ≡ cosine_adds a d
    unfolding cosine_adds cosine_takes term
    cosine_sum =
        let K : 1 * (a ^ 0 * d ^ 0) ≡ 1 = rw (pow-zero a, pow-zero d) refl in
        omega (arith, rw K at (left_is 1 0 a d sq 0 cosines cosines_large))

    sine_sum : 12 * (a * d) * left (a * a) (d * d) sines + sine_takes a d ≡ sine_adds a d
    unfolding sine_adds sine_takes term
    sine_sum =
        let K : 12 * (a ^ 1 * d ^ 1) ≡ 12 * (a * d) = rw (pow_one a, pow_one d) refl in
        omega (arith, rw K at (left_is 12 1 a d sq 1 sines sines_large))

    pub cosine_within : {c : ℕ} → Apart PARTS (whole (d * d) cosines * d) (c * whole (d * d) cosines) (left (a * a) (d * d) cosines * d) → Within d c (cosine_adds a d) (cosine_takes a d)
    cosine_within h = within_of_apart 1 (whole (d * d) cosines) cosine_whole (omega (arith, ap (λ (z : ℕ). z * d) cosine_sum)) h

    pub sine_within : {c : ℕ} → Apart PARTS (whole (d * d) sines * d) (c * whole (d * d) sines) (a * left (a * a) (d * d) sines) → Within d c (sine_adds a d) (sine_takes a d)
    sine_within h = within_of_apart (12 * (d * d)) (whole (d * d) sines) sine_whole (omega (arith, ap (λ (z : ℕ). z * d) sine_sum)) h
