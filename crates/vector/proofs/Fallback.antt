-- Laws on a normalising that falls back to zero. In order: it says so exactly where the reciprocal of the length is not usable, and then its vector is zero; a vector each part of which is a NaN or a zero is one whose normalising
-- falls back, and the zero vector in a dot and in a cross product gives such numbers; where it did not fall back its vector is not zero. Assumes nothing.
use mathlib.Core.Bool.{Bool, true, false, not, cond, true≢false}
use mathlib.Core.Path.{◌≡◌, refl, sym, ap, ◌∙◌}
use native.Mathlib.Omega.{arith}
use lib.Dec.{T, ltb→lt}
use lib.Ieee.{Float, nan, inf, fin, Format, add, mul, div, eq, fits}
use lib.Ieee.Fits.{add-fits}
use lib.Ieee.Positive.{positive, positive-finite}
use lib.Ieee.Scale.{finite}
use Rattle.real.specs.Number.{zero, one}
use Rattle.real.specs.Root.{root_of}
use Rattle.real.specs.Scalar.{usable}
use Rattle.real.proofs.NotZero.{finite_of_add, finite_of_square, positive_of_usable, product_not_zero}
use Rattle.real.proofs.Nought.{Nought, nought_of_zero, add_nought, sub_nought, mul_nought_left, mul_nought_right, root_nought, reciprocal_unusable}
use Rattle.vector.specs.declared.Vector.{Vector}
use Rattle.vector.specs.declared.Normalized.{Normalized}
use Rattle.vector.specs.Arithmetic.{zero_v, scale_v, dot_v, cross_v, length_v, normalize_or_zero}

-- ---- what a normalising says
-- by whether the reciprocal is usable
abbrev by : Format → Vector → Bool → Normalized
by f v b = cond b (record { vector = scale_v f v (div f one (length_v f v)); fellback = false }) (record { vector = zero_v; fellback = true })

pub fellback_is : (f : Format) (v : Vector) → (normalize_or_zero f v).fellback ≡ not (usable (div f one (length_v f v)))
unfolding normalize_or_zero
fellback_is f v = either (usable (div f one (length_v f v)))
  where
    either : (b : Bool) → (by f v b).fellback ≡ not b
    either true = refl
    either false = refl

pub fellback_zero : (f : Format) (v : Vector) → (normalize_or_zero f v).fellback ≡ true → (normalize_or_zero f v).vector ≡ zero_v
unfolding normalize_or_zero
fellback_zero f v = either (usable (div f one (length_v f v)))
  where
    either : (b : Bool) → (by f v b).fellback ≡ true → (by f v b).vector ≡ zero_v
    either true h = absurd (true≢false (sym h))
    either false h = refl

pub kept_scaled : (f : Format) (v : Vector) → (normalize_or_zero f v).fellback ≡ false → (usable (div f one (length_v f v)) ≡ true) × ((normalize_or_zero f v).vector ≡ scale_v f v (div f one (length_v f v)))
unfolding normalize_or_zero
kept_scaled f v = either (usable (div f one (length_v f v)))
  where
    either : (b : Bool) → (by f v b).fellback ≡ false → (b ≡ true) × ((by f v b).vector ≡ scale_v f v (div f one (length_v f v)))
    either true h = (refl, refl)
    either false h = absurd (true≢false h)

-- ---- each part is a NaN or a zero
pub record NoughtV (v : Vector) : Type 0 where
  pub x : Nought v.x
  pub y : Nought v.y
  pub z : Nought v.z

zero_nought : NoughtV zero_v
unfolding zero_v
zero_nought = record { x = refl; y = refl; z = refl }

dot_nought : (f : Format) (a b : Vector) → NoughtV a → Nought (dot_v f a b)
unfolding dot_v
dot_nought f a b h =
    add_nought f _ _ (add_nought f _ _ (mul_nought_left f a.x b.x h.x) (mul_nought_left f a.y b.y h.y)) (mul_nought_left f a.z b.z h.z)

-- the reciprocal of its length is not usable
pub falls_back : (f : Format) (v : Vector) → NoughtV v → (normalize_or_zero f v).fellback ≡ true
unfolding length_v
falls_back f v h = fellback_is f v ∙ ap not (reciprocal_unusable f (length_v f v) (root_nought f (dot_v f v v) (dot_nought f v v h)))

-- ---- the zero vector
pub zero_dot : (f : Format) (v : Vector) → Nought (dot_v f zero_v v)
zero_dot f v = dot_nought f zero_v v zero_nought

pub cross_zero : (f : Format) (v : Vector) → NoughtV (cross_v f v zero_v)
unfolding cross_v
cross_zero f v =
    let z = zero_nought in
    record {
      x = sub_nought f _ _ (mul_nought_right f v.y _ z.z) (mul_nought_right f v.z _ z.y);
      y = sub_nought f _ _ (mul_nought_right f v.z _ z.x) (mul_nought_right f v.x _ z.z);
      z = sub_nought f _ _ (mul_nought_right f v.x _ z.y) (mul_nought_right f v.y _ z.x);
    }

-- ---- a normalising that did not fall back, of a vector whose parts the format holds: what it gives is not zero
-- a part of it that is zero has a square that was rounded to 0
square_zero : (f : Format) (d x : Float) → T (fits f d) → usable (div f one (root_of f d)) ≡ true → T (fits f x) → T (finite x) → eq (mul f x (div f one (root_of f d))) zero ≡ true → eq (mul f x x) zero ≡ true
square_zero f d x g h k t z = either (eq (mul f x x) zero) refl
  where
    either : (b : Bool) → eq (mul f x x) zero ≡ b → eq (mul f x x) zero ≡ true
    either true e = e
    either false e = absurd (true≢false (sym z ∙ product_not_zero f d x g h k t e))

not_above_zero : (x : Float) → T (positive x) → Nought x → ⊥
not_above_zero nan p q = p
not_above_zero (inf s) p q = p
not_above_zero (fin true m e) p q = p
not_above_zero (fin false m e) p q = let l = ltb→lt 0 m p in omega arith

pub kept_not_zero : (f : Format) (v : Vector) → T (fits f v.x) → T (fits f v.y) → T (fits f v.z) → (normalize_or_zero f v).fellback ≡ false
    → eq (normalize_or_zero f v).vector.x zero ≡ true → eq (normalize_or_zero f v).vector.y zero ≡ true → eq (normalize_or_zero f v).vector.z zero ≡ true → ⊥
unfolding length_v scale_v dot_v
kept_not_zero f v fx fy fz h zx zy zz =
    let k = kept_scaled f v h in
    let d = dot_v f v v in
    let g : T (fits f d) = add-fits f _ _ in
    let p : T (positive d) = positive_of_usable f d k.0 in
    let sums = finite_of_add f (add f (mul f v.x v.x) (mul f v.y v.y)) (mul f v.z v.z) (positive-finite d p) in
    let first = finite_of_add f (mul f v.x v.x) (mul f v.y v.y) sums.0 in
    let x = square_zero f d v.x g k.0 fx (finite_of_square f v.x first.0) (rw k.1 at zx) in
    let y = square_zero f d v.y g k.0 fy (finite_of_square f v.y first.1) (rw k.1 at zy) in
    let z = square_zero f d v.z g k.0 fz (finite_of_square f v.z sums.1) (rw k.1 at zz) in
    not_above_zero d p (add_nought f _ _ (add_nought f _ _ (nought_of_zero _ x) (nought_of_zero _ y)) (nought_of_zero _ z))
