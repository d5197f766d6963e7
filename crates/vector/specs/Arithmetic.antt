-- Document 01, "Vector arithmetic", in its order. Each operation is rounded once, none fused. Definitions only.
use Rattle.std.specs.Prelude.{ℕ, true, false, cond, List, [], ◌∷◌, eqb, get_or, Float}
use Rattle.std.specs.Float.{Format, nan}
use Rattle.std.specs.Float.Ieee.{add, sub, mul, div, neg}
use Rattle.real.specs.Number.{zero, one, two}
use Rattle.real.specs.Root.{root_of}
use Rattle.real.specs.Scalar.{usable}
use Rattle.vector.specs.declared.Vector.{Vector}
use Rattle.vector.specs.declared.Normalized.{Normalized}
use Rattle.vector.specs.declared.Rotation.{Rotation}
use Rattle.vector.specs.declared.Pose.{Pose}
use Rattle.vector.specs.declared.Inertia.{Inertia}

-- ---- part by part
unfoldable pub zero_v : Vector
zero_v = record { x = zero; y = zero; z = zero }

unfoldable pub add_v : Format → Vector → Vector → Vector
add_v f a b = record { x = add f a.x b.x; y = add f a.y b.y; z = add f a.z b.z }

unfoldable pub sub_v : Format → Vector → Vector → Vector
sub_v f a b = record { x = sub f a.x b.x; y = sub f a.y b.y; z = sub f a.z b.z }

unfoldable pub neg_v : Vector → Vector
neg_v a = record { x = neg a.x; y = neg a.y; z = neg a.z }

unfoldable pub scale_v : Format → Vector → Float → Vector
scale_v f a s = record { x = mul f a.x s; y = mul f a.y s; z = mul f a.z s }

unfoldable pub parts_v : Format → Vector → Vector → Vector
parts_v f a b = record { x = mul f a.x b.x; y = mul f a.y b.y; z = mul f a.z b.z }

-- ---- A dot product is (x·x' + y·y') + z·z'.
unfoldable pub dot_v : Format → Vector → Vector → Float
dot_v f a b = add f (add f (mul f a.x b.x) (mul f a.y b.y)) (mul f a.z b.z)

-- ---- The cross product's first part is y·z' − z·y', the rest cyclic.
unfoldable pub cross_v : Format → Vector → Vector → Vector
cross_v f a b = record {
  x = sub f (mul f a.y b.z) (mul f a.z b.y);
  y = sub f (mul f a.z b.x) (mul f a.x b.z);
  z = sub f (mul f a.x b.y) (mul f a.y b.x);
}

-- ---- Length is the square root of the dot with itself.
unfoldable pub length_v : Format → Vector → Float
length_v f a = root_of f (dot_v f a a)

-- ---- Normalise: r = 1/length; the vector times r if r is finite and above 0, else zero. Change request 2026-05: it "should say if it fell back to zero".
unfoldable pub normalize_or_zero : Format → Vector → Normalized
normalize_or_zero f v =
    let r = div f one (length_v f v) in
    cond (usable r) (record { vector = scale_v f v r; fellback = false }) (record { vector = zero_v; fellback = true })

-- ---- Rotation (b, w) of v: (v·(w·w − b·b) + b·((v·b)·2)) + (b×v)·(w·2).
unfoldable pub rotate_v : Format → Rotation → Vector → Vector
rotate_v f q v =
    let b = q.b in
    let w = q.w in
    add_v f
    (add_v f
    (scale_v f v (sub f (mul f w w) (dot_v f b b)))
    (scale_v f b (mul f (dot_v f v b) two)))
    (scale_v f (cross_v f b v) (mul f w two))

-- ---- A pose rotates, then adds its translation.
unfoldable pub transform_point : Format → Pose → Vector → Vector
transform_point f p v = add_v f (rotate_v f p.rotation v) p.translation

-- ---- Inverse inertia, six numbers, is a symmetric three by three array of rows; a product is three row dots.
unfoldable pub rows_of : Inertia → List (List Float)
rows_of i = (i.xx ∷ i.xy ∷ i.xz ∷ []) ∷ (i.xy ∷ i.yy ∷ i.yz ∷ []) ∷ (i.xz ∷ i.yz ∷ i.zz ∷ []) ∷ []

unfoldable pub row_dot : Format → List Float → Vector → Float
row_dot f row v = dot_v f (record { x = get_or row 0 nan; y = get_or row 1 nan; z = get_or row 2 nan }) v

unfoldable pub rows_dot : Format → List (List Float) → Vector → Vector
rows_dot f rows v = record { x = row_dot f (get_or rows 0 []) v; y = row_dot f (get_or rows 1 []) v; z = row_dot f (get_or rows 2 []) v }

unfoldable pub inertia_dot : Format → Inertia → Vector → Vector
inertia_dot f i v = rows_dot f (rows_of i) v

-- ---- "What a vehicle keeps": axes are numbers 0 to 2; axis i has 1 at part i and 0 elsewhere.
unfoldable pub ith : ℕ → Vector
ith i = record { x = cond (eqb i 0) one zero; y = cond (eqb i 1) one zero; z = cond (eqb i 2) one zero }
