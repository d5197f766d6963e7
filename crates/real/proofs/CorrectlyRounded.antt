-- The square root is correctly rounded. What `root_of` works out has the property `Root` (`root_of_is_root`), and nothing else has it (`root_is_unique`),
-- so what has it is what `root_of` works out (`is_root_of`, and `nearest_is_root_of` of a number above zero). Assumes nothing.
use mathlib.Core.Path.{◌≡◌, refl, sym, ap, ◌∙◌, subst}
use mathlib.Core.Bool.{true, false}
use Prim.Native.Nat.{ℕ, zero, suc, ◌+◌, ◌*◌, ◌≤◌, ◌<◌}
use native.Mathlib.Nat.{add_comm, lt_of_not-le, le_antisymm, le_of_suc-le-suc, zero-lt-suc}
use native.Mathlib.Omega.{arith}
use lib.Dec.{T, lt→ltb}
use lib.Ieee.{Float, nan, inf, fin, Format, fits}
use lib.Ieee.Exact.{HasValue}
use lib.Ieee.Positive.{positive, positive_of_value}
use Rattle.real.specs.Units.{unit, count, Count}
use Rattle.real.specs.Root.{root_of_units, root_of, Nearest, Root}
use Rattle.real.proofs.Counts.{count_of, positive_has_count, same_value}
use Rattle.real.proofs.LeadingRoot.{nearest}
use Rattle.real.proofs.RootOfUnits.{rounds_positive}

pub root_of_is_root : (f : Format) (x : Float) → T (fits f x) → Root f x (root_of f x)
unfolding root_of Root
root_of_is_root f nan h = refl
root_of_is_root f (inf s) h = refl
root_of_is_root f (fin s zero e) h = refl
root_of_is_root f (fin true (suc m) e) h = refl
root_of_is_root f (fin false (suc m) e) h =
    let x = fin false (suc m) e in
    let a = count f x in
    let above = lt→ltb 0 (suc m) (zero-lt-suc m) in
    let z = rounds_positive f x h above in
    (a, positive_has_count f x h above, nearest f a z.n z.k (root_of_units f a) z.leads z.counted)

-- ---- two nearest values have the same count
not_less : (f : Format) (a : ℕ) (r r' : Float) (p : Nearest f a r) (q : Nearest f a r') → p.n < q.n → ⊥
not_less f a r r' p q l =
    clash (4 * (a * unit f)) ((q.n + p.n) * (q.n + p.n)) ((p.n + q.n) * (p.n + q.n)) (p.above r' q.n q.counted l) (q.below r p.n p.counted l) (ap (λ (x : ℕ). x * x) (add_comm q.n p.n))
  where
    clash : (s u v : ℕ) → s < u → v < s → u ≡ v → ⊥
    clash s u v a b e = omega arith

pub nearest_is_unique : (f : Format) (a : ℕ) (r r' : Float) → Nearest f a r → Nearest f a r' → r ≡ r'
nearest_is_unique f a r r' p q =
    let e : p.n ≡ q.n = le_antisymm (not_above p q (not_less f a r' r q p)) (not_above q p (not_less f a r r' p q)) in
    same_value f r r' q.n (subst (λ (n : ℕ). Count f r n) e p.counted) q.counted
  where
    not_above : {r r' : Float} (p : Nearest f a r) (q : Nearest f a r') → (q.n < p.n → ⊥) → p.n ≤ q.n
    not_above p q h = le_of_suc-le-suc (lt_of_not-le h)

pub root_is_unique : (f : Format) (x r r' : Float) → Root f x r → Root f x r' → r ≡ r'
unfolding Root
root_is_unique f nan r r' p q = p ∙ sym q
root_is_unique f (inf s) r r' p q = p ∙ sym q
root_is_unique f (fin s zero e) r r' p q = p ∙ sym q
root_is_unique f (fin true (suc m) e) r r' p q = p ∙ sym q
root_is_unique f (fin false (suc m) e) r r' p q =
    let x = fin false (suc m) e in
    let e : p.0 ≡ q.0 = sym (count_of f x false p.0 p.1) ∙ count_of f x false q.0 q.1 in
    nearest_is_unique f q.0 r r' (subst (λ (a : ℕ). Nearest f a r) e p.2) q.2

-- ---- what has the property
pub is_root_of : (f : Format) (x r : Float) → T (fits f x) → Root f x r → r ≡ root_of f x
is_root_of f x r h p = root_is_unique f x r (root_of f x) p (root_of_is_root f x h)

root_of_nearest : (f : Format) (x r : Float) (a : ℕ) → HasValue x false a (unit f) → T (positive x) → Nearest f a r → Root f x r
unfolding Root
root_of_nearest f nan r a v t p = absurd t
root_of_nearest f (inf s) r a v t p = absurd t
root_of_nearest f (fin true m e) r a v t p = absurd t
root_of_nearest f (fin false zero e) r a v t p = absurd t
root_of_nearest f (fin false (suc m) e) r a v t p = (a, v, p)

pub nearest_is_root_of : (f : Format) (x r : Float) (a : ℕ) → T (fits f x) → HasValue x false a (unit f) → 0 < a → Nearest f a r → r ≡ root_of f x
nearest_is_root_of f x r a h v A p = is_root_of f x r h (root_of_nearest f x r a v (positive_of_value x a (unit f) v A) p)
