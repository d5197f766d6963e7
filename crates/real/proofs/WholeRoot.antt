-- `whole_root` gives the largest number whose square is at most n. Assumes nothing.
use mathlib.Core.Path.{◌≡◌}
use mathlib.Core.Bool.{Bool, true, false, not, cond}
use Prim.Native.Nat.{ℕ, zero, suc, ◌+◌, ◌*◌, ◌^◌, ◌≤◌, ◌<◌}
use native.Mathlib.Nat.{lt_of_lt_of_le, mul-le-mul_left, pow-succ'}
use native.Mathlib.Omega.{arith}
use lib.Dec.{T, leb, leb→le, nleb→lt}
use lib.Pow.{pow_pos}
use lib.Ieee.{size}
use lib.Ieee.Digits.{size-lt}
use Rattle.real.specs.Root.{whole_root}
use Rattle.real.proofs.Squares.{square_le}

-- r is the root of n, cut to a whole number
pub record IsWholeRoot (n r : ℕ) : Type 0 where
  pub lower : r * r ≤ n
  pub upper : n < (r + 1) * (r + 1)

-- the root lies from r up to below r + 2 ^ k
refined : (k n r : ℕ) → r * r ≤ n → n < (r + 2 ^ k) * (r + 2 ^ k) → IsWholeRoot n (whole_root k n r)
unfolding whole_root
refined zero n r lo hi = record { lower = lo; upper = hi }
refined (suc k) n r lo hi =
    let p = r + 2 ^ k in
    go (leb (p * p) n) (λ (t : T (leb (p * p) n)). refined k n p (leb→le (p * p) n t) (lt_of_lt_of_le hi (square_le (halves r (2 ^ suc k) (2 ^ k) (pow-succ' 2 k))))) (λ (t : T (not (leb (p * p) n))). refined k n r lo (nleb→lt (p * p) n t))
  where
    halves : (r P p : ℕ) → P ≡ 2 * p → r + P ≤ r + p + p
    halves r P p e = omega arith

    go : (b : Bool) → (T b → IsWholeRoot n (whole_root k n (r + 2 ^ k))) → (T (not b) → IsWholeRoot n (whole_root k n r)) → IsWholeRoot n (whole_root k n (cond b (r + 2 ^ k) r))
    go true h g = h tt
    go false h g = g tt

pub is_whole_root : (n : ℕ) → IsWholeRoot n (whole_root (size n) n 0)
is_whole_root n = refined (size n) n 0 (omega arith) (start (2 ^ size n) (size-lt n) (pow_pos (size n)))
  where
    start : (p : ℕ) → n < p → 0 < p → n < (0 + p) * (0 + p)
    start p h k = omega (arith, mul-le-mul_left p k)
