-- Document 01, "Vector arithmetic": the square root, rounded to nearest, ties to even (IEEE 754). `root_of` works it out; `Root` says over whole numbers what it is to be.
-- `proofs/CorrectlyRounded.antt` proves that the first has the property, and that nothing else has. Definitions only.
-- x of a units has the root √(a * unit) units. So n units are nearer to it than c units, for c < n, where (c + n) / 2 < √(a * unit), that is, multiplied out,
-- where (c + n) * (c + n) < 4 * (a * unit). Both comparisons of `Nearest` are strict: a root never lies halfway between two values, so no tie is there to be broken.
use Rattle.std.specs.Prelude.{◌≡◌, true, false, cond, ℕ, zero, suc, ◌+◌, ◌*◌, ◌^◌, ◌<◌, leb, Float}
use Rattle.std.specs.Float.{nan, inf, fin, Format}
use Rattle.std.specs.Float.Ieee.{size, round}
use Rattle.std.specs.Float.Ieee.Exact.{HasValue}
use Rattle.real.specs.Units.{unit, count, Count}

-- the largest r with r * r ≤ n, one binary digit a step: k digits are to come, and r is the root so far
unfoldable pub whole_root : ℕ → ℕ → ℕ → ℕ
whole_root zero n r = r
whole_root (suc k) n r = whole_root k n (cond (leb ((r + 2 ^ k) * (r + 2 ^ k)) n) (r + 2 ^ k) r)

-- The root of a units, rounded. It lies from n units to below n + 1, n the whole root of a * unit. A unit is far finer than the digits that the format keeps of n,
-- so n and a half units round to what the root itself rounds to.
unfoldable pub root_of_units : Format → ℕ → Float
unfolding whole_root size round
root_of_units f a = let n = whole_root (size (a * unit f)) (a * unit f) 0 in round f false (2 * n + 1) (2 * unit f)

-- a NaN of a NaN and of a number below zero, x itself of a zero, with its sign, and of +infinity
unfoldable pub root_of : Format → Float → Float
unfolding root_of_units
root_of f nan = nan
root_of f (inf s) = cond s nan (inf false)
root_of f (fin s zero e) = fin s zero e
root_of f (fin true (suc m) e) = nan
root_of f (fin false (suc m) e) = root_of_units f (count f (fin false (suc m) e))

-- of all the values that f holds, r is the one nearest to the root of a units
pub record Nearest (f : Format) (a : ℕ) (r : Float) : Type 0 where
  pub n : ℕ
  pub counted : Count f r n
  pub below : (y : Float) (c : ℕ) → Count f y c → c < n → (c + n) * (c + n) < 4 * (a * unit f)
  pub above : (y : Float) (c : ℕ) → Count f y c → n < c → 4 * (a * unit f) < (c + n) * (c + n)

-- r is the correctly rounded root of x
unfoldable pub Root : Format → Float → Float → Type 0
Root f nan r = r ≡ nan
Root f (inf s) r = r ≡ cond s nan (inf false)
Root f (fin s zero e) r = r ≡ fin s zero e
Root f (fin true (suc m) e) r = r ≡ nan
Root f (fin false (suc m) e) r = (a : ℕ) × HasValue (fin false (suc m) e) false a (unit f) × Nearest f a r
