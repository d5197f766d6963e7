-- Change request 2026-11: "Each must lie within 2^-20 of its Taylor sum through the twelfth power, the sum stated over whole numbers scaled to a common denominator."
-- The half angle is a / d in size, d being a power of two that makes a whole. Its Taylor sums have the common denominator 12! × d^12. Definitions only.
use Rattle.std.specs.Prelude.{ℕ, zero, suc, ◌+◌, ◌-◌, ◌*◌, ◌/◌, ◌^◌, ◌≤◌, Bool, false, Float}
use Rattle.std.specs.Float.{Format}
use Rattle.std.specs.Float.Ieee.Exact.{HasValue}
use Rattle.real.specs.Units.{unit}

unfoldable pub factorial : ℕ → ℕ
factorial zero = 1
factorial (suc k) = suc k * factorial k

-- the common denominator
unfoldable pub denominator : ℕ → ℕ
unfolding factorial
denominator d = factorial 12 * d ^ 12

-- (a / d)^k / k!, over the common denominator
unfoldable pub term : ℕ → ℕ → ℕ → ℕ
unfolding factorial
term a d k = factorial 12 / factorial k * (a ^ k * d ^ (12 - k))

-- ---- the Taylor sums of a / d: the terms that are added, and those that are taken off
unfoldable pub cosine_adds : ℕ → ℕ → ℕ
cosine_adds a d = term a d 0 + term a d 4 + term a d 8 + term a d 12

unfoldable pub cosine_takes : ℕ → ℕ → ℕ
cosine_takes a d = term a d 2 + term a d 6 + term a d 10

-- the twelfth power has no term in the sine's sum
unfoldable pub sine_adds : ℕ → ℕ → ℕ
sine_adds a d = term a d 1 + term a d 5 + term a d 9

unfoldable pub sine_takes : ℕ → ℕ → ℕ
sine_takes a d = term a d 3 + term a d 7 + term a d 11

-- "within 2^-20"
abbrev pub PARTS : ℕ
PARTS = 2 ^ 20

-- c / d is within 1 / PARTS of (adds − takes) / denominator d, both sides multiplied out by PARTS × denominator d × d: not above, and not below
pub record Within (d c adds takes : ℕ) : Type 0 where
  pub notabove : PARTS * (c * denominator d + takes * d) ≤ PARTS * (adds * d) + denominator d * d
  pub notbelow : PARTS * (adds * d) ≤ PARTS * (c * denominator d + takes * d) + denominator d * d

-- a half angle of a units, at most 1, with the sign s: the cosine is not negative and the sine has the sign s, as their sums have; both are finite
pub record NearTaylor (f : Format) (s : Bool) (a : ℕ) (sine cosine : Float) : Type 0 where
  pub sineunits : ℕ
  pub sinevalue : HasValue sine s sineunits (unit f)
  pub sinenear : Within (unit f) sineunits (sine_adds a (unit f)) (sine_takes a (unit f))
  pub cosineunits : ℕ
  pub cosinevalue : HasValue cosine false cosineunits (unit f)
  pub cosinenear : Within (unit f) cosineunits (cosine_adds a (unit f)) (cosine_takes a (unit f))
