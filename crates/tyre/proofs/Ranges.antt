-- What the argument for demand 3 asks of a format, in units: both formats have it (`ranges`). Assumes nothing.
use mathlib.Core.Path.{◌≡◌, refl}
use Prim.Native.Nat.{ℕ, suc, ◌+◌, ◌-◌, ◌*◌, ◌^◌, ◌≤◌, ◌<◌}
use lib.Dec.{lit≤, lit<}
use lib.Ieee.{Format, binary32, binary64, low, hid}
use Rattle.real.specs.Units.{unit}
use Rattle.real.proofs.Rounding.{parts}
use Rattle.tyre.specs.Demand3.{precision}

-- 2^-40
abbrev pub least : Format → ℕ
least f = 2 ^ (low f - 40)

-- what four times the slide test's sum of squares may lose to numbers that are too small to be rounded well
abbrev pub excess : Format → ℕ
excess f = hid f * hid f * 4 + hid f * unit f * 8

pub record Ranges (f : Format) : Type 0 where
  -- 2^-40 is a whole number of units
  pub fine : 40 ≤ low f
  pub least_is : least f * 2 ^ 40 ≡ unit f
  pub half_is : 2 * 2 ^ (low f - 1) ≡ unit f
  -- a limit of 2^-40 is so large that skid, its square, the sum of squares and the impulses are rounded well
  pub skid_large : hid f * 2 ^ 42 < least f
  pub limit_large : hid f * unit f * 2 < least f * least f
  pub sum_large : excess f * suc (parts f) ≤ least f * least f
  pub impulses_large : hid f * hid f * 5 * suc (parts f) ≤ least f * least f
  -- fourteen steps are less than doubling, and less than one part in `precision f`
  pub doubles : suc (parts f) ^ 14 ≤ parts f ^ 14 * 2
  pub margin_above : suc (parts f) ^ 14 * precision f ≤ parts f ^ 14 * suc (precision f)
  pub margin_below : suc (parts f) ^ 14 * (precision f - 1) ≤ parts f ^ 14 * precision f

pub ranges : (f : Format) → Ranges f
ranges binary32 = record { fine = lit≤ tt; least_is = refl; half_is = refl; skid_large = lit< tt; limit_large = lit< tt; sum_large = lit≤ tt; impulses_large = lit≤ tt; doubles = lit≤ tt; margin_above = lit≤ tt; margin_below = lit≤ tt }
ranges binary64 = record { fine = lit≤ tt; least_is = refl; half_is = refl; skid_large = lit< tt; limit_large = lit< tt; sum_large = lit≤ tt; impulses_large = lit≤ tt; doubles = lit≤ tt; margin_above = lit≤ tt; margin_below = lit≤ tt }
