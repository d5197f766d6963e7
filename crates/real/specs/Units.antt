-- Document 01, "What the contracts owe": a finite number is its count of units, each the smallest value above 0 of its format:
-- 2 ^ -149 in binary32, 2 ^ -1074 in binary64. Definitions only.
use Rattle.std.specs.Prelude.{Bool, false, ℕ, ◌*◌, ◌/◌, ◌^◌, T, Float}
use Rattle.std.specs.Float.{nan, inf, fin, Format}
use Rattle.std.specs.Float.Ieee.{low, up, down, fits}
use Rattle.std.specs.Float.Ieee.Exact.{HasValue}

-- how many units make 1
abbrev pub unit : Format → ℕ
unit f = 2 ^ low f

-- How many units x is in size: m * 2 ^ e is m * 2 ^ e * 2 ^ low units, a whole number for each finite value of the format. 0 for a NaN and an infinity.
abbrev pub count : Format → Float → ℕ
count f nan = 0
count f (inf s) = 0
count f (fin s m e) = m * up e * unit f / down e

-- whether x has the sign −
abbrev pub minus? : Float → Bool
minus? nan = false
minus? (inf s) = s
minus? (fin s m e) = s

-- the format f holds y, which is finite, without the sign −, and c units in size
abbrev pub Count : Format → Float → ℕ → Type 0
Count f y c = T (fits f y) × HasValue y false c (unit f)
