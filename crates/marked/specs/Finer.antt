-- Demands that slide against a limit, by their patterns, and a bound finer than demand 3's one part in 2^20 that their rescaled impulses do not hold to. Definitions only.
use Rattle.std.specs.Prelude.{ℕ, ◌^◌, Float}
use Rattle.std.specs.Float.{binary32}
use Rattle.std.specs.Float.Ieee.{of_bits}

abbrev pub forward : Float
forward = of_bits binary32 0x3C65_139B

abbrev pub side : Float
side = of_bits binary32 0x4000_AC82

abbrev pub limit : Float
limit = of_bits binary32 0x3F81_29A7

abbrev pub finer : ℕ
finer = 2 ^ 21
