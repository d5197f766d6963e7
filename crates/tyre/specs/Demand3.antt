-- Demand 3, in exact arithmetic over whole numbers: what it is for two impulses to hold to a grip limit and for one to hold to a brake, and what an accepted step has tested of the numbers before.
-- A finite number is its count of units, and both sides of each comparison are multiplied out. Definitions only.
use Rattle.std.specs.Prelude.{◌≡◌, true, false, ℕ, ◌+◌, ◌-◌, ◌*◌, ◌^◌, ◌≤◌, negsuc, T, Float}
use Rattle.std.specs.Float.{fin, Format, binary32, binary64}
use Rattle.std.specs.Float.Ieee.{le, fits}
use Rattle.std.specs.Float.Ieee.Scale.{finite}
use Rattle.real.specs.Number.{zero, power}
use Rattle.real.specs.Scalar.{within}
use Rattle.real.specs.Units.{count}

-- "within one part in 2^20": in single precision. Double precision is good for one part in 2^48.
abbrev pub precision : Format → ℕ
precision binary32 = 2 ^ 20
precision binary64 = 2 ^ 48

-- x is finite and the format holds it, so that `count f x` is its size in units
pub record Sized (f : Format) (x : Float) : Type 0 where
  pub held : T (fits f x)
  pub is_finite : T (finite x)

-- "a quarter of the forward impulse squared plus the side impulse squared is .. within one part in" E "of the limit squared":
-- each has a size, and |forward² / 4 + side² − limit²| ≤ limit² / E, multiplied by 4 E
pub record Grips (f : Format) (E : ℕ) (forward side limit : Float) : Type 0 where
  pub forward_sized : Sized f forward
  pub side_sized : Sized f side
  pub limit_sized : Sized f limit
  pub at_most : (count f forward * count f forward + 4 * (count f side * count f side)) * E ≤ 4 * (count f limit * count f limit) * (E + 1)
  pub at_least : 4 * (count f limit * count f limit) * (E - 1) ≤ (count f forward * count f forward + 4 * (count f side * count f side)) * E

-- both have a size, and the impulse "never exceeds its brake in size"
pub record WithinBrake (f : Format) (brake impulse : Float) : Type 0 where
  pub impulse_sized : Sized f impulse
  pub brake_sized : Sized f brake
  pub at_most : count f impulse ≤ count f brake

-- refusals 2 and 7 let x through: it is a number of the format, no NaN, and at most 2^40 in magnitude
pub record Admitted (f : Format) (x : Float) : Type 0 where
  pub held : T (fits f x)
  pub bounded : within (power 40) x ≡ true

-- "let a grounded wheel's grip limit be at least 2^-40"
abbrev pub least_limit : Float
least_limit = fin false 1 (negsuc 39)

pub record GripLimit (f : Format) (limit : Float) : Type 0 where
  pub admitted : Admitted f limit
  pub at_least : le least_limit limit ≡ true

-- refusal 10 lets a brake through: it is at least 0, −0 too
pub record Brake (f : Format) (brake : Float) : Type 0 where
  pub admitted : Admitted f brake
  pub at_least : le zero brake ≡ true
