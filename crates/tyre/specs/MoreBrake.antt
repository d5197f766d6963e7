-- Change request 2026-13, "More brake, never less braking", on plain numbers: the rolling demands of one wheel under two brakes, in exact arithmetic over whole numbers. A finite number is its count of units. Definitions only.
use Rattle.std.specs.Prelude.{◌≡◌, ◌≤◌, ◌<◌, Float}
use Rattle.std.specs.Float.{Format}
use Rattle.real.specs.Units.{count, minus?}
use Rattle.tyre.specs.Demand3.{Sized}

-- "a greater brake never gives a rolling demand of smaller magnitude, nor one of the opposite sign unless a zero is involved": `less` is the demand under the smaller brake, `more` the one under the greater.
-- Both have a size, that of `more` is at least that of `less`, and where neither is zero, +0 or −0, they have the same sign.
pub record BrakesNoLess (f : Format) (less more : Float) : Type 0 where
  pub less_sized : Sized f less
  pub more_sized : Sized f more
  pub at_least : count f less ≤ count f more
  pub same_sign : 0 < count f less → 0 < count f more → minus? less ≡ minus? more
