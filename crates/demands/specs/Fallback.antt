-- Change request 2026-05, "Tell us when a wheel has no rolling direction": rule 7's two directions of a wheel in a drive, and what a dead tyre is. Definitions only.
use Rattle.std.specs.Prelude.{ℕ, true, ◌≡◌, Float}
use Rattle.std.specs.Float.{Format}
use Rattle.std.specs.Float.Ieee.{eq}
use Rattle.real.specs.Number.{zero}
use Rattle.vector.specs.declared.Vector.{Vector}
use Rattle.vector.specs.declared.Normalized.{Normalized}
use Rattle.wheel.specs.Ray.{ray_cast}
use Rattle.road.specs.Contact.{contact_axis, contact_forward}
use Rattle.table.specs.Rows.{chassis_at}
use Rattle.demands.specs.Impulses.{Step, stored_wheel, forward_demand, side_demand, forward_impulse, side_impulse}

-- the contact normal of wheel i, as rules 3 to 5 give it in the drive
abbrev pub normal_in : Format → Step → ℕ → Vector
normal_in f d i = (ray_cast f (stored_wheel d i).settings.tuning (chassis_at d.table).body (d.frame.answer i) (stored_wheel d i)).info.normal

-- rule 7's axis, from the world axle that the drive finds, and its forward direction: each with whether its normalising fell back to zero
abbrev pub axis_in : Format → Step → ℕ → Normalized
axis_in f d i = contact_axis f (stored_wheel d i).place.axle (normal_in f d i)

abbrev pub forward_in : Format → Step → ℕ → Normalized
forward_in f d i = contact_forward f (normal_in f d i) (axis_in f d i).vector

-- x is 0, of either sign
abbrev pub IsZero : Float → Type 0
IsZero x = eq x zero ≡ true

-- each part of a vector is
pub record IsZeroV (v : Vector) : Type 0 where
  pub x : IsZero v.x
  pub y : IsZero v.y
  pub z : IsZero v.z

-- the tyre asks for nothing along its rolling direction, and gets nothing; and the same to the side
pub record NoRoll (f : Format) (d : Step) (i : ℕ) : Type 0 where
  pub demand : IsZero (forward_demand f d i)
  pub impulse : IsZero (forward_impulse f d i)

pub record NoSide (f : Format) (d : Step) (i : ℕ) : Type 0 where
  pub demand : IsZero (side_demand f d i)
  pub impulse : IsZero (side_impulse f d i)
