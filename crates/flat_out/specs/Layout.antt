-- The flat lists that a call writes. Each place is a named constant, counted from the one before it; the results of a read are laid out as in crate `read_wheel`. Definitions only.
use Rattle.std.specs.Prelude.{ℕ, ◌+◌, ◌*◌}
use Rattle.table.specs.Layout as table
use Rattle.aim.specs.Sights.{SIGHT}
use Rattle.drive.specs.Results.{VELOCITIES}

-- ---- the results of an aim: the signed speed, and a sight for each wheel, its hard point and its ray
abbrev pub SPEED : ℕ
SPEED = 0

abbrev pub SIGHTS : ℕ
SIGHTS = SPEED + 1

abbrev pub AIM : ℕ
AIM = SIGHTS + table.WHEELS * SIGHT

-- ---- the results of a drive: both velocities, and whether the chassis is to be woken
abbrev pub WAKE : ℕ
WAKE = VELOCITIES

abbrev pub DRIVE : ℕ
DRIVE = WAKE + 1
