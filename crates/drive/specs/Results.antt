-- The results of an accepted drive, as numbers: the order of docs/STREAM.md. Definitions only.
use Rattle.std.specs.Prelude.{ℕ, List, ◌++◌, Float}
use Rattle.table.specs.Rows.{vector_list}
use Rattle.drive.specs.Drive.{DriveReply}

-- how many velocities a drive answers
abbrev pub VELOCITIES : ℕ
VELOCITIES = 6

-- a drive: the six velocities. Whether the chassis is to be woken stands behind them, as each reader writes a yes or no.
unfoldable pub velocity_list : DriveReply → List Float
velocity_list r = vector_list r.linvel ++ vector_list r.angvel
