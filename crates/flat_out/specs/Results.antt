-- The results of an accepted drive as the flat list that it writes: the velocities, and the yes or no behind them. Those of an aim and of a read are the lists of their calls. Definitions only.
use Rattle.std.specs.Prelude.{List, [], ◌∷◌, ◌++◌, Float}
use Rattle.real.specs.Scalar.{flag_number}
use Rattle.drive.specs.Results.{velocity_list}
use Rattle.drive.specs.Drive.{DriveReply}

unfoldable pub driven_list : DriveReply → List Float
driven_list d = velocity_list d ++ (flag_number d.wake ∷ [])
