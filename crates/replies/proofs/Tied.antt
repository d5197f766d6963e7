-- What two crates say of one number: the results of a wheel in a line are those of a sight. Assumes nothing.
use mathlib.Core.Path.{◌≡◌, refl}
use Rattle.aim.specs.Sights.{SIGHT}
use Rattle.lines.specs.Layout.{WHEEL-RESULTS}

pub sight_tied : WHEEL-RESULTS ≡ SIGHT
sight_tied = refl
