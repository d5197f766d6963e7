-- `replies::put_driven` meets its contract: the velocities, and the flag behind them. Assumes nothing.
use mathlib.Core.Path.{refl}
use native.Mathlib.Omega.{arith}
use Rattle.lists.proofs.Puts.{puts_join}
use Rattle.scenario.specs.Results.{words_of}
use Rattle.drive.specs.Results.{velocity_list}
use Rattle.replies.specs.Replies.{drive_results}
use Rattle.replies.proofs.put_driven.Goals as goal

pub returns : goal.returns
unfolding drive_results words_of velocity_list
returns c =
    puts_join (record { put = rw c.velocity_numbers-numbers.ensures at c.put_numbers.ensures; end = refl }) (record { put = c.put_flag.ensures; end = refl }) (omega arith)
