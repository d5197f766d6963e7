-- `replies::put_aimed` meets its contract: the speed, and the sights behind it. Assumes nothing.
use mathlib.Core.Path.{refl}
use native.Mathlib.Omega.{arith}
use Rattle.lists.proofs.Puts.{puts_join}
use Rattle.scenario.specs.Results.{words_of}
use Rattle.aim.specs.Sights.{aimed_list}
use Rattle.replies.specs.Replies.{aim_results}
use Rattle.replies.proofs.put_aimed.Goals as goal

pub returns : goal.returns
unfolding aim_results words_of aimed_list
returns c =
    puts_join (record { put = c.put_float.ensures; end = refl }) c.put_sights.ensures (omega arith)
