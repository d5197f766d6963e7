-- `replies::put_all` meets its contract: the floats as far as the settled centre, and the two flags behind them. Assumes nothing.
use mathlib.Core.Path.{refl}
use native.Mathlib.Omega.{arith}
use Rattle.lists.specs.Pick.{pick}
use Rattle.lists.proofs.Puts.{puts_join}
use Rattle.read_wheel.specs.Read.{reading_list, settled_list}
use Rattle.scenario.specs.Results.{words_of}
use Rattle.replies.specs.Replies.{settled_results, all_results}
use Rattle.replies.proofs.put_all.Goals as goal

pub returns : goal.returns
unfolding pick all_results settled_results words_of settled_list reading_list
returns c =
    puts_join
    (puts_join (record { put = c.put_floats.ensures.put; end = refl }) (record { put = c.put_flag.ensures; end = refl }) (omega arith))
    (record { put = c.put_flag-2.ensures; end = refl })
    (omega arith)
