-- `replies::put_sights` meets its contract: the sights that are left are still to be put. Assumes nothing.
use Prim.Native.Nat.{◌+◌, ◌*◌}
use mathlib.Core.Path.{◌≡◌}
use lib.ListN.{drop}
use Rattle.lines.specs.Layout.{WHEEL-RESULTS}
use Rattle.scenario.specs.Format.{format}
use Rattle.scenario.specs.Results.{words_of}
use Rattle.aim.specs.Sights.{sights_list}
use Rattle.replies.proofs.Putting.{Putting}
use Rattle.replies.proofs.put_sights.Given as goal

abbrev pub invariant-loop-s : goal.invariant-loop-s
invariant-loop-s l = (l.a ≡ 1 + l.s-index * WHEEL-RESULTS) × Putting l.initial.words l.words 1 l.a (words_of format (sights_list (drop l.s-index l.sights))) (words_of format (sights_list l.sights))
