-- `session::runs::run_codes` meets its contract: what is left to run gives what the whole gives. Assumes nothing.
use Prim.Native.Nat.{◌-◌}
use lib.ListN.{length}
use Rattle.session.proofs.Running.{Running}
use Rattle.session.proofs.runs.run_codes.Given as goal

abbrev pub invariant-loop-car : goal.invariant-loop-car
invariant-loop-car g l = Running l.last l.bytes l.initial.car g.row.N l.car l.text l.taken

abbrev pub decreases-loop-car : goal.decreases-loop-car
decreases-loop-car g l = length l.bytes - l.taken
