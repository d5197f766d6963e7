-- `drive::advance::wakes` meets its contract: the invariant is that the wheels from i on decide. Assumes nothing.
use Prim.Native.Nat.{◌-◌}
use mathlib.Core.Path.{◌≡◌}
use Rattle.lists.specs.Counted.{every}
use Rattle.drive.specs.Drive.{idle_at}
use Rattle.drive.proofs.advance.wakes.Given as goal

abbrev pub invariant-loop-i : goal.invariant-loop-i
invariant-loop-i l = every (idle_at l.table) l.n 0 ≡ every (idle_at l.table) (l.n - l.i) l.i
