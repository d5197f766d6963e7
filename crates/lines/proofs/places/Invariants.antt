-- `lines::places` meets its contract: the digits of the rest and those counted are those of n. Assumes nothing.
use Prim.Native.Nat.{◌-◌}
use Rattle.lines.specs.Layout.{TEN-DIGITS}
use Rattle.lines.proofs.Digits.{Counted}
use Rattle.lines.proofs.places.Given as goal

abbrev pub invariant-loop-rest : goal.invariant-loop-rest
invariant-loop-rest l = Counted l.n l.k l.rest

abbrev pub decreases-loop-rest : goal.decreases-loop-rest
decreases-loop-rest l = TEN-DIGITS - l.k
