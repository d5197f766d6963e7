-- `lines::spell` meets its contract: the digits behind those that are left are put. Assumes nothing.
use Rattle.lines.proofs.Digits.{Spelled}
use Rattle.lines.proofs.spell.Given as goal

abbrev pub invariant-loop-i : goal.invariant-loop-i
invariant-loop-i l = Spelled l.initial.out l.out l.base l.n l.i l.rest
