-- `numbers::read_number` meets its contract: the groups that are left give what all give. Assumes nothing.
use Prim.Native.Nat.{◌-◌}
use Rattle.numbers.specs.Layout.{last}
use Rattle.numbers.proofs.Groups.{Groups}
use Rattle.numbers.proofs.read_number.Given as goal

abbrev pub invariant-loop-k : goal.invariant-loop-k
invariant-loop-k l = Groups l.bits l.bytes l.k l.unit l.value

abbrev pub decreases-loop-k : goal.decreases-loop-k
decreases-loop-k l = last l.bits - l.k
