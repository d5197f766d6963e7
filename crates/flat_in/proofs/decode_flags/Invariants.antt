-- `flat_in::decode_flags` meets its contract: the first i flags are in place. Assumes nothing.
use Prim.Native.Nat.{◌-◌}
use lib.ListN.{length}
use Rattle.lists.specs.Counted.{listed}
use Rattle.lists.proofs.Filling.{Filling}
use Rattle.flat_in.specs.Lists.{flag_in, flags_in}
use Rattle.flat_in.proofs.decode_flags.Given as goal

abbrev pub invariant-loop-i : goal.invariant-loop-i
invariant-loop-i l = Filling l.initial.flags l.flags l.i (listed (flag_in l.dynamic) (length l.dynamic - l.i) l.i) (flags_in l.dynamic)
