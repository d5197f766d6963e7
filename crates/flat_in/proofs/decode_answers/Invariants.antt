-- `flat_in::decode_answers` meets its contract: the first i answers are in place. Assumes nothing.
use Prim.Native.Nat.{◌-◌}
use lib.ListN.{length}
use Rattle.lists.specs.Counted.{listed}
use Rattle.lists.proofs.Filling.{Filling}
use Rattle.flat_in.specs.Lists.{answer_in}
use Rattle.flat_in.proofs.decode_answers.Given as goal

abbrev pub invariant-loop-i : goal.invariant-loop-i
invariant-loop-i l = Filling l.initial.answers l.answers l.i (listed (answer_in l.kinds l.named l.rays) (length l.kinds - l.i) l.i) (listed (answer_in l.kinds l.named l.rays) (length l.kinds) 0)
