-- `scenario::decode::floats_from` meets its contract: the first i floats are in place. Assumes nothing.
use Prim.Native.Nat.{◌+◌, ◌-◌, ◌≤◌}
use lib.ListN.{length}
use Rattle.lists.specs.Counted.{listed}
use Rattle.lists.proofs.Filling.{Filling}
use Rattle.scenario.specs.Format.{format}
use Rattle.scenario.specs.Decode.{float_from, floats_from}
use Rattle.scenario.proofs.decode.floats_from.Given as goal

abbrev pub invariant-loop-i : goal.invariant-loop-i
invariant-loop-i l = (l.i ≤ length l.initial.numbers) × Filling l.initial.numbers l.numbers l.i (listed (λ j. float_from format l.words (l.a + j)) (length l.initial.numbers - l.i) l.i) (floats_from format l.words l.a (length l.initial.numbers))
