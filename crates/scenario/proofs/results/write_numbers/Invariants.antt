-- `scenario::results::write_numbers` meets its contract: the first i patterns are in place. Assumes nothing.
use Prim.Native.Nat.{◌≤◌}
use lib.ListN.{length, drop}
use Rattle.lists.proofs.Filling.{Filling}
use Rattle.scenario.specs.Format.{format}
use Rattle.scenario.specs.Results.{words_of}
use Rattle.scenario.proofs.results.write_numbers.Given as goal

abbrev pub invariant-loop-i : goal.invariant-loop-i
invariant-loop-i l = (l.i ≤ length l.numbers) × Filling l.initial.words l.words l.i (words_of format (drop l.i l.numbers)) (words_of format l.numbers)
