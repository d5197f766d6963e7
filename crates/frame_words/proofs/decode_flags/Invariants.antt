-- `frame_words::decode_flags` meets its contract: the first i flags are in place. Assumes nothing.
use Prim.Native.Nat.{◌-◌, ◌≤◌}
use Rattle.lists.specs.Counted.{listed}
use Rattle.lists.proofs.Filling.{Filling}
use Rattle.frame_words.specs.Frame.{flag_from, flags_from}
use Rattle.frame_words.proofs.decode_flags.Given as goal

abbrev pub invariant-loop-i : goal.invariant-loop-i
invariant-loop-i l = (l.i ≤ l.nb) × Filling l.initial.flag-items l.flag-items l.i (listed (flag_from l.words) (l.nb - l.i) l.i) (flags_from l.words l.nb)
