-- `real::root::whole_root` meets its contract: `Turns.antt` at a word of 32 bits. The measure is the place. Assumes nothing.
use Prim.Native.Nat.{◌*◌, ◌^◌}
use Rattle.real.proofs.root.Turns.{Inv}
use Rattle.real.proofs.root.whole_root.Given as goal

abbrev pub invariant-loop-place : goal.invariant-loop-place
invariant-loop-place l = Inv (l.places * 2 ^ 24) (2 ^ 25) l.remainder l.twice l.place

abbrev pub decreases-loop-place : goal.decreases-loop-place
decreases-loop-place l = l.place
