-- `real::root::whole_root` meets its contract: `Turns.antt` at a word of 32 bits. The measure is the place. Assumes nothing.
use Prim.Native.Nat.{◌^◌}
use native.Mathlib.Omega.{arith}
use lib.Dec.{lit≤}
use Rattle.real.proofs.root.Turns.{begins, turn}
use Rattle.real.proofs.root.whole_root.Goals as goal

pub loop-place-init : goal.loop-place-init
loop-place-init c = begins 24 c.args.places c.requires

pub loop-place-preserved : goal.loop-place-preserved
loop-place-preserved c =
    let at = c.loop-place in
    turn _ (2 ^ 25) at.remainder at.twice at.place at.invariant (2 ^ 32) (lit≤ tt) (omega (arith, c.loop-place-test.true)) _ _ c.by_digit.ensures c.by_digit-twice.ensures
