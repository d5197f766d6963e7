-- `flat_in::decode_flags` meets its contract: the first i flags are in place. Assumes nothing.
use native.Mathlib.Omega.{arith}
use lib.ListN.{length}
use Rattle.lists.proofs.Turns.{listed_start, listed_more, listed_end}
use Rattle.lists.proofs.Filling.{fill_none, fill_more, fill_all}
use Rattle.flat_in.specs.Lists.{flag_in, flags_in}
use Rattle.flat_in.proofs.decode_flags.Goals as goal

pub loop-i-init : goal.loop-i-init
unfolding flags_in
loop-i-init c = let l = c.args.dynamic.now in fill_none _ _ _ (listed_start (flag_in l) (length l))

pub loop-i-preserved : goal.loop-i-preserved
unfolding flag_in
loop-i-preserved c =
    let d = c.args.dynamic.now in
    fill_more _ _ _ _ _ _ _ (omega arith) (listed_more (flag_in d) (length d) c.loop-i.i (omega arith)) c.loop-i.invariant

pub returns : goal.returns
returns c =
    let d = c.args.dynamic.now in
    fill_all _ _ _ _ _ (omega arith) (listed_end (flag_in d) (length d) c.loop-i.i (omega arith)) c.loop-i.invariant
