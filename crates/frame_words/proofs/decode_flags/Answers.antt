-- `frame_words::decode_flags` meets its contract: the first i flags are in place. Assumes nothing.
use native.Mathlib.Omega.{arith}
use Rattle.lists.proofs.Turns.{length_listed, listed_start, listed_more, listed_end}
use Rattle.lists.proofs.Filling.{fill_none, fill_more, fill_all}
use lib.Seq.{length-take-le}
use Rattle.frame_words.specs.Frame.{flag_from, flags_from}
use Rattle.frame_words.proofs.Filled.{filled_front}
use Rattle.frame_words.proofs.decode_flags.Goals as goal

pub loop-i-init : goal.loop-i-init
unfolding flags_from
loop-i-init c = let a = c.args in (omega arith, fill_none _ _ _ (listed_start (flag_from a.words.now) a.nb))

pub loop-i-preserved : goal.loop-i-preserved
loop-i-preserved c =
    let a = c.args in
    let long = length-take-le a.nb a.flags.now (omega arith) in
    let more = listed_more (flag_from a.words.now) a.nb c.loop-i.i (omega arith) in
    (omega arith, fill_more _ _ _ _ _ _ _ (omega arith) (rw c.flag_from.ensures more) c.loop-i.invariant.1)

pub returns : goal.returns
unfolding flags_from
returns c =
    let a = c.args in
    let f = flag_from a.words.now in
    let long = length-take-le a.nb a.flags.now (omega arith) in
    let s = c.loop-i.invariant.1.sized in
    filled_front a.flags.now _ _ a.nb (omega arith) (length_listed f a.nb 0)
    (fill_all _ _ _ _ _ (omega arith) (listed_end f a.nb c.loop-i.i (omega arith)) c.loop-i.invariant.1)
