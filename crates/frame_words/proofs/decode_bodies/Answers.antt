-- `frame_words::decode_bodies` meets its contract: the first k numbers are in place. Assumes nothing.
use native.Mathlib.Omega.{arith}
use Prim.Native.Nat.{◌*◌}
use Rattle.lists.proofs.Turns.{length_listed, listed_start, listed_more, listed_end}
use Rattle.lists.proofs.Filling.{fill_none, fill_more, fill_all}
use lib.Seq.{length-take-le}
use Rattle.table.specs.Layout as table
use Rattle.scenario.specs.Format.{format}
use Rattle.frame_words.specs.Frame.{body_number_from, bodies_from}
use Rattle.frame_words.proofs.Filled.{filled_front}
use Rattle.frame_words.proofs.decode_bodies.Goals as goal

pub loop-k-init : goal.loop-k-init
unfolding bodies_from
loop-k-init c = let a = c.args in (omega arith, fill_none _ _ _ (listed_start (body_number_from format a.words.now) (a.nb * table.BODY)))

pub loop-k-preserved : goal.loop-k-preserved
loop-k-preserved c =
    let a = c.args in
    let long = length-take-le (a.nb * table.BODY) a.bodies.now (omega arith) in
    let more = listed_more (body_number_from format a.words.now) (a.nb * table.BODY) c.loop-k.k (omega arith) in
    (omega arith, fill_more _ _ _ _ _ _ _ (omega arith) (rw c.body_number_from.ensures more) c.loop-k.invariant.1)

pub returns : goal.returns
unfolding bodies_from
returns c =
    let a = c.args in
    let f = body_number_from format a.words.now in
    let n = a.nb * table.BODY in
    let long = length-take-le n a.bodies.now (omega arith) in
    let s = c.loop-k.invariant.1.sized in
    filled_front a.bodies.now _ _ n (omega arith) (length_listed f n 0)
    (fill_all _ _ _ _ _ (omega arith) (listed_end f n c.loop-k.k (omega arith)) c.loop-k.invariant.1)
