-- `scenario::decode::floats_from` meets its contract: the first i floats are in place. Assumes nothing.
use native.Mathlib.Omega.{arith}
use Prim.Native.Nat.{ℕ, ◌+◌}
use mathlib.Core.Path.{◌∙◌}
use lib.ListN.{length}
use lib.Ieee.{Float}
use Rattle.lists.specs.Counted.{listed}
use Rattle.lists.proofs.Parts.{paste_all}
use Rattle.lists.proofs.Turns.{length_listed, listed_start, listed_more, listed_end}
use Rattle.lists.proofs.Filling.{fill_none, fill_more, fill_all}
use Rattle.scenario.specs.Format.{format}
use Rattle.scenario.specs.Decode.{float_from, floats_from}
use Rattle.scenario.proofs.decode.floats_from.Goals as goal

pub loop-i-init : goal.loop-i-init
unfolding floats_from
loop-i-init c = let a = c.args in (omega arith, fill_none _ _ _ (listed_start (λ j. float_from format a.words.now (a.a + j)) (length a.numbers.now)))

pub loop-i-preserved : goal.loop-i-preserved
loop-i-preserved c =
    let a = c.args in
    let s = c.loop-i.invariant.1.sized in
    let more = listed_more (λ j. float_from format a.words.now (a.a + j)) (length a.numbers.now) c.loop-i.i (omega arith) in
    (omega arith, fill_more _ _ _ _ _ _ _ (omega arith) (rw c.float_from.ensures more) c.loop-i.invariant.1)

pub returns : goal.returns
unfolding floats_from
returns c =
    let a = c.args in
    let s = c.loop-i.invariant.1.sized in
    let from : ℕ → Float = λ j. float_from format a.words.now (a.a + j) in
    let n = length a.numbers.now in
    fill_all _ _ _ _ _ (omega arith) (listed_end from n c.loop-i.i (omega arith)) c.loop-i.invariant.1
    ∙ paste_all a.numbers.now (listed from n 0) (rw (length_listed from n 0) (omega arith))
