-- `flat_in::decode_answers` meets its contract: the first i answers are in place. Assumes nothing.
use native.Mathlib.Omega.{arith}
use lib.ListN.{length}
use Rattle.lists.proofs.Turns.{listed_start, listed_more, listed_end}
use Rattle.lists.proofs.Filling.{fill_none, fill_more, fill_all}
use Rattle.flat_in.specs.Lists.{answer_in, given_in, answers_in}
use Rattle.flat_in.proofs.decode_answers.Goals as goal

pub loop-i-init : goal.loop-i-init
loop-i-init c = fill_none _ _ _ (listed_start _ _)

pub loop-i-preserved : goal.loop-i-preserved
loop-i-preserved c =
    let a = c.args in
    let more = listed_more (answer_in a.kinds.now a.named.now a.rays.now) (length a.kinds.now) c.loop-i.i (omega arith) in
    fill_more _ _ _ _ _ _ _ (omega arith) (rw c.answer_in.ensures more) c.loop-i.invariant

pub returns : goal.returns
unfolding answers_in given_in
returns c =
    fill_all _ _ _ _ _ (omega arith) (listed_end _ _ _ (omega arith)) c.loop-i.invariant
