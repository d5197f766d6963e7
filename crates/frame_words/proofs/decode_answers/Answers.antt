-- `frame_words::decode_answers` meets its contract: the first i answers are in place, and the others start at a. Assumes nothing.
use native.Mathlib.Omega.{arith}
use lib.ListN.{get_or}
use Rattle.lists.proofs.Filling.{fill_more, fill_all}
use Rattle.scenario.specs.Format.{format}
use Rattle.frame_words.proofs.Answers.{answer_words_le, answers_more, answers_end}
use Rattle.frame_words.proofs.decode_answers.Goals as goal

pub overflow_add-a : goal.overflow_add-a
overflow_add-a c =
    let a = c.args in
    let few = answer_words_le (get_or a.words.now c.loop-i.a 0) in
    rw c.answer_words-a.ensures (omega arith)

pub loop-i-preserved : goal.loop-i-preserved
loop-i-preserved c =
    let a = c.args in
    let few = answer_words_le (get_or a.words.now c.loop-i.a 0) in
    let more = answers_more format a.words.now c.loop-i.a a.na c.loop-i.i (omega arith) in (
      omega arith,
      rw c.answer_words-a.ensures (omega arith),
      fill_more _ _ _ _ _ _ _ (omega arith) (rw (c.answer_words-a.ensures, c.answer_from.ensures) more) c.loop-i.invariant.2,
    )

pub returns : goal.returns
returns c =
    let a = c.args in
    fill_all _ _ _ _ _ (omega arith) (answers_end format a.words.now c.loop-i.a a.na c.loop-i.i (omega arith)) c.loop-i.invariant.2
