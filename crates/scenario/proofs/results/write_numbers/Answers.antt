-- `scenario::results::write_numbers` meets its contract: the first i patterns are in place. Assumes nothing.
use native.Mathlib.Omega.{arith}
use mathlib.Core.Path.{◌∙◌}
use Rattle.lists.proofs.Parts.{paste_all}
use Rattle.lists.proofs.Filling.{fill_more, fill_all}
use Rattle.scenario.specs.Format.{format}
use Rattle.scenario.specs.Results.{words_of}
use Rattle.scenario.proofs.Words.{length_words, words_more, words_end}
use Rattle.scenario.proofs.results.write_numbers.Goals as goal

pub loop-i-preserved : goal.loop-i-preserved
loop-i-preserved c =
    let a = c.args in
    let more = words_more format a.numbers.now c.loop-i.i (omega arith) in
    (omega arith, fill_more _ _ _ _ _ _ _ (omega arith) (rw c.bits_of.ensures more) c.loop-i.invariant.1)

pub returns : goal.returns
returns c =
    let a = c.args in
    fill_all _ _ _ _ _ (omega arith) (words_end format a.numbers.now c.loop-i.i (omega arith)) c.loop-i.invariant.1
    ∙ paste_all a.words.now (words_of format a.numbers.now) (rw (length_words format a.numbers.now) (omega arith))
