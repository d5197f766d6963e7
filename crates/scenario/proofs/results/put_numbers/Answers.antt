-- `scenario::results::put_numbers` meets its contract: the lent part comes back as the patterns. Assumes nothing.
use mathlib.Core.Path.{sym}
use lib.ListN.{length}
use Rattle.lists.proofs.Parts.{paste_is}
use Rattle.scenario.specs.Format.{format}
use Rattle.scenario.specs.Results.{words_of}
use Rattle.scenario.proofs.Words.{length_words}
use Rattle.scenario.proofs.results.put_numbers.Goals as goal

pub returns : goal.returns
returns c =
    let a = c.args in
    paste_is a.words.now _ (words_of format a.numbers.now) a.a (length a.numbers.now) c.write_numbers.ensures (sym (length_words format a.numbers.now))
