-- `lines::text::Text::put_results` meets its contract: the results that are left give what all give. Assumes nothing.
use Rattle.lines.proofs.Digits.{Listed}
use Rattle.lines.proofs.text.Text.put_results.Given as goal

abbrev pub invariant-loop-word : goal.invariant-loop-word
invariant-loop-word g l = Listed l.initial.self l.self l.results l.word-index
