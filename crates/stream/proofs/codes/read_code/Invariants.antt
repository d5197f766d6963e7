-- `stream::codes::read_code` meets its contract: the words that are left give what all give. Assumes nothing.
use Prim.Native.Nat.{◌-◌}
use Rattle.grammar.specs.Layout.{WIDTHS, CODE-WORDS}
use Rattle.stream.proofs.Words.{Words}
use Rattle.stream.proofs.codes.read_code.Given as goal

abbrev pub invariant-loop-word : goal.invariant-loop-word
invariant-loop-word l = Words WIDTHS l.bytes l.initial.words l.words l.place l.n l.taken

abbrev pub decreases-loop-word : goal.decreases-loop-word
decreases-loop-word l = CODE-WORDS - l.n
