-- `stream::codes::read_code` meets its contract: the words that are left give what all give. Assumes nothing.
use borrow.Author.Rules.{rules}
use native.Mathlib.Omega.{arith}
use mathlib.Core.Path.{sym, ◌∙◌}
use Rattle.grammar.specs.Layout.{WIDTHS}
use Rattle.grammar.proofs.Places.{width_within}
use Rattle.stream.proofs.Words.{none_read, has_room, number_at, taken_within, ends_short, ends_bad, ends_whole, ends_wrong, one_more}
use Rattle.stream.proofs.codes.read_code.Goals as goal

pub loop-word-init : goal.loop-word-init
loop-word-init c = none_read _ _ _ _ c.start-place.ensures (search rules)

pub read_number-number-requires : goal.read_number-number-requires
read_number-number-requires c = rw c.width_at.ensures (width_within WIDTHS 32 _ (omega arith) (omega arith))

pub bounds-words-n : goal.bounds-words-n
bounds-words-n c = omega (arith, has_room c.loop-word.invariant)

pub overflow_add-taken : goal.overflow_add-taken
overflow_add-taken c =
    omega (arith, taken_within c.loop-word.invariant _ _ (number_at c.loop-word.invariant _ _ c.width_at.ensures (sym c.in-Value.ensures)))

pub loop-word-smaller : goal.loop-word-smaller
loop-word-smaller c =
    omega (arith, has_room c.loop-word.invariant)

pub loop-word-preserved : goal.loop-word-preserved
loop-word-preserved c =
    one_more c.loop-word.invariant _ _ (number_at c.loop-word.invariant _ _ c.width_at.ensures (sym c.in-Value.ensures)) _ c.next-place.ensures
    (sym c.verdict-verdict.ensures ∙ c.in-More.is)

pub returns-in-Whole : goal.returns-in-Whole
returns-in-Whole c =
    ends_whole c.loop-word.invariant _ _ (number_at c.loop-word.invariant _ _ c.width_at.ensures (sym c.in-Value.ensures)) _ c.next-place.ensures
    (sym c.verdict-verdict.ensures ∙ c.in-Whole.is)

pub returns-in-Bad-verdict : goal.returns-in-Bad-verdict
returns-in-Bad-verdict c =
    ends_wrong c.loop-word.invariant _ _ (number_at c.loop-word.invariant _ _ c.width_at.ensures (sym c.in-Value.ensures)) _ c.next-place.ensures
    _ (sym c.verdict-verdict.ensures ∙ c.in-Bad-verdict.is) c.shown.ensures

pub returns-in-Short : goal.returns-in-Short
returns-in-Short c =
    ends_short c.loop-word.invariant _ (number_at c.loop-word.invariant _ _ c.width_at.ensures (sym c.in-Short.ensures)) c.shown-in-Short.ensures

pub returns-in-Bad : goal.returns-in-Bad
returns-in-Bad c =
    ends_bad c.loop-word.invariant _ (number_at c.loop-word.invariant _ _ c.width_at.ensures (sym c.in-Bad.ensures)) c.shown-in-Bad.ensures
