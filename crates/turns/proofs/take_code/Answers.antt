-- `turns::take_code` meets its contract: what was read decides. Assumes nothing.
use borrow.Author.Rules.{rules}
use Rattle.turns.proofs.Taken.{words_counted, takes_whole, takes_malformed, takes_last, takes_none}
use Rattle.turns.proofs.take_code.Goals as goal

pub make_call-requires : goal.make_call-requires
make_call-requires g c =
    (search rules, (search rules, words_counted c.read_code-code.ensures _ _ c.in-Whole.is))

pub returns-in-Whole : goal.returns-in-Whole
returns-in-Whole g c =
    takes_whole c.read_code-code.ensures _ _ _ _ c.in-Whole.is c.make_call.ensures

pub returns-then-last : goal.returns-then-last
returns-then-last g c =
    takes_last c.read_code-code.ensures _ _ _ c.if-last.true c.in-Short.is c.put_malformed.ensures.line c.put_malformed.ensures.next

pub returns-else-last : goal.returns-else-last
returns-else-last g c =
    takes_none c.read_code-code.ensures _ _ _ _ c.if-last.false c.in-Short.is

pub returns-in-Malformed : goal.returns-in-Malformed
returns-in-Malformed g c =
    takes_malformed c.read_code-code.ensures _ _ _ c.in-Malformed.is c.put_malformed-in-Malformed.ensures.line c.put_malformed-in-Malformed.ensures.next
