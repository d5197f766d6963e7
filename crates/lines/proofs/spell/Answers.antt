-- `lines::spell` meets its contract: the digits behind those that are left are put. Assumes nothing.
use Rattle.lines.proofs.Digits.{none_spelled, one_spelled, all_spelled}
use Rattle.lines.proofs.spell.Goals as goal

pub loop-i-init : goal.loop-i-init
loop-i-init c = none_spelled _ _ _

pub loop-i-preserved : goal.loop-i-preserved
loop-i-preserved c = one_spelled c.loop-i.invariant c.loop-i-test.true _ c.glyph.ensures

pub returns : goal.returns
returns c = all_spelled c.loop-i.invariant c.loop-i-test.false
