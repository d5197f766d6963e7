-- `real::root::positive` meets its contract: `Cases.antt` at binary32. Assumes nothing.
use lib.Ieee.{binary32}
use Rattle.real.proofs.root.Cases.{of_normal, places_fit, subnormal_asks, of_subnormal}
use Rattle.real.proofs.root.positive.Goals as goal

pub overflow_sub-z : goal.overflow_sub-z
overflow_sub-z c = (places_fit binary32 c.args.bits c.requires.0 c.if-field-eq0.true).0

pub rounded-requires : goal.rounded-requires
rounded-requires c = subnormal_asks binary32 c.args.bits c.requires.0 c.if-field-eq0.true

pub returns-then-field-eq0 : goal.returns-then-field-eq0
returns-then-field-eq0 c = of_subnormal binary32 c.args.bits c.requires.0 c.if-field-eq0.true c.rounded.result c.rounded.ensures

pub returns : goal.returns
returns c = of_normal binary32 c.args.bits c.requires.1 c.rounded-2.result c.if-field-eq0.false c.rounded-2.ensures
