-- `scenario::bits::float_of` meets its contract: a pattern above an infinity's is read as a NaN. Assumes nothing.
use mathlib.Core.Path.{sym}
use lib.Ieee.{div, of_bits}
use Rattle.scenario.specs.Format.{format}
use Rattle.scenario.proofs.Patterns.{nan_of_above, no_nan_of_not_above}
use Rattle.scenario.proofs.bits.float_of.Goals as goal

pub returns-then-bits-gt-INFINITY : goal.returns-then-bits-gt-INFINITY
unfolding div of_bits
returns-then-bits-gt-INFINITY c = sym (nan_of_above format c.args.bits c.if-bits-gt-INFINITY.true)

pub float_from_bits-result : goal.float_from_bits-result
float_from_bits-result c = no_nan_of_not_above format c.args.bits c.if-bits-gt-INFINITY.false
