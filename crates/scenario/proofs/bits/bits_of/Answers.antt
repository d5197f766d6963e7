-- `scenario::bits::bits_of` meets its contract: what is no number is the NaN. Assumes nothing.
use mathlib.Core.Path.{sym, ◌∙◌}
use lib.Ieee.{to_bits}
use Rattle.scenario.proofs.Patterns.{nan_of_test}
use Rattle.scenario.proofs.bits.bits_of.Goals as goal

pub returns-then-is_nan : goal.returns-then-is_nan
unfolding to_bits
returns-then-is_nan c = rw (nan_of_test c.args.x (sym c.is_nan.ensures.value ∙ c.if-is_nan.true))
