-- `angle::fraction_of` meets its contract: the grain's power of two goes through the rounding (`OutOfGrains`). Assumes nothing.
use lib.Ieee.{binary32, of_bits}
use Rattle.angle.proofs.OutOfGrains.{fraction_is}
use Rattle.angle.proofs.fraction_of.Goals as goal

pub returns : goal.returns
unfolding of_bits
returns c = rw c.nearest_u32_to_f32.ensures (fraction_is binary32 c.args.t c.requires)
