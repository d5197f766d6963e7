-- `real::root::rounded` meets its contract: `Rounding.antt` at binary32. Assumes nothing.
use Prim.Native.Nat.{◌+◌, ◌/◌}
use lib.Bits.{mask_lt}
use lib.Ieee.{binary32}
use Rattle.real.proofs.root.Rounding.{handed_lt, no_nan, is_nearest}
use Rattle.real.proofs.root.rounded.Goals as goal

pub whole_root-n-requires : goal.whole_root-n-requires
whole_root-n-requires c = handed_lt binary32 c.args.m c.args.e c.requires.1

pub returns : goal.returns
returns c = is_nearest binary32 c.args.m c.args.e c.whole_root-n.result c.requires.0 c.requires.1 c.requires.2 c.whole_root-n.ensures.0 c.whole_root-n.ensures.1

pub float_from_bits-result : goal.float_from_bits-result
float_from_bits-result c = no_nan binary32 c.args.e _ c.requires.2 (mask_lt ((c.whole_root-n.result + 1) / 2) 23)
