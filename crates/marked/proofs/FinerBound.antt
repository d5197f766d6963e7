-- One part in 2^20 is nearly the best that demand 3 can say: a demand of about 0.014 forward and 2.011 to the side slides against a limit of about 1.009, and its rescaled impulses miss the limit squared by
-- more than one part in 2^21. Assumes nothing.
use mathlib.Core.Bool.{true}
use mathlib.Core.Path.{◌≡◌, refl}
use lib.Dec.{le→leb}
use lib.Ieee.{Float, binary32, add, mul, div, lt, eq, of_bits}
use Rattle.real.specs.Root.{root_of}
use Rattle.real.specs.Scalar.{inverse_of}
use Rattle.tyre.specs.Grip.{load_of, slides, skid_of, rescaled_by}
use Rattle.tyre.specs.Demand3.{Grips}
use Rattle.marked.specs.Finer.{forward, side, limit, finer}

abbrev rescaled : Float → Float
rescaled demand = rescaled_by binary32 (skid_of binary32 forward side limit) demand

pub demand_slides : slides binary32 forward side limit ≡ true
unfolding slides load_of add mul lt of_bits
demand_slides = refl

pub finer_bound_fails : Grips binary32 finer (rescaled forward) (rescaled side) limit → ⊥
unfolding rescaled_by skid_of slides load_of root_of inverse_of add mul div lt eq of_bits
finer_bound_fails g = le→leb _ _ g.at_most
