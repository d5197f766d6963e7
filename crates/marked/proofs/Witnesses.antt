-- No claim of demand 3 is empty: marked case 9 meets every hypothesis of the grip, and case 11 those of the brake, with a limit of 12 × 0.5 × 1. Nor is that of change request 2026-13: case 11 under a greater brake.
-- Assumes nothing.
use mathlib.Core.Bool.{true, false, not}
use mathlib.Core.Path.{◌≡◌, refl}
use Prim.Native.Nat.{◌^◌}
use lib.Dec.{T}
use lib.Ieee.{Float, inf, binary32, binary64, neg, add, mul, div, lt, le, fits, is_nan, of_bits}
use Rattle.real.specs.Number.{zero, one, half}
use Rattle.real.specs.Root.{root_of}
use Rattle.real.specs.Scalar.{within, inverse_of, clamp_of, raised_of, lowered_of}
use Rattle.tyre.specs.Grip.{load_of, slides, skid_of, rescaled_by, braked_of, limit_of}
use Rattle.tyre.specs.Demand3.{Grips, WithinBrake, Brake}
use Rattle.tyre.specs.MoreBrake.{BrakesNoLess}
use Rattle.tyre.proofs.Demand3.{sliding32, unpowered, limit_not_negative}
use Rattle.tyre.proofs.MoreBrake.{more_brake}
use Rattle.marked.specs.Numbers.{three, four, five, six, seven, eight, twelve}

pub case_9 : Grips binary32 (2 ^ 20) six four five
unfolding fits within le neg slides load_of skid_of rescaled_by root_of inverse_of add mul div
case_9 = sliding32 twelve eight five (record { held = tt; bounded = refl }) (record { held = tt; bounded = refl }) (record { admitted = record { held = tt; bounded = refl }; at_least = refl }) refl

three_brakes : Brake binary32 three
unfolding fits within le neg
three_brakes = record { admitted = record { held = tt; bounded = refl }; at_least = refl }

pub case_11 : WithinBrake binary32 three three
unfolding fits within le neg slides load_of skid_of rescaled_by braked_of clamp_of raised_of lowered_of limit_of add mul
case_11 =
    unpowered binary32 three seven zero (limit_of binary32 twelve half one) three_brakes tt (record { held = tt; bounded = refl })
    (limit_not_negative binary32 twelve half one refl refl refl (record { held = tt; bounded = refl }))

-- ---- change request 2026-13: brakes of 3 and 8, on case 11's 7, on both infinities and on both zeros
eight_brakes : Brake binary32 eight
unfolding fits within le neg
eight_brakes = record { admitted = record { held = tt; bounded = refl }; at_least = refl }

both : (rolling : Float) → T (fits binary32 rolling) → T (not (is_nan rolling)) → BrakesNoLess binary32 (braked_of three rolling) (braked_of eight rolling)
unfolding le
both rolling g n = more_brake binary32 rolling g n three_brakes eight_brakes refl

pub case_11_braked_more : BrakesNoLess binary32 three seven
unfolding fits neg lt braked_of clamp_of raised_of lowered_of is_nan
case_11_braked_more = both seven tt tt

pub infinities_braked_more : BrakesNoLess binary32 (neg three) (neg eight) × BrakesNoLess binary32 three eight
unfolding fits neg lt braked_of clamp_of raised_of lowered_of is_nan
infinities_braked_more = (both (inf true) tt tt, both (inf false) tt tt)

pub zeros_braked_more : BrakesNoLess binary32 (neg zero) (neg zero) × BrakesNoLess binary32 zero zero
unfolding fits neg lt braked_of clamp_of raised_of lowered_of is_nan
zeros_braked_more = (both (neg zero) tt tt, both zero tt tt)

-- the root is worked out in double precision too: marked case 1 at binary64
pub case_1_wide : root_of binary64 (of_bits binary64 0x4000_0000_0000_0000) ≡ of_bits binary64 0x3ff6_a09e_667f_3bcd
unfolding root_of of_bits
case_1_wide = refl
