-- `angle::grains_of` meets its contract. The cast is asked only within 1, where the product is exact (`IntoGrains`). Assumes nothing.
use Rattle.std.proofs.Common.{sym, refl, ◌∙◌, zero-le}
use lib.Ieee.{binary32, of_bits}
use Rattle.real.proofs.Literals.{held}
use Rattle.angle.specs.Angle.{grains_of}
use Rattle.angle.proofs.IntoGrains.{grained_above, grained_below, grained_cut, grains_most}
use Rattle.angle.proofs.grains_of.Goals as goal

pub truncating_f32_to_u64-requires : goal.truncating_f32_to_u64-requires
unfolding of_bits
truncating_f32_to_u64-requires c =
    let inside = sym c.is_within.ensures ∙ c.if-is_within.true in
    rw c.size_of.ensures (record { lower_bound = grained_above binary32 c.args.h (held c.args.h c.well_formed.0.1) inside; upper_bound = grained_below binary32 c.args.h (held c.args.h c.well_formed.0.1) inside })

pub returns-then-is_within : goal.returns-then-is_within
unfolding of_bits
returns-then-is_within c =
    let inside = sym c.is_within.ensures ∙ c.if-is_within.true in
    let is = rw c.size_of.ensures at c.truncating_f32_to_u64.ensures in
    rw (is, grained_cut binary32 c.args.h (held c.args.h c.well_formed.0.1) inside) (refl, grains_most binary32 c.args.h (held c.args.h c.well_formed.0.1))

pub returns-else-is_within : goal.returns-else-is_within
unfolding of_bits grains_of
returns-else-is_within c = rw (← c.is_within.ensures, c.if-is_within.false) (refl, zero-le)
