-- Demand 3 of one grounded wheel, over the definitions of rules 6 to 8, in either format: each sentence stands above its theorem. What it says of whole steps is lifted to accepted drives above this crate. Assumes nothing.
use mathlib.Core.Path.{◌≡◌}
use Prim.Native.Nat.{◌-◌, ◌^◌}
use native.Mathlib.Nat.{le_trans}
use mathlib.Core.Bool.{true, false}
use lib.Dec.{T}
use lib.Pow.{pow_pos}
use lib.Ieee.{Float, Format, binary32, binary64, low, mul, lt, le, fits}
use Rattle.real.specs.Number.{zero}
use Rattle.real.proofs.SignedCounts.{fraction_counted}
use Rattle.real.proofs.NotNegative.{not_negative_of_le, le_of_not_negative, mul_not_negative}
use Rattle.real.proofs.Bounds.{bounded_counted, bounded_not_nan, at_least_of_le}
use Rattle.real.proofs.Clamping.{clamp_le}
use Rattle.tyre.specs.Grip.{slides, skid_of, rescaled_by, braked_of, limit_of}
use Rattle.tyre.specs.Demand3.{precision, Grips, WithinBrake, Admitted, GripLimit, Brake}
use Rattle.tyre.proofs.Ranges.{ranges}
use Rattle.tyre.proofs.GripCircle.{small_of_admitted, sized_of_small, grips}
use Rattle.tyre.proofs.Brake.{skid_fits, rescaled_fits, skid_not_negative, rescaled_le, brake_signed, not_nan_of_braked}

-- "If its demand does not pass the slide test, its two impulses are exactly the demand."
pub not_sliding : (f : Format) (forward side limit : Float) → slides f forward side limit ≡ false
    → (rescaled_by f (skid_of f forward side limit) forward ≡ forward) × (rescaled_by f (skid_of f forward side limit) side ≡ side)
unfolding skid_of rescaled_by lt
not_sliding f forward side limit h = (rw h, rw h)

-- "let a grounded wheel's grip limit be at least 2^-40. .. If it passes, a quarter of the forward impulse squared plus the side impulse squared is, in exact arithmetic, within one part in 2^20 of the limit
-- squared." Also where skid comes out at 1 or more, and the impulses stay as they are.
pub sliding : (f : Format) (forward side limit : Float) → Admitted f forward → Admitted f side → GripLimit f limit → slides f forward side limit ≡ true
    → Grips f (precision f) (rescaled_by f (skid_of f forward side limit) forward) (rescaled_by f (skid_of f forward side limit) side) limit
sliding f forward side limit a b l h =
    let own = bounded_counted (small_of_admitted l.admitted) in
    let g = at_least_of_le (fraction_counted f 39 (ranges f).fine) (pow_pos (low f - 40)) own l.at_least in
    grips (small_of_admitted a) (small_of_admitted b) (small_of_admitted l.admitted) h (rw g.0 at own) g.1

pub sliding32 : (forward side limit : Float) → Admitted binary32 forward → Admitted binary32 side → GripLimit binary32 limit → slides binary32 forward side limit ≡ true
    → Grips binary32 (2 ^ 20) (rescaled_by binary32 (skid_of binary32 forward side limit) forward) (rescaled_by binary32 (skid_of binary32 forward side limit) side) limit
sliding32 = sliding binary32

pub sliding64 : (forward side limit : Float) → Admitted binary64 forward → Admitted binary64 side → GripLimit binary64 limit → slides binary64 forward side limit ≡ true
    → Grips binary64 (2 ^ 48) (rescaled_by binary64 (skid_of binary64 forward side limit) forward) (rescaled_by binary64 (skid_of binary64 forward side limit) side) limit
sliding64 = sliding binary64

-- "An unpowered wheel's forward impulse never exceeds its brake in size." `rolling` is the demand before the clamp, an infinity too; the clamped one is what refusal 7 lets through. The limit may be any that is
-- not negative, and the side demand any number at all.
pub unpowered : (f : Format) (brake rolling side limit : Float) → Brake f brake → T (fits f rolling) → Admitted f (braked_of brake rolling) → le zero limit ≡ true
    → WithinBrake f brake (rescaled_by f (skid_of f (braked_of brake rolling) side limit) (braked_of brake rolling))
unfolding braked_of
unpowered f brake rolling side limit b g a h =
    let forward = braked_of brake rolling in
    let s = small_of_admitted a in
    let n = not_nan_of_braked brake rolling a in
    let r = rescaled_le f (skid_of f forward side limit) forward (skid_fits f forward side limit) (skid_not_negative f forward side limit (not_negative_of_le limit h)) s.fit s.fine in
    record { impulse_sized = record { held = rescaled_fits f (skid_of f forward side limit) forward s.fit; is_finite = r.0 }; brake_sized = sized_of_small (small_of_admitted b.admitted); at_most = le_trans r.1 (clamp_le (brake_signed b) rolling g n) }

-- rule 6: a grip limit that refusal 7 lets through is not negative
pub limit_not_negative : (f : Format) (force dt slip : Float) → le zero force ≡ true → le zero dt ≡ true → le zero slip ≡ true → Admitted f (limit_of f force dt slip) → le zero (limit_of f force dt slip) ≡ true
unfolding limit_of
limit_not_negative f force dt slip p q r a =
    le_of_not_negative (limit_of f force dt slip)
    (mul_not_negative f (mul f force dt) slip (mul_not_negative f force dt (not_negative_of_le force p) (not_negative_of_le dt q)) (not_negative_of_le slip r))
    (bounded_not_nan (small_of_admitted a))
