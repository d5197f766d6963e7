-- Change request 2026-13 on plain numbers: what is clamped to ± a brake. It keeps its sign unless it is zero (braked_sign), it has a size (braked_sized), and it does not shrink as the brake grows (braked_le);
-- so a greater brake brakes no less (more_brake), and two that are equal, both zeros counted equal, brake each no less than the other (equal_brake). A brake other than −0 keeps the sign of a zero too
-- (braked_sign_of_plus). `rolling` is the demand before the clamp: any number of the format but a NaN, both zeros and both infinities among them. Assumes nothing.
use mathlib.Core.Path.{◌≡◌, refl, sym, ◌∙◌}
use Prim.Native.Nat.{◌≤◌, ◌<◌}
use native.Mathlib.Nat.{le_of_eq}
use mathlib.Core.Bool.{Bool, true, false, not, cond, true≢false}
use lib.Dec.{T}
use lib.Ieee.{Float, nan, inf, fin, Format, neg, lt, le, eq, fits, is_nan}
use lib.Ieee.Scale.{finite}
use Rattle.real.specs.Scalar.{clamp_of, raised_of, lowered_of}
use Rattle.real.specs.Units.{count, minus?}
use Rattle.real.proofs.Clamping.{count_le_of_le, count_eq_of_eq, clamp_sign, clamp_finite, clamp_mono}
use Rattle.tyre.specs.Grip.{braked_of}
use Rattle.tyre.specs.Demand3.{Sized, Brake}
use Rattle.tyre.specs.MoreBrake.{BrakesNoLess}
use Rattle.tyre.proofs.Brake.{brake_signed, braked_fits}

module _ (f : Format) (rolling : Float) (g : T (fits f rolling)) (n : T (not (is_nan rolling))) where
  -- ---- one brake
  pub braked_sign : {brake : Float} → Brake f brake → 0 < count f (braked_of brake rolling) → minus? (braked_of brake rolling) ≡ minus? rolling
  unfolding braked_of
  braked_sign b y = clamp_sign (brake_signed b) rolling g n y

  pub braked_sized : {brake : Float} → Brake f brake → Sized f (braked_of brake rolling)
  unfolding braked_of
  braked_sized {brake} b = record { held = braked_fits f brake rolling b.admitted.held g; is_finite = clamp_finite (brake_signed b) rolling g n }

  -- ---- two brakes
  pub braked_le : {less more : Float} → Brake f less → Brake f more → count f less ≤ count f more → count f (braked_of less rolling) ≤ count f (braked_of more rolling)
  unfolding braked_of
  braked_le b c l = clamp_mono (brake_signed b) (brake_signed c) l rolling g n

  no_less : {less more : Float} → Brake f less → Brake f more → count f less ≤ count f more → BrakesNoLess f (braked_of less rolling) (braked_of more rolling)
  no_less b c l = record {
    less_sized = braked_sized b;
    more_sized = braked_sized c;
    at_least = braked_le b c l;
    same_sign = λ y z. braked_sign b y ∙ sym (braked_sign c z);
  }

  pub more_brake : {less more : Float} → Brake f less → Brake f more → le less more ≡ true → BrakesNoLess f (braked_of less rolling) (braked_of more rolling)
  more_brake b c h = no_less b c (count_le_of_le (brake_signed b) (brake_signed c) h)

  pub equal_brake : {brake other : Float} → Brake f brake → Brake f other → eq brake other ≡ true
      → BrakesNoLess f (braked_of brake rolling) (braked_of other rolling) × BrakesNoLess f (braked_of other rolling) (braked_of brake rolling)
  equal_brake b c h =
      let same = count_eq_of_eq (brake_signed b) (brake_signed c) h in
      (no_less b c (le_of_eq same), no_less c b (le_of_eq (sym same)))

-- ---- a brake without the sign −: −0 alone can take the sign from what it clamps
pub braked_sign_of_plus : (brake rolling : Float) → T (finite brake) → minus? brake ≡ false → T (not (is_nan rolling)) → minus? (braked_of brake rolling) ≡ minus? rolling
unfolding braked_of clamp_of raised_of lowered_of lt neg is_nan
braked_sign_of_plus nan rolling t p n = absurd t
braked_sign_of_plus (inf s) rolling t p n = absurd t
braked_sign_of_plus (fin true m e) rolling t p n = absurd (true≢false p)
braked_sign_of_plus (fin false m e) nan t p n = absurd n
braked_sign_of_plus (fin false m e) (inf true) t p n = refl
braked_sign_of_plus (fin false m e) (inf false) t p n = refl
braked_sign_of_plus (fin false m e) (fin false k d) t p n = plus (lt (fin false m e) (fin false k d))
  where
    plus : (b : Bool) → minus? (cond b (fin false m e) (fin false k d)) ≡ false
    plus true = refl
    plus false = refl
braked_sign_of_plus (fin false m e) (fin true k d) t p n = minus (lt (fin true k d) (fin true m e))
  where
    minus : (b : Bool) → minus? (lowered_of (fin false m e) (cond b (fin true m e) (fin true k d))) ≡ true
    minus true = refl
    minus false = refl
