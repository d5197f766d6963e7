-- Change request 2026-05, over one wheel of an accepted drive. In order: a stored answer reads as what was kept; rule 7's directions of the wheel as the springs leave it; what a read after the drive says of them; a zero
-- direction pushes nothing; the impulses of a grounded wheel are finite; a wheel without an axis asks for nothing to the side, one without a forward direction for nothing that its brake could cut, and neither pushes along the direction that it has not. Assumes nothing.
use Prim.Native.Nat.{ℕ, ◌<◌}
use mathlib.Core.Bool.{Bool, true, false}
use mathlib.Core.Path.{◌≡◌, refl, sym, ap, subst, ◌∙◌}
use lib.Dec.{T}
use lib.Ieee.{Float, Format, eq, ne}
use lib.Ieee.Scale.{finite}
use Rattle.real.specs.Number.{zero}
use Rattle.real.specs.Scalar.{flag_number, reads_yes}
use Rattle.real.proofs.Nought.{Nought, nought_of_zero, zero_mul_finite}
use Rattle.vector.specs.declared.Vector.{Vector}
use Rattle.vector.specs.Arithmetic.{zero_v, scale_v}
use Rattle.body.specs.declared.Body.{Body}
use Rattle.tyre.specs.declared.WheelTuning.{WheelTuning}
use Rattle.tyre.proofs.Idle.{braked_zero, admitted_zero, rescaled_finite, rescaled_zero}
use Rattle.wheel.specs.declared.Directions.{Directions}
use Rattle.wheel.specs.declared.Fallbacks.{Fallbacks}
use Rattle.wheel.specs.declared.RayAnswer.{RayAnswer}
use Rattle.wheel.specs.declared.RayAnswer.TheVariants.{Nothing, Hit, HitUp}
use Rattle.wheel.specs.declared.Wheel.{Wheel}
use Rattle.wheel.specs.Ray.{ray_cast, hit_of, miss_of}
use Rattle.road.specs.Contact.{directions_of, fallbacks_of}
use Rattle.road.specs.Step.{suspended_of}
use Rattle.road.proofs.Fallback.{axis_zero, forward_zero, side_of_zero, rolling_of_zero}
use Rattle.table.specs.Rows.{chassis_at}
use Rattle.ground.specs.Frame.{grounded_at}
use Rattle.read_wheel.specs.Read.{ReadReply, reading_of}
use Rattle.refusals.specs.After.{After}
use Rattle.demands.specs.Impulses.{Step, Accepted, Grounded, stored_wheel, driven_wheel, forward_demand, side_demand, forward_impulse, side_impulse, powered_at}
use Rattle.demands.specs.Settled.{read_after_drive}
use Rattle.demands.specs.Fallback.{axis_in, forward_in, IsZero, IsZeroV, NoRoll, NoSide}
use Rattle.demands.proofs.HeldRules.{uncut_fits}
use Rattle.demands.proofs.Impulses.{sprung_at, grounded_in, uncut_at, side_is, forward_admitted, side_admitted, limit_at_least, forward_rescaled, side_rescaled, forward_braked, uncut_not_nan, brake_of_stepped}
use Rattle.demands.proofs.Settled.{driven_of_cast, read_after_drive_lem}

-- ---- what is kept as 1 or 0 reads as it was
flag_read : (b : Bool) → reads_yes (flag_number b) ≡ b
unfolding reads_yes flag_number ne
flag_read true = refl
flag_read false = refl

no_read : reads_yes zero ≡ false
unfolding reads_yes ne
no_read = refl

-- what is not no is yes; and the parts of the zero vector
pub yes_of : (b : Bool) → (b ≡ false → ⊥) → b ≡ true
yes_of true h = refl
yes_of false h = absurd (h refl)

pub zero_vector : (v : Vector) → v ≡ zero_v → IsZeroV v
unfolding zero_v eq
zero_vector v e = rw e (record { x = refl; y = refl; z = refl })

-- ---- the directions of the wheel as the springs leave it are rule 7's
cast_keeps_place : (f : Format) (tuning : WheelTuning) (kept : Body) (answer : RayAnswer) (w : Wheel) → (ray_cast f tuning kept answer w).place ≡ w.place
unfolding ray_cast hit_of miss_of
cast_keeps_place f tuning kept Nothing w = refl
cast_keeps_place f tuning kept (Hit time normal named) w = refl
cast_keeps_place f tuning kept (HitUp time normal upward named) w = refl

directions_in_lem : (f : Format) (d : Step) (i : ℕ) → directions_of f (sprung_at f d i) ≡ record { axis = axis_in f d i; forward = forward_in f d i }
unfolding directions_of suspended_of
directions_in_lem f d i = rw (cast_keeps_place f (stored_wheel d i).settings.tuning (chassis_at d.table).body (d.frame.answer i) (stored_wheel d i))

-- ---- a read after the drive
module _ (f : Format) (d : Step) (i : ℕ) (accepted : Accepted f d) (counted : i < d.n) where
  read_is : (read_after_drive f d i).reply ≡ reading_of f (driven_wheel f d i)
  read_is = ap (λ (x : After ReadReply). x.reply) (read_after_drive_lem f d i accepted counted)

  answers_kept : (driven_wheel f d i).fallbacks ≡ fallbacks_of (grounded_at d.frame.answer i) (record { axis = axis_in f d i; forward = forward_in f d i })
  answers_kept = ap (λ (w : Wheel). w.fallbacks) (driven_of_cast f d i accepted counted) ∙ ap (fallbacks_of (grounded_at d.frame.answer i)) (directions_in_lem f d i)

  axis_read : (read_after_drive f d i).reply.noaxis ≡ reads_yes (fallbacks_of (grounded_at d.frame.answer i) (record { axis = axis_in f d i; forward = forward_in f d i })).axis
  unfolding reading_of
  axis_read = ap (λ (x : ReadReply). x.noaxis) read_is ∙ ap (λ (b : Fallbacks). reads_yes b.axis) answers_kept

  forward_read : (read_after_drive f d i).reply.noforward ≡ reads_yes (fallbacks_of (grounded_at d.frame.answer i) (record { axis = axis_in f d i; forward = forward_in f d i })).forward
  unfolding reading_of
  forward_read = ap (λ (x : ReadReply). x.noforward) read_is ∙ ap (λ (b : Fallbacks). reads_yes b.forward) answers_kept

  pub axis_of_grounded : grounded_at d.frame.answer i ≡ true → (read_after_drive f d i).reply.noaxis ≡ (axis_in f d i).fellback
  unfolding fallbacks_of
  axis_of_grounded contact = axis_read ∙ rw contact (flag_read (axis_in f d i).fellback)

  pub forward_of_grounded : grounded_at d.frame.answer i ≡ true → (read_after_drive f d i).reply.noforward ≡ (forward_in f d i).fellback
  unfolding fallbacks_of
  forward_of_grounded contact = forward_read ∙ rw contact (flag_read (forward_in f d i).fellback)

  pub axis_of_airborne : grounded_at d.frame.answer i ≡ false → (read_after_drive f d i).reply.noaxis ≡ false
  unfolding fallbacks_of
  axis_of_airborne contact = axis_read ∙ rw contact no_read

  pub forward_of_airborne : grounded_at d.frame.answer i ≡ false → (read_after_drive f d i).reply.noforward ≡ false
  unfolding fallbacks_of
  forward_of_airborne contact = forward_read ∙ rw contact no_read

-- ---- a zero direction times a finite impulse
zero_push : (f : Format) (v : Vector) (x : Float) → v ≡ zero_v → T (finite x) → IsZeroV (scale_v f v x)
unfolding scale_v zero_v
zero_push f v x e t = rw e (record { x = zero_mul_finite f x t; y = zero_mul_finite f x t; z = zero_mul_finite f x t })

-- ---- a grounded wheel
module _ (f : Format) (d : Step) (i : ℕ) (g : Grounded f d i) where
  -- its impulses are finite
  forward_finite : T (finite (forward_impulse f d i))
  forward_finite = subst (λ (x : Float). T (finite x)) (sym (forward_rescaled f d i g)) (rescaled_finite f _ _ _ _ (limit_at_least f d i g) (forward_admitted f d i g))

  side_finite : T (finite (side_impulse f d i))
  side_finite = subst (λ (x : Float). T (finite x)) (sym (side_rescaled f d i g)) (rescaled_finite f _ _ _ _ (limit_at_least f d i g) (side_admitted f d i g))

  -- ---- without an axis, whatever its engine does: nothing to the side
  module _ (none : (axis_in f d i).fellback ≡ true) where
    no_axis : (directions_of f (sprung_at f d i)).axis.vector ≡ zero_v
    no_axis = ap (λ (x : Directions). x.axis.vector) (directions_in_lem f d i) ∙ axis_zero f _ _ none

    side_none : Nought (side_demand f d i)
    side_none = subst Nought (sym (side_is f d i g)) (side_of_zero f _ _ _ _ (sprung_at f d i) no_axis)

    pub no_side : NoSide f d i
    no_side = record {
      demand = admitted_zero (side_admitted f d i g) side_none;
      impulse = subst IsZero (sym (side_rescaled f d i g)) (rescaled_zero f _ _ _ _ (limit_at_least f d i g) (side_admitted f d i g) side_none);
    }

    pub no_side_push : IsZeroV (scale_v f (axis_in f d i).vector (side_impulse f d i))
    no_side_push = zero_push f _ _ (axis_zero f _ _ none) side_finite

  -- ---- without a forward direction
  module _ (none : (forward_in f d i).fellback ≡ true) where
    no_forward : (directions_of f (sprung_at f d i)).forward.vector ≡ zero_v
    no_forward = ap (λ (x : Directions). x.forward.vector) (directions_in_lem f d i) ∙ forward_zero f _ _ none

    pub no_forward_push : IsZeroV (scale_v f (forward_in f d i).vector (forward_impulse f d i))
    no_forward_push = zero_push f _ _ (forward_zero f _ _ none) forward_finite

    -- an unpowered wheel: nothing that its brake could cut
    pub no_roll : powered_at d i ≡ false → NoRoll f d i
    no_roll unpowered =
        let asked : IsZero (forward_demand f d i) =
        subst IsZero (sym (forward_braked f d i g unpowered))
        (braked_zero (brake_of_stepped g.stepped) (uncut_at f d i) (rolling_of_zero f _ _ _ (grounded_in d) no_forward) (uncut_fits f _ _ (grounded_in d)) (uncut_not_nan f d i g unpowered)) in
        record {
          demand = asked;
          impulse = subst IsZero (sym (forward_rescaled f d i g)) (rescaled_zero f _ _ _ _ (limit_at_least f d i g) (forward_admitted f d i g) (nought_of_zero _ asked));
        }
