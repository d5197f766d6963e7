-- Change request 2026-13: two accepted steps that are alike to a grounded, unpowered wheel but for its brake. In order: a wheel with another brake has it (brake_of_with_brake); where its ray meets the ground depends neither on the kept chassis nor on the brake
-- (contact_alike); so what the brakes cut is one number (uncut_alike), and the two demands are that number, cut to either brake: which is no less under the greater brake (demand_no_less), of one size under equal ones
-- (demand_equal), and the same under the same (demand_same). Assumes nothing.
use Prim.Native.Nat.{ℕ}
use mathlib.Core.Bool.{true, false, not}
use mathlib.Core.Path.{◌≡◌, refl, sym, ap, ◌∙◌}
use lib.Dec.{T}
use Rattle.std.specs.Prelude.{Option}
use lib.Ieee.{Float, Format, lt, le, eq, ne, is_nan, fits}
use Rattle.real.specs.Number.{zero}
use Rattle.body.specs.declared.Body.{Body}
use Rattle.body.specs.declared.Chassis.{Chassis}
use Rattle.tyre.specs.declared.WheelTuning.{WheelTuning}
use Rattle.tyre.specs.Grip.{braked_of}
use Rattle.tyre.specs.MoreBrake.{BrakesNoLess}
use Rattle.tyre.proofs.MoreBrake.{more_brake, equal_brake}
use Rattle.body.specs.declared.GroundBody.{GroundBody}
use Rattle.wheel.specs.declared.RayAnswer.{RayAnswer}
use Rattle.wheel.specs.declared.RayAnswer.TheVariants.{Nothing, Hit, HitUp}
use Rattle.wheel.specs.declared.Wheel.{Wheel}
use Rattle.wheel.specs.Ray.{ray_of, ray_cast, hit_of, miss_of}
use Rattle.road.specs.Contact.{directions_of}
use Rattle.road.specs.Step.{suspended_of}
use Rattle.table.specs.Rows.{chassis_at}
use Rattle.ground.specs.Frame.{grounded_at}
use Rattle.demands.specs.Impulses.{Step, Stepped, Grounded, stored_wheel, forward_demand, brake_of, powered_at}
use Rattle.demands.specs.MoreBrake.{with_brake, AlikeButForBrake}
use Rattle.demands.proofs.Passed.{sprung_wheel}
use Rattle.demands.proofs.HeldRules.{uncut_fits}
use Rattle.demands.proofs.Impulses.{body_in, ground_in, grounded_in, sprung_at, uncut_of, uncut_at, brake_of_stepped, forward_braked, uncut_not_nan}

-- ---- one wheel
-- a wheel with another brake has that brake
pub brake_of_with_brake : (w : Wheel) (brake : Float) → (with_brake w brake).controls.brake ≡ brake
brake_of_with_brake w brake = refl

contact_alike : (f : Format) (tuning : WheelTuning) (kept kept' : Body) (answer : RayAnswer) (w : Wheel) (brake : Float)
    → ((sprung_wheel f tuning kept answer w).info ≡ (sprung_wheel f tuning kept' answer (with_brake w brake)).info)
    × ((sprung_wheel f tuning kept answer w).place ≡ (sprung_wheel f tuning kept' answer (with_brake w brake)).place)
unfolding suspended_of ray_cast ray_of hit_of miss_of
contact_alike f tuning kept kept' Nothing w brake = (refl, refl)
contact_alike f tuning kept kept' (Hit time normal named) w brake = (refl, refl)
contact_alike f tuning kept kept' (HitUp time normal upward named) w brake = (refl, refl)

-- what a brake cuts looks at the wheel's contact and place alone
uncut_of_contact : (f : Format) (chassis : Body) (ground : Option GroundBody) (grounded : ℕ) (w v : Wheel) → w.info ≡ v.info → w.place ≡ v.place → uncut_of f chassis ground grounded w ≡ uncut_of f chassis ground grounded v
unfolding directions_of
uncut_of_contact f chassis ground grounded w v p q = rw (p, q)

of_demands : {f : Format} {x y x' y' : Float} → x ≡ x' → y ≡ y' → BrakesNoLess f x' y' → BrakesNoLess f x y
of_demands p q h = rw (p, q) h

le_of_lt : (x y : Float) → lt x y ≡ true → le x y ≡ true
unfolding le
le_of_lt x y h = rw h

-- ---- two steps
module _ {f : Format} {d e : Step} {i : ℕ} (a : AlikeButForBrake f d e i) where
  pub uncut_alike : uncut_at f d i ≡ uncut_at f e i
  uncut_alike =
      let kept = (chassis_at e.table).body in
      let row = stored_wheel d i in
      let same = contact_alike f row.settings.tuning (chassis_at d.table).body kept (d.frame.answer i) row (brake_of e i) in
      let braked = sprung_wheel f row.settings.tuning kept (d.frame.answer i) (with_brake row (brake_of e i)) in
      let body : body_in f d ≡ body_in f e = ap (λ (c : Chassis). c.body) a.after_springs in
      uncut_of_contact f (body_in f d) (ground_in d i) (grounded_in d) (sprung_at f d i) braked same.0 same.1
      ∙ ap (λ (w : Wheel). uncut_of f (body_in f d) (ground_in d i) (grounded_in d) (sprung_wheel f w.settings.tuning kept (d.frame.answer i) w)) a.own_row
      ∙ ap (λ (r : RayAnswer). uncut_of f (body_in f d) (ground_in d i) (grounded_in d) (sprung_wheel f (stored_wheel e i).settings.tuning kept r (stored_wheel e i))) a.own_hit
      ∙ ap (λ (b : Body). uncut_of f b (ground_in d i) (grounded_in d) (sprung_at f e i)) body
      ∙ ap (λ (u : Option GroundBody). uncut_of f (body_in f e) u (grounded_in d) (sprung_at f e i)) a.own_ground
      ∙ ap (λ (k : ℕ). uncut_of f (body_in f e) (ground_in e i) k (sprung_at f e i)) a.same_grounded_wheels

  -- the other wheel is grounded and unpowered too: its hit and its engine force are the same
  pub grounded_alike : Grounded f d i → Stepped f e i → Grounded f e i
  unfolding grounded_at
  grounded_alike g s = record { stepped = s; contact = rw a.own_hit at g.contact }

  pub unpowered_alike : powered_at d i ≡ false → powered_at e i ≡ false
  unpowered_alike h = sym (ap (λ (w : Wheel). ne w.controls.engine zero) a.own_row) ∙ h

  -- ---- the two demands: one number, cut to either brake
  module _ (g : Grounded f d i) (s : Stepped f e i) (unpowered : powered_at d i ≡ false) where
    abbrev uncut : Float
    uncut = uncut_at f d i

    cut : forward_demand f d i ≡ braked_of (brake_of d i) uncut
    cut = forward_braked f d i g unpowered

    other_cut : forward_demand f e i ≡ braked_of (brake_of e i) uncut
    other_cut = forward_braked f e i (grounded_alike g s) (unpowered_alike unpowered) ∙ ap (braked_of (brake_of e i)) (sym uncut_alike)

    fit : T (fits f uncut)
    fit = uncut_fits f _ _ (grounded_in d)

    no_nan : T (not (is_nan uncut))
    no_nan = uncut_not_nan f d i g unpowered

    pub demand_no_less : lt (brake_of d i) (brake_of e i) ≡ true → BrakesNoLess f (forward_demand f d i) (forward_demand f e i)
    demand_no_less h = of_demands cut other_cut (more_brake f uncut fit no_nan (brake_of_stepped g.stepped) (brake_of_stepped s) (le_of_lt _ _ h))

    pub demand_equal : eq (brake_of d i) (brake_of e i) ≡ true → BrakesNoLess f (forward_demand f d i) (forward_demand f e i) × BrakesNoLess f (forward_demand f e i) (forward_demand f d i)
    demand_equal h =
        let both = equal_brake f uncut fit no_nan (brake_of_stepped g.stepped) (brake_of_stepped s) h in
        (of_demands cut other_cut both.0, of_demands other_cut cut both.1)

    pub demand_same : brake_of d i ≡ brake_of e i → forward_demand f d i ≡ forward_demand f e i
    demand_same h = cut ∙ ap (λ (b : Float). braked_of b uncut) h ∙ sym other_cut
