-- Wheel i through the passes of a step under the tuning that counts, over a table of the right size. In order: what a cast, a suspension and a spin keep of one wheel; after the springs, its directions, after the demands, at the end;
-- what its two impulses come to; what the step leaves of it but for its motion. Assumes nothing.
use Prim.Native.Nat.{ℕ, ◌≤◌, ◌<◌}
use mathlib.Core.Bool.{Bool}
use mathlib.Core.List.{List}
use mathlib.Core.Path.{◌≡◌, refl, sym, ap, ◌∙◌}
use lib.ListN.{length}
use lib.Ieee.{Float, Format}
use Rattle.body.specs.declared.Body.{Body}
use Rattle.tyre.specs.declared.Friction.{Friction}
use Rattle.tyre.specs.declared.WheelTuning.{WheelTuning}
use Rattle.tyre.specs.Grip.{rescaled_of}
use Rattle.wheel.specs.declared.Settings.{Settings}
use Rattle.wheel.specs.declared.Wheel.{Wheel}
use Rattle.wheel.specs.declared.Directions.{Directions}
use Rattle.wheel.specs.declared.Fallbacks.{Fallbacks}
use Rattle.wheel.specs.declared.RayAnswer.{RayAnswer}
use Rattle.wheel.specs.declared.RayAnswer.TheVariants.{Nothing, Hit, HitUp}
use Rattle.wheel.specs.Parts.{with_motion, with_friction, with_fallbacks, friction_in}
use Rattle.wheel.specs.Ray.{ray_cast, hit_of, miss_of, is_grounded}
use Rattle.road.specs.Contact.{directions_of, fallbacks_of}
use Rattle.road.specs.Step.{suspended_of, friction_of, impulses_of, spun_by, update_rotation}
use Rattle.table.specs.Layout as at
use Rattle.table.specs.Rows.{wheel_at, chassis_at}
use Rattle.table.proofs.Laws.{wheel_stays}
use Rattle.ground.specs.Frame.{Frame, grounded_at, grounded_wheels, ground_under}
use Rattle.passes.specs.Passes.{no_directions, directions_in, directions_at, demand_of, demand_at, casts, rescales, spins}
use Rattle.passes.specs.Step.{sprung, demanded, pushed, spun, demand_step, whole_step}
use Rattle.passes.proofs.Laws.{wheel_casts, wheel_suspensions, wheel_demands, wheel_rescales, wheel_spins}
use Rattle.passes.proofs.Gives.{gives_at}
use Rattle.demands.proofs.Sizes.{length_cast, length_sprung, length_demanded, length_rescaled}

-- the wheel once its ray answer is in and its force is worked out
abbrev pub sprung_wheel : Format → WheelTuning → Body → RayAnswer → Wheel → Wheel
sprung_wheel f tuning kept answer w = suspended_of f tuning kept.invmass (is_grounded answer) (ray_cast f tuning kept answer w)

-- ---- one wheel
pub cast_keeps_controls : (f : Format) (tuning : WheelTuning) (kept : Body) (answer : RayAnswer) (w : Wheel) → (ray_cast f tuning kept answer w).controls ≡ w.controls
unfolding ray_cast hit_of miss_of
cast_keeps_controls f tuning kept Nothing w = refl
cast_keeps_controls f tuning kept (Hit time normal named) w = refl
cast_keeps_controls f tuning kept (HitUp time normal upward named) w = refl

pub cast_keeps_settings : (f : Format) (tuning : WheelTuning) (kept : Body) (answer : RayAnswer) (w : Wheel) → (ray_cast f tuning kept answer w).settings ≡ w.settings
unfolding ray_cast hit_of miss_of
cast_keeps_settings f tuning kept Nothing w = refl
cast_keeps_settings f tuning kept (Hit time normal named) w = refl
cast_keeps_settings f tuning kept (HitUp time normal upward named) w = refl

pub sprung_keeps_controls : (f : Format) (tuning : WheelTuning) (kept : Body) (answer : RayAnswer) (w : Wheel) → (sprung_wheel f tuning kept answer w).controls ≡ w.controls
unfolding suspended_of
sprung_keeps_controls f tuning kept answer w = cast_keeps_controls f tuning kept answer w

pub sprung_keeps_settings : (f : Format) (tuning : WheelTuning) (kept : Body) (answer : RayAnswer) (w : Wheel) → (sprung_wheel f tuning kept answer w).settings ≡ w.settings
unfolding suspended_of
sprung_keeps_settings f tuning kept answer w = cast_keeps_settings f tuning kept answer w

spun_keeps_friction : (f : Format) (dt : Float) (contact : Bool) (chassis : Body) (w : Wheel) → friction_in (update_rotation f dt contact chassis w) ≡ friction_in w
unfolding update_rotation spun_by
spun_keeps_friction f dt contact chassis w = refl

-- ---- wheel i of a step
module _ (f : Format) (tune : WheelTuning → WheelTuning) (r : Frame) (n : ℕ) (l : n ≤ at.WHEELS) (t : List Float) (s : length t ≡ at.SIZE) (i : ℕ) (h : i < n) where
  -- the tuning that counts for it, the chassis as it was kept, and the wheel after the springs
  abbrev own : WheelTuning
  own = tune (wheel_at t i).settings.tuning

  abbrev kept : Body
  kept = (chassis_at t).body

  abbrev hung : Wheel
  hung = sprung_wheel f own kept (r.answer i) (wheel_at t i)

  pub wheel_sprung : wheel_at (sprung f tune r n t).table i ≡ hung
  unfolding sprung grounded_at
  wheel_sprung =
      wheel_suspensions f n (casts f tune kept r.answer n t) (length_cast f tune r n l t s kept) l i h tune kept.invmass r.answer
      ∙ ap (λ (w : Wheel). suspended_of f (tune w.settings.tuning) kept.invmass (is_grounded (r.answer i)) w) (wheel_casts f n t s l i h tune kept r.answer)
      ∙ ap (λ (x : Settings). suspended_of f (tune x.tuning) kept.invmass (is_grounded (r.answer i)) (ray_cast f own kept (r.answer i) (wheel_at t i))) (cast_keeps_settings f own kept (r.answer i) (wheel_at t i))

  directions_sprung : directions_at (sprung f tune r n t).directions i ≡ directions_of f hung
  unfolding sprung directions_in
  directions_sprung = gives_at (directions_of f) _ (sprung f tune r n t).table no_directions n i l h ∙ ap (directions_of f) wheel_sprung

  -- both demands, with its own directions
  abbrev friction : Friction
  friction = friction_of f own r.dt (sprung f tune r n t).chassis.body (is_grounded (r.answer i)) (ground_under r.bodies r.dynamic (r.answer i)) (grounded_wheels r.answer n) (directions_of f hung) hung

  -- whether these fell back to zero
  abbrev fallbacks : Fallbacks
  fallbacks = fallbacks_of (is_grounded (r.answer i)) (directions_of f hung)

  pub wheel_demanded : wheel_at (demand_step f tune r n t).table i ≡ with_fallbacks (with_friction hung friction) fallbacks
  unfolding demand_step demanded demand_at demand_of
  wheel_demanded =
      let body = (sprung f tune r n t).chassis.body in
      let grounded = grounded_wheels r.answer n in
      let d = directions_at (sprung f tune r n t).directions in
      wheel_demands f n (sprung f tune r n t).table (length_sprung f tune r n l t s) l i h tune r body grounded d
      ∙ ap (demand_at f tune r body grounded d i) wheel_sprung
      ∙ ap (λ (x : Directions). demand_of f tune r.dt body r.bodies r.dynamic (r.answer i) grounded x hung) directions_sprung
      ∙ ap (λ (x : Settings). with_fallbacks (with_friction hung (friction_of f (tune x.tuning) r.dt body (is_grounded (r.answer i)) (ground_under r.bodies r.dynamic (r.answer i)) grounded (directions_of f hung) hung)) fallbacks)
      (sprung_keeps_settings f own kept (r.answer i) (wheel_at t i))

  -- rule 9 takes rule 7's directions: those of the wheel as the demands and the rescale leave it are the same
  pub directions_kept : directions_of f (wheel_at (rescales f n (demand_step f tune r n t).table) i) ≡ directions_at (sprung f tune r n t).directions i
  unfolding directions_of
  directions_kept =
      ap (directions_of f) (wheel_rescales f n (demand_step f tune r n t).table (length_demanded f tune r n l t s) l i h ∙ ap (λ (w : Wheel). with_friction w (rescaled_of f (friction_in w))) wheel_demanded)
      ∙ sym directions_sprung

  -- the impulses that the step leaves are the demands, rescaled
  pub friction_stepped : (up : ℕ) → friction_in (wheel_at (whole_step f tune up r n t).table i) ≡ rescaled_of f (friction_in (wheel_at (demand_step f tune r n t).table i))
  unfolding whole_step spun pushed
  friction_stepped up =
      let after = rescales f n (demand_step f tune r n t).table in
      ap friction_in (wheel_stays _ _ i ∙ wheel_spins f n after (length_rescaled f tune r n l t s) l i h r.dt _ r.answer)
      ∙ spun_keeps_friction f r.dt _ _ _
      ∙ ap friction_in (wheel_rescales f n (demand_step f tune r n t).table (length_demanded f tune r n l t s) l i h)

  -- so they are those of one wheel alone
  pub friction_alone : (up : ℕ) → friction_in (wheel_at (whole_step f tune up r n t).table i)
      ≡ impulses_of f own kept (sprung f tune r n t).chassis.body r.dt (ground_under r.bodies r.dynamic (r.answer i)) (grounded_wheels r.answer n) (r.answer i) (wheel_at t i)
  unfolding impulses_of
  friction_alone up = friction_stepped up ∙ ap (λ (w : Wheel). rescaled_of f (friction_in w)) wheel_demanded

  -- but for its motion, the wheel that the step leaves is as its cast left it, with the answers on its directions
  pub wheel_stepped : (up : ℕ) → let w = wheel_at (whole_step f tune up r n t).table i in w ≡ with_fallbacks (with_motion (ray_cast f own kept (r.answer i) (wheel_at t i)) w.motion) fallbacks
  unfolding whole_step spun pushed update_rotation spun_by suspended_of
  wheel_stepped up =
      let demanded = (demand_step f tune r n t).table in
      let end = (pushed f up n (demand_step f tune r n t)).chassis in
      let last : wheel_at (whole_step f tune up r n t).table i ≡ update_rotation f r.dt (grounded_at r.answer i) end.body (with_friction (with_fallbacks (with_friction hung friction) fallbacks) (rescaled_of f friction)) =
      wheel_stays (spins f r.dt end.body r.answer n (rescales f n demanded)) end i
      ∙ wheel_spins f n (rescales f n demanded) (length_rescaled f tune r n l t s) l i h r.dt end.body r.answer
      ∙ ap (update_rotation f r.dt (grounded_at r.answer i) end.body)
      (wheel_rescales f n demanded (length_demanded f tune r n l t s) l i h ∙ ap (λ (w : Wheel). with_friction w (rescaled_of f (friction_in w))) wheel_demanded) in
      last ∙ ap (λ (w : Wheel). with_fallbacks (with_motion (ray_cast f own kept (r.answer i) (wheel_at t i)) w.motion) fallbacks) (sym last)
