-- What a pass puts of one wheel is the whole wheel changed. In order: a cast; the demands with the answers on the directions. Assumes nothing.
use Prim.Native.Nat.{ℕ}
use mathlib.Core.Bool.{Bool}
use mathlib.Core.List.{List}
use mathlib.Core.Path.{◌≡◌, refl}
use Rattle.std.specs.Prelude.{Option}
use lib.Ieee.{Float, Format}
use Rattle.body.specs.declared.Body.{Body}
use Rattle.tyre.specs.declared.Friction.{Friction}
use Rattle.tyre.specs.declared.WheelTuning.{WheelTuning}
use Rattle.wheel.specs.declared.Wheel.{Wheel}
use Rattle.wheel.specs.declared.Directions.{Directions}
use Rattle.wheel.specs.declared.Fallbacks.{Fallbacks}
use Rattle.body.specs.declared.GroundBody.{GroundBody}
use Rattle.wheel.specs.declared.RayAnswer.{RayAnswer}
use Rattle.wheel.specs.declared.RayAnswer.TheVariants.{Nothing, Hit, HitUp}
use Rattle.wheel.specs.Parts.{with_info, with_approach, with_friction, with_fallbacks}
use Rattle.wheel.specs.Ray.{ray_cast, hit_of, miss_of, is_grounded}
use Rattle.road.specs.Contact.{fallbacks_of}
use Rattle.road.specs.Step.{friction_of}
use Rattle.table.specs.Rows.{wheel_at, put_wheel}
use Rattle.ground.specs.Frame.{ground_under}
use Rattle.passes.specs.Passes.{stored, demand_of}

-- a cast changes the info and the approach alone
pub cast_parts : (f : Format) (tuning : WheelTuning) (chassis : Body) (a : RayAnswer) (w : Wheel)
    → with_approach (with_info w (ray_cast f tuning chassis a w).info) (ray_cast f tuning chassis a w).approach ≡ ray_cast f tuning chassis a w
unfolding ray_cast hit_of miss_of
cast_parts f tuning chassis Nothing w = refl
cast_parts f tuning chassis (Hit time normal named) w = refl
cast_parts f tuning chassis (HitUp time normal upward named) w = refl

module _ (f : Format) (t t' : List Float) (i : ℕ) (w : Wheel) (p : w ≡ wheel_at t i) where
  pub demand_put : (dt : Float) (chassis : Body) (bodies : List Float) (dynamic : List Bool) (a : RayAnswer) (grounded : ℕ) (contact : Bool) (ground : Option GroundBody) (d : Directions) (x : Friction) (b : Fallbacks)
      → contact ≡ is_grounded a → ground ≡ ground_under bodies dynamic a → x ≡ friction_of f w.settings.tuning dt chassis contact ground grounded d w
      → b ≡ fallbacks_of contact d → t' ≡ put_wheel t i (with_fallbacks (with_friction (wheel_at t i) x) b) → t' ≡ put_wheel t i (demand_of f stored dt chassis bodies dynamic a grounded d (wheel_at t i))
  unfolding demand_of
  demand_put dt chassis bodies dynamic a grounded contact ground d x b y z q k e = rw (e, k, q, z, y, p)
