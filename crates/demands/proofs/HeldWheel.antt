-- A wheel and a chassis whose numbers the format holds. In order: vectors; a wheel and a chassis, part by part; both as the lists that a table keeps, and back. Assumes nothing.
use Prim.Native.Nat.{ℕ, zero, suc, ◌+◌, ◌-◌}
use mathlib.Core.Bool.{Bool, true, false, cond}
use mathlib.Core.List.{List, [], ◌∷◌, ◌++◌}
use lib.Dec.{T}
use lib.Ieee.{Float, Format, fits}
use lib.Ieee.Fits.{neg-fits, add-fits}
use Rattle.lists.specs.Counted.{listed}
use Rattle.vector.specs.declared.Vector.{Vector}
use Rattle.vector.specs.declared.Rotation.{Rotation}
use Rattle.vector.specs.Arithmetic.{add_v, neg_v, rotate_v}
use Rattle.table.specs.Layout as at
use Rattle.table.specs.Rows.{number_at, vector_list, info_list, place_list, settings_list, controls_list, approach_list, motion_list, fallbacks_list, vector_at, rotation_at, info_at, place_at, settings_at, tuning_at, steering_at, controls_at, approach_at, motion_at, fallbacks_at, wheel_of, row_of, rotation_list, inertia_list, inertia_at, chassis_of, chassis_list}
use Rattle.body.specs.declared.Chassis.{Chassis}
use Rattle.wheel.specs.declared.RayCastInfo.{RayCastInfo}
use Rattle.wheel.specs.declared.Place.{Place}
use Rattle.wheel.specs.declared.Wheel.{Wheel}
use Rattle.demands.proofs.Each.{Each, each_append, number_fits}

-- ---- vectors
pub record VectorHeld (f : Format) (v : Vector) : Type 0 where
  pub x : T (fits f v.x)
  pub y : T (fits f v.y)
  pub z : T (fits f v.z)

module _ (f : Format) where
  pub added_held : (a b : Vector) → VectorHeld f (add_v f a b)
  unfolding add_v
  added_held a b = record { x = add-fits f _ _; y = add-fits f _ _; z = add-fits f _ _ }

  pub negated_held : (a : Vector) → VectorHeld f a → VectorHeld f (neg_v a)
  unfolding neg_v
  negated_held a h = record { x = neg-fits f _ h.x; y = neg-fits f _ h.y; z = neg-fits f _ h.z }

  pub rotated_held : (q : Rotation) (v : Vector) → VectorHeld f (rotate_v f q v)
  unfolding rotate_v
  rotated_held q v = added_held _ _

  pub chosen_held : (b : Bool) (u v : Vector) → VectorHeld f u → VectorHeld f v → VectorHeld f (cond b u v)
  chosen_held true u v p q = p
  chosen_held false u v p q = q

-- ---- a wheel
pub record InfoHeld (f : Format) (i : RayCastInfo) : Type 0 where
  pub normal : VectorHeld f i.normal
  pub point : VectorHeld f i.point
  pub length : T (fits f i.length)
  pub hard : VectorHeld f i.hard

pub record PlaceHeld (f : Format) (p : Place) : Type 0 where
  pub centre : VectorHeld f p.centre
  pub direction : VectorHeld f p.direction
  pub axle : VectorHeld f p.axle

pub record WheelHeld (f : Format) (w : Wheel) : Type 0 where
  pub info : InfoHeld f w.info
  pub place : PlaceHeld f w.place
  pub settings : Each f (settings_list w.settings)
  pub controls : Each f (controls_list w.controls)
  pub approach : Each f (approach_list w.approach)
  pub motion : Each f (motion_list w.motion)
  pub fallbacks : Each f (fallbacks_list w.fallbacks)

-- ---- a chassis: its velocities, and what stands before and behind them
pub record ChassisHeld (f : Format) (c : Chassis) : Type 0 where
  pub pose : Each f (vector_list c.pose.translation ++ rotation_list c.pose.rotation ++ vector_list c.body.centre)
  pub linvel : VectorHeld f c.body.linvel
  pub angvel : VectorHeld f c.body.angvel
  pub masses : Each f ((c.body.invmass ∷ []) ++ vector_list c.effective ++ inertia_list c.body.inertia)

-- ---- as lists
module _ (f : Format) where
  -- a vector at the start of a list
  pub vector_first : (v : Vector) (l : List Float) → Each f (vector_list v ++ l) → VectorHeld f v
  vector_first v l h = record { x = h.0; y = h.1.0; z = h.1.1.0 }

  pub behind : (v : Vector) (l : List Float) → VectorHeld f v → Each f l → Each f (vector_list v ++ l)
  behind v l p q = (p.x, (p.y, (p.z, q)))

  info_held : (i : RayCastInfo) → InfoHeld f i → Each f (info_list i)
  info_held i h =
      let tail = i.length ∷ vector_list i.hard in
      behind i.normal (vector_list i.point ++ tail) h.normal (behind i.point tail h.point (h.length, behind i.hard [] h.hard tt))

  place_held : (p : Place) → PlaceHeld f p → Each f (place_list p)
  place_held p h =
      let tail = vector_list p.axle in
      behind p.centre (vector_list p.direction ++ tail) h.centre (behind p.direction tail h.direction (behind p.axle [] h.axle tt))

  pub row_held : (w : Wheel) → WheelHeld f w → Each f (row_of w)
  unfolding row_of
  row_held w h =
      let fallbacks = fallbacks_list w.fallbacks in
      let motion = motion_list w.motion ++ fallbacks in
      let approach = approach_list w.approach ++ motion in
      let controls = controls_list w.controls ++ approach in
      let settings = settings_list w.settings ++ controls in
      each_append f (info_list w.info) (place_list w.place ++ settings) (info_held w.info h.info)
      (each_append f (place_list w.place) settings (place_held w.place h.place)
      (each_append f (settings_list w.settings) controls h.settings
      (each_append f (controls_list w.controls) approach h.controls (each_append f (approach_list w.approach) motion h.approach
      (each_append f (motion_list w.motion) fallbacks h.motion h.fallbacks)))))

  pub list_held : (c : Chassis) → ChassisHeld f c → Each f (chassis_list c)
  unfolding chassis_list
  list_held c h =
      let masses = (c.body.invmass ∷ []) ++ vector_list c.effective ++ inertia_list c.body.inertia in
      each_append f (vector_list c.pose.translation ++ rotation_list c.pose.rotation ++ vector_list c.body.centre) (vector_list c.body.linvel ++ vector_list c.body.angvel ++ masses) h.pose
      (behind c.body.linvel (vector_list c.body.angvel ++ masses) h.linvel (behind c.body.angvel masses h.angvel h.masses))

  module _ (l : List Float) (h : Each f l) where
    -- k numbers from place a on
    numbers_held : (a k : ℕ) → Each f (listed (number_at l) k a)
    unfolding listed
    numbers_held a zero = tt
    numbers_held a (suc k) = (number_fits f l a h, numbers_held (suc a) k)

    vector_held : (a : ℕ) → VectorHeld f (vector_at l a)
    unfolding vector_at
    vector_held a = record { x = number_fits f l a h; y = number_fits f l (a + 1) h; z = number_fits f l (a + 2) h }

    pub wheel_of_held : WheelHeld f (wheel_of l)
    unfolding listed wheel_of info_at place_at settings_at tuning_at steering_at controls_at approach_at motion_at fallbacks_at vector_at rotation_at
    wheel_of_held = record {
      info = record {
        normal = vector_held (at.INFO-AT + at.NORMAL);
        point = vector_held (at.INFO-AT + at.POINT);
        length = number_fits f l (at.INFO-AT + at.LENGTH) h;
        hard = vector_held (at.INFO-AT + at.HARD);
      };
      place = record { centre = vector_held (at.PLACE-AT + at.CENTRE); direction = vector_held (at.PLACE-AT + at.WORLD-DIRECTION); axle = vector_held (at.PLACE-AT + at.WORLD-AXLE) };
      settings = numbers_held at.SETTINGS-AT at.SETTINGS;
      controls = numbers_held at.CONTROLS-AT at.CONTROLS;
      approach = numbers_held at.APPROACH-AT at.APPROACH;
      motion = numbers_held at.MOTION-AT at.MOTION;
      fallbacks = numbers_held at.FALLBACKS-AT at.FALLBACKS;
    }

    pub chassis_of_held : ChassisHeld f (chassis_of l)
    unfolding listed chassis_of vector_at rotation_at inertia_at
    chassis_of_held = record {
      pose = numbers_held at.TRANSLATION at.LINVEL;
      linvel = vector_held at.LINVEL;
      angvel = vector_held at.ANGVEL;
      masses = numbers_held at.INVMASS (at.KEPT - at.INVMASS);
    }
