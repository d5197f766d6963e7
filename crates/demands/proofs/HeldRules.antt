-- What each rule makes of a wheel, and of the chassis, when the format holds their numbers. In order: rule 1; rules 3 to 5; rules 6 to 8; the answers on the directions; rule 10; a new wheel and its controls; an impulse. Assumes nothing.
use Prim.Native.Nat.{ℕ}
use mathlib.Core.Bool.{Bool, true, false, cond}
use mathlib.Core.List.{List, [], ◌∷◌, ◌++◌}
use lib.Dec.{T}
use lib.ListN.{replicate}
use Rattle.std.specs.Prelude.{Option}
use lib.Ieee.{Float, Format, neg, mul, div, le, lt, eq, ne, fits}
use lib.Ieee.Fits.{cond-fits, add-fits, sub-fits, mul-fits, div-fits}
use Rattle.real.specs.Number.{zero, one}
use Rattle.real.specs.Scalar.{not_below_zero, flag_number}
use Rattle.real.proofs.Clamping.{clamp_fits}
use Rattle.vector.specs.declared.Vector.{Vector}
use Rattle.vector.specs.declared.Pose.{Pose}
use Rattle.vector.specs.Arithmetic.{zero_v, transform_point}
use Rattle.body.specs.declared.Body.{Body}
use Rattle.body.specs.declared.Chassis.{Chassis}
use Rattle.body.specs.Body.{apply_impulse_at_point}
use Rattle.tyre.specs.declared.Approach.{Approach}
use Rattle.tyre.specs.declared.Friction.{Friction}
use Rattle.tyre.specs.declared.WheelTuning.{WheelTuning}
use Rattle.tyre.specs.Suspension.{suspension_length, approach_of, suspension_force, clip}
use Rattle.tyre.specs.Demand.{side_response, rolling_response, rolling_of}
use Rattle.tyre.specs.Grip.{with_skid, rescaled_of, limit_of}
use Rattle.tyre.proofs.Brake.{one_fits, rescaled_fits, skid_fits, braked_fits}
use Rattle.wheel.specs.declared.Settings.{Settings}
use Rattle.wheel.specs.declared.Steering.{Steering}
use Rattle.wheel.specs.declared.Steering.TheVariants.{ByRotation, ByAngle}
use Rattle.wheel.specs.declared.Controls.{Controls}
use Rattle.wheel.specs.declared.KeptControls.{KeptControls}
use Rattle.wheel.specs.declared.Directions.{Directions}
use Rattle.body.specs.declared.GroundBody.{GroundBody}
use Rattle.wheel.specs.declared.Motion.{Motion}
use Rattle.wheel.specs.declared.Wheel.{Wheel}
use Rattle.wheel.specs.declared.RayAnswer.{RayAnswer}
use Rattle.wheel.specs.declared.RayAnswer.TheVariants.{Nothing, Hit, HitUp}
use Rattle.wheel.specs.Parts.{with_info, with_approach, with_motion, with_controls, with_friction, with_fallbacks, friction_in}
use Rattle.wheel.specs.Steering.{identity, kept_steering, kept_controls}
use Rattle.wheel.specs.Ray.{centre_of, update_wheel_transform, upward_normal, is_undefined, contact_normal, hit_of, miss_of, ray_cast}
use Rattle.road.specs.Contact.{fallbacks_of}
use Rattle.road.specs.Step.{contact_force, wheel_force, wheel_limit, suspended_of, side_demand, rolling_demand, friction_of, spun_by, update_rotation}
use Rattle.table.specs.Layout as at
use Rattle.table.specs.Rows.{vector_list, tuning_list, approach_list, motion_list, fallbacks_list, settings_list, steering_list, controls_list, handed_steering, handed_controls}
use Rattle.add_wheel.specs.Add.{blank_wheel, new_wheel}
use Rattle.demands.specs.Held.{normals_in}
use Rattle.demands.proofs.Each.{Each, each_replicate}
use Rattle.demands.proofs.HeldWheel.{VectorHeld, WheelHeld, ChassisHeld, vector_first, wheel_of_held, added_held, negated_held, rotated_held, chosen_held}

module _ (f : Format) where
  pub zero_fits : T (fits f zero)
  unfolding fits
  zero_fits = tt

  -- ---- rule 1
  pub transform_held : (pose : Pose) (w : Wheel) → WheelHeld f w → WheelHeld f (update_wheel_transform f pose w)
  unfolding update_wheel_transform transform_point centre_of
  transform_held pose w h = record {
    info = record { normal = h.info.normal; point = h.info.point; length = h.info.length; hard = added_held f _ _ };
    place = record { centre = added_held f _ _; direction = rotated_held f _ _; axle = rotated_held f _ _ };
    settings = h.settings;
    controls = h.controls;
    approach = h.approach;
    motion = h.motion;
    fallbacks = h.fallbacks;
  }

  -- ---- rules 3 to 5
  approach_held : (facing speed : Float) → Each f (approach_list (approach_of f facing speed))
  unfolding approach_of
  approach_held facing speed = either (le (neg (clip f)) facing)
    where
      either : (b : Bool) → Each f (approach_list (cond b (record { velocity = zero; inverse = div f one (clip f) }) (record { velocity = mul f speed (div f (neg one) facing); inverse = div f (neg one) facing })))
      either true = (zero_fits, (div-fits f _ _, tt))
      either false = (mul-fits f _ _, (div-fits f _ _, tt))

  -- a wheel with other contact data
  met_held : (w : Wheel) (normal point : Vector) (length : Float) (approach : Approach) → VectorHeld f normal → VectorHeld f point → T (fits f length) → Each f (approach_list approach) → WheelHeld f w
      → WheelHeld f (with_approach (with_info w (record { normal = normal; point = point; length = length; hard = w.info.hard })) approach)
  met_held w normal point length approach n p l a h = record {
    info = record { normal = n; point = p; length = l; hard = h.info.hard };
    place = h.place;
    settings = h.settings;
    controls = h.controls;
    approach = a;
    motion = h.motion;
    fallbacks = h.fallbacks;
  }

  length_fits : (rest travel radius time : Float) → T (fits f (suspension_length f rest travel radius time))
  unfolding suspension_length
  length_fits rest travel radius time = clamp_fits f _ _ _ (sub-fits f rest travel) (add-fits f rest travel) (sub-fits f _ _)

  hit_held : (tuning : WheelTuning) (chassis : Body) (time : Float) (normal : Vector) (w : Wheel) → VectorHeld f normal → WheelHeld f w → WheelHeld f (hit_of f tuning chassis time normal w)
  unfolding hit_of
  hit_held tuning chassis time normal w n h = met_held w normal _ _ _ n (added_held f _ _) (length_fits _ _ _ _) (approach_held _ _) h

  miss_held : (w : Wheel) → WheelHeld f w → WheelHeld f (miss_of f w)
  unfolding miss_of
  miss_held w h = met_held w _ _ _ _ (negated_held f _ h.place.direction) (added_held f _ _) h.settings.1.1.1.1.1.1.1.1.1.0 (zero_fits, (one_fits f, tt)) h

  normal_held : (time : Float) (normal direction : Vector) → VectorHeld f normal → VectorHeld f direction → VectorHeld f (contact_normal time normal direction)
  unfolding contact_normal
  normal_held time normal direction n d = chosen_held f (is_undefined time normal) _ _ (negated_held f direction d) n

  upward_held : (time : Float) (normal upward : Vector) → VectorHeld f normal → VectorHeld f upward → VectorHeld f (upward_normal time normal upward)
  unfolding upward_normal
  upward_held time normal upward n u = chosen_held f (eq time zero) _ _ (negated_held f upward u) n

  pub cast_held : (tuning : WheelTuning) (chassis : Body) (answer : RayAnswer) (w : Wheel) → Each f (normals_in answer) → WheelHeld f w → WheelHeld f (ray_cast f tuning chassis answer w)
  unfolding ray_cast normals_in
  cast_held tuning chassis Nothing w n h = miss_held w h
  cast_held tuning chassis (Hit time normal named) w n h = hit_held tuning chassis time _ w (normal_held time normal _ (vector_first f normal [] n) h.place.direction) h
  cast_held tuning chassis (HitUp time normal upward named) w n h =
      let own = vector_first f normal (vector_list upward) n in
      let above = vector_first f upward [] n.1.1.1 in
      hit_held tuning chassis time _ w (normal_held time _ _ (upward_held time normal upward own above) h.place.direction) h

  -- ---- rules 6 to 8
  -- a wheel with another motion
  moving_held : (w : Wheel) (motion : Motion) → Each f (motion_list motion) → WheelHeld f w → WheelHeld f (with_motion w motion)
  moving_held w motion m h = record {
    info = h.info;
    place = h.place;
    settings = h.settings;
    controls = h.controls;
    approach = h.approach;
    motion = m;
    fallbacks = h.fallbacks;
  }

  spring_fits : (tuning : WheelTuning) (rest length : Float) (approach : Approach) (invmass : Float) → T (fits f (suspension_force f tuning rest length approach invmass))
  unfolding suspension_force not_below_zero
  spring_fits tuning rest length approach invmass = not_below _ (mul-fits f _ _)
    where
      not_below : (x : Float) → T (fits f x) → T (fits f (not_below_zero x))
      not_below x h = cond-fits f (lt zero x) x zero h zero_fits

  force_fits : (tuning : WheelTuning) (invmass : Float) (contact : Bool) (w : Wheel) → T (fits f (wheel_force f tuning invmass contact w))
  unfolding wheel_force contact_force
  force_fits tuning invmass contact w = cond-fits f contact _ zero (spring_fits tuning _ _ _ invmass) zero_fits

  pub suspended_held : (tuning : WheelTuning) (invmass : Float) (contact : Bool) (w : Wheel) → WheelHeld f w → WheelHeld f (suspended_of f tuning invmass contact w)
  unfolding suspended_of
  suspended_held tuning invmass contact w h =
      let m = h.motion in
      moving_held w _ (m.0, (m.1.0, (force_fits tuning invmass contact w, (m.1.1.1.0, (m.1.1.1.1.0, (m.1.1.1.1.1.0, tt)))))) h

  pub record FrictionHeld (d : Friction) : Type 0 where
    pub forward : T (fits f d.forward)
    pub side : T (fits f d.side)
    pub skid : T (fits f d.skid)

  pub rubbed_held : (w : Wheel) (d : Friction) → FrictionHeld d → WheelHeld f w → WheelHeld f (with_friction w d)
  rubbed_held w d r h = let m = h.motion in moving_held w _ (m.0, (m.1.0, (m.1.1.0, (r.forward, (r.side, (r.skid, tt)))))) h

  pub uncut_fits : (speed sum : Float) (grounded : ℕ) → T (fits f (rolling_response f speed sum grounded))
  unfolding rolling_response
  uncut_fits speed sum grounded = div-fits f _ _

  pub rolling_fits : (dt : Float) (chassis : Body) (ground : Option GroundBody) (grounded : ℕ) (forward : Vector) (w : Wheel) → T (fits f w.controls.brake) → T (fits f (rolling_demand f dt chassis ground grounded forward w))
  unfolding rolling_demand rolling_of
  rolling_fits dt chassis ground grounded forward w b =
      cond-fits f (ne w.controls.engine zero) _ _ (mul-fits f _ _) (braked_fits f w.controls.brake _ b (uncut_fits _ _ grounded))

  pub side_fits : (tuning : WheelTuning) (chassis : Body) (ground : Option GroundBody) (axis : Vector) (w : Wheel) → T (fits f (side_demand f tuning chassis ground axis w))
  unfolding side_demand side_response
  side_fits tuning chassis ground axis w = mul-fits f _ _

  pub limit_fits : (tuning : WheelTuning) (dt : Float) (w : Wheel) → T (fits f (wheel_limit f tuning dt w))
  unfolding wheel_limit limit_of
  limit_fits tuning dt w = mul-fits f _ _

  pub friction_held : (tuning : WheelTuning) (dt : Float) (chassis : Body) (contact : Bool) (ground : Option GroundBody) (grounded : ℕ) (d : Directions) (w : Wheel) → WheelHeld f w
      → FrictionHeld (friction_of f tuning dt chassis contact ground grounded d w)
  unfolding friction_of with_skid
  friction_held tuning dt chassis true ground grounded d w h =
      record { forward = rolling_fits dt chassis ground grounded d.forward.vector w h.controls.1.0; side = side_fits tuning chassis ground d.axis.vector w; skid = skid_fits f _ _ _ }
  friction_held tuning dt chassis false ground grounded d w h = record { forward = zero_fits; side = zero_fits; skid = one_fits f }

  pub rescaled_held : (d : Friction) → FrictionHeld d → FrictionHeld (rescaled_of f d)
  unfolding rescaled_of
  rescaled_held d r = record { forward = rescaled_fits f d.skid d.forward r.forward; side = rescaled_fits f d.skid d.side r.side; skid = r.skid }

  pub friction_in_held : (w : Wheel) → WheelHeld f w → FrictionHeld (friction_in w)
  friction_in_held w h = let m = h.motion in record { forward = m.1.1.1.0; side = m.1.1.1.1.0; skid = m.1.1.1.1.1.0 }

  -- ---- change request 2026-05: the answers on the directions
  flag_fits : (b : Bool) → T (fits f (flag_number b))
  unfolding flag_number
  flag_fits b = cond-fits f b one zero (one_fits f) zero_fits

  pub answered_held : (w : Wheel) (contact : Bool) (d : Directions) → WheelHeld f w → WheelHeld f (with_fallbacks w (fallbacks_of contact d))
  unfolding fallbacks_of
  answered_held w contact d h = record {
    info = h.info;
    place = h.place;
    settings = h.settings;
    controls = h.controls;
    approach = h.approach;
    motion = h.motion;
    fallbacks = either contact;
  }
    where
      either : (b : Bool) → Each f (fallbacks_list (fallbacks_of b d))
      either true = (flag_fits d.axis.fellback, (flag_fits d.forward.fellback, tt))
      either false = (zero_fits, (zero_fits, tt))

  -- ---- rule 10
  pub spun_held : (dt : Float) (contact : Bool) (chassis : Body) (w : Wheel) → WheelHeld f w → WheelHeld f (update_rotation f dt contact chassis w)
  unfolding update_rotation spun_by
  spun_held dt contact chassis w h = let m = h.motion in moving_held w _ (add-fits f _ _, (mul-fits f _ _, m.1.1)) h

  -- ---- a new wheel, and other controls
  pub controlled_held : (w : Wheel) (c : KeptControls) → Each f (controls_list c) → WheelHeld f w → WheelHeld f (with_controls w c)
  controlled_held w c k h = record {
    info = h.info;
    place = h.place;
    settings = h.settings;
    controls = k;
    approach = h.approach;
    motion = h.motion;
    fallbacks = h.fallbacks;
  }

  -- controls that are kept: the other of the two steerings is a new row's
  kept_steering_held : (s : Steering) → Each f (handed_steering s) → Each f (steering_list (kept_steering s))
  unfolding kept_steering identity zero_v
  kept_steering_held (ByRotation q) h = (h.0, (h.1.0, (h.1.1.0, (h.1.1.1.0, (zero_fits, (zero_fits, tt))))))
  kept_steering_held (ByAngle angle) h = (zero_fits, (zero_fits, (zero_fits, (one_fits f, (h.0, (one_fits f, tt))))))

  pub kept_held : (c : Controls) → Each f (handed_controls c) → Each f (controls_list (kept_controls c))
  unfolding kept_controls
  kept_held c h = (h.0, (h.1.0, kept_steering_held c.steering h.1.1))

  blank_held : WheelHeld f blank_wheel
  unfolding blank_wheel
  blank_held = wheel_of_held f (replicate at.ROW zero) (each_replicate f at.ROW zero (zero_fits))

  pub new_held : (s : Settings) → Each f (settings_list s) → WheelHeld f (new_wheel s)
  unfolding new_wheel identity zero_v
  new_held s k =
      let h = blank_held in
      let z = zero_fits in
      let behind : List Float = (s.rest ∷ s.radius ∷ tuning_list s.tuning) ++ (s.roll ∷ []) in
      let towards = vector_first f s.direction (vector_list s.axle ++ behind) k.1.1.1 in
      let along = vector_first f s.axle behind k.1.1.1.1.1.1 in
      record {
        info = h.info;
        place = record { centre = record { x = z; y = z; z = z }; direction = towards; axle = along };
        settings = k;
        controls = kept_held _ (z, (z, (z, (z, (z, (one_fits f, tt))))));
        approach = h.approach;
        motion = h.motion;
        fallbacks = h.fallbacks;
      }

  -- ---- an impulse: all but the velocities stay
  pub pushed_held : (c : Chassis) (impulse p : Vector) → ChassisHeld f c → ChassisHeld f (apply_impulse_at_point f c impulse p)
  unfolding apply_impulse_at_point
  pushed_held c impulse p h = record { pose = h.pose; linvel = added_held f _ _; angvel = added_held f _ _; masses = h.masses }
