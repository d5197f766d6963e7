-- A wheel as a row of the lent table, the kept chassis, and a lent ground body, each as a list of numbers and back. Definitions only.
use Rattle.std.specs.Prelude.{ℕ, ◌+◌, ◌*◌, List, [], ◌∷◌, ◌++◌, get_or, Float}
use Rattle.std.specs.Float.{nan}
use Rattle.lists.specs.Part.{part, paste}
use Rattle.vector.specs.declared.Vector.{Vector}
use Rattle.vector.specs.declared.Rotation.{Rotation}
use Rattle.vector.specs.declared.Inertia.{Inertia}
use Rattle.body.specs.declared.Body.{Body}
use Rattle.body.specs.declared.Chassis.{Chassis}
use Rattle.tyre.specs.declared.WheelTuning.{WheelTuning}
use Rattle.tyre.specs.declared.Approach.{Approach}
use Rattle.wheel.specs.declared.Settings.{Settings}
use Rattle.wheel.specs.declared.Steering.{Steering}
use Rattle.wheel.specs.declared.Steering.TheVariants.{ByRotation, ByAngle}
use Rattle.wheel.specs.declared.Controls.{Controls}
use Rattle.wheel.specs.declared.KeptSteering.{KeptSteering}
use Rattle.wheel.specs.declared.KeptControls.{KeptControls}
use Rattle.wheel.specs.declared.RayCastInfo.{RayCastInfo}
use Rattle.wheel.specs.declared.Place.{Place}
use Rattle.wheel.specs.declared.Motion.{Motion}
use Rattle.wheel.specs.declared.Fallbacks.{Fallbacks}
use Rattle.wheel.specs.declared.Wheel.{Wheel}
use Rattle.table.specs.Layout as at

-- ---- what stands at a place
abbrev pub number_at : List Float → ℕ → Float
number_at l a = get_or l a nan

unfoldable pub vector_at : List Float → ℕ → Vector
vector_at l a = record { x = number_at l a; y = number_at l (a + 1); z = number_at l (a + 2) }

unfoldable pub rotation_at : List Float → ℕ → Rotation
rotation_at l a = record { b = vector_at l a; w = number_at l (a + 3) }

unfoldable pub inertia_at : List Float → ℕ → Inertia
inertia_at l a = record { xx = number_at l a; xy = number_at l (a + 1); xz = number_at l (a + 2); yy = number_at l (a + 3); yz = number_at l (a + 4); zz = number_at l (a + 5) }

-- ---- the numbers of a vector, a rotation and an inertia, in order
abbrev pub vector_list : Vector → List Float
vector_list v = v.x ∷ v.y ∷ v.z ∷ []

abbrev pub rotation_list : Rotation → List Float
rotation_list q = vector_list q.b ++ (q.w ∷ [])

abbrev pub inertia_list : Inertia → List Float
inertia_list i = i.xx ∷ i.xy ∷ i.xz ∷ i.yy ∷ i.yz ∷ i.zz ∷ []

-- ---- each part of a wheel, as it stands in a list from place a on, and its numbers in that order
unfoldable pub info_at : List Float → ℕ → RayCastInfo
info_at l a = record { normal = vector_at l (a + at.NORMAL); point = vector_at l (a + at.POINT); length = number_at l (a + at.LENGTH); hard = vector_at l (a + at.HARD) }

abbrev pub info_list : RayCastInfo → List Float
info_list i = vector_list i.normal ++ vector_list i.point ++ (i.length ∷ []) ++ vector_list i.hard

unfoldable pub place_at : List Float → ℕ → Place
place_at l a = record { centre = vector_at l (a + at.CENTRE); direction = vector_at l (a + at.WORLD-DIRECTION); axle = vector_at l (a + at.WORLD-AXLE) }

abbrev pub place_list : Place → List Float
place_list p = vector_list p.centre ++ vector_list p.direction ++ vector_list p.axle

unfoldable pub tuning_at : List Float → ℕ → WheelTuning
tuning_at l a = record {
  stiffness = number_at l (a + at.STIFFNESS);
  compression = number_at l (a + at.COMPRESSION);
  damping = number_at l (a + at.DAMPING);
  travel = number_at l (a + at.TRAVEL);
  sideways = number_at l (a + at.SIDEWAYS);
  slip = number_at l (a + at.SLIP);
  most = number_at l (a + at.MOST);
}

abbrev pub tuning_list : WheelTuning → List Float
tuning_list t = t.stiffness ∷ t.compression ∷ t.damping ∷ t.travel ∷ t.sideways ∷ t.slip ∷ t.most ∷ []

unfoldable pub settings_at : List Float → ℕ → Settings
settings_at l a = record {
  connection = vector_at l (a + at.CONNECTION);
  direction = vector_at l (a + at.DIRECTION);
  axle = vector_at l (a + at.AXLE);
  rest = number_at l (a + at.REST);
  radius = number_at l (a + at.RADIUS);
  tuning = tuning_at l (a + at.TUNING-AT);
  roll = number_at l (a + at.ROLL);
}

abbrev pub settings_list : Settings → List Float
settings_list s = vector_list s.connection ++ vector_list s.direction ++ vector_list s.axle ++ (s.rest ∷ s.radius ∷ tuning_list s.tuning) ++ (s.roll ∷ [])

unfoldable pub steering_at : List Float → ℕ → KeptSteering
steering_at l a = record { rotation = rotation_at l (a + at.STEERING-ROTATION); angle = number_at l (a + at.STEERING-ANGLE); kind = number_at l (a + at.STEERING-KIND) }

abbrev pub steering_list : KeptSteering → List Float
steering_list k = rotation_list k.rotation ++ (k.angle ∷ k.kind ∷ [])

unfoldable pub controls_at : List Float → ℕ → KeptControls
controls_at l a = record { engine = number_at l (a + at.ENGINE); brake = number_at l (a + at.BRAKE); steering = steering_at l (a + at.STEERING-AT) }

abbrev pub controls_list : KeptControls → List Float
controls_list c = c.engine ∷ c.brake ∷ steering_list c.steering

-- ---- controls as they are handed in, with a rotation or with an angle, and their numbers in that order
unfoldable pub by_rotation_at : List Float → ℕ → Controls
by_rotation_at l a = record { engine = number_at l (a + at.ENGINE); brake = number_at l (a + at.BRAKE); steering = ByRotation (rotation_at l (a + at.STEERING-AT)) }

unfoldable pub by_angle_at : List Float → ℕ → Controls
by_angle_at l a = record { engine = number_at l (a + at.ENGINE); brake = number_at l (a + at.BRAKE); steering = ByAngle (number_at l (a + at.STEERING-AT)) }

abbrev pub handed_steering : Steering → List Float
handed_steering (ByRotation q) = rotation_list q
handed_steering (ByAngle angle) = angle ∷ []

abbrev pub handed_controls : Controls → List Float
handed_controls c = c.engine ∷ c.brake ∷ handed_steering c.steering

unfoldable pub approach_at : List Float → ℕ → Approach
approach_at l a = record { velocity = number_at l (a + at.VELOCITY); inverse = number_at l (a + at.INVERSE) }

abbrev pub approach_list : Approach → List Float
approach_list a = a.velocity ∷ a.inverse ∷ []

unfoldable pub motion_at : List Float → ℕ → Motion
motion_at l a = record {
  rotation = number_at l (a + at.ROTATION);
  spin = number_at l (a + at.SPIN);
  force = number_at l (a + at.FORCE);
  forward = number_at l (a + at.FORWARD-IMPULSE);
  side = number_at l (a + at.SIDE-IMPULSE);
  skid = number_at l (a + at.SKID);
}

abbrev pub motion_list : Motion → List Float
motion_list m = m.rotation ∷ m.spin ∷ m.force ∷ m.forward ∷ m.side ∷ m.skid ∷ []

unfoldable pub fallbacks_at : List Float → ℕ → Fallbacks
fallbacks_at l a = record { axis = number_at l (a + at.AXIS-FALLBACK); forward = number_at l (a + at.FORWARD-FALLBACK) }

abbrev pub fallbacks_list : Fallbacks → List Float
fallbacks_list b = b.axis ∷ b.forward ∷ []

-- ---- a row
unfoldable pub wheel_of : List Float → Wheel
wheel_of r = record {
  info = info_at r at.INFO-AT;
  place = place_at r at.PLACE-AT;
  settings = settings_at r at.SETTINGS-AT;
  controls = controls_at r at.CONTROLS-AT;
  approach = approach_at r at.APPROACH-AT;
  motion = motion_at r at.MOTION-AT;
  fallbacks = fallbacks_at r at.FALLBACKS-AT;
}

unfoldable pub row_of : Wheel → List Float
row_of w =
    info_list w.info
    ++ place_list w.place
    ++ settings_list w.settings
    ++ controls_list w.controls
    ++ approach_list w.approach
    ++ motion_list w.motion
    ++ fallbacks_list w.fallbacks

-- ---- wheel i of a table, and the table with another wheel i
abbrev pub row_start : ℕ → ℕ
row_start i = at.KEPT + i * at.ROW

unfoldable pub wheel_at : List Float → ℕ → Wheel
wheel_at t i = wheel_of (part t (row_start i) at.ROW)

unfoldable pub put_wheel : List Float → ℕ → Wheel → List Float
put_wheel t i w = paste t (row_start i) (row_of w)

-- ---- the kept chassis
unfoldable pub chassis_of : List Float → Chassis
chassis_of l = record {
  pose = record { translation = vector_at l at.TRANSLATION; rotation = rotation_at l at.ORIENTATION };
  body = record {
    centre = vector_at l at.MASS-CENTRE;
    linvel = vector_at l at.LINVEL;
    angvel = vector_at l at.ANGVEL;
    invmass = number_at l at.INVMASS;
    inertia = inertia_at l at.INERTIA;
  };
  effective = vector_at l at.EFFECTIVE;
}

unfoldable pub chassis_list : Chassis → List Float
chassis_list c =
    vector_list c.pose.translation
    ++ rotation_list c.pose.rotation
    ++ vector_list c.body.centre
    ++ vector_list c.body.linvel
    ++ vector_list c.body.angvel
    ++ (c.body.invmass ∷ [])
    ++ vector_list c.effective
    ++ inertia_list c.body.inertia

unfoldable pub chassis_at : List Float → Chassis
chassis_at t = chassis_of (part t 0 at.KEPT)

unfoldable pub put_chassis : List Float → Chassis → List Float
put_chassis t c = paste t 0 (chassis_list c)

-- ---- ground body i of a lent list
unfoldable pub body_of : List Float → Body
body_of l = record {
  centre = vector_at l at.BODY-CENTRE;
  linvel = vector_at l at.BODY-LINVEL;
  angvel = vector_at l at.BODY-ANGVEL;
  invmass = number_at l at.BODY-INVMASS;
  inertia = inertia_at l at.BODY-INERTIA;
}

unfoldable pub body_at : List Float → ℕ → Body
body_at l i = body_of (part l (i * at.BODY) at.BODY)
