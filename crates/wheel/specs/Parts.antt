-- A wheel with one part replaced, or with some numbers of a part; and the roll influence of the source. Definitions only.
use Rattle.std.specs.Prelude.{Float}
use Rattle.std.specs.Float.{Format}
use Rattle.real.specs.Number.{ratio}
use Rattle.vector.specs.declared.Vector.{Vector}
use Rattle.tyre.specs.declared.Approach.{Approach}
use Rattle.tyre.specs.declared.Friction.{Friction}
use Rattle.wheel.specs.declared.Settings.{Settings}
use Rattle.wheel.specs.declared.KeptControls.{KeptControls}
use Rattle.wheel.specs.declared.RayCastInfo.{RayCastInfo}
use Rattle.wheel.specs.declared.Place.{Place}
use Rattle.wheel.specs.declared.Motion.{Motion}
use Rattle.wheel.specs.declared.Fallbacks.{Fallbacks}
use Rattle.wheel.specs.declared.Wheel.{Wheel}

-- ---- a part
abbrev pub with_info : Wheel → RayCastInfo → Wheel
with_info w info = record { info = info; place = w.place; settings = w.settings; controls = w.controls; approach = w.approach; motion = w.motion; fallbacks = w.fallbacks }

abbrev pub with_place : Wheel → Place → Wheel
with_place w place = record { info = w.info; place = place; settings = w.settings; controls = w.controls; approach = w.approach; motion = w.motion; fallbacks = w.fallbacks }

abbrev pub with_settings : Wheel → Settings → Wheel
with_settings w settings = record { info = w.info; place = w.place; settings = settings; controls = w.controls; approach = w.approach; motion = w.motion; fallbacks = w.fallbacks }

abbrev pub with_controls : Wheel → KeptControls → Wheel
with_controls w controls = record { info = w.info; place = w.place; settings = w.settings; controls = controls; approach = w.approach; motion = w.motion; fallbacks = w.fallbacks }

abbrev pub with_approach : Wheel → Approach → Wheel
with_approach w approach = record { info = w.info; place = w.place; settings = w.settings; controls = w.controls; approach = approach; motion = w.motion; fallbacks = w.fallbacks }

abbrev pub with_motion : Wheel → Motion → Wheel
with_motion w motion = record { info = w.info; place = w.place; settings = w.settings; controls = w.controls; approach = w.approach; motion = motion; fallbacks = w.fallbacks }

abbrev pub with_fallbacks : Wheel → Fallbacks → Wheel
with_fallbacks w fallbacks = record { info = w.info; place = w.place; settings = w.settings; controls = w.controls; approach = w.approach; motion = w.motion; fallbacks = fallbacks }

-- ---- change request 2026-07: "The source fixes it at 0.1." The fraction 1/10, rounded at the format; and settings with another roll influence
abbrev pub roll_influence : Format → Float
roll_influence f = ratio f 1 10

abbrev pub with_roll : Settings → Float → Settings
with_roll s roll = record { connection = s.connection; direction = s.direction; axle = s.axle; rest = s.rest; radius = s.radius; tuning = s.tuning; roll = roll }

-- ---- some numbers of a part: the hard point; rotation and spin; the spring's force; the impulses with the skid
abbrev pub with_hard : Wheel → Vector → Wheel
with_hard w hard = with_info w (record { normal = w.info.normal; point = w.info.point; length = w.info.length; hard = hard })

abbrev pub with_rotation : Wheel → Float → Float → Wheel
with_rotation w rotation spin =
    with_motion w (record { rotation = rotation; spin = spin; force = w.motion.force; forward = w.motion.forward; side = w.motion.side; skid = w.motion.skid })

abbrev pub with_force : Wheel → Float → Wheel
with_force w force =
    with_motion w (record {
      rotation = w.motion.rotation;
      spin = w.motion.spin;
      force = force;
      forward = w.motion.forward;
      side = w.motion.side;
      skid = w.motion.skid;
    })

abbrev pub with_friction : Wheel → Friction → Wheel
with_friction w d =
    with_motion w (record { rotation = w.motion.rotation; spin = w.motion.spin; force = w.motion.force; forward = d.forward; side = d.side; skid = d.skid })

abbrev pub friction_in : Wheel → Friction
friction_in w = record { forward = w.motion.forward; side = w.motion.side; skid = w.motion.skid }
