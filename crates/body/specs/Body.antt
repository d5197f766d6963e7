-- Document 01, "Vector arithmetic", of rigid bodies: velocity at a point and an impulse at a point; and the denominator of rule 7. Definitions only.
use Rattle.std.specs.Prelude.{Float}
use Rattle.std.specs.Float.{Format}
use Rattle.std.specs.Float.Ieee.{add}
use Rattle.vector.specs.declared.Vector.{Vector}
use Rattle.vector.specs.Arithmetic.{add_v, sub_v, parts_v, dot_v, cross_v, inertia_dot}
use Rattle.body.specs.declared.Body.{Body}
use Rattle.body.specs.declared.Chassis.{Chassis}

-- Velocity at p is linear + angular × (p − centre of mass).
unfoldable pub velocity_at_point : Format → Body → Vector → Vector
velocity_at_point f b p = add_v f b.linvel (cross_v f b.angvel (sub_v f p b.centre))

-- An impulse at p adds impulse times effective inverse mass, part by part, to the linear velocity,
-- and inverse inertia times (p − centre) × impulse to the angular.
unfoldable pub apply_impulse_at_point : Format → Chassis → Vector → Vector → Chassis
apply_impulse_at_point f c impulse p = record {
  pose = c.pose;
  body = record {
    centre = c.body.centre;
    linvel = add_v f c.body.linvel (parts_v f impulse c.effective);
    angvel = add_v f c.body.angvel (inertia_dot f c.body.inertia (cross_v f (sub_v f p c.body.centre) impulse));
    invmass = c.body.invmass;
    inertia = c.body.inertia;
  };
  effective = c.effective;
}

-- Rule 7: a denominator, n being forward, is inverse mass + n·((I(d×n))×d), d the point less the body's centre of mass.
unfoldable pub impulse_denominator : Format → Body → Vector → Vector → Float
impulse_denominator f b p n =
    let d = sub_v f p b.centre in
    add f b.invmass (dot_v f n (cross_v f (inertia_dot f b.inertia (cross_v f d n)) d))
