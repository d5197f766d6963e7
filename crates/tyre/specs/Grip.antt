-- Document 01, rule 8, and the brake's clamp of rule 7, on plain numbers: the two demands of one grounded wheel against its grip limit. Definitions only.
use Rattle.std.specs.Prelude.{Bool, cond, Float}
use Rattle.std.specs.Float.{Format}
use Rattle.std.specs.Float.Ieee.{neg, add, mul, lt}
use Rattle.real.specs.Number.{zero, one, half}
use Rattle.real.specs.Root.{root_of}
use Rattle.real.specs.Scalar.{inverse_of, clamp_of}
use Rattle.tyre.specs.declared.Friction.{Friction}

-- the left side of the slide test: (forward × 0.5)² + side²
unfoldable pub load_of : Format → Float → Float → Float
load_of f forward side = add f (mul f (mul f forward half) (mul f forward half)) (mul f side side)

-- the slide test: (forward × 0.5)² + side² > limit²
unfoldable pub slides : Format → Float → Float → Float → Bool
slides f forward side limit = lt (mul f limit limit) (load_of f forward side)

-- skid = limit × inv(root of the left side), else 1
unfoldable pub skid_of : Format → Float → Float → Float → Float
skid_of f forward side limit = cond (slides f forward side limit) (mul f limit (inverse_of f (root_of f (load_of f forward side)))) one

-- the demand with its skid, as rule 8 finds them before the rescale
unfoldable pub with_skid : Format → Float → Float → Float → Friction
with_skid f forward side limit = record { forward = forward; side = side; skid = skid_of f forward side limit }

-- airborne: impulses 0, skid 1
abbrev pub airborne : Friction
airborne = record { forward = zero; side = zero; skid = one }

-- if skid < 1, the impulse is multiplied by it
unfoldable pub rescaled_by : Format → Float → Float → Float
rescaled_by f skid impulse = cond (lt skid one) (mul f impulse skid) impulse

-- both impulses, also where the side impulse is zero
unfoldable pub rescaled_of : Format → Friction → Friction
rescaled_of f d = record { forward = rescaled_by f d.skid d.forward; side = rescaled_by f d.skid d.side; skid = d.skid }

-- rule 7: clamped to ± brake
unfoldable pub braked_of : Float → Float → Float
braked_of brake x = clamp_of x (neg brake) brake

-- rule 6: the grip limit uses the uncut force: force × dt × slip
unfoldable pub limit_of : Format → Float → Float → Float → Float
limit_of f force dt slip = mul f (mul f force dt) slip
