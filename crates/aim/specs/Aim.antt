-- Document 01, "What a vehicle keeps". Aim: takes the chassis and keeps it in the table, works out transforms (rule 1), answers signed speed (rule 2)
-- and each wheel's hard point and ray (rule 3); speed and rays are not kept; mark aimed. Definitions only.
use Rattle.std.specs.Prelude.{ℕ, cond, List, [], ◌∷◌, ◌++◌, replicate, Float}
use Rattle.std.specs.Float.{Format}
use Rattle.std.specs.Float.Ieee.{neg, lt}
use Rattle.lists.specs.Refusal.{Test, ◌or◌, first_failed}
use Rattle.real.specs.Number.{zero}
use Rattle.vector.specs.Arithmetic.{zero_v, dot_v, length_v, rotate_v, ith}
use Rattle.body.specs.declared.Chassis.{Chassis}
use Rattle.wheel.specs.declared.Wheel.{Wheel}
use Rattle.wheel.specs.Ray.{ray_of}
use Rattle.table.specs.Layout as at
use Rattle.table.specs.Rows.{put_chassis}
use Rattle.table.specs.Bounds.{stored_within}
use Rattle.passes.specs.Passes.{each_gives, transforms}
use Rattle.refusals.specs.Shape.{count_of, forward_of, shape_ok}
use Rattle.ranges.specs.Ranges.{chassis_in_range, stored_in_range}
use Rattle.refusals.specs.Handed.{chassis_handed}
use Rattle.refusals.specs.Steered.{all_steered_ok}
use Rattle.refusals.specs.After.{After, after, settled, marked}
use Rattle.aim.specs.declared.Sight.{Sight}
use Rattle.aim.specs.declared.Aimed.{Aimed}

-- Rule 2. Speed = length of the linear velocity, negated if the chassis-rotated forward axis dot velocity is below 0.
unfoldable pub speed_of : Format → ℕ → Chassis → Float
speed_of f forward c =
    cond (lt (dot_v f (rotate_v f c.pose.rotation (ith forward)) c.body.linvel) zero) (neg (length_v f c.body.linvel)) (length_v f c.body.linvel)

-- the table with the chassis kept and the first n wheels under its pose
unfoldable pub aimed_table : Format → Chassis → ℕ → List Float → List Float
aimed_table f c n t = transforms f c.pose n (put_chassis t c)

-- the hard point and the ray of each of the first n wheels; zeros for the others
unfoldable pub no_sight : Sight
no_sight = record { hard = zero_v; ray = zero_v }

unfoldable pub sight_of : Format → Wheel → Sight
sight_of f w = record { hard = w.info.hard; ray = ray_of f w }

unfoldable pub sights_of : Format → ℕ → List Float → List Sight
sights_of f n t = each_gives (sight_of f) no_sight n t

-- ---- the refusals, in the order 1, 2, 10, 17, 8 (change request 2026-11: "17, straight after 10")
unfoldable pub chassis_tests : Format → List Float → List ℕ → Chassis → List Test
chassis_tests f t m c =
    shape_ok t m or 1
    ∷ chassis_handed c or 2
    ∷ stored_within t (count_of m) or 2
    ∷ chassis_in_range f c or 10
    ∷ stored_in_range f t (count_of m) or 10
    ∷ []

unfoldable pub place_tests : Format → Chassis → ℕ → List Float → List Test
place_tests f c n t = all_steered_ok f (aimed_table f c n t) n or 17 ∷ stored_within (aimed_table f c n t) n or 8 ∷ []

unfoldable pub refuse_aim : Format → List Float → List ℕ → Chassis → ℕ
refuse_aim f t m c = first_failed (chassis_tests f t m c ++ place_tests f c (count_of m) t)

-- ---- the reply: its number, the signed speed and a sight for each wheel, zeros where it is refused
pub record AimReply : Type 0 where
  pub number : ℕ
  pub speed : Float
  pub sights : List Sight

-- what the code answers as the reply
abbrev pub aim_reply : Aimed → AimReply
aim_reply a = record { number = 0; speed = a.speed; sights = a.sights }

unfoldable pub not_aimed : ℕ → AimReply
not_aimed number = record { number = number; speed = zero; sights = replicate at.WHEELS no_sight }

unfoldable pub aimed_by : Format → ℕ → Chassis → ℕ → List Float → AimReply
aimed_by f forward c n t = record { number = 0; speed = speed_of f forward c; sights = sights_of f n t }

unfoldable pub aim_of : Format → List Float → List ℕ → Chassis → After AimReply
aim_of f t m c =
    let placed = aimed_table f c (count_of m) t in
    settled (refuse_aim f t m c) not_aimed (after (aimed_by f (forward_of m) c (count_of m) placed) placed (marked m at.AIMED)) t m
