-- The theorems of demands/proofs/Demands.antt on histories, accepted calls and wheels, each applied to what the kernel has worked out; those on refusals are applied in Refused.antt, those on roll influences in Rolls.antt. Assumes nothing.
use Prim.Native.Nat.{◌^◌}
use mathlib.Core.Bool.{true, false}
use mathlib.Core.List.{List, [], ◌∷◌}
use mathlib.Core.Path.{◌≡◌, refl}
use lib.Dec.{lit<}
use lib.Ieee.{binary32}
use Rattle.real.specs.Number.{zero, one, two, half}
use Rattle.marked.specs.Numbers.{three, four, twelve}
use Rattle.tyre.specs.Demand3.{Grips, WithinBrake}
use Rattle.table.specs.Layout as at
use Rattle.table.specs.Rows.{wheel_at, chassis_at}
use Rattle.refusals.specs.Shape.{count_of, up_of, forward_of}
use Rattle.refusals.specs.Normals.{normals_ok}
use Rattle.refusals.specs.After.{after, marked}
use Rattle.passes.specs.Passes.{stored}
use Rattle.passes.specs.Step.{whole_step}
use Rattle.read_wheel.specs.Read.{refuse_read, reading_of, read_wheel}
use Rattle.aim.specs.Aim.{aim_of, refuse_aim, aimed_by, aimed_table}
use Rattle.drive.specs.Drive.{drive_of, driven_by}
use Rattle.demands.specs.History.{State, Call, SetUp, SetControls, Drive, ReadWheel, accepted, run, run_all, driven_since, read_after}
use Rattle.demands.specs.Held.{Held, hands_held, HandsHeld}
use Rattle.demands.specs.Update.{Placed, update_of, updated}
use Rattle.demands.specs.Impulses.{Step, Accepted, Stepped, step_after, driven_wheel, forward_demand, side_demand, forward_impulse, side_impulse, skid_at}
use Rattle.demands.specs.Settled.{after_drive, read_after_drive, quiet, with_length, centre_under, is_finite}
use Rattle.demands.proofs.Demands as demands
use Rattle.witnesses.specs.Car.{minus_two, minus_four, five_halves, vector, front, pressed, rolling, road, stretched}
use Rattle.witnesses.specs.Calls.{lent, fitted, aimed, other_driven, other_calls, left_by, raised, placed, the_drive, other_drive}
use Rattle.witnesses.specs.Opened.{opened}
use Rattle.witnesses.proofs.Drives.{drive_accepted, stepped, front_grounded, front_limit, front_slides, rear_grounded, rear_grips, rear_unpowered, lifted_unpowered, other_accepted, alike}

-- ---- demand 1: a history that is not driven, one that was driven and is aimed again, and one that is driven
pub set_up_accepted : accepted binary32 (SetUp 1 0) lent ≡ true
unfolding opened
set_up_accepted = refl

pub witness_not_driven_refused : read_after binary32 (SetUp 1 0 ∷ aimed) lent 0 ≡ 5
unfolding opened
witness_not_driven_refused = demands.not_driven_refused binary32 lent 1 0 aimed set_up_accepted 0 (lit< tt) refl

pub witness_aimed_again_refused : read_after binary32 (SetUp 1 0 ∷ other_calls) lent 0 ≡ 5
unfolding opened
witness_aimed_again_refused = demands.not_driven_refused binary32 lent 1 0 other_calls set_up_accepted 0 (lit< tt) refl

driven_since_lem : driven_since binary32 (SetUp 1 0 ∷ other_driven) lent ≡ true
unfolding opened
driven_since_lem = refl

pub witness_driven_not_refused : read_after binary32 (SetUp 1 0 ∷ other_driven) lent 0 ≡ 5 → ⊥
unfolding opened
witness_driven_not_refused = demands.driven_not_refused binary32 lent 1 0 other_driven set_up_accepted 0 (lit< tt) driven_since_lem

read_accepted : accepted binary32 (ReadWheel 0) (left_by other_driven) ≡ true
unfolding opened
read_accepted = refl

pub witness_read_only_when_driven : driven_since binary32 (SetUp 1 0 ∷ other_driven) lent ≡ true
witness_read_only_when_driven = demands.read_only_when_driven binary32 lent 1 0 other_driven set_up_accepted 0 read_accepted

-- ---- the normals of an accepted drive; those of a set that was scaled are none
pub witness_accepted_normals : normals_ok binary32 (road.answer 0) ≡ true
witness_accepted_normals = demands.accepted_normals binary32 the_drive.table the_drive.whole road 3 0 drive_accepted (lit< tt)

pub stretched_are_none : normals_ok binary32 (stretched.answer 0) ≡ false
unfolding opened
stretched_are_none = refl

-- ---- the two centres after the drive. The front wheel settles on the ground, its radius of 1 above it; the old centre still hangs at the hard point, at the length 0 of a new wheel
pub witness_driven_is_read : (read_after_drive binary32 the_drive 0).reply ≡ reading_of binary32 (driven_wheel binary32 the_drive 0)
witness_driven_is_read = demands.driven_is_read binary32 the_drive 0 drive_accepted (lit< tt)

pub witness_settled_after_drive : (read_after_drive binary32 the_drive 0).reply.settled ≡ vector two one one
unfolding opened
witness_settled_after_drive = demands.settled_after_drive binary32 the_drive 0 drive_accepted (lit< tt)

pub witness_centre_after_drive : (read_after_drive binary32 the_drive 0).reply.centre ≡ raised front.connection
unfolding opened
witness_centre_after_drive = demands.centre_after_drive binary32 the_drive 0 drive_accepted (lit< tt)

-- controls that are set after the drive of the second history, and a read, leave the settled centre where it was
abbrev calm : List Call
calm = SetControls 1 (pressed zero zero) ∷ ReadWheel 0 ∷ []

is_quiet : quiet binary32 calm (after_drive binary32 other_drive) ≡ true
unfolding opened
is_quiet = refl

read_again : accepted binary32 (ReadWheel 0) (run_all binary32 calm (after_drive binary32 other_drive)) ≡ true
unfolding opened
read_again = refl

pub witness_settled_until_next :
    (read_wheel binary32 (run_all binary32 calm (after_drive binary32 other_drive)).table (run_all binary32 calm (after_drive binary32 other_drive)).whole 0).reply.settled
    ≡ (read_after_drive binary32 other_drive 0).reply.settled
witness_settled_until_next = demands.settled_until_next binary32 other_drive 0 other_accepted (lit< tt) calm is_quiet read_again

-- ---- demand 2
abbrev car : State
car = left_by fitted

aim_accepted : refuse_aim binary32 car.table car.whole (rolling twelve) ≡ 0
unfolding opened
aim_accepted = refl

pub witness_accepted_aim :
    aim_of binary32 car.table car.whole (rolling twelve)
    ≡ after (aimed_by binary32 (forward_of car.whole) (rolling twelve) (count_of car.whole) (aimed_table binary32 (rolling twelve) (count_of car.whole) car.table))
    (aimed_table binary32 (rolling twelve) (count_of car.whole) car.table) (marked car.whole at.AIMED)
witness_accepted_aim = demands.accepted_aim binary32 car.table car.whole (rolling twelve) aim_accepted

pub witness_accepted_drive :
    drive_of binary32 the_drive.table the_drive.whole road 3
    ≡ after (driven_by the_drive.table 3 (whole_step binary32 stored (up_of the_drive.whole) road 3 the_drive.table))
    (whole_step binary32 stored (up_of the_drive.whole) road 3 the_drive.table).table (marked the_drive.whole at.DRIVEN)
witness_accepted_drive = demands.accepted_drive binary32 the_drive.table the_drive.whole road 3 drive_accepted

-- the aim and the drive after it, as one update of the car as it was before them
pub witness_aim_then_drive :
    ((aim_of binary32 car.table car.whole (rolling twelve)).reply.speed ≡ (update_of binary32 1 0 (rolling twelve) road 3 car.table).speed)
    × (drive_of binary32 (aim_of binary32 car.table car.whole (rolling twelve)).table (aim_of binary32 car.table car.whole (rolling twelve)).whole road 3
    ≡ updated binary32 car.whole (rolling twelve) road 3 car.table)
unfolding opened
witness_aim_then_drive = demands.aim_then_drive binary32 car.table car.whole (rolling twelve) road 3 aim_accepted refl

-- the front wheel of the aimed car is placed under the kept chassis, and the drive that follows ends one update
pub witness_aimed_transforms : Placed binary32 (left_by aimed).table 0
unfolding opened
witness_aimed_transforms = demands.aimed_transforms binary32 lent 1 0 aimed set_up_accepted refl 0 (lit< tt)

pub then_driven : accepted binary32 (Drive road 3) (left_by aimed) ≡ true
unfolding opened
then_driven = refl

pub witness_drive_is_update :
    drive_of binary32 (left_by aimed).table (left_by aimed).whole road 3 ≡ updated binary32 (left_by aimed).whole (chassis_at (left_by aimed).table) road 3 (left_by aimed).table
witness_drive_is_update = demands.drive_is_update binary32 lent 1 0 aimed set_up_accepted road 3 then_driven

-- ---- the centres of that drive by rule 1, and the next aim
abbrev aimed_driven : Step
aimed_driven = step_after binary32 (SetUp 1 0 ∷ aimed) lent road 3

then_driven_accepted : Accepted binary32 aimed_driven
unfolding opened
then_driven_accepted = refl

pub witness_settled_is_rule_1 : (read_after_drive binary32 aimed_driven 0).reply.settled ≡ centre_under binary32 (rolling twelve).pose (with_length (placed front (pressed twelve zero)) half)
unfolding opened
witness_settled_is_rule_1 = demands.settled_is_rule_1 binary32 lent 1 0 aimed set_up_accepted road 3 0 then_driven_accepted (lit< tt)

pub witness_centre_is_rule_1 : (read_after_drive binary32 aimed_driven 0).reply.centre ≡ centre_under binary32 (rolling twelve).pose (placed front (pressed twelve zero))
unfolding opened
witness_centre_is_rule_1 = demands.centre_is_rule_1 binary32 lent 1 0 aimed set_up_accepted road 3 0 then_driven_accepted (lit< tt)

-- the car aimed again where it stands
abbrev driven : State
driven = run binary32 (Drive road 3) (left_by aimed)

aimed_again : refuse_aim binary32 driven.table driven.whole (rolling twelve) ≡ 0
unfolding opened
aimed_again = refl

pub witness_settled_is_next_centre : (wheel_at (aim_of binary32 driven.table driven.whole (rolling twelve)).table 0).place.centre ≡ (read_after_drive binary32 aimed_driven 0).reply.settled
unfolding opened
witness_settled_is_next_centre = demands.settled_is_next_centre binary32 lent 1 0 aimed set_up_accepted road 3 0 then_driven_accepted (lit< tt) (rolling twelve) refl aimed_again

-- ---- demand 3
-- the front wheel, with its numbers: 3² / 4 + 2² is (5/2)²
pub witness_sliding_grips : Grips binary32 (2 ^ 20) three minus_two five_halves
unfolding opened
witness_sliding_grips = demands.sliding_grips binary32 the_drive 0 front_grounded front_limit front_slides

-- the rear wheel: −4 and −4; and on its brake of 4
pub witness_not_sliding_is_demand :
    (forward_impulse binary32 the_drive 2 ≡ forward_demand binary32 the_drive 2) × (side_impulse binary32 the_drive 2 ≡ side_demand binary32 the_drive 2)
witness_not_sliding_is_demand = demands.not_sliding_is_demand binary32 the_drive 2 rear_grounded rear_grips

pub witness_unpowered_within_brake : WithinBrake binary32 four minus_four
unfolding opened
witness_unpowered_within_brake = demands.unpowered_within_brake binary32 the_drive 2 rear_grounded.stepped rear_unpowered

pub witness_airborne_within_brake : WithinBrake binary32 zero zero
unfolding opened
witness_airborne_within_brake = demands.unpowered_within_brake binary32 the_drive 1 (stepped 1 (lit< tt)) lifted_unpowered

pub witness_impulses_are_its_own :
    (forward_impulse binary32 the_drive 0 ≡ forward_impulse binary32 other_drive 0)
    × ((side_impulse binary32 the_drive 0 ≡ side_impulse binary32 other_drive 0) × (skid_at binary32 the_drive 0 ≡ skid_at binary32 other_drive 0))
witness_impulses_are_its_own = demands.impulses_are_its_own drive_accepted other_accepted (lit< tt) (lit< tt) alike

-- ---- the tables that the calls wrote are held, as the calls' own numbers are
hands_held_lem : HandsHeld binary32 aimed
unfolding opened
hands_held_lem = refl

pub witness_history_is_held : Held binary32 (left_by aimed).table
witness_history_is_held = demands.history_is_held binary32 lent 1 0 aimed set_up_accepted hands_held_lem

drive_hands_held : hands_held binary32 (Drive road 3) ≡ true
unfolding opened
drive_hands_held = refl

pub witness_call_keeps_held : Held binary32 (run binary32 (Drive road 3) (left_by aimed)).table
witness_call_keeps_held = demands.call_keeps_held binary32 (Drive road 3) (left_by aimed) drive_hands_held witness_history_is_held

pub witness_history_is_stepped : Stepped binary32 aimed_driven 0
witness_history_is_stepped = demands.history_is_stepped binary32 lent 1 0 aimed set_up_accepted hands_held_lem road 3 0 then_driven_accepted (lit< tt)

-- ---- and so the front wheel settles at a place that is finite
then_read : refuse_read driven.table driven.whole 0 ≡ 0
unfolding opened
then_read = refl

pub witness_settled_is_finite : is_finite (read_wheel binary32 driven.table driven.whole 0).reply.settled ≡ true
witness_settled_is_finite = demands.settled_is_finite binary32 driven.table driven.whole 0 witness_call_keeps_held then_read
