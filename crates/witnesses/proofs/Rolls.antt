-- Change request 2026-07 on the two cars: the wheels of the first have 0.1, and its drive is that of before; two of the second have not, and its drive is another. Assumes nothing.
use Prim.Native.Nat.{ℕ, zero, suc}
use mathlib.Core.Bool.{true, false, true≢false}
use mathlib.Core.Path.{◌≡◌, refl, sym}
use native.Mathlib.Omega.{arith}
use lib.Dec.{lit<, lit≤}
use lib.Ieee.{binary32, to_bits}
use Rattle.table.specs.Layout as at
use Rattle.table.specs.Rows.{wheel_at}
use Rattle.refusals.specs.After.{after, marked}
use Rattle.real.specs.Number.{power}
use Rattle.real.specs.Scalar.{within}
use Rattle.ranges.specs.Ranges.{in_unit, settings_in_range}
use Rattle.passes.specs.Passes.{stored}
use Rattle.passes.specs.Step.{Work, whole_step}
use Rattle.drive.specs.Drive.{drive_of, driven_by}
use Rattle.demands.specs.History.{SetUp, run}
use Rattle.demands.specs.Fixed.{fixed_friction, fixed_push_at, fixed_pushed, fixed_step, fixed_in_range, IsTenth, AllTenth, AddsHand}
use Rattle.demands.proofs.Demands as demands
use Rattle.witnesses.specs.Car.{tenth, front, toppled, road, bumpy}
use Rattle.witnesses.specs.Calls.{lent, aimed, left_by, the_drive, other_drive}
use Rattle.witnesses.specs.Opened.{opened}
use Rattle.witnesses.proofs.Drives.{drive_accepted}
use Rattle.witnesses.proofs.Applied.{set_up_accepted, then_driven}

pub witness_tenth_accepted : (within (power 20) tenth ≡ true) × ((within (power 40) tenth ≡ true) × (in_unit tenth ≡ true))
unfolding opened
witness_tenth_accepted = demands.tenth_accepted binary32

-- the front wheel's range is the one of before; that of the refused add is not
pub witness_ranges_as_before : settings_in_range front ≡ fixed_in_range front
unfolding opened
witness_ranges_as_before = demands.ranges_as_before binary32 front refl

toppled_before : (settings_in_range toppled ≡ false) × (fixed_in_range toppled ≡ true)
unfolding opened fixed_in_range
toppled_before = (refl, refl)

-- ---- the drive of the first car, from the table that it is lent
all_tenth : AllTenth binary32 the_drive.table 3
unfolding opened
all_tenth zero u = refl
all_tenth (suc zero) u = refl
all_tenth (suc (suc zero)) u = refl
all_tenth (suc (suc (suc i))) u = absurd (omega arith)

pub witness_step_as_before : whole_step binary32 stored 1 road 3 the_drive.table ≡ fixed_step binary32 stored 1 road 3 the_drive.table
unfolding opened
witness_step_as_before = demands.step_as_before binary32 stored 1 3 road the_drive.table refl (lit≤ tt) all_tenth

pub witness_drive_as_before :
    drive_of binary32 the_drive.table the_drive.whole road 3
    ≡ after (driven_by the_drive.table 3 (fixed_step binary32 stored 1 road 3 the_drive.table)) (fixed_step binary32 stored 1 road 3 the_drive.table).table (marked the_drive.whole at.DRIVEN)
witness_drive_as_before = demands.drive_as_before binary32 the_drive.table the_drive.whole road 3 all_tenth drive_accepted

-- ---- the same drive after its calls. One add hands in another roll influence: it is refused
adds_hand : AddsHand binary32 (IsTenth binary32) aimed (run binary32 (SetUp 1 0) lent)
unfolding opened
adds_hand = ((λ h. refl), ((λ h. refl), ((λ h. refl), ((λ h. refl), ((λ h. absurd (true≢false (sym h))), ((λ h. tt), ((λ h. tt), ((λ h. tt), ((λ h. tt), ((λ h. tt), ((λ h. tt), ((λ h. tt), ((λ h. tt), ((λ h. tt), tt))))))))))))))

pub witness_stored_as_added : (wheel_at (left_by aimed).table 2).settings.roll ≡ tenth
unfolding opened
witness_stored_as_added = demands.stored_as_added binary32 lent 1 0 aimed set_up_accepted (IsTenth binary32) adds_hand 2 (lit< tt)

pub witness_history_as_before :
    drive_of binary32 (left_by aimed).table (left_by aimed).whole road 3
    ≡ after (driven_by (left_by aimed).table 3 (fixed_step binary32 stored 1 road 3 (left_by aimed).table)) (fixed_step binary32 stored 1 road 3 (left_by aimed).table).table (marked (left_by aimed).whole at.DRIVEN)
unfolding opened
witness_history_as_before = demands.history_as_before binary32 lent 1 0 aimed set_up_accepted adds_hand road 3 then_driven

-- ---- the second car: its rear wheel has 1. With 0.1 in every wheel the same calls turn it about x by 0x3e5596ac, as the oracle says of them by code 1
abbrev turned_by : Work → ℕ
turned_by s = to_bits binary32 s.chassis.body.angvel.x

pub other_turned : turned_by (whole_step binary32 stored 1 bumpy 3 other_drive.table) ≡ 0x3f97c921
unfolding opened
other_turned = refl

pub other_turned_before : turned_by (fixed_step binary32 stored 1 bumpy 3 other_drive.table) ≡ 0x3e5596ac
unfolding opened fixed_step fixed_pushed fixed_push_at fixed_friction
other_turned_before = refl
