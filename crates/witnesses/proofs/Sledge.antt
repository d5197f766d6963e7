-- The theorems of change request 2026-05, each applied to a wheel of the sledge, or to the lifted wheel of the car. In order: what the calls leave, and the wheels of the drive; what a read says of each; what that means; and what the
-- forward answer alone does not mean. Assumes nothing.
use Prim.Native.Nat.{ℕ, ◌<◌}
use mathlib.Core.Bool.{true, false, true≢false}
use mathlib.Core.List.{List, [], ◌∷◌}
use mathlib.Core.Path.{◌≡◌, refl, sym, ◌∙◌}
use lib.Dec.{lit<}
use lib.Ieee.{binary32}
use Rattle.real.specs.Number.{zero}
use Rattle.marked.specs.Numbers.{six}
use Rattle.vector.specs.Arithmetic.{zero_v, scale_v, normalize_or_zero}
use Rattle.read_wheel.specs.Read.{read_wheel}
use Rattle.demands.specs.History.{Call, SetControls, ReadWheel, accepted, run_all, state}
use Rattle.demands.specs.Held.{Held}
use Rattle.demands.specs.Impulses.{Accepted, Stepped, Grounded, forward_demand, side_demand, forward_impulse, side_impulse, powered_at}
use Rattle.demands.specs.Settled.{after_drive, read_after_drive, quiet}
use Rattle.demands.specs.Fallback.{axis_in, forward_in, IsZeroV, NoRoll, NoSide}
use Rattle.demands.proofs.Demands as demands
use Rattle.witnesses.specs.Car.{minus_one, nowhere, vector, pressed}
use Rattle.witnesses.specs.Calls.{left_by, the_drive}
use Rattle.witnesses.specs.Sledge.{minus_eight, sledge_aimed, sledge}
use Rattle.witnesses.specs.Opened.{opened}
use Rattle.witnesses.proofs.Drives.{drive_accepted, lifted_airborne}

-- ---- the drive: the dead wheel is its first, the slack one its second, the revving one its third
pub sledge_left : left_by sledge_aimed ≡ state sledge.table sledge.whole
unfolding opened
sledge_left = refl

sledge_accepted : Accepted binary32 sledge
unfolding opened
sledge_accepted = refl

sledge_held : Held binary32 sledge.table
unfolding opened
sledge_held = refl

stepped : (i : ℕ) → i < 3 → Stepped binary32 sledge i
stepped i u = record { accepted = sledge_accepted; held = sledge_held; counted = u }

dead_grounded : Grounded binary32 sledge 0
unfolding opened
dead_grounded = record { stepped = stepped 0 (lit< tt); contact = refl }

slack_grounded : Grounded binary32 sledge 1
unfolding opened
slack_grounded = record { stepped = stepped 1 (lit< tt); contact = refl }

revving_grounded : Grounded binary32 sledge 2
unfolding opened
revving_grounded = record { stepped = stepped 2 (lit< tt); contact = refl }

dead_unpowered : powered_at sledge 0 ≡ false
unfolding opened
dead_unpowered = refl

slack_unpowered : powered_at sledge 1 ≡ false
unfolding opened
slack_unpowered = refl

-- ---- a vector with no length falls back, and one that has a length does not
pub witness_fell_back_exactly : (normalize_or_zero binary32 nowhere).fellback ≡ true
unfolding opened
witness_fell_back_exactly = demands.fell_back_exactly binary32 nowhere

pub kept_its_direction : (normalize_or_zero binary32 (vector zero minus_one zero)).fellback ≡ false
unfolding opened
kept_its_direction = demands.fell_back_exactly binary32 (vector zero minus_one zero)

pub witness_fell_back_to_zero : (normalize_or_zero binary32 nowhere).vector ≡ zero_v
witness_fell_back_to_zero = demands.fell_back_to_zero binary32 nowhere witness_fell_back_exactly

-- ---- what a read says of each wheel
pub witness_no_axis_exactly : (read_after_drive binary32 sledge 0).reply.noaxis ≡ true
unfolding opened
witness_no_axis_exactly = demands.no_axis_exactly binary32 sledge 0 sledge_accepted (lit< tt) refl

slack_has_an_axis : (read_after_drive binary32 sledge 1).reply.noaxis ≡ false
unfolding opened
slack_has_an_axis = demands.no_axis_exactly binary32 sledge 1 sledge_accepted (lit< tt) refl

pub witness_no_forward_exactly : (read_after_drive binary32 sledge 1).reply.noforward ≡ true
unfolding opened
witness_no_forward_exactly = demands.no_forward_exactly binary32 sledge 1 sledge_accepted (lit< tt) refl

-- the dead wheel's axis is zero; the slack wheel's is not, since its read would say so, and its forward direction is
pub witness_no_axis_is_zero : IsZeroV (axis_in binary32 sledge 0).vector
unfolding opened
witness_no_axis_is_zero = (demands.no_axis_is_zero binary32 sledge 0 sledge_accepted (lit< tt) refl).0 witness_no_axis_exactly

pub slack_axis_not_zero : IsZeroV (axis_in binary32 sledge 1).vector → ⊥
unfolding opened
slack_axis_not_zero z = true≢false (sym ((demands.no_axis_is_zero binary32 sledge 1 sledge_accepted (lit< tt) refl).1 z) ∙ slack_has_an_axis)

pub witness_no_forward_is_zero : IsZeroV (forward_in binary32 sledge 1).vector
unfolding opened
witness_no_forward_is_zero = (demands.no_forward_is_zero binary32 sledge 1 sledge_accepted (lit< tt) refl).0 witness_no_forward_exactly

pub witness_no_axis_then_no_forward : (read_after_drive binary32 sledge 0).reply.noforward ≡ true
witness_no_axis_then_no_forward = demands.no_axis_then_no_forward binary32 sledge 0 sledge_accepted (lit< tt) witness_no_axis_exactly

pub witness_airborne_both_no : ((read_after_drive binary32 the_drive 1).reply.noaxis ≡ false) × ((read_after_drive binary32 the_drive 1).reply.noforward ≡ false)
witness_airborne_both_no = demands.airborne_both_no binary32 the_drive 1 drive_accepted (lit< tt) lifted_airborne

-- controls that are set after the drive, and a read, leave what the next read says
abbrev calm : List Call
calm = SetControls 1 (pressed zero zero) ∷ ReadWheel 0 ∷ []

is_quiet : quiet binary32 calm (after_drive binary32 sledge) ≡ true
unfolding opened
is_quiet = refl

read_again : accepted binary32 (ReadWheel 0) (run_all binary32 calm (after_drive binary32 sledge)) ≡ true
unfolding opened
read_again = refl

pub witness_read_until_next :
    (read_wheel binary32 (run_all binary32 calm (after_drive binary32 sledge)).table (run_all binary32 calm (after_drive binary32 sledge)).whole 0).reply
    ≡ (read_after_drive binary32 sledge 0).reply
witness_read_until_next = demands.read_until_next binary32 sledge 0 sledge_accepted (lit< tt) calm is_quiet read_again

-- ---- what it means
pub witness_no_axis_is_dead : NoRoll binary32 sledge 0 × NoSide binary32 sledge 0
witness_no_axis_is_dead = demands.no_axis_is_dead dead_grounded dead_unpowered witness_no_axis_exactly

pub witness_no_forward_no_roll : NoRoll binary32 sledge 1
witness_no_forward_no_roll = demands.no_forward_no_roll slack_grounded slack_unpowered witness_no_forward_exactly

revving_no_axis : (read_after_drive binary32 sledge 2).reply.noaxis ≡ true
unfolding opened
revving_no_axis = demands.no_axis_exactly binary32 sledge 2 sledge_accepted (lit< tt) refl

revving_no_forward : (read_after_drive binary32 sledge 2).reply.noforward ≡ true
revving_no_forward = demands.no_axis_then_no_forward binary32 sledge 2 sledge_accepted (lit< tt) revving_no_axis

pub witness_no_axis_no_side : NoSide binary32 sledge 2
witness_no_axis_no_side = demands.no_axis_no_side revving_grounded revving_no_axis

pub witness_no_axis_no_push : IsZeroV (scale_v binary32 (axis_in binary32 sledge 2).vector (side_impulse binary32 sledge 2))
witness_no_axis_no_push = demands.no_axis_no_push revving_grounded revving_no_axis

pub witness_no_forward_no_push : IsZeroV (scale_v binary32 (forward_in binary32 sledge 2).vector (forward_impulse binary32 sledge 2))
witness_no_forward_no_push = demands.no_forward_no_push revving_grounded revving_no_forward

-- ---- what the forward answer alone does not mean: the slack wheel asks for −8 to the side, and gets it; and neither answer stops an engine from asking: the revving wheel asks for 12 × 1/2 along no direction
pub slack_holds : (side_demand binary32 sledge 1 ≡ minus_eight) × (side_impulse binary32 sledge 1 ≡ minus_eight)
unfolding opened
slack_holds = (refl, refl)

pub revving_asks : (forward_demand binary32 sledge 2 ≡ six) × (forward_impulse binary32 sledge 2 ≡ six)
unfolding opened
revving_asks = (refl, refl)
