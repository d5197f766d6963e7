-- The drives of the two histories meet what the demands ask of a step. In order: what each is lent; that it is accepted, and every stored number held; its wheels; how the two are alike. Assumes nothing.
use Prim.Native.Nat.{ℕ, ◌<◌}
use mathlib.Core.Bool.{true, false}
use mathlib.Core.List.{List, [], ◌∷◌}
use mathlib.Core.Path.{◌≡◌, refl, sym, ◌∙◌}
use lib.Dec.{lit<}
use lib.Ieee.{Float, binary32, le}
use Rattle.real.specs.Number.{zero as none}
use Rattle.marked.specs.Numbers.{three, six}
use Rattle.body.specs.declared.Chassis.{Chassis}
use Rattle.tyre.specs.Demand3.{least_limit}
use Rattle.ground.specs.Frame.{grounded_at}
use Rattle.passes.specs.Passes.{stored}
use Rattle.passes.specs.Step.{sprung}
use Rattle.demands.specs.History.{state}
use Rattle.demands.specs.Held.{Held}
use Rattle.demands.specs.Impulses.{Step, Accepted, Stepped, Grounded, forward_demand, side_demand, grip_limit, forward_impulse, side_impulse, slides_at, powered_at, Alike}
use Rattle.witnesses.specs.Car.{minus_two, minus_four, sixty_four, five_halves}
use Rattle.witnesses.specs.Calls.{aimed, other_aimed, left_by, the_drive, other_drive, sprung_chassis}
use Rattle.witnesses.specs.Opened.{opened}

-- a wheel's two demands, its grip limit and its two impulses
abbrev tyre : Step → ℕ → List Float
tyre d i = forward_demand binary32 d i ∷ side_demand binary32 d i ∷ grip_limit binary32 d i ∷ forward_impulse binary32 d i ∷ side_impulse binary32 d i ∷ []

-- ---- what the calls leave is what each drive is lent
pub the_calls_leave : left_by aimed ≡ state the_drive.table the_drive.whole
unfolding opened
the_calls_leave = refl

pub other_calls_leave : left_by other_aimed ≡ state other_drive.table other_drive.whole
unfolding opened
other_calls_leave = refl

-- ---- the first drive
pub drive_accepted : Accepted binary32 the_drive
unfolding opened
drive_accepted = refl

drive_held : Held binary32 the_drive.table
unfolding opened
drive_held = refl

pub stepped : (i : ℕ) → i < 3 → Stepped binary32 the_drive i
stepped i u = record { accepted = drive_accepted; held = drive_held; counted = u }

pub front_grounded : Grounded binary32 the_drive 0
unfolding opened
front_grounded = record { stepped = stepped 0 (lit< tt); contact = refl }

pub rear_grounded : Grounded binary32 the_drive 2
unfolding opened
rear_grounded = record { stepped = stepped 2 (lit< tt); contact = refl }

-- the front wheel: its demands 12 × 1/2 and −4, its limit 16 × 1/2 × 5/16; 3² + 4² is 5², twice the limit, so its impulses are half the demands
pub front_tyre : tyre the_drive 0 ≡ (six ∷ minus_four ∷ five_halves ∷ three ∷ minus_two ∷ [])
unfolding opened
front_tyre = refl

pub front_limit : le least_limit (grip_limit binary32 the_drive 0) ≡ true
unfolding opened
front_limit = refl

pub front_slides : slides_at binary32 the_drive 0 ≡ true
unfolding opened
front_slides = refl

-- the rear wheel: its rolling demand −12 / 2 is cut to its brake, 4, and its limit is 16 × 1/2 × 8
pub rear_tyre : tyre the_drive 2 ≡ (minus_four ∷ minus_four ∷ sixty_four ∷ minus_four ∷ minus_four ∷ [])
unfolding opened
rear_tyre = refl

pub rear_grips : slides_at binary32 the_drive 2 ≡ false
unfolding opened
rear_grips = refl

pub rear_unpowered : powered_at the_drive 2 ≡ false
unfolding opened
rear_unpowered = refl

-- the lifted wheel meets nothing
pub lifted_airborne : grounded_at the_drive.frame.answer 1 ≡ false
unfolding opened
lifted_airborne = refl

pub lifted_tyre : tyre the_drive 1 ≡ (none ∷ none ∷ none ∷ none ∷ none ∷ [])
unfolding opened
lifted_tyre = refl

pub lifted_unpowered : powered_at the_drive 1 ≡ false
unfolding opened
lifted_unpowered = refl

-- ---- the second drive
pub other_accepted : Accepted binary32 other_drive
unfolding opened
other_accepted = refl

-- its rear wheel does what the first one's does not
pub other_rear_slides : slides_at binary32 other_drive 2 ≡ true
unfolding opened
other_rear_slides = refl

-- ---- the two are alike to the front wheel
abbrev chassis_after_springs : Step → Chassis
chassis_after_springs d = (sprung binary32 stored d.frame d.n d.table).chassis

the_springs : chassis_after_springs the_drive ≡ sprung_chassis
unfolding opened
the_springs = refl

other_springs : chassis_after_springs other_drive ≡ sprung_chassis
unfolding opened
other_springs = refl

pub alike : Alike binary32 the_drive other_drive 0
unfolding opened
alike = record {
  time_step = refl;
  ground_bodies = refl;
  ground_dynamic = refl;
  kept_chassis = refl;
  after_springs = the_springs ∙ sym other_springs;
  same_grounded_wheels = refl;
  own_row = refl;
  own_hit = refl;
}
