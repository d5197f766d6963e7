-- The theorems of change request 2026-13, each applied to a drive of the cart and one of the wagon. In order: what the calls leave, and that each drive is one of an unpowered wheel on the ground; the demands under each brake;
-- how a cart and a wagon are alike, whatever their brakes; the theorems, and that none can be said more sharply. Assumes nothing.
use Prim.Native.Nat.{◌≤◌, ◌<◌}
use mathlib.Core.Bool.{false, true≢false}
use mathlib.Core.List.{List, [], ◌∷◌}
use mathlib.Core.Path.{◌≡◌, refl, sym, ◌∙◌}
use lib.Dec.{lit<, le→leb, lt→ltb}
use lib.Ieee.{Float, binary32}
use Rattle.real.specs.Number.{zero as none}
use Rattle.real.specs.Units.{count, minus?}
use Rattle.marked.specs.Numbers.{four}
use Rattle.tyre.specs.MoreBrake.{BrakesNoLess}
use Rattle.passes.specs.Passes.{stored}
use Rattle.passes.specs.Step.{sprung}
use Rattle.demands.specs.History.{Call, state}
use Rattle.demands.specs.Impulses.{Step, Grounded, forward_demand, powered_at}
use Rattle.demands.specs.MoreBrake.{AlikeButForBrake}
use Rattle.demands.proofs.Demands as demands
use Rattle.witnesses.specs.Car.{minus_four, sixteen, thirty_two}
use Rattle.witnesses.specs.Calls.{left_by}
use Rattle.witnesses.specs.Carts.{minus_zero, minus_twelve, cart_aimed, wagon_aimed, cart, wagon, cart_sprung}
use Rattle.witnesses.specs.Opened.{opened}

-- ---- the drives
-- the calls leave what the drive is lent; it is accepted, its stored numbers are held, and wheel 0 is grounded and unpowered
pub record Braked (l : List Call) (d : Step) : Type 0 where
  pub left : left_by l ≡ state d.table d.whole
  pub grounded : Grounded binary32 d 0
  pub unpowered : powered_at d 0 ≡ false

pub cart_minus_zero : Braked (cart_aimed minus_zero) (cart minus_zero)
unfolding opened
cart_minus_zero = record { left = refl; grounded = record { stepped = record { accepted = refl; held = refl; counted = lit< tt }; contact = refl }; unpowered = refl }

pub cart_four : Braked (cart_aimed four) (cart four)
unfolding opened
cart_four = record { left = refl; grounded = record { stepped = record { accepted = refl; held = refl; counted = lit< tt }; contact = refl }; unpowered = refl }

pub cart_sixteen : Braked (cart_aimed sixteen) (cart sixteen)
unfolding opened
cart_sixteen = record { left = refl; grounded = record { stepped = record { accepted = refl; held = refl; counted = lit< tt }; contact = refl }; unpowered = refl }

pub wagon_zero : Braked (wagon_aimed none) (wagon none)
unfolding opened
wagon_zero = record { left = refl; grounded = record { stepped = record { accepted = refl; held = refl; counted = lit< tt }; contact = refl }; unpowered = refl }

pub wagon_four : Braked (wagon_aimed four) (wagon four)
unfolding opened
wagon_four = record { left = refl; grounded = record { stepped = record { accepted = refl; held = refl; counted = lit< tt }; contact = refl }; unpowered = refl }

pub wagon_thirty_two : Braked (wagon_aimed thirty_two) (wagon thirty_two)
unfolding opened
wagon_thirty_two = record { left = refl; grounded = record { stepped = record { accepted = refl; held = refl; counted = lit< tt }; contact = refl }; unpowered = refl }

-- ---- their demands: −12, cut to the brake
abbrev demand : Step → Float
demand d = forward_demand binary32 d 0

pub cart_demands : (demand (cart minus_zero) ∷ demand (cart four) ∷ demand (cart sixteen) ∷ []) ≡ (none ∷ minus_four ∷ minus_twelve ∷ [])
unfolding opened
cart_demands = refl

pub wagon_demands : (demand (wagon none) ∷ demand (wagon four) ∷ demand (wagon thirty_two) ∷ []) ≡ (minus_zero ∷ minus_four ∷ minus_twelve ∷ [])
unfolding opened
wagon_demands = refl

-- ---- a cart and a wagon are alike, under any two brakes, though the time step, the kept chassis and the number of wheels differ
cart_springs : (brake : Float) → (sprung binary32 stored (cart brake).frame 1 (cart brake).table).chassis ≡ cart_sprung
unfolding opened
cart_springs brake = refl

wagon_springs : (brake : Float) → (sprung binary32 stored (wagon brake).frame 2 (wagon brake).table).chassis ≡ cart_sprung
unfolding opened
wagon_springs brake = refl

pub alike : (brake other : Float) → AlikeButForBrake binary32 (cart brake) (wagon other) 0
unfolding opened
alike brake other = record {
  after_springs = cart_springs brake ∙ sym (wagon_springs other);
  own_hit = refl;
  own_ground = refl;
  same_grounded_wheels = refl;
  own_row = refl;
}

-- ---- the theorems
-- 32 brakes more than 4: the claim cannot be turned round
pub witness_more_brake : BrakesNoLess binary32 minus_four minus_twelve
unfolding opened
witness_more_brake = demands.more_brake cart_four.grounded wagon_thirty_two.grounded.stepped cart_four.unpowered (alike four thirty_two) refl

pub not_turned_round : count binary32 (demand (wagon thirty_two)) ≤ count binary32 (demand (cart four)) → ⊥
unfolding opened
not_turned_round h = le→leb _ _ h

-- 16 and 32 are both more than is needed: the greater brake gives no greater demand
pub witness_enough_brake : BrakesNoLess binary32 minus_twelve minus_twelve
unfolding opened
witness_enough_brake = demands.more_brake cart_sixteen.grounded wagon_thirty_two.grounded.stepped cart_sixteen.unpowered (alike sixteen thirty_two) refl

pub not_strict : count binary32 (demand (cart sixteen)) < count binary32 (demand (wagon thirty_two)) → ⊥
unfolding opened
not_strict h = lt→ltb _ _ h

-- −0 is a brake that is less than 4, and cuts to 0, which has the sign that −4 has not
pub witness_no_brake : BrakesNoLess binary32 none minus_four
unfolding opened
witness_no_brake = demands.more_brake cart_minus_zero.grounded wagon_four.grounded.stepped cart_minus_zero.unpowered (alike minus_zero four) refl

pub not_without_zeros : minus? (demand (cart minus_zero)) ≡ minus? (demand (wagon four)) → ⊥
unfolding opened
not_without_zeros h = true≢false (sym h)

-- −0 and 0 are equal brakes, and cut to 0 and −0
pub witness_equal_brake : BrakesNoLess binary32 none minus_zero × BrakesNoLess binary32 minus_zero none
unfolding opened
witness_equal_brake = demands.equal_brake cart_minus_zero.grounded wagon_zero.grounded.stepped cart_minus_zero.unpowered (alike minus_zero none) refl

pub witness_same_brake : demand (cart four) ≡ demand (wagon four)
unfolding opened
witness_same_brake = demands.same_brake cart_four.grounded wagon_four.grounded.stepped cart_four.unpowered (alike four four) refl
