-- What an accepted set-up has tested. Assumes nothing.
use Prim.Native.Nat.{ℕ, ◌≤◌, ◌<◌}
use mathlib.Core.List.{List}
use mathlib.Core.Path.{◌≡◌, sym}
use native.Mathlib.Omega.{arith}
use borrow.Author.Tests.{leb-true}
use lib.ListN.{length}
use lib.Ieee.{Float}
use Rattle.lists.specs.Refusal.{first_failed}
use Rattle.lists.proofs.Picks.{pick_true, pick_zero}
use Rattle.table.specs.Layout as at
use Rattle.refusals.specs.Shape.{axes_ok}
use Rattle.refusals.proofs.Says.{Sizes, sizes_say}
use Rattle.set_up.specs.SetUp.{refuse_set_up}

pub record SetUpTested (t : List Float) (m : List ℕ) (up forward : ℕ) : Type 0 where
  pub sizes : Sizes t m
  pub up_axis : up ≤ 2
  pub forward_axis : forward ≤ 2

pub set_up_says : (t : List Float) (m : List ℕ) (up forward : ℕ) → refuse_set_up t m up forward ≡ 0 → SetUpTested t m up forward
unfolding refuse_set_up first_failed axes_ok
set_up_says t m up forward h =
    let sizes = pick_zero _ _ _ h in
    let axes = pick_true _ _ (pick_zero _ _ _ sizes.1).0 in
    record { sizes = sizes_say t m sizes.0; up_axis = leb-true _ _ axes.0; forward_axis = leb-true _ _ axes.1 }

-- each whole number that an accepted set-up writes has its place
pub place_set_up : (t : List Float) (m : List ℕ) (up forward k : ℕ) → 0 ≡ refuse_set_up t m up forward → k < at.WHOLE → k < length m
place_set_up t m up forward k h l =
    let s = (set_up_says t m up forward (sym h)).sizes in
    omega arith
