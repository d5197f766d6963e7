-- What an accepted add has tested. Assumes nothing.
use Prim.Native.Nat.{ℕ, ◌<◌}
use mathlib.Core.List.{List}
use mathlib.Core.Path.{◌≡◌}
use borrow.Author.Tests.{ltb-true}
use lib.Ieee.{Float}
use Rattle.lists.specs.Refusal.{first_failed}
use Rattle.lists.proofs.Picks.{pick_zero}
use Rattle.wheel.specs.declared.Settings.{Settings}
use Rattle.table.specs.Layout as at
use Rattle.refusals.specs.Shape.{count_of}
use Rattle.refusals.proofs.Says.{Shape, shape_says}
use Rattle.add_wheel.specs.Add.{refuse_add}

pub record AddTested (t : List Float) (m : List ℕ) : Type 0 where
  pub shape : Shape t m
  pub free : count_of m < at.WHEELS

pub add_says : (t : List Float) (m : List ℕ) (s : Settings) → refuse_add t m s ≡ 0 → AddTested t m
unfolding refuse_add first_failed
add_says t m s h =
    let shape = pick_zero _ _ _ h in
    let free = pick_zero _ _ _ shape.1 in
    record { shape = shape_says t m shape.0; free = ltb-true _ _ free.0 }
