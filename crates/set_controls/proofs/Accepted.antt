-- What an accepted change of controls has tested. Assumes nothing.
use Prim.Native.Nat.{ℕ, ◌<◌}
use mathlib.Core.List.{List}
use mathlib.Core.Path.{◌≡◌}
use borrow.Author.Tests.{ltb-true}
use lib.Ieee.{Float, Format}
use Rattle.lists.specs.Refusal.{first_failed}
use Rattle.lists.proofs.Picks.{pick_zero}
use Rattle.wheel.specs.declared.Controls.{Controls}
use Rattle.refusals.specs.Shape.{count_of}
use Rattle.refusals.proofs.Says.{Shape, shape_says}
use Rattle.set_controls.specs.Controls.{refuse_controls}

pub record ControlsTested (t : List Float) (m : List ℕ) (i : ℕ) : Type 0 where
  pub shape : Shape t m
  pub used : i < count_of m

pub set_controls_says : (f : Format) (t : List Float) (m : List ℕ) (i : ℕ) (c : Controls) → refuse_controls f t m i c ≡ 0 → ControlsTested t m i
unfolding refuse_controls first_failed
set_controls_says f t m i c h =
    let shape = pick_zero _ _ _ h in
    let used = pick_zero _ _ _ shape.1 in
    record { shape = shape_says t m shape.0; used = ltb-true _ _ used.0 }
