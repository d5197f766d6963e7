-- What an accepted read has tested. Assumes nothing.
use Prim.Native.Nat.{ℕ, ◌<◌}
use mathlib.Core.Bool.{true}
use mathlib.Core.List.{List}
use mathlib.Core.Path.{◌≡◌}
use borrow.Author.Tests.{ltb-true, eqb-true}
use lib.Ieee.{Float}
use Rattle.lists.specs.Refusal.{first_failed}
use Rattle.lists.proofs.Picks.{pick_zero}
use Rattle.table.specs.Layout as at
use Rattle.table.specs.Bounds.{stored_within}
use Rattle.refusals.specs.Shape.{count_of, mark_of}
use Rattle.refusals.proofs.Says.{Shape, shape_says}
use Rattle.read_wheel.specs.Read.{refuse_read}

pub record ReadTested (t : List Float) (m : List ℕ) (i : ℕ) : Type 0 where
  pub shape : Shape t m
  pub used : i < count_of m
  pub driven : mark_of m ≡ at.DRIVEN
  pub stored : stored_within t (count_of m) ≡ true

pub read_says : (t : List Float) (m : List ℕ) (i : ℕ) → refuse_read t m i ≡ 0 → ReadTested t m i
unfolding refuse_read first_failed
read_says t m i h =
    let shape = pick_zero _ _ _ h in
    let used = pick_zero _ _ _ shape.1 in
    let driven = pick_zero _ _ _ used.1 in
    record { shape = shape_says t m shape.0; used = ltb-true _ _ used.0; driven = eqb-true _ _ driven.0; stored = (pick_zero _ _ _ driven.1).0 }
