-- When a read is refused with 5: in a table of the right shape, for a used wheel, exactly when the mark is not driven. Assumes nothing.
use Prim.Native.Nat.{ℕ, ◌<◌}
use mathlib.Core.Bool.{Bool, true, false}
use mathlib.Core.List.{List}
use mathlib.Core.Path.{◌≡◌}
use native.Mathlib.Omega.{arith}
use borrow.Author.Tests.{lt-ltb}
use lib.Ieee.{Float}
use Rattle.lists.specs.Pick.{pick}
use Rattle.lists.specs.Refusal.{first_failed}
use Rattle.table.specs.Bounds.{stored_within}
use Rattle.refusals.specs.Shape.{count_of}
use Rattle.refusals.proofs.Says.{Shape}
use Rattle.read_wheel.specs.Read.{refuse_read}
use Rattle.demands.proofs.Shapes.{shape_ok_lem}
use Rattle.demands.proofs.Marks.{is_driven}

module _ (t : List Float) (m : List ℕ) (i : ℕ) (shape : Shape t m) (used : i < count_of m) where
  pub five_of_not_driven : is_driven m ≡ false → refuse_read t m i ≡ 5
  unfolding refuse_read first_failed pick
  five_of_not_driven h = rw (shape_ok_lem t m shape, lt-ltb i (count_of m) used, h)

  pub not_five_of_driven : is_driven m ≡ true → refuse_read t m i ≡ 5 → ⊥
  unfolding refuse_read first_failed pick
  not_five_of_driven h e = other (stored_within t (count_of m)) (rw (shape_ok_lem t m shape, lt-ltb i (count_of m) used, h) at e)
    where
      other : (b : Bool) → ◌≡◌ {A = ℕ} (pick b 0 2) 5 → ⊥
      other true k = omega arith
      other false k = omega arith
