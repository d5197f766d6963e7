-- What the bounds on a table's numbers tell of each number. Assumes nothing.
use Prim.Native.Nat.{ℕ, ◌+◌, ◌*◌, ◌≤◌, ◌<◌}
use mathlib.Core.Bool.{true}
use mathlib.Core.List.{List}
use mathlib.Core.Path.{◌≡◌}
use native.Mathlib.Nat.{zero-add}
use native.Mathlib.Omega.{arith}
use lib.ListN.{length, get_or}
use lib.Ieee.{Float, nan}
use Rattle.lists.specs.Part.{part}
use Rattle.lists.proofs.Parts.{get_d_part, length_part}
use Rattle.lists.proofs.Every.{all_at}
use Rattle.real.specs.Scalar.{within}
use Rattle.table.specs.Layout as at
use Rattle.table.specs.Bounds.{all_within, stored_within, STORED}

-- each number of a list whose numbers are all within a bound
pub all_within_says : (most : Float) (l : List Float) (a : ℕ) → all_within most l ≡ true → a < length l → within most (get_or l a nan) ≡ true
unfolding all_within
all_within_says most l a h u = all_at (within most) l a nan u h

-- each number of the kept chassis and of the first n rows
pub stored_within_says : (t : List Float) (n a : ℕ) → length t ≡ at.SIZE → n ≤ at.WHEELS → stored_within t n ≡ true → a < at.KEPT + n * at.ROW
    → within STORED (get_or t a nan) ≡ true
unfolding stored_within
stored_within_says t n a s r h u =
    let k : ℕ = at.KEPT + n * at.ROW in
    let e : length (part t 0 k) ≡ k = length_part t 0 k (omega arith) in
    let g : get_or (part t 0 k) a nan ≡ get_or t a nan = rw (get_d_part t 0 k a nan u, zero-add) in
    rw g at (all_within_says STORED (part t 0 k) a h (rw e u))
