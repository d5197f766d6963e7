-- The shape that refusal 1 asks for is kept: by other numbers in the table, another mark, another count; and the mark that was set is the mark. Assumes nothing.
use Prim.Native.Nat.{ℕ, ◌≤◌, ◌<◌}
use mathlib.Core.Bool.{true}
use mathlib.Core.List.{List}
use mathlib.Core.Path.{◌≡◌, ◌∙◌}
use native.Mathlib.Omega.{arith}
use borrow.Author.Tests.{eq-eqb, le-leb}
use lib.Ieee.{Float}
use lib.ListN.{length, get_or, set, length-set}
use lib.Seq.{get_or-set_same, get_or-set_other}
use Rattle.lists.specs.Pick.{pick}
use Rattle.table.specs.Layout as at
use Rattle.refusals.specs.Shape.{count_of, mark_of, up_of, forward_of, sizes_ok, axes_ok, status_ok, shape_ok}
use Rattle.refusals.specs.After.{marked}
use Rattle.refusals.proofs.Says.{Shape}

pub shape_ok_lem : (t : List Float) (m : List ℕ) → Shape t m → shape_ok t m ≡ true
unfolding shape_ok sizes_ok status_ok axes_ok pick
shape_ok_lem t m s =
    rw (eq-eqb (length t) at.SIZE s.sized, eq-eqb (length m) at.WHOLE s.four, le-leb (count_of m) at.WHEELS s.room, le-leb (mark_of m) at.DRIVEN s.marked, le-leb (up_of m) 2 s.up)
    (le-leb (forward_of m) 2 s.forward)

pub shape_other_table : {t : List Float} {m : List ℕ} → Shape t m → (t' : List Float) → length t' ≡ at.SIZE → Shape t' m
shape_other_table s t' e = record { sized = e; four = s.four; room = s.room; marked = s.marked; up = s.up; forward = s.forward }

-- one of the whole numbers set
module _ (m : List ℕ) (four : length m ≡ at.WHOLE) where
  set_same : (k x : ℕ) → k < at.WHOLE → get_or (set m k x) k 0 ≡ x
  set_same k x l = get_or-set_same m k x 0 (omega arith)

  set_other : (k j x : ℕ) → (j ≡ k → ⊥) → get_or (set m k x) j 0 ≡ get_or m j 0
  set_other k j x ne = get_or-set_other m k j x 0 ne

  pub mark_marked : (mark : ℕ) → mark_of (marked m mark) ≡ mark
  mark_marked mark = set_same at.MARK mark (omega arith)

  pub up_marked : (mark : ℕ) → up_of (marked m mark) ≡ up_of m
  up_marked mark = set_other at.MARK at.UP mark (λ e. omega arith)

  pub count_marked : (mark : ℕ) → count_of (marked m mark) ≡ count_of m
  count_marked mark = set_other at.MARK at.COUNT mark (λ e. omega arith)

  pub count_counted : (n : ℕ) → count_of (set m at.COUNT n) ≡ n
  count_counted n = set_same at.COUNT n (omega arith)

pub shape_marked : {t : List Float} {m : List ℕ} → Shape t m → (mark : ℕ) → mark ≤ at.DRIVEN → Shape t (marked m mark)
shape_marked {t} {m} s mark l =
    let other : (j : ℕ) → (j ≡ at.MARK → ⊥) → get_or (marked m mark) j 0 ≡ get_or m j 0 = λ j ne. set_other m s.four at.MARK j mark ne in
    record {
      sized = s.sized;
      four = length-set m at.MARK mark ∙ s.four;
      room = rw (other at.COUNT (λ e. omega arith)) s.room;
      marked = rw (mark_marked m s.four mark) l;
      up = rw (other at.UP (λ e. omega arith)) s.up;
      forward = rw (other at.FORWARD (λ e. omega arith)) s.forward;
    }

pub shape_counted : {t : List Float} {m : List ℕ} → Shape t m → (n : ℕ) → n ≤ at.WHEELS → Shape t (set m at.COUNT n)
shape_counted {t} {m} s n l =
    let other : (j : ℕ) → (j ≡ at.COUNT → ⊥) → get_or (set m at.COUNT n) j 0 ≡ get_or m j 0 = λ j ne. set_other m s.four at.COUNT j n ne in
    record {
      sized = s.sized;
      four = length-set m at.COUNT n ∙ s.four;
      room = rw (set_same m s.four at.COUNT n (omega arith)) l;
      marked = rw (other at.MARK (λ e. omega arith)) s.marked;
      up = rw (other at.UP (λ e. omega arith)) s.up;
      forward = rw (other at.FORWARD (λ e. omega arith)) s.forward;
    }
