-- `add_wheel::add_wheel` meets its contract: it is refused with nothing changed, or leaves one wheel more and the mark new. Assumes nothing.
use mathlib.Core.Path.{sym}
use Prim.Native.Nat.{◌<◌}
use native.Mathlib.Omega.{arith}
use borrow.Author.Rules.{rules}
use lib.ListN.{length}
use Rattle.table.specs.Layout as at
use Rattle.refusals.proofs.Lent.{lent_rows, lent_back, refused_call}
use Rattle.refusals.proofs.Settled.{settled_ok}
use Rattle.add_wheel.specs.Add.{add_wheel}
use Rattle.add_wheel.proofs.Accepted.{add_says}
use Rattle.add_wheel.proofs.add_wheel.Goals as goal

pub returns-in_err-refuse_add : goal.returns-in_err-refuse_add
unfolding add_wheel
returns-in_err-refuse_add c = refused_call _ _ _ _ _ _ _ _ c.from_residual.ensures.1 c.in_err-refuse_add.ensures

pub unwrap-rows-requires : goal.unwrap-rows-requires
unwrap-rows-requires c = let r = add_says _ _ _ (sym c.in_ok-refuse_add.ensures) in c.first_chunk_mut.ensures.variant.1 (omega arith)

pub bounds-whole-0 : goal.bounds-whole-0
bounds-whole-0 c = let r = add_says _ _ _ (sym c.in_ok-refuse_add.ensures) in omega arith

pub put-requires : goal.put-requires
put-requires c = let r = add_says _ _ _ (sym c.in_ok-refuse_add.ensures) in omega arith

pub overflow_add-whole : goal.overflow_add-whole
overflow_add-whole c = let r = add_says _ _ _ (sym c.in_ok-refuse_add.ensures) in omega arith

pub bounds-whole-0-2 : goal.bounds-whole-0-2
bounds-whole-0-2 c = let r = add_says _ _ _ (sym c.in_ok-refuse_add.ensures) in omega arith

pub bounds-whole-1 : goal.bounds-whole-1
bounds-whole-1 c =
    let r = add_says _ _ _ (sym c.in_ok-refuse_add.ensures) in
    let l : at.MARK < length c.args.whole.now = omega arith in
    search rules

pub returns : goal.returns
unfolding add_wheel
returns c =
    let r = add_says _ _ _ (sym c.in_ok-refuse_add.ensures) in
    let rows = lent_rows _ _ _ c.unwrap-rows.ensures c.first_chunk_mut.ensures.cases r.shape.sized in
    settled_ok _ _ _ _ _ _ c.in_ok-refuse_add.ensures (rw (lent_back _ _ r.shape.sized, c.put.ensures, c.new_wheel.ensures, rows))
