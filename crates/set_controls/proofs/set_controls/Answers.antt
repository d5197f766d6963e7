-- `set_controls::set_controls` meets its contract: it is refused with nothing changed, or leaves the wheel with its controls and no aimed mark. Assumes nothing.
use mathlib.Core.Path.{sym}
use native.Mathlib.Omega.{arith}
use borrow.Author.Tests.{eq-eqb, ne_eqb}
use Rattle.lists.specs.Pick.{pick}
use Rattle.refusals.proofs.Lent.{lent_rows, lent_back, refused_call}
use Rattle.refusals.proofs.Settled.{settled_ok}
use Rattle.set_controls.specs.Controls.{set_controls, unaimed}
use Rattle.set_controls.proofs.Accepted.{set_controls_says}
use Rattle.set_controls.proofs.set_controls.Goals as goal

pub returns-in_err-refuse_controls : goal.returns-in_err-refuse_controls
unfolding set_controls
returns-in_err-refuse_controls c = refused_call _ _ _ _ _ _ _ _ c.from_residual.ensures.1 c.in_err-refuse_controls.ensures

pub unwrap-rows-requires : goal.unwrap-rows-requires
unwrap-rows-requires c =
    let r = set_controls_says _ _ _ _ _ (sym c.in_ok-refuse_controls.ensures) in
    c.first_chunk_mut.ensures.variant.1 (omega arith)

pub put-requires : goal.put-requires
put-requires c = let r = set_controls_says _ _ _ _ _ (sym c.in_ok-refuse_controls.ensures) in omega arith

pub bounds-whole-1 : goal.bounds-whole-1
bounds-whole-1 c = let r = set_controls_says _ _ _ _ _ (sym c.in_ok-refuse_controls.ensures) in omega arith

pub returns-then-whole-eq-AIMED : goal.returns-then-whole-eq-AIMED
unfolding set_controls unaimed pick
returns-then-whole-eq-AIMED c =
    let r = set_controls_says _ _ _ _ _ (sym c.in_ok-refuse_controls.ensures) in
    let rows = lent_rows _ _ _ c.unwrap-rows.ensures c.first_chunk_mut.ensures.cases r.shape.sized in
    settled_ok _ _ _ _ _ _ c.in_ok-refuse_controls.ensures
    (rw (eq-eqb _ _ c.if-whole-eq-AIMED.true, lent_back _ _ r.shape.sized, c.put.ensures, c.from.ensures, rows))

pub returns-else-whole-eq-AIMED : goal.returns-else-whole-eq-AIMED
unfolding set_controls unaimed pick
returns-else-whole-eq-AIMED c =
    let r = set_controls_says _ _ _ _ _ (sym c.in_ok-refuse_controls.ensures) in
    let rows = lent_rows _ _ _ c.unwrap-rows.ensures c.first_chunk_mut.ensures.cases r.shape.sized in
    settled_ok _ _ _ _ _ _ c.in_ok-refuse_controls.ensures
    (rw (ne_eqb _ _ c.if-whole-eq-AIMED.false, lent_back _ _ r.shape.sized, c.put.ensures, c.from.ensures, rows))
