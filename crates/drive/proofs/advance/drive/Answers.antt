-- `drive::advance::drive` meets its contract: refused early, refused by the step, or done. Assumes nothing.
use native.Mathlib.Omega.{arith}
use mathlib.Core.Path.{refl}
use Rattle.std.proofs.lemmas.Result.{err_from_is_err_and}
use Rattle.refusals.proofs.Lent.{lent_rows, lent_back, refused_call}
use Rattle.refusals.proofs.Settled.{number_not_zero}
use Rattle.drive.specs.Drive.{not_driven, drive_of, drive_under}
use Rattle.drive.proofs.Accepted.{tested_shape}
use Rattle.drive.proofs.Tries.{drive_accepted, drive_refused_late, refused_early}
use Rattle.drive.proofs.advance.drive.Goals as goal

pub returns-in_err-on : goal.returns-in_err-on
unfolding drive_of drive_under
returns-in_err-on c =
    refused_call _ _ _ _ _ _ _ _ c.from_residual.ensures.1 (refused_early _ _ _ _ _ _ _ c.in_err-on.ensures.number (number_not_zero _))

pub unwrap-rows-requires : goal.unwrap-rows-requires
unwrap-rows-requires c = let s = tested_shape _ _ _ _ _ c.in_ok-on.ensures.number in c.first_chunk_mut.ensures.variant.1 (omega arith)

pub returns-in_err-driven : goal.returns-in_err-driven
unfolding drive_of not_driven
returns-in_err-driven c =
    let s = tested_shape _ _ _ _ _ c.in_ok-on.ensures.number in
    let rows = lent_rows _ _ _ c.unwrap-rows.ensures c.first_chunk_mut.ensures.cases s.sized in
    let p = err_from_is_err_and c.from_residual-in_err-driven.result c.from_residual-in_err-driven.ensures.1 in
    let step = rw (rows, c.in_ok-on.ensures.same) at c.in_err-driven.ensures in
    rw (p.1, p.2, lent_back _ _ s.sized) (drive_refused_late _ _ _ _ _ _ _ _ step c.in_ok-on.ensures.number (number_not_zero _))

pub returns : goal.returns
unfolding drive_of
returns c =
    let s = tested_shape _ _ _ _ _ c.in_ok-on.ensures.number in
    let rows = lent_rows _ _ _ c.unwrap-rows.ensures c.first_chunk_mut.ensures.cases s.sized in
    let step = rw (rows, c.in_ok-on.ensures.same) at c.in_ok-driven.ensures in
    rw (lent_back _ _ s.sized) (drive_accepted _ _ _ _ _ _ _ _ step c.in_ok-on.ensures.number refl)
