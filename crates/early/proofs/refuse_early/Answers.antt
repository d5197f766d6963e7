-- `early::refuse_early` meets its contract: one list of tests after another. Assumes nothing.
use native.Mathlib.Omega.{arith}
use mathlib.Core.Path.{sym}
use borrow.Author.Rules.{rules}
use Rattle.refusals.proofs.Settled.{number_not_zero}
use Rattle.std.proofs.lemmas.Result.{err_from_is_err_and}
use Rattle.early.proofs.Accepted.{frame_tests_say}
use Rattle.early.proofs.Joined.{refused_frame, refused_numbers, joined}
use Rattle.early.proofs.refuse_early.Goals as goal

pub returns-in_err-refuse_frame-clause-number : goal.returns-in_err-refuse_frame-clause-number
returns-in_err-refuse_frame-clause-number c =
    let p = err_from_is_err_and c.from_residual.result c.from_residual.ensures.1 in
    rw (p.1, p.2) (refused_frame _ _ _ _ _ _ c.in_err-refuse_frame.ensures (number_not_zero _))

pub unwrap-rows-requires : goal.unwrap-rows-requires
unwrap-rows-requires c = c.try_into.ensures.0 (frame_tests_say _ _ _ _ _ _ (sym c.in_ok-refuse_frame.ensures)).shape.sized

pub invariant_of-on : goal.invariant_of-on
invariant_of-on c =
    let h = frame_tests_say _ _ _ _ _ _ (sym c.in_ok-refuse_frame.ensures) in
    let s = h.shape in
    record { room = omega arith; fit = h.lists }

pub returns-in_err-refuse_numbers-clause-number : goal.returns-in_err-refuse_numbers-clause-number
returns-in_err-refuse_numbers-clause-number c =
    let p = err_from_is_err_and c.from_residual-in_err-refuse_numbers.result c.from_residual-in_err-refuse_numbers.ensures.1 in
    rw (p.1, p.2) (refused_numbers _ _ _ _ _ _ c.in_ok-refuse_frame.ensures _ (search rules) c.in_err-refuse_numbers.ensures (number_not_zero _))

pub returns-in_err-refuse_ranges-clause-number : goal.returns-in_err-refuse_ranges-clause-number
returns-in_err-refuse_ranges-clause-number c =
    let p = err_from_is_err_and c.from_residual-in_err-refuse_ranges.result c.from_residual-in_err-refuse_ranges.ensures.1 in
    rw (p.1, p.2) (joined _ _ _ _ _ _ c.in_ok-refuse_frame.ensures _ (search rules) c.in_ok-refuse_numbers.ensures c.in_err-refuse_ranges.ensures)

pub returns-clause-number : goal.returns-clause-number
returns-clause-number c = joined _ _ _ _ _ _ c.in_ok-refuse_frame.ensures _ (search rules) c.in_ok-refuse_numbers.ensures c.in_ok-refuse_ranges.ensures
