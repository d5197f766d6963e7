-- `exports::vehicle_drive` meets its contract: the results have not their length, the lists are refused, or the call decides. Assumes nothing.
use mathlib.Core.Path.{refl, sym}
use Rattle.refusals.proofs.Settled.{settled_err, settled_ok}
use Rattle.exports.specs.Calls.{flat_drive}
use Rattle.drive.specs.Drive.{DriveReply, drive_reply, not_driven}
use Rattle.flat_out.specs.Results.{driven_list}
use Rattle.flat_out.proofs.Ending.{refused_of_length, settled_of_length, flattened_of_answer}
use Rattle.flat_in.proofs.Fitting.{lists_fit_lem}
use Rattle.exports.proofs.vehicle_drive.Goals as goal

pub returns-then-results-ne-DRIVE : goal.returns-then-results-ne-DRIVE
unfolding flat_drive
returns-then-results-ne-DRIVE c = rw c.number.ensures (refused_of_length _ _ _ _ _ _ _ c.if-results-ne-DRIVE.true)

pub returns-in-Err : goal.returns-in-Err
unfolding flat_drive
returns-in-Err c = rw c.number-in-Err.ensures (settled_of_length _ _ _ _ _ _ _ _ c.if-results-ne-DRIVE.false (settled_err _ _ _ _ _ _ c.in-Err.ensures))

pub drive_lists-answer-requires : goal.drive_lists-answer-requires
drive_lists-answer-requires c = lists_fit_lem _ _ _ _ _ _ (sym c.in_default.ensures)

pub returns : goal.returns
unfolding flat_drive not_driven
returns c =
    settled_of_length _ _ _ _ _ _ _ _ c.if-results-ne-DRIVE.false
    (settled_ok _ _ _ _ _ _ c.in_default.ensures
    (flattened_of_answer drive_reply not_driven (λ (r : DriveReply). r.number) driven_list _ _ _ _ _ (λ x. refl) (λ n. refl) _ _ c.answer_number.ensures c.drive_lists-answer.ensures c.put_driven.ensures))
