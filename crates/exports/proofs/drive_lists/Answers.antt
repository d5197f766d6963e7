-- `exports::drive_lists` meets its contract: the drive does, given what the lists hold. Assumes nothing.
use borrow.Author.Rules.{rules}
use Rattle.flat_in.specs.Lists.{frame_in}
use Rattle.flat_in.proofs.Fitting.{lists_say, flags_lent, length_given, answers_lent}
use Rattle.exports.proofs.drive_lists.Goals as goal

pub decode_flags-flags-requires : goal.decode_flags-flags-requires
decode_flags-flags-requires c =
    (lists_say _ _ _ _ c.requires).room

pub decode_answers-answers-requires : goal.decode_answers-answers-requires
decode_answers-answers-requires c =
    let h = lists_say _ _ _ _ c.requires in
    (h.wheels, h.names, h.sized)

pub slice_bounds-flags-end : goal.slice_bounds-flags-end
slice_bounds-flags-end c =
    let h = lists_say _ _ _ _ c.requires in
    search rules

pub slice_bounds-frame-end : goal.slice_bounds-frame-end
slice_bounds-frame-end c =
    let h = lists_say _ _ _ _ c.requires in
    search rules

pub slice_bounds-answers-end : goal.slice_bounds-answers-end
slice_bounds-answers-end c =
    let h = lists_say _ _ _ _ c.requires in
    search rules

pub slice_bounds-frame-end-2 : goal.slice_bounds-frame-end-2
slice_bounds-frame-end-2 c =
    let h = lists_say _ _ _ _ c.requires in
    search rules

pub returns : goal.returns
unfolding frame_in
returns c =
    rw (flags_lent _ _ c.decode_flags-flags.ensures, answers_lent _ _ _ _ c.decode_answers-answers.ensures, length_given) at c.drive.ensures
