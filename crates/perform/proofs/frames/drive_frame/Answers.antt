-- `perform::frames::drive_frame` meets its contract: the lists that are lent are the front of what was decoded. Assumes nothing.
use borrow.Author.Rules.{rules}
use mathlib.Core.Path.{sym}
use lib.Seq.{length-take-le}
use Rattle.frame_words.proofs.Answers.{length_answers}
use Rattle.perform.specs.Call.{frame_from}
use Rattle.perform.proofs.Fronts.{counted, front_of_bodies, front_of_flags, front_of_answers}
use Rattle.perform.proofs.frames.drive_frame.Goals as goal

pub decode_answers-answers-requires : goal.decode_answers-answers-requires
decode_answers-answers-requires c =
    let n = counted _ _ _ c.body_count_from-nb.ensures c.answer_count_from-na.ensures in
    search rules

pub slice_bounds-answers-end : goal.slice_bounds-answers-end
slice_bounds-answers-end c =
    let n = counted _ _ _ c.body_count_from-nb.ensures c.answer_count_from-na.ensures in
    search rules

pub slice_bounds-frame-end-3 : goal.slice_bounds-frame-end-3
slice_bounds-frame-end-3 c =
    let n = counted _ _ _ c.body_count_from-nb.ensures c.answer_count_from-na.ensures in
    sym (length-take-le c.answer_count_from-na.result c.decode_answers-answers.result (search rules))

pub returns : goal.returns
unfolding frame_from
returns c =
    let n = counted _ _ _ c.body_count_from-nb.ensures c.answer_count_from-na.ensures in
    rw (
      front_of_bodies _ _ _ _ _ c.decode_bodies.ensures,
      front_of_flags _ _ _ _ c.decode_flags.ensures,
      front_of_answers _ _ _ _ _ _ c.decode_answers-answers.ensures,
      length_answers,
      c.answers_start.ensures,
      n,
      c.body_count_from-nb.ensures,
      c.step_from.ensures,
    ) at c.drive.ensures
