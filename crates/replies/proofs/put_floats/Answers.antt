-- `replies::put_floats` meets its contract: `put_numbers` puts as many as are asked for. Assumes nothing.
use borrow.Author.Rules.{rules}
use mathlib.Core.Path.{sym}
use native.Mathlib.Omega.{arith}
use lib.Seq.{length-take-le}
use Rattle.scenario.specs.Format.{format}
use Rattle.replies.proofs.Settled.{count_fits, first_numbers_put}
use Rattle.replies.proofs.put_floats.Goals as goal

pub slice_bounds-numbers-end : goal.slice_bounds-numbers-end
slice_bounds-numbers-end c = let k = count_fits _ _ c.reading_count-count.ensures in search rules

pub slice_bounds-put_numbers-end-2 : goal.slice_bounds-put_numbers-end-2
slice_bounds-put_numbers-end-2 c = let k = count_fits _ _ c.reading_count-count.ensures in sym (length-take-le _ _ (search rules))

pub put_numbers-requires : goal.put_numbers-requires
put_numbers-requires c =
    let k = count_fits _ _ c.reading_count-count.ensures in
    let n = length-take-le c.reading_count-count.result c.all_numbers-numbers.result (omega arith) in
    search rules

pub returns : goal.returns
returns c =
    first_numbers_put format _ _ _ _ _ c.reading_count-count.ensures (rw c.all_numbers-numbers.ensures at c.put_numbers.ensures)
