-- `turns::make_call` meets its contract: the results of the call are lent to its line. Assumes nothing.
use borrow.Author.Rules.{rules}
use native.Mathlib.Omega.{arith}
use lib.Seq.{length-take-le}
use mathlib.Core.Path.{◌≡◌, sym}
use Rattle.perform.specs.Call.{number_in, count_in}
use Rattle.turns.proofs.Calls.{results_fit, call_made}
use Rattle.turns.proofs.make_call.Goals as goal
use Rattle.turns.proofs.make_call.Goals.{in-Ok, in-Err}

pub slice_bounds-results-end : goal.slice_bounds-results-end
slice_bounds-results-end g c =
    let told : c.match-perform.number ≡ (number_in c.perform.result, count_in c.perform.result) =
    elim c.match-perform.branch [ in-Ok w ↦ rw (w.number-is, w.in-Ok.is) | in-Err w ↦ rw (w.number-is, w.number.ensures, w.in-Err.is) ] in
    rw told (results_fit c.perform.ensures (search rules))

pub slice_bounds-put_line-end : goal.slice_bounds-put_line-end
slice_bounds-put_line-end g c =
    let told : c.match-perform.number ≡ (number_in c.perform.result, count_in c.perform.result) =
    elim c.match-perform.branch [ in-Ok w ↦ rw (w.number-is, w.in-Ok.is) | in-Err w ↦ rw (w.number-is, w.number.ensures, w.in-Err.is) ] in
    rw told (sym (length-take-le _ _ (results_fit c.perform.ensures (search rules))))

pub put_line-requires : goal.put_line-requires
put_line-requires g c =
    let told : c.match-perform.number ≡ (number_in c.perform.result, count_in c.perform.result) =
    elim c.match-perform.branch [ in-Ok w ↦ rw (w.number-is, w.in-Ok.is) | in-Err w ↦ rw (w.number-is, w.number.ensures, w.in-Err.is) ] in
    let fits = results_fit c.perform.ensures (search rules) in
    (search rules, (rw told (omega (arith, length-take-le (count_in c.perform.result) c.perform.new.results fits)), search rules))

pub returns : goal.returns
returns g c =
    let told : c.match-perform.number ≡ (number_in c.perform.result, count_in c.perform.result) =
    elim c.match-perform.branch [ in-Ok w ↦ rw (w.number-is, w.in-Ok.is) | in-Err w ↦ rw (w.number-is, w.number.ensures, w.in-Err.is) ] in
    call_made _ _ c.perform.ensures (rw told at c.put_line.ensures) _ _ c.following.ensures
