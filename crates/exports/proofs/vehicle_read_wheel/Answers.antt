-- `exports::vehicle_read_wheel` meets its contract: the results have not their length, or the call decides. Assumes nothing.
use mathlib.Core.Path.{refl}
use Rattle.exports.specs.Calls.{flat_read}
use Rattle.read_wheel.specs.Read.{ReadReply, read_reply, not_read, all_list}
use Rattle.flat_out.proofs.Ending.{refused_of_length, settled_of_length, settled_of_call, flattened_of_answer}
use Rattle.exports.proofs.vehicle_read_wheel.Goals as goal

pub returns-then-results-ne-ALL : goal.returns-then-results-ne-ALL
unfolding flat_read
returns-then-results-ne-ALL c = rw c.number.ensures (refused_of_length _ _ _ _ _ _ _ c.if-results-ne-ALL.true)

pub returns : goal.returns
unfolding flat_read not_read
returns c =
    settled_of_length _ _ _ _ _ _ _ _ c.if-results-ne-ALL.false
    (settled_of_call _ _ _ _ _ (flattened_of_answer read_reply not_read (λ (r : ReadReply). r.number) all_list _ _ _ _ _ (λ x. refl) (λ n. refl) _ _ c.answer_number.ensures c.read_wheel-answer.ensures c.put_reading.ensures))
