-- `exports::vehicle_aim` meets its contract: a list has not its length, or the call decides. Assumes nothing.
use mathlib.Core.Path.{refl}
use Rattle.exports.specs.Calls.{flat_aim}
use Rattle.aim.specs.Aim.{AimReply, aim_reply, not_aimed}
use Rattle.aim.specs.Sights.{aimed_list}
use Rattle.flat_out.proofs.Ending.{refused_of_length, settled_of_length, settled_of_call, flattened_of_answer}
use Rattle.exports.proofs.vehicle_aim.Goals as goal

pub returns-then-chassis-ne-KEPT : goal.returns-then-chassis-ne-KEPT
unfolding flat_aim
returns-then-chassis-ne-KEPT c = rw c.number.ensures (refused_of_length _ _ _ _ _ _ _ c.if-chassis-ne-KEPT.true)

pub returns-then-results-ne-AIM : goal.returns-then-results-ne-AIM
unfolding flat_aim
returns-then-results-ne-AIM c =
    rw c.number-then-results-ne-AIM.ensures
    (settled_of_length _ _ _ _ _ _ _ _ c.if-chassis-ne-KEPT.false (refused_of_length _ _ _ _ _ _ _ c.if-results-ne-AIM.true))

pub returns : goal.returns
unfolding flat_aim not_aimed
returns c =
    settled_of_length _ _ _ _ _ _ _ _ c.if-chassis-ne-KEPT.false
    (settled_of_length _ _ _ _ _ _ _ _ c.if-results-ne-AIM.false
    (settled_of_call _ _ _ _ _ (flattened_of_answer aim_reply not_aimed (λ (r : AimReply). r.number) (λ (r : AimReply). aimed_list r.speed r.sights) _ _ _ _ _ (λ x. refl) (λ n. refl) _ _
    c.answer_number.ensures (rw c.read_chassis-c.ensures at c.aim-answer.ensures) c.put_aimed.ensures)))
