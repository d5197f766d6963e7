-- `write` of `Wheel` meets the contract of `table::parts::Part`: each part is written, so the row is that of the wheel of all parts. Assumes nothing.
use Rattle.wheel.specs.Parts.{with_place, with_settings, with_controls, with_approach, with_motion, with_fallbacks}
use Rattle.table.proofs.Writes.{written_after}
use Rattle.table.proofs.parts.WheelPart.write.Goals as goal

pub returns : goal.returns
returns c =
    let w = c.args.self in
    written_after (λ v. with_fallbacks v w.fallbacks) _ _ _ c.write-7.ensures
    (written_after (λ v. with_motion v w.motion) _ _ _ c.write-6.ensures
    (written_after (λ v. with_approach v w.approach) _ _ _ c.write-5.ensures
    (written_after (λ v. with_controls v w.controls) _ _ _ c.write-4.ensures
    (written_after (λ v. with_settings v w.settings) _ _ _ c.write-3.ensures
    (written_after (λ v. with_place v w.place) _ _ _ c.write-2.ensures c.write.ensures)))))
