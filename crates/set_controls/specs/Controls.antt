-- Document 01, "What a vehicle keeps". Set controls (engine, brake, steering): an aimed mark becomes new; others stay. Change request 2026-11: "The row keeps the last control given, angle or rotation." Definitions only.
use Rattle.std.specs.Prelude.{ℕ, List, [], ◌∷◌, eqb, ltb, Float}
use Rattle.std.specs.Float.{Format}
use Rattle.lists.specs.Pick.{pick}
use Rattle.lists.specs.Refusal.{◌or◌, first_failed}
use Rattle.wheel.specs.declared.Controls.{Controls}
use Rattle.wheel.specs.Parts.{with_controls}
use Rattle.wheel.specs.Steering.{kept_controls}
use Rattle.table.specs.Layout as at
use Rattle.table.specs.Rows.{wheel_at, put_wheel}
use Rattle.table.specs.Bounds.{stored_within}
use Rattle.refusals.specs.Shape.{count_of, mark_of, shape_ok}
use Rattle.ranges.specs.Ranges.{controls_in_range}
use Rattle.refusals.specs.Handed.{controls_handed}
use Rattle.refusals.specs.After.{After, after, settled, marked}

unfoldable pub unaimed : List ℕ → List ℕ
unaimed m = pick (eqb (mark_of m) at.AIMED) (marked m at.NEW) m

unfoldable pub refuse_controls : Format → List Float → List ℕ → ℕ → Controls → ℕ
refuse_controls f t m i c =
    first_failed
    (shape_ok t m or 1
    ∷ ltb i (count_of m) or 4
    ∷ controls_handed c or 2
    ∷ stored_within t (count_of m) or 2
    ∷ controls_in_range f c or 10
    ∷ [])

unfoldable pub set_controls : Format → List Float → List ℕ → ℕ → Controls → After ℕ
set_controls f t m i c =
    settled (refuse_controls f t m i c) (λ n. n)
    (after 0 (put_wheel t i (with_controls (wheel_at t i) (kept_controls c))) (unaimed m)) t m
