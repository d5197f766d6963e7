-- Document 01, "What a vehicle keeps". Add a wheel: the mark becomes new. Definitions only.
-- A new row holds what was handed in, direction and axle also as the world ones, identity steering, 0 elsewhere.
use Rattle.std.specs.Prelude.{ℕ, ◌+◌, List, [], ◌∷◌, ltb, set, replicate, Float}
use Rattle.lists.specs.Refusal.{◌or◌, first_failed}
use Rattle.real.specs.Number.{zero}
use Rattle.vector.specs.Arithmetic.{zero_v}
use Rattle.wheel.specs.declared.Settings.{Settings}
use Rattle.wheel.specs.declared.Steering.TheVariants.{ByRotation}
use Rattle.wheel.specs.declared.Wheel.{Wheel}
use Rattle.wheel.specs.Parts.{with_place, with_settings, with_controls}
use Rattle.wheel.specs.Steering.{identity, kept_controls}
use Rattle.table.specs.Layout as at
use Rattle.table.specs.Rows.{wheel_of, put_wheel}
use Rattle.table.specs.Bounds.{stored_within}
use Rattle.refusals.specs.Shape.{count_of, shape_ok}
use Rattle.ranges.specs.Ranges.{settings_in_range}
use Rattle.refusals.specs.Handed.{settings_handed}
use Rattle.refusals.specs.After.{After, after, settled, marked}

-- a wheel whose numbers are all 0
unfoldable pub blank_wheel : Wheel
blank_wheel = wheel_of (replicate at.ROW zero)

unfoldable pub new_wheel : Settings → Wheel
new_wheel s =
    with_controls
    (with_place (with_settings blank_wheel s) (record { centre = zero_v; direction = s.direction; axle = s.axle }))
    (kept_controls (record { engine = zero; brake = zero; steering = ByRotation identity }))

unfoldable pub refuse_add : List Float → List ℕ → Settings → ℕ
refuse_add t m s =
    first_failed
    (shape_ok t m or 1
    ∷ ltb (count_of m) at.WHEELS or 3
    ∷ settings_handed s or 2
    ∷ stored_within t (count_of m) or 2
    ∷ settings_in_range s or 10
    ∷ [])

unfoldable pub add_wheel : List Float → List ℕ → Settings → After ℕ
add_wheel t m s =
    settled (refuse_add t m s) (λ n. n)
    (after 0 (put_wheel t (count_of m) (new_wheel s)) (marked (set m at.COUNT (count_of m + 1)) at.NEW)) t m
