-- `perform::perform` meets its contract: the definition, replayed as the code runs. Assumes nothing.
use Prim.Native.Nat.{ℕ}
use mathlib.Core.List.{List}
use mathlib.Core.Path.{◌≡◌, sym, ◌∙◌}
use lib.ListN.{get_or}
use Rattle.grammar.specs.declared.Asked.{Asked}
use Rattle.grammar.specs.Grammar.{asked}
use Rattle.scenario.specs.Decode.{number_from}
use Rattle.perform.specs.Call.{call_for, call_of}
use Rattle.perform.proofs.Told.{told_number, told_none}
use Rattle.perform.proofs.perform.Goals as goal

-- what the words ask for is what was found to be asked
asks : (words : List ℕ) (found a : Asked) → found ≡ asked (get_or words 0 0) → found ≡ a → asked (number_from words 0) ≡ a
unfolding number_from
asks words found a e h = sym e ∙ h

pub returns-in-End : goal.returns-in-End
unfolding call_of call_for
returns-in-End c =
    rw (asks _ _ _ c.from-asked.ensures c.in-End.is) (told_none _ _)

pub returns-in-Add : goal.returns-in-Add
unfolding call_of call_for
returns-in-Add c =
    rw (asks _ _ _ c.from-asked.ensures c.in-Add.is, ← c.settings_from.ensures) (told_number _ _ _ _ c.call_add.ensures)

pub returns-in-Controls : goal.returns-in-Controls
unfolding call_of call_for
returns-in-Controls c =
    rw (asks _ _ _ c.from-asked.ensures c.in-Controls.is, ← c.controls_from.ensures) (told_number _ _ _ _ c.call_controls.ensures)

pub returns-in-AddRolled : goal.returns-in-AddRolled
unfolding call_of call_for
returns-in-AddRolled c =
    rw (asks _ _ _ c.from-asked.ensures c.in-AddRolled.is, ← c.rolled_from.ensures) (told_number _ _ _ _ c.call_add-in-AddRolled.ensures)

pub returns-in-ControlsByAngle : goal.returns-in-ControlsByAngle
unfolding call_of call_for
returns-in-ControlsByAngle c =
    rw (asks _ _ _ c.from-asked.ensures c.in-ControlsByAngle.is, ← c.controls_by_angle_from.ensures) (told_number _ _ _ _ c.call_controls-in-ControlsByAngle.ensures)

pub returns-in-Unknown : goal.returns-in-Unknown
unfolding call_of call_for
returns-in-Unknown c =
    rw (asks _ _ _ c.from-asked.ensures c.in-Unknown.is) (told_none _ _)
