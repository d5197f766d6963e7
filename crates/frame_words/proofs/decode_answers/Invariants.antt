-- `frame_words::decode_answers` meets its contract: the first i answers are in place, and the others start at a. Assumes nothing.
use Prim.Native.Nat.{◌+◌, ◌*◌, ◌-◌, ◌≤◌}
use Rattle.lists.proofs.Filling.{Filling}
use Rattle.grammar.specs.Layout as code
use Rattle.scenario.specs.Layout as at
use Rattle.scenario.specs.Format.{format}
use Rattle.frame_words.specs.Frame.{answers_from}
use Rattle.frame_words.proofs.decode_answers.Given as goal

abbrev pub invariant-loop-i : goal.invariant-loop-i
invariant-loop-i l = (l.i ≤ l.na) × (l.a + (l.na - l.i) * at.HIT-UP-WORDS ≤ code.CODE-WORDS) × Filling l.initial.answers l.answers l.i (answers_from format l.words l.a (l.na - l.i)) (answers_from format l.words l.from l.na)
