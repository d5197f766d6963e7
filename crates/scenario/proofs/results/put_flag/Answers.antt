-- `scenario::results::put_flag` meets its contract: one word is stored. Assumes nothing.
use mathlib.Core.Bool.{Bool, true, false}
use mathlib.Core.Path.{◌≡◌, refl, ◌∙◌}
use Rattle.std.specs.Int.{from_bool}
use native.Mathlib.Omega.{arith}
use Rattle.lists.proofs.Parts.{set_is_paste}
use Rattle.lists.specs.Pick.{pick}
use Rattle.scenario.specs.Results.{flag_word}
use Rattle.scenario.proofs.results.put_flag.Goals as goal

is_word : (b : Bool) → from_bool b ≡ flag_word b
unfolding flag_word pick
is_word true = refl
is_word false = refl

pub returns : goal.returns
returns c =
    let a = c.args in
    rw (c.from.ensures ∙ is_word a.flag) (set_is_paste a.words.now a.a (flag_word a.flag) (omega arith))
