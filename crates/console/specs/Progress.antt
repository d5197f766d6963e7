-- Where the program stands after so many runs of `served`, and what they printed. Definitions only.
use Rattle.std.specs.Prelude.{ℕ, zero, suc, Bool, true, false, List, [], ◌++◌, drop}
use Rattle.std.specs.Float.{Format}
use Rattle.lists.specs.Pick.{pick}
use Rattle.perform.specs.declared.Car.{Car}
use Rattle.session.specs.declared.Stands.{Stands}
use Rattle.session.specs.Runs.{Ran, run_of}
use Rattle.session.specs.Served.{Serving, pulled}

-- what was printed so far, where the program stands, and whether it has ended
pub record Progress : Type 0 where
  pub text : List ℕ
  pub at : Serving
  pub ended : Bool

abbrev pub progress : List ℕ → Serving → Bool → Progress
progress text at ended = record { text = text; at = at; ended = ended }

abbrev pub serving : Bool → Car → List ℕ → List (List ℕ) → Serving
serving last s w blocks = record { last = last; car = s; window = w; blocks = blocks }

-- a run more, by how it stands: the cases of `served_by`
unfoldable pub on_by : Stands → Ran → List ℕ → Serving → Progress
on_by Stands.Ended y text x = progress (text ++ y.text) (serving x.last y.car (drop y.taken x.window) x.blocks) true
on_by Stands.More y text x = progress (text ++ y.text) (pulled y.car (drop y.taken x.window) x.blocks) false
on_by Stands.Full y text x = progress (text ++ y.text) (serving x.last y.car (drop y.taken x.window) x.blocks) false

-- unless the program has ended
unfoldable pub on : Format → ℕ → Progress → Progress
on f room p =
    let y = run_of f p.at.last p.at.car room p.at.window in
    pick p.ended p (on_by y.stands y p.text p.at)

-- after k runs
unfoldable pub after : Format → ℕ → ℕ → Serving → Progress
after f room zero x = progress [] x false
after f room (suc k) x = on f room (after f room k x)
