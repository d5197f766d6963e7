-- `console::turn` meets its contract: the text of the run is what is handed to the write, and what is read on follows it. Assumes nothing.
use mathlib.Core.Path.{◌∙◌}
use Rattle.console.specs.Writing.{Printed}
use Rattle.console.proofs.Turning.{read_follows}
use Rattle.console.proofs.turn.Goals as goal

pub print-requires : goal.print-requires
print-requires g c = Printed.of_run _ _ _ (c.as_bytes.ensures ∙ c.step-stands.ensures.text)

pub returns : goal.returns
returns g c =
    let made = c.step-stands.ensures in
    record { text = made.text; car = made.car; follows = read_follows made.left _ _ _ _ made.stands c.read_on.ensures }
