-- `lines::text::Text::put_decimal` meets its contract. Assumes nothing.
use borrow.Author.Rules.{rules}
use native.Mathlib.Omega.{arith}
use Rattle.lines.specs.Line.{decimal}
use Rattle.lines.proofs.Digits.{places_few}
use Rattle.lines.proofs.text.Text.put_decimal.Goals as goal

pub put_digits-requires : goal.put_digits-requires
put_digits-requires g c = (search rules, (omega arith, omega arith, omega (arith, places_few c.args.n)))

pub returns : goal.returns
unfolding decimal
returns g c = rw (← c.places-k.ensures) c.put_digits.ensures
