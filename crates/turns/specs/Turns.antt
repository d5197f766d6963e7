-- Document 01, "Scenario program": one code, taken from the bytes that are there. "A code is read whole before its call." Definitions only.
use Rattle.std.specs.Prelude.{ℕ, Bool, List, [], ◌++◌, ◌≡◌, eqb}
use Rattle.std.specs.Float.{Format}
use Rattle.lists.specs.Pick.{pick}
use Rattle.stream.specs.declared.Code.{Code}
use Rattle.grammar.specs.Layout as code
use Rattle.stream.specs.Code.{shown, read_code}
use Rattle.lines.specs.Line.{line}
use Rattle.scenario.specs.Format.{widths_of, hex_digits_of}
use Rattle.perform.specs.Call.{call_of}
use Rattle.turns.specs.declared.Next.{Next}
use Rattle.perform.specs.declared.Car.{Car}
use Rattle.turns.specs.Car.{car, MALFORMED, padded}

-- what a code makes: what is printed, the car afterwards, and what follows
pub record Turned : Type 0 where
  pub text : List ℕ
  pub car : Car
  pub next : Next

abbrev pub turned : List ℕ → Car → Next → Turned
turned l s n = record { text = l; car = s; next = n }

-- what follows a code that took so many bytes: nothing follows code 0
unfoldable pub following : ℕ → ℕ → Next
following c taken = pick (eqb c code.END) Next.Ended (Next.On taken)

-- the call of the words l, which took so many bytes
unfoldable pub called : Format → List ℕ → ℕ → Car → Turned
called f l taken s =
    let x = call_of f l s.table s.whole in
    turned (line (hex_digits_of f) (shown l) x.reply.number x.reply.results) (car x.table x.whole) (following (shown l) taken)

-- a malformed place in the code c
unfoldable pub malformed : Format → ℕ → Car → Turned
malformed f c s = turned (line (hex_digits_of f) c MALFORMED []) s Next.Ended

-- by what stands at the start of the bytes: too few of them are malformed only where they are the last
unfoldable pub turned_by : Format → Bool → Code → List ℕ → Car → Turned
turned_by f last (Code.Whole n taken) l s = called f (padded l) taken s
turned_by f last (Code.Short c) l s = pick last (malformed f c s) (turned [] s Next.More)
turned_by f last (Code.Malformed c) l s = malformed f c s

unfoldable pub turn_of : Format → Bool → Car → List ℕ → Turned
turn_of f last s bytes = turned_by f last (read_code (widths_of f) bytes).code (read_code (widths_of f) bytes).words s

-- a code is taken: its text is put behind the text before, and the car is as it leaves it
pub record Turns (x : Turned) (r : Next) (before after : List ℕ) (c : Car) : Type 0 where
  pub text : after ≡ before ++ x.text
  pub next : r ≡ x.next
  pub car : c ≡ x.car
