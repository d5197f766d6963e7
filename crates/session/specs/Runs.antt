-- Document 01, "Scenario program": the codes of a window, one after another, while they are whole and a buffer has room for another line. Definitions only.
use Rattle.std.specs.Prelude.{ℕ, zero, suc, ◌+◌, ◌-◌, Bool, List, [], ◌++◌, ◌≡◌, ltb, length, take, drop, Result, Ok, Err}
use Rattle.std.specs.Float.{Format}
use Rattle.std.specs.declared.io.Error.{Error}
use Rattle.lists.specs.Pick.{pick}
use Rattle.lines.specs.Layout.{line_bytes}
use Rattle.scenario.specs.Format.{hex_digits_of}
use Rattle.turns.specs.declared.Next.{Next}
use Rattle.session.specs.declared.Stands.{Stands}
use Rattle.session.specs.declared.Run.{Run}
use Rattle.perform.specs.declared.Car.{Car}
use Rattle.session.specs.Program.{printed_from}
use Rattle.turns.specs.Turns.{Turned, turn_of}

-- ---- the codes of one window
-- what a run makes: what is printed, the car afterwards, how many bytes are done with, and how it stands
pub record Ran : Type 0 where
  pub text : List ℕ
  pub car : Car
  pub taken : ℕ
  pub stands : Stands

abbrev pub ran : List ℕ → Car → ℕ → Stands → Ran
ran l s n e = record { text = l; car = s; taken = n; stands = e }

-- a run behind a text and so many bytes
abbrev pub behind : List ℕ → ℕ → Ran → Ran
behind l n y = ran (l ++ y.text) y.car (n + y.taken) y.stands

-- a run by what follows its first code; `on` runs on, with the room that is left
unfoldable pub ran_by : (Car → ℕ → List ℕ → Ran) → Next → Turned → ℕ → List ℕ → Ran
ran_by on (Next.On n) x room bytes = behind x.text n (on x.car (room - length x.text) (drop n bytes))
ran_by on Next.Ended x room bytes = ran x.text x.car 0 Stands.Ended
ran_by on Next.More x room bytes = ran x.text x.car 0 Stands.More

-- with at most k codes
unfoldable pub run_on : Format → Bool → ℕ → Car → ℕ → List ℕ → Ran
run_on f last zero s room bytes = ran [] s 0 Stands.More
run_on f last (suc k) s room bytes = pick (ltb room (line_bytes (hex_digits_of f))) (ran [] s 0 Stands.Full) (ran_by (run_on f last k) (turn_of f last s bytes).next (turn_of f last s bytes) room bytes)

-- from the start of the bytes, with room for so many bytes of text; each code takes a byte at least
unfoldable pub run_of : Format → Bool → Car → ℕ → List ℕ → Ran
run_of f last s room bytes = run_on f last (suc (length bytes)) s room bytes

-- a run is made: the text and the car are as it leaves them
pub record Runs (x : Ran) (r : Run) (printed : List ℕ) (c : Car) : Type 0 where
  pub text : printed ≡ x.text
  pub taken : r.taken ≡ x.taken
  pub stands : r.stands ≡ x.stands
  pub car : c ≡ x.car

-- what is printed of a stream after a run over its first bytes, by how the run stands: nothing once the program has ended, and else what the bytes that are left tell
unfoldable pub printed_after : Format → Stands → Car → List ℕ → List ℕ
printed_after f Stands.Ended s bytes = []
printed_after f Stands.More s bytes = printed_from f s bytes
printed_after f Stands.Full s bytes = printed_from f s bytes

-- ---- a window that is kept for the next bytes
-- a read came to a window: its bytes are kept, and so many stand behind them; none where it failed
abbrev pub Came : Result ℕ Error → List ℕ → List ℕ → Type 0
Came (Ok n) before after = (take (length before) after ≡ before) × (length after ≡ length before + n)
Came (Err e) before after = after ≡ before

-- a run is made over the bytes of a window, and those that it left are the window's
pub record Steps (x : Ran) (bytes : List ℕ) (e : Stands) (window printed : List ℕ) (c : Car) : Type 0 where
  pub text : printed ≡ x.text
  pub stands : e ≡ x.stands
  pub left : window ≡ drop x.taken bytes
  pub car : c ≡ x.car
