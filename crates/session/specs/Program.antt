-- Document 01, "Scenario program": what the program prints for a stream of bytes. Definitions only.
use Rattle.std.specs.Prelude.{ℕ, zero, suc, List, [], ◌++◌, eqb, length, drop, replicate}
use Rattle.std.specs.Float.{Format}
use Rattle.lists.specs.Pick.{pick}
use Rattle.real.specs.Number.{zero as noNumber}
use Rattle.table.specs.Layout as at
use Rattle.set_up.specs.SetUp.{set_up}
use Rattle.stream.specs.declared.Code.{Code}
use Rattle.grammar.specs.Layout as code
use Rattle.stream.specs.Code.{shown, read_code}
use Rattle.lines.specs.Line.{line, title}
use Rattle.scenario.specs.Format.{widths_of, hex_digits_of}
use Rattle.perform.specs.Call.{call_of}
use Rattle.perform.specs.declared.Car.{Car}
use Rattle.turns.specs.Car.{car, MALFORMED, padded}

-- "The table starts set up with axes 1 and 0."
unfoldable pub start_car : Car
start_car =
    let x = set_up (replicate at.SIZE noNumber) (replicate at.WHOLE 0) 1 0 in
    car x.table x.whole

-- what is printed from a code on, by what stands at the start of the bytes; `on` prints what follows it. An end before code 0 is a malformed place too.
unfoldable pub printed_by : Format → (Car → List ℕ → List ℕ) → Code → List ℕ → Car → List ℕ → List ℕ
printed_by f on (Code.Whole n taken) l s bytes =
    let x = call_of f (padded l) s.table s.whole in
    line (hex_digits_of f) (shown l) x.reply.number x.reply.results ++ pick (eqb (shown l) code.END) [] (on (car x.table x.whole) (drop taken bytes))
printed_by f on (Code.Short c) l s bytes = line (hex_digits_of f) c MALFORMED []
printed_by f on (Code.Malformed c) l s bytes = line (hex_digits_of f) c MALFORMED []

-- with at most k codes
unfoldable pub printed_on : Format → ℕ → Car → List ℕ → List ℕ
printed_on f zero s bytes = []
printed_on f (suc k) s bytes = printed_by f (printed_on f k) (read_code (widths_of f) bytes).code (read_code (widths_of f) bytes).words s bytes

-- from a code on, to the end of the stream; each code takes a byte at least
unfoldable pub printed_from : Format → Car → List ℕ → List ℕ
printed_from f s bytes = printed_on f (suc (length bytes)) s bytes

-- the whole stream
unfoldable pub printed : Format → List ℕ → List ℕ
printed f bytes = title ++ printed_from f start_car bytes
