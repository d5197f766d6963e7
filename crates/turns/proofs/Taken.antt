-- Laws on the code that is taken, by what was read. In order: a whole code; too few bytes, the last or not; a malformed place. Assumes nothing.
use Prim.Native.Nat.{ℕ}
use mathlib.Core.Bool.{Bool, true, false}
use mathlib.Core.List.{List, [], ◌++◌, append-nil}
use mathlib.Core.Path.{◌≡◌, refl, sym, ◌∙◌}
use lib.ListN.{replicate}
use Rattle.lists.specs.Pick.{pick}
use Rattle.grammar.specs.declared.Asked.{Asked}
use Rattle.stream.specs.declared.Code.{Code}
use Rattle.grammar.specs.Layout as code
use Rattle.grammar.specs.Grammar.{asked}
use Rattle.stream.specs.Code.{read_code, Reads}
use Rattle.lines.specs.Line.{line}
use Rattle.scenario.specs.Format.{format, widths_of, hex_digits_of}
use Rattle.scenario.specs.Decode.{number_from}
use Rattle.perform.specs.Call.{Counted}
use Rattle.turns.specs.declared.Next.{Next}
use Rattle.perform.specs.declared.Car.{Car}
use Rattle.turns.specs.Car.{MALFORMED, padded}
use Rattle.turns.specs.Turns.{called, malformed, turned_by, turn_of, Turns}
use Rattle.turns.proofs.Counts.{whole_counted}

module _ {bytes new : List ℕ} {r : Code} (p : Reads (widths_of format) bytes (replicate code.CODE-WORDS 0) new r) where
  pub words_padded : new ≡ padded (read_code (widths_of format) bytes).words
  unfolding padded
  words_padded = p.lent

  pub words_counted : (n taken : ℕ) → r ≡ Code.Whole n taken → asked (number_from new 0) ≡ Asked.Drive → Counted new
  words_counted n taken e = rw words_padded (whole_counted (widths_of format) bytes n taken (sym p.outcome ∙ e))

  module _ {before after : List ℕ} (s : Car) {x : Next} {s' : Car} where
    pub takes_whole : (last : Bool) (n taken : ℕ) → r ≡ Code.Whole n taken → Turns (called format new taken s) x before after s' → Turns (turn_of format last s bytes) x before after s'
    unfolding turn_of turned_by
    takes_whole last n taken e h = rw (sym p.outcome ∙ e) (rw words_padded at h)

  module _ {before after : List ℕ} (s : Car) {x : Next} where
    pub takes_malformed : (last : Bool) (c : ℕ) → r ≡ Code.Malformed c → after ≡ before ++ line (hex_digits_of format) c MALFORMED [] → x ≡ Next.Ended
        → Turns (turn_of format last s bytes) x before after s
    unfolding turn_of turned_by malformed
    takes_malformed last c e h n = rw (sym p.outcome ∙ e) (record { text = h; next = n; car = refl })

    pub takes_last : (last : Bool) (c : ℕ) → last ≡ true → r ≡ Code.Short c → after ≡ before ++ line (hex_digits_of format) c MALFORMED [] → x ≡ Next.Ended
        → Turns (turn_of format last s bytes) x before after s
    unfolding turn_of turned_by malformed pick
    takes_last last c l e h n = rw (sym p.outcome ∙ e, l) (record { text = h; next = n; car = refl })

  pub takes_none : (s : Car) (before : List ℕ) (last : Bool) (c : ℕ) → last ≡ false → r ≡ Code.Short c → Turns (turn_of format last s bytes) Next.More before before s
  unfolding turn_of turned_by pick
  takes_none s before last c l e = rw (sym p.outcome ∙ e, l) (record { text = sym (append-nil before); next = refl; car = refl })
