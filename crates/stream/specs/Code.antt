-- Document 01, "Scenario program": a code is read whole, number by number, while its grammar asks for more. Each list of bytes has one of three outcomes: a whole code, too few bytes, or a malformed place. Definitions only.
use Rattle.std.specs.Prelude.{ℕ, zero, suc, ◌+◌, Bool, true, false, List, [], ◌∷◌, ◌++◌, ◌≡◌, length, get_or, drop}
use Rattle.lists.specs.Pick.{pick}
use Rattle.lists.specs.Part.{paste}
use Rattle.numbers.specs.declared.Number.{Number}
use Rattle.grammar.specs.declared.Place.{Place}
use Rattle.grammar.specs.declared.Verdict.{Verdict}
use Rattle.stream.specs.declared.Code.{Code}
use Rattle.grammar.specs.Layout.{Widths, CODE-WORDS}
use Rattle.numbers.specs.Number.{has_bits, read_number, write_number}
use Rattle.grammar.specs.Grammar.{width_at, start, next, verdict, judge}

-- the words that were read, and the outcome
pub record Reading : Type 0 where
  pub words : List ℕ
  pub code : Code

infix 50 ◌reads◌
abbrev pub ◌reads◌ : List ℕ → Code → Reading
l reads c = record { words = l; code = c }

-- the code that words belong to, 0 where it is not read
unfoldable pub shown : List ℕ → ℕ
shown l = get_or l 0 0

-- where a reading stands: at a place, with the words so far, from so many bytes, and those that are left
pub record Reader : Type 0 where
  pub place : Place
  pub words : List ℕ
  pub taken : ℕ
  pub rest : List ℕ

-- after the word w, which takes n bytes
abbrev pub after : Reader → ℕ → ℕ → Reader
after s w n = record { place = next s.place w; words = s.words ++ (w ∷ []); taken = s.taken + n; rest = drop n s.rest }

-- the outcome by the verdict at its place; `on` reads on
unfoldable pub placed : (Reader → Reading) → Verdict → Reader → Reading
placed on Verdict.More s = on s
placed on Verdict.Whole s = s.words reads Code.Whole (length s.words) s.taken
placed on Verdict.Bad s = s.words reads Code.Malformed (shown s.words)

-- the outcome by what stands at the start of the bytes that are left
unfoldable pub found : (Reader → Reading) → Number → Reader → Reading
found on (Number.Value w n) s = placed on (verdict (after s w n).place) (after s w n)
found on Number.Short s = s.words reads Code.Short (shown s.words)
found on Number.Bad s = s.words reads Code.Malformed (shown s.words)

-- with at most k more words
unfoldable pub read_on : Widths → ℕ → Reader → Reading
read_on widths zero s = s.words reads Code.Malformed (shown s.words)
read_on widths (suc k) s = found (read_on widths k) (read_number (width_at widths s.place) s.rest) s

-- what stands at the start of the bytes, where numbers are so wide; no code has more than `CODE-WORDS` words
unfoldable pub read_code : Widths → List ℕ → Reading
read_code widths bytes = read_on widths CODE-WORDS (record { place = start; words = []; taken = 0; rest = bytes })

-- the outcome of a reading, and the lent words afterwards
pub record Reads (widths : Widths) (bytes old new : List ℕ) (r : Code) : Type 0 where
  pub outcome : r ≡ (read_code widths bytes).code
  pub lent : new ≡ paste old 0 (read_code widths bytes).words

-- whether the bytes were enough to tell
unfoldable pub decided_code : Code → Bool
decided_code (Code.Whole n taken) = true
decided_code (Code.Short c) = false
decided_code (Code.Malformed c) = true

-- words as bytes, from a place on
unfoldable pub write_words : Widths → Place → List ℕ → List ℕ
write_words widths p [] = []
write_words widths p (w ∷ l) = write_number (width_at widths p) w ++ write_words widths (next p w) l

-- a code as bytes
abbrev pub write_code : Widths → List ℕ → List ℕ
write_code widths l = write_words widths start l

-- each word, from a place on, has the bits of its kind at most
unfoldable pub fitting : Widths → Place → List ℕ → Bool
fitting widths p [] = true
fitting widths p (w ∷ l) = pick (has_bits (width_at widths p) w) (fitting widths (next p w) l) false

-- words that are a code: the grammar takes them as whole
pub record IsCode (widths : Widths) (l : List ℕ) : Type 0 where
  pub fits : fitting widths start l ≡ true
  pub whole : judge l ≡ Verdict.Whole
