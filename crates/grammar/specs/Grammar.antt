-- Document 01, "Scenario program", and the field order of docs/STREAM.md: what may follow the words of a code that are read so far. A code is a list of words, and each word a number: a float by its bit pattern, or a whole number. Definitions only.
use Rattle.std.specs.Prelude.{ℕ, ◌-◌, Bool, List, [], ◌∷◌, eqb, ltb, leb}
use Rattle.lists.specs.Pick.{pick}
use Rattle.grammar.specs.declared.Asked.{Asked}
use Rattle.grammar.specs.declared.Mark.{Mark}
use Rattle.grammar.specs.declared.Mark.TheVariants.{Code, Wheel, Bodies, Flag, Answers, Kind, Named, End, Bad}
use Rattle.grammar.specs.declared.Place.{Place}
use Rattle.grammar.specs.declared.Verdict.{Verdict}
use Rattle.grammar.specs.Layout as at
use Rattle.grammar.specs.Layout.{Widths}

infix 60 ◌then◌
-- so many floats, then the mark's whole number
abbrev pub ◌then◌ : ℕ → Mark → Place
n then m = record { floats = n; mark = m }

-- the word at a place is a float
unfoldable pub is_float : Place → Bool
is_float p = ltb 0 p.floats

-- how many bits the word at a place has at most
unfoldable pub width_at : Widths → Place → ℕ
width_at widths p = pick (is_float p) widths.float widths.whole

-- what a code asks for
unfoldable pub asked : ℕ → Asked
asked c =
    pick (eqb c at.END) Asked.End (
    pick (eqb c at.ADD) Asked.Add (
    pick (eqb c at.CONTROLS) Asked.Controls (
    pick (eqb c at.AIM) Asked.Aim (
    pick (eqb c at.DRIVE) Asked.Drive (
    pick (eqb c at.READ) Asked.Read (
    pick (eqb c at.ADD-ROLLED) Asked.AddRolled (
    pick (eqb c at.READ-SETTLED) Asked.ReadSettled (
    pick (eqb c at.READ-ALL) Asked.ReadAll (
    pick (eqb c at.CONTROLS-BY-ANGLE) Asked.ControlsByAngle (
    Asked.Unknown))))))))))

-- after a code
unfoldable pub after_asked : Asked → Place
after_asked Asked.End = 0 then End
after_asked Asked.Add = at.ADD-FLOATS then End
after_asked Asked.Controls = 0 then Wheel at.CONTROLS-FLOATS
after_asked Asked.Aim = at.AIM-FLOATS then End
after_asked Asked.Drive = at.STEP-FLOATS then Bodies
after_asked Asked.Read = 0 then Wheel at.READ-FLOATS
after_asked Asked.AddRolled = at.ADD-ROLLED-FLOATS then End
after_asked Asked.ReadSettled = 0 then Wheel at.READ-FLOATS
after_asked Asked.ReadAll = 0 then Wheel at.READ-FLOATS
after_asked Asked.ControlsByAngle = 0 then Wheel at.CONTROLS-BY-ANGLE-FLOATS
after_asked Asked.Unknown = 0 then Bad

-- n more bodies, then the answers
unfoldable pub bodies : ℕ → Place
bodies n = pick (eqb n 0) (0 then Answers) (at.BODY-FLOATS then Flag (n - 1))

-- n more answers, then the end
unfoldable pub answers : ℕ → Mark
answers n = pick (eqb n 0) End (Kind (n - 1))

-- after the kind of an answer that n more follow
unfoldable pub after_kind : ℕ → ℕ → Place
after_kind k n =
    pick (eqb k at.NOTHING) (0 then answers n) (
    pick (eqb k at.HIT) (at.HIT-FLOATS then Named n) (
    pick (eqb k at.HIT-UP) (at.HIT-UP-FLOATS then Named n) (
    0 then Bad)))

-- a word over its limit is bad
unfoldable pub limited : ℕ → ℕ → Place → Place
limited most w p = pick (leb w most) p (0 then Bad)

-- after the word w at a mark: a count over its limit, a flag that is not 0 or 1, and an unknown code or kind are bad as soon as they are read
unfoldable pub follow : Mark → ℕ → Place
follow Code w = after_asked (asked w)
follow (Wheel k) w = k then End
follow Bodies w = limited at.BODIES w (bodies w)
follow (Flag n) w = limited at.DYNAMIC w (bodies n)
follow Answers w = limited at.ANSWERS w (0 then answers w)
follow (Kind n) w = after_kind w n
follow (Named n) w = 0 then answers n
follow End w = 0 then Bad
follow Bad w = 0 then Bad

-- after the word w at any place
unfoldable pub next : Place → ℕ → Place
next p w = pick (is_float p) ((p.floats - 1) then p.mark) (follow p.mark w)

unfoldable pub verdict_at : Mark → Verdict
verdict_at Code = Verdict.More
verdict_at (Wheel k) = Verdict.More
verdict_at Bodies = Verdict.More
verdict_at (Flag n) = Verdict.More
verdict_at Answers = Verdict.More
verdict_at (Kind n) = Verdict.More
verdict_at (Named n) = Verdict.More
verdict_at End = Verdict.Whole
verdict_at Bad = Verdict.Bad

-- whether words are to follow, the code is whole, or no code begins so
unfoldable pub verdict : Place → Verdict
verdict p = pick (is_float p) Verdict.More (verdict_at p.mark)

abbrev pub start : Place
start = 0 then Code

-- where the words lead
unfoldable pub reached : Place → List ℕ → Place
reached p [] = p
reached p (w ∷ l) = reached (next p w) l

-- what may follow the words
unfoldable pub judge : List ℕ → Verdict
judge l = verdict (reached start l)
