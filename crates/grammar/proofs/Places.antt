-- Laws on the places of a code. In order: what the width and the verdict at a place go by; nothing follows a whole code; how many words may still come, and that each word takes at least one from them. Assumes nothing.
use Prim.Native.Nat.{ℕ, ◌+◌, ◌-◌, ◌*◌, ◌≤◌, ◌<◌}
use mathlib.Core.Bool.{Bool, true, false}
use mathlib.Core.List.{List, [], ◌∷◌}
use mathlib.Core.Path.{◌≡◌, refl, sym, ◌∙◌}
use native.Mathlib.Omega.{arith}
use borrow.Author.Tests.{ltb-true, leb-true, eqb-false}
use lib.Dec.{eqb, leb}
use Rattle.lists.specs.Pick.{pick}
use Rattle.grammar.specs.declared.Asked.{Asked}
use Rattle.grammar.specs.declared.Mark.{Mark}
use Rattle.grammar.specs.declared.Mark.TheVariants.{Code, Wheel, Bodies, Flag, Answers, Kind, Named, End, Bad}
use Rattle.grammar.specs.declared.Place.{Place}
use Rattle.grammar.specs.declared.Verdict.{Verdict}
use Rattle.grammar.specs.Layout as at
use Rattle.grammar.specs.Layout.{Widths}
use Rattle.grammar.specs.Grammar.{◌then◌, is_float, width_at, start, asked, after_asked, bodies, answers, after_kind, limited, follow, next, verdict_at, verdict, reached}

-- a choice has what each of its sides has
pick_either : {A : Type 0} (P : A → Type 0) (b : Bool) (x y : A) → P x → P y → P (pick b x y)
unfolding pick
pick_either P true x y px py = px
pick_either P false x y px py = py

-- no word is wider than the wider kind
pub width_within : (widths : Widths) (bits : ℕ) (p : Place) → widths.float ≤ bits → widths.whole ≤ bits → width_at widths p ≤ bits
unfolding width_at
width_within widths bits p f w = pick_either (λ n. n ≤ bits) (is_float p) widths.float widths.whole f w

pub verdict_float : (p : Place) → is_float p ≡ true → verdict p ≡ Verdict.More
unfolding verdict pick
verdict_float p h = rw h

pub verdict_mark : (p : Place) → is_float p ≡ false → verdict p ≡ verdict_at p.mark
unfolding verdict pick
verdict_mark p h = rw h

pub verdict_start : verdict start ≡ Verdict.More
unfolding verdict verdict_at is_float pick
verdict_start = refl

-- a place that asks for no word: another one is wrong, and so is every one after it
follow_closed : (m : Mark) (w : ℕ) → (verdict_at m ≡ Verdict.More → ⊥) → follow m w ≡ 0 then Bad
unfolding verdict_at follow
follow_closed Code w h = absurd (h refl)
follow_closed (Wheel k) w h = absurd (h refl)
follow_closed Bodies w h = absurd (h refl)
follow_closed (Flag n) w h = absurd (h refl)
follow_closed Answers w h = absurd (h refl)
follow_closed (Kind n) w h = absurd (h refl)
follow_closed (Named n) w h = absurd (h refl)
follow_closed End w h = refl
follow_closed Bad w h = refl

next_closed : (p : Place) (w : ℕ) → (verdict p ≡ Verdict.More → ⊥) → next p w ≡ 0 then Bad
unfolding next pick
next_closed p w h = go (is_float p) refl
  where
    go : (b : Bool) → is_float p ≡ b → pick b ((p.floats - 1) then p.mark) (follow p.mark w) ≡ 0 then Bad
    go true e = absurd (h (verdict_float p e))
    go false e = follow_closed p.mark w (λ m. h (verdict_mark p e ∙ m))

reached_bad : (l : List ℕ) → reached (0 then Bad) l ≡ 0 then Bad
unfolding reached next follow is_float pick
reached_bad [] = refl
reached_bad (w ∷ l) = reached_bad l

-- so the words of a code end where it is whole
pub closed_end : (p : Place) (l : List ℕ) → (verdict p ≡ Verdict.More → ⊥) → verdict (reached p l) ≡ Verdict.Whole → l ≡ []
unfolding reached verdict verdict_at is_float pick
closed_end p [] c h = refl
closed_end p (w ∷ l) c h =
    let stuck : reached (next p w) l ≡ 0 then Bad = rw (next_closed p w c) (reached_bad l) in
    let wrong : Verdict.Bad ≡ Verdict.Whole = rw stuck at h in
    let z : ◌≡◌ {A = ℕ} 0 1 = cc in
    absurd (omega arith)

-- the most words that may come from a mark on, its own included
most_at : Mark → ℕ
most_at Code = at.CODE-WORDS
most_at (Wheel k) = 1 + k
most_at Bodies = at.BODIES-WORDS
most_at (Flag n) = 1 + n * (at.BODY-FLOATS + 1) + at.ANSWERS-WORDS
most_at Answers = at.ANSWERS-WORDS
most_at (Kind n) = (1 + n) * at.ANSWER-WORDS
most_at (Named n) = 1 + n * at.ANSWER-WORDS
most_at End = 0
most_at Bad = 0

-- the most words that may come from a place on
pub most : Place → ℕ
most p = p.floats + most_at p.mark

pub most_start : most start ≡ at.CODE-WORDS
unfolding most most_at
most_start = refl

most_bodies : (n : ℕ) → most (bodies n) ≤ n * (at.BODY-FLOATS + 1) + at.ANSWERS-WORDS
unfolding most most_at bodies pick
most_bodies n = go (eqb n 0) refl
  where
    go : (b : Bool) → eqb n 0 ≡ b → most (pick b (0 then Answers) (at.BODY-FLOATS then Flag (n - 1))) ≤ n * (at.BODY-FLOATS + 1) + at.ANSWERS-WORDS
    go true e = omega arith
    go false e = let z : n ≡ 0 → ⊥ = eqb-false n 0 e in omega arith

most_answers : (n : ℕ) → most_at (answers n) ≤ n * at.ANSWER-WORDS
unfolding most_at answers pick
most_answers n = go (eqb n 0) refl
  where
    go : (b : Bool) → eqb n 0 ≡ b → most_at (pick b End (Kind (n - 1))) ≤ n * at.ANSWER-WORDS
    go true e = omega arith
    go false e = let z : n ≡ 0 → ⊥ = eqb-false n 0 e in omega arith

most_limited : (m w k : ℕ) (p : Place) → 0 < k → (w ≤ m → most p < k) → most (limited m w p) < k
unfolding most most_at limited pick
most_limited m w k p pos h = go (leb w m) refl
  where
    go : (b : Bool) → leb w m ≡ b → most (pick b p (0 then Bad)) < k
    go true e = h (leb-true w m e)
    go false e = omega arith

most_asked : (a : Asked) → most (after_asked a) < at.CODE-WORDS
unfolding most most_at after_asked
most_asked Asked.End = omega arith
most_asked Asked.Add = omega arith
most_asked Asked.Controls = omega arith
most_asked Asked.Aim = omega arith
most_asked Asked.Drive = omega arith
most_asked Asked.Read = omega arith
most_asked Asked.AddRolled = omega arith
most_asked Asked.ReadSettled = omega arith
most_asked Asked.ReadAll = omega arith
most_asked Asked.ControlsByAngle = omega arith
most_asked Asked.Unknown = omega arith

most_kind : (k n : ℕ) → most (after_kind k n) < (1 + n) * at.ANSWER-WORDS
unfolding most most_at after_kind
most_kind k n =
    let P : Place → Type 0 = λ p. most p < (1 + n) * at.ANSWER-WORDS in
    pick_either P _ _ _ (omega (arith, most_answers n)) (
    pick_either P _ _ _ (omega arith) (
    pick_either P _ _ _ (omega arith) (omega arith)))

follow_less : (m : Mark) (w : ℕ) → verdict_at m ≡ Verdict.More → most (follow m w) < most_at m
unfolding follow most most_at verdict_at
follow_less Code w h = most_asked (asked w)
follow_less (Wheel k) w h = omega arith
follow_less Bodies w h = most_limited at.BODIES w at.BODIES-WORDS (bodies w) (omega arith) (λ l. omega (arith, most_bodies w))
follow_less (Flag n) w h = most_limited at.DYNAMIC w _ (bodies n) (omega arith) (λ l. omega (arith, most_bodies n))
follow_less Answers w h = most_limited at.ANSWERS w at.ANSWERS-WORDS (0 then answers w) (omega arith) (λ l. omega (arith, most_answers w))
follow_less (Kind n) w h = most_kind w n
follow_less (Named n) w h = omega (arith, most_answers n)
follow_less End w h = let z : ◌≡◌ {A = ℕ} 0 1 = cc in absurd (omega arith)
follow_less Bad w h = let z : ◌≡◌ {A = ℕ} 0 1 = cc in absurd (omega arith)

pub next_less : (p : Place) (w : ℕ) → verdict p ≡ Verdict.More → most (next p w) < most p
unfolding most next is_float pick
next_less p w h = go (is_float p) refl
  where
    go : (b : Bool) → is_float p ≡ b → most (pick b ((p.floats - 1) then p.mark) (follow p.mark w)) < most p
    go true e = omega (arith, ltb-true 0 p.floats e)
    go false e = omega (arith, follow_less p.mark w (sym (verdict_mark p e) ∙ h))
