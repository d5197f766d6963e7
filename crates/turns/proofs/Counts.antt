-- The words of a whole code have the counts that a call may rely on. In order: zeros behind the words change none of them; what the grammar tells of the words of a drive; the words of a whole code are the grammar's. Assumes nothing.
use Prim.Native.Nat.{ℕ, zero, suc, ◌+◌, ◌-◌, ◌*◌, ◌≤◌}
use mathlib.Core.Bool.{Bool, true, false}
use mathlib.Core.List.{List, [], ◌∷◌, ◌++◌, append_assoc}
use mathlib.Core.Path.{◌≡◌, refl, ◌∙◌}
use native.Mathlib.Nat.{suc-mul}
use native.Mathlib.Omega.{arith}
use borrow.Author.Tests.{lt-ltb, leb-true, ne_eqb}
use lib.Dec.{eqb, leb}
use lib.ListN.{length, get_or, drop, replicate}
use lib.Seq.{get_or-drop, drop-drop}
use Rattle.lists.specs.Pick.{pick}
use Rattle.lists.specs.Part.{paste}
use Rattle.grammar.specs.declared.Asked.{Asked}
use Rattle.grammar.specs.declared.Mark.{Mark}
use Rattle.grammar.specs.declared.Mark.TheVariants.{Flag, Bad}
use Rattle.grammar.specs.declared.Place.{Place}
use Rattle.grammar.specs.declared.Verdict.{Verdict}
use Rattle.stream.specs.declared.Code.{Code}
use Rattle.grammar.specs.Layout as at
use Rattle.grammar.specs.Layout.{Widths}
use Rattle.grammar.specs.Grammar.{◌then◌, is_float, asked, after_asked, bodies, limited, follow, next, verdict_at, verdict, reached, judge}
use Rattle.stream.specs.Code.{Reading, shown, Reader, read_on, read_code}
use Rattle.grammar.proofs.Places.{closed_end}
use Rattle.stream.proofs.Readings.{by_words, short_not_whole, malformed_not_whole}
use Rattle.scenario.specs.Decode.{number_from}
use Rattle.frame_words.specs.Frame.{body_count_from, answer_count_from}
use Rattle.perform.specs.Call.{answers_of, Counted}
use Rattle.turns.specs.Car.{padded}

-- ---- zeros behind the words
get_d_zeros : (n i : ℕ) → ◌≡◌ {A = ℕ} (get_or (replicate n 0) i 0) 0
get_d_zeros zero i = refl
get_d_zeros (suc n) zero = refl
get_d_zeros (suc n) (suc i) = get_d_zeros n i

get_d_before : (l t : List ℕ) → ((i : ℕ) → get_or t i 0 ≡ 0) → (i : ℕ) → get_or (l ++ t) i 0 ≡ get_or l i 0
get_d_before [] t h i = h i
get_d_before (x ∷ l) t h zero = refl
get_d_before (x ∷ l) t h (suc i) = get_d_before l t h i

get_d_pasted : (n : ℕ) (l : List ℕ) (i : ℕ) → get_or (paste (replicate n 0) 0 l) i 0 ≡ get_or l i 0
unfolding paste
get_d_pasted n l i = get_d_before l (drop (length l) (replicate n 0)) (λ j. get_or-drop (length l) (replicate n 0) j 0 ∙ get_d_zeros n (length l + j)) i

pub get_d_padded : (l : List ℕ) (i : ℕ) → get_or (padded l) i 0 ≡ get_or l i 0
unfolding padded
get_d_padded l i = get_d_pasted at.CODE-WORDS l i

pub shown_padded : (l : List ℕ) → shown (padded l) ≡ shown l
unfolding shown
shown_padded l = get_d_padded l 0

-- ---- the words of a drive
more_not_whole : {A : Type 0} → Verdict.More ≡ Verdict.Whole → A
more_not_whole h = let z : ◌≡◌ {A = ℕ} 0 1 = cc in absurd (omega arith)

bad_not_whole : {A : Type 0} → Verdict.Bad ≡ Verdict.Whole → A
bad_not_whole h = let z : ◌≡◌ {A = ℕ} 0 1 = cc in absurd (omega arith)

-- no words lead from a bad place to the end of a code
bad_never : {A : Type 0} (l : List ℕ) → verdict (reached (0 then Bad) l) ≡ Verdict.Whole → A
unfolding verdict verdict_at is_float reached pick
bad_never l h =
    let none : l ≡ [] = closed_end (0 then Bad) l (λ e. let z : ◌≡◌ {A = ℕ} 0 1 = cc in omega arith) h in
    bad_not_whole (rw none at h)

float_more : (n : ℕ) (m : Mark) → verdict (suc n then m) ≡ Verdict.More
unfolding verdict is_float pick
float_more n m = rw (lt-ltb 0 (suc n) (omega arith))

float_next : (n : ℕ) (m : Mark) (w : ℕ) → next (suc n then m) w ≡ n then m
unfolding next is_float pick
float_next n m w =
    let one_less : suc n - 1 ≡ n = omega arith in
    rw (lt-ltb 0 (suc n) (omega arith), one_less)

floats_over : (n : ℕ) (m : Mark) (l : List ℕ) → verdict (reached (n then m) l) ≡ Verdict.Whole → verdict (reached (0 then m) (drop n l)) ≡ Verdict.Whole
unfolding reached
floats_over zero m l h = h
floats_over (suc n) m [] h = more_not_whole (rw (float_more n m) at h)
floats_over (suc n) m (w ∷ l) h = floats_over n m l (rw (float_next n m w) at h)

limited_whole : (most w : ℕ) (p : Place) (l : List ℕ) → verdict (reached (limited most w p) l) ≡ Verdict.Whole → (w ≤ most) × (verdict (reached p l) ≡ Verdict.Whole)
unfolding limited pick
limited_whole most w p l = go (leb w most) refl
  where
    go : (b : Bool) → leb w most ≡ b → verdict (reached (pick b p (0 then Bad)) l) ≡ Verdict.Whole → (w ≤ most) × (verdict (reached p l) ≡ Verdict.Whole)
    go true e h = (leb-true w most e, h)
    go false e h = bad_never l h

flag_over : (n : ℕ) (l : List ℕ) → verdict (reached (0 then Flag n) l) ≡ Verdict.Whole → verdict (reached (bodies n) (drop 1 l)) ≡ Verdict.Whole
unfolding reached next follow verdict verdict_at is_float pick
flag_over n [] h = more_not_whole h
flag_over n (w ∷ l) h = (limited_whole at.DYNAMIC w (bodies n) l h).1

get_d_drops : (a b i : ℕ) (l : List ℕ) → get_or (drop b (drop a l)) i 0 ≡ get_or l (a + b + i) 0
get_d_drops a b i l = rw (drop-drop b a l) (get_or-drop (a + b) l i 0)

-- behind n bodies stands the number of answers
answers_few : (n : ℕ) (l : List ℕ) → verdict (reached (bodies n) l) ≡ Verdict.Whole → get_or l (n * (at.BODY-FLOATS + 1)) 0 ≤ at.ANSWERS
unfolding bodies reached next follow is_float pick
answers_few zero [] h = omega arith
answers_few zero (w ∷ l) h = (limited_whole at.ANSWERS w _ l h).0
answers_few (suc n) l h =
    let one_less : suc n - 1 ≡ n = omega arith in
    let same : eqb (suc n) 0 ≡ false = ne_eqb (suc n) 0 (λ e. omega arith) in
    let flags = floats_over at.BODY-FLOATS (Flag n) l (rw (same, one_less) at h) in
    let few = answers_few n (drop 1 (drop at.BODY-FLOATS l)) (flag_over n (drop at.BODY-FLOATS l) flags) in
    let place : at.BODY-FLOATS + 1 + n * (at.BODY-FLOATS + 1) ≡ suc n * (at.BODY-FLOATS + 1) = rw suc-mul (omega arith) in
    rw (← place) (omega (arith, few, get_d_drops at.BODY-FLOATS 1 (n * (at.BODY-FLOATS + 1)) l))

-- the numbers of bodies and of answers
pub record Few (l : List ℕ) : Type 0 where
  pub bodies : get_or l 2 0 ≤ at.BODIES
  pub answers : get_or l (3 + get_or l 2 0 * (at.BODY-FLOATS + 1)) 0 ≤ at.ANSWERS

drive_few : (l : List ℕ) → judge l ≡ Verdict.Whole → asked (get_or l 0 0) ≡ Asked.Drive → Few l
unfolding judge after_asked reached next follow is_float pick
drive_few [] h e = record { bodies = omega arith; answers = omega arith }
drive_few (c ∷ []) h e = record { bodies = omega arith; answers = omega arith }
drive_few (c ∷ d ∷ []) h e = record { bodies = omega arith; answers = omega arith }
drive_few (c ∷ d ∷ n ∷ l) h e =
    let told = limited_whole at.BODIES n (bodies n) l (rw e at h) in
    record { bodies = told.0; answers = rw (← get_or-drop 3 (c ∷ d ∷ n ∷ l) (n * (at.BODY-FLOATS + 1)) 0) (answers_few n l told.1) }

-- ---- the words of a whole code
-- the words l that a reading took
record Judged (s : Reader) (r : Reading) : Type 0 where
  l : List ℕ
  words : r.words ≡ s.words ++ l
  end : verdict (reached s.place l) ≡ Verdict.Whole

judged_on : (widths : Widths) (c n k : ℕ) (s : Reader) → (read_on widths k s).code ≡ Code.Whole c n → Judged s (read_on widths k s)
unfolding reached
judged_on widths c n = by_words widths (λ k s r. r.code ≡ Code.Whole c n → Judged s r)
    (λ s h. malformed_not_whole h)
    (λ k s e h. short_not_whole h)
    (λ k s e h. malformed_not_whole h)
    (λ k s w m e d h. record { l = w ∷ []; words = refl; end = d })
    (λ k s w m e d h. malformed_not_whole h)
    (λ k s w m r e d ih h.
    let later = ih h in
    record { l = w ∷ later.l; words = later.words ∙ append_assoc s.words (w ∷ []) later.l; end = later.end })

whole_judged : (widths : Widths) (bytes : List ℕ) (c n : ℕ) → (read_code widths bytes).code ≡ Code.Whole c n → judge (read_code widths bytes).words ≡ Verdict.Whole
unfolding read_code judge
whole_judged widths bytes c n h =
    let y = judged_on widths c n at.CODE-WORDS _ h in
    rw y.words y.end

pub whole_counted : (widths : Widths) (bytes : List ℕ) (c n : ℕ) → (read_code widths bytes).code ≡ Code.Whole c n → asked (number_from (padded (read_code widths bytes).words) 0) ≡ Asked.Drive → Counted (padded (read_code widths bytes).words)
unfolding answers_of answer_count_from body_count_from number_from
whole_counted widths bytes c n h e =
    let l = (read_code widths bytes).words in
    let few = drive_few l (whole_judged widths bytes c n h) (rw (get_d_padded l 0) at e) in
    record { bodies = rw (get_d_padded l) few.bodies; answers = rw (get_d_padded l 2, get_d_padded l) few.answers }
