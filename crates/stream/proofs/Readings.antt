-- Laws on the reading of one code, for every list of bytes. In order: what one number makes of it; a fact on every reading, from its six cases; how many bytes a whole code takes; bytes that follow change nothing that is decided; as many bytes as the longest code has decide it; the bound on the words cuts no code off. Assumes nothing.
use Prim.Native.Nat.{ℕ, zero, suc, ◌+◌, ◌*◌, ◌≤◌, ◌<◌}
use mathlib.Core.Bool.{true}
use mathlib.Core.List.{List, [], ◌∷◌, ◌++◌}
use mathlib.Core.Path.{◌≡◌, refl, sym, ◌∙◌}
use native.Mathlib.Nat.{le_refl, suc-add, mul-le-mul_right}
use native.Mathlib.Omega.{arith}
use lib.ListN.{length, length-drop}
use lib.Seq.{drop-append-le}
use Rattle.numbers.specs.declared.Number.{Number}
use Rattle.grammar.specs.declared.Place.{Place}
use Rattle.grammar.specs.declared.Verdict.{Verdict}
use Rattle.stream.specs.declared.Code.{Code}
use Rattle.grammar.specs.Layout.{Widths, CODE-WORDS, code_bytes}
use Rattle.numbers.specs.Layout.{last}
use Rattle.numbers.specs.Number.{read_number, decided_number}
use Rattle.grammar.specs.Grammar.{width_at, start, next, verdict}
use Rattle.stream.specs.Code.{Reading, ◌reads◌, shown, Reader, after, placed, found, read_on, read_code, decided_code}
use Rattle.numbers.proofs.Outcome.{took, decided_number_more, not_short}
use Rattle.grammar.proofs.Places.{width_within, most, most_start, next_less, verdict_start}

-- what the number at a place makes of the reading
module _ (widths : Widths) (k : ℕ) (s : Reader) where
  pub on_short : read_number (width_at widths s.place) s.rest ≡ Number.Short → read_on widths (suc k) s ≡ s.words reads Code.Short (shown s.words)
  unfolding read_on found
  on_short h = rw h

  pub on_bad : read_number (width_at widths s.place) s.rest ≡ Number.Bad → read_on widths (suc k) s ≡ s.words reads Code.Malformed (shown s.words)
  unfolding read_on found
  on_bad h = rw h

  pub on_word : (w n : ℕ) (v : Verdict) → read_number (width_at widths s.place) s.rest ≡ Number.Value w n → verdict (next s.place w) ≡ v → read_on widths (suc k) s ≡ placed (read_on widths k) v (after s w n)
  unfolding read_on found
  on_word w n v h d = rw (h, d)

-- a fact on every reading, from its cases
module _ (widths : Widths) (P : ℕ → Reader → Reading → Type 0)
    (none : (s : Reader) → P zero s (s.words reads Code.Malformed (shown s.words)))
    (short : (k : ℕ) (s : Reader) → read_number (width_at widths s.place) s.rest ≡ Number.Short → P (suc k) s (s.words reads Code.Short (shown s.words)))
    (bad : (k : ℕ) (s : Reader) → read_number (width_at widths s.place) s.rest ≡ Number.Bad → P (suc k) s (s.words reads Code.Malformed (shown s.words)))
    (whole : (k : ℕ) (s : Reader) (w n : ℕ) → read_number (width_at widths s.place) s.rest ≡ Number.Value w n → verdict (next s.place w) ≡ Verdict.Whole
    → P (suc k) s ((after s w n).words reads Code.Whole (length (after s w n).words) (after s w n).taken))
    (wrong : (k : ℕ) (s : Reader) (w n : ℕ) → read_number (width_at widths s.place) s.rest ≡ Number.Value w n → verdict (next s.place w) ≡ Verdict.Bad
    → P (suc k) s ((after s w n).words reads Code.Malformed (shown (after s w n).words)))
    (more : (k : ℕ) (s : Reader) (w n : ℕ) (r : Reading) → read_number (width_at widths s.place) s.rest ≡ Number.Value w n → verdict (next s.place w) ≡ Verdict.More
    → P k (after s w n) r → P (suc k) s r) where
  pub by_words : (k : ℕ) (s : Reader) → P k s (read_on widths k s)
  unfolding read_on found placed
  by_words zero s = none s
  by_words (suc k) s = number (read_number (width_at widths s.place) s.rest) refl (λ w n. by_words k (after s w n))
    where
      word : (w n : ℕ) (v : Verdict) → read_number (width_at widths s.place) s.rest ≡ Number.Value w n → verdict (next s.place w) ≡ v → P k (after s w n) (read_on widths k (after s w n))
          → P (suc k) s (placed (read_on widths k) v (after s w n))
      word w n Verdict.More h d ih = more k s w n (read_on widths k (after s w n)) h d ih
      word w n Verdict.Whole h d ih = whole k s w n h d
      word w n Verdict.Bad h d ih = wrong k s w n h d

      number : (r : Number) → read_number (width_at widths s.place) s.rest ≡ r → ((w n : ℕ) → P k (after s w n) (read_on widths k (after s w n))) → P (suc k) s (found (read_on widths k) r s)
      number (Number.Value w n) h ih = word w n (verdict (next s.place w)) h refl (ih w n)
      number Number.Short h ih = short k s h
      number Number.Bad h ih = bad k s h

-- two outcomes of different kinds are not equal
pub short_not_whole : {A : Type 0} {x c n : ℕ} → Code.Short x ≡ Code.Whole c n → A
short_not_whole h = let z : ◌≡◌ {A = ℕ} 0 1 = cc in absurd (omega arith)

pub malformed_not_whole : {A : Type 0} {x c n : ℕ} → Code.Malformed x ≡ Code.Whole c n → A
malformed_not_whole h = let z : ◌≡◌ {A = ℕ} 0 1 = cc in absurd (omega arith)

-- a whole code takes n bytes: some, and no more than there are
pub record TookCode (taken : ℕ) (rest : List ℕ) (r : Reading) (c n : ℕ) : Type 0 where
  pub some : taken < n
  pub within : n ≤ taken + length rest
  pub counted : c ≡ length r.words

took_on : (widths : Widths) (c n k : ℕ) (s : Reader) → (read_on widths k s).code ≡ Code.Whole c n → TookCode s.taken s.rest (read_on widths k s) c n
took_on widths c n = by_words widths (λ k s r. r.code ≡ Code.Whole c n → TookCode s.taken s.rest r c n)
    (λ s h. malformed_not_whole h)
    (λ k s e h. short_not_whole h)
    (λ k s e h. malformed_not_whole h)
    (λ k s w m e d h.
    let count : length (s.words ++ (w ∷ [])) ≡ c = cc in
    let end : s.taken + m ≡ n = cc in
    let t = took (width_at widths s.place) s.rest w m e in
    record { some = omega arith; within = omega arith; counted = sym count })
    (λ k s w m e d h. malformed_not_whole h)
    (λ k s w m r e d ih h.
    let t = took (width_at widths s.place) s.rest w m e in
    let later = ih h in
    let left = length-drop m s.rest in
    record { some = omega arith; within = omega arith; counted = later.counted })

-- the same reading with more bytes behind
abbrev longer : Reader → List ℕ → Reader
longer s m = record { place = s.place; words = s.words; taken = s.taken; rest = s.rest ++ m }

longer_value : (widths : Widths) (s : Reader) (m : List ℕ) (w n : ℕ) → read_number (width_at widths s.place) s.rest ≡ Number.Value w n → read_number (width_at widths s.place) (s.rest ++ m) ≡ Number.Value w n
unfolding decided_number
longer_value widths s m w n h = decided_number_more (width_at widths s.place) s.rest m (rw h) ∙ h

after_longer : (widths : Widths) (s : Reader) (m : List ℕ) (w n : ℕ) → read_number (width_at widths s.place) s.rest ≡ Number.Value w n → after (longer s m) w n ≡ longer (after s w n) m
after_longer widths s m w n h =
    let t = took (width_at widths s.place) s.rest w n h in
    rw (drop-append-le n s.rest m (omega arith))

decided_on : (widths : Widths) (m : List ℕ) (k : ℕ) (s : Reader) → decided_code (read_on widths k s).code ≡ true → read_on widths k (longer s m) ≡ read_on widths k s
unfolding read_on decided_code decided_number placed
decided_on widths m = by_words widths (λ k s r. decided_code r.code ≡ true → read_on widths k (longer s m) ≡ r)
    (λ s h. refl)
    (λ k s e h. let z : ◌≡◌ {A = ℕ} 0 1 = cc in absurd (omega arith))
    (λ k s e h. on_bad widths k (longer s m) (decided_number_more (width_at widths s.place) s.rest m (rw e) ∙ e))
    (λ k s w n e d h. on_word widths k (longer s m) w n Verdict.Whole (longer_value widths s m w n e) d)
    (λ k s w n e d h. on_word widths k (longer s m) w n Verdict.Bad (longer_value widths s m w n e) d)
    (λ k s w n r e d ih h. on_word widths k (longer s m) w n Verdict.More (longer_value widths s m w n e) d ∙ rw (after_longer widths s m w n e) (ih h))

-- as many bytes as the words that may still come can take, where no whole number is wider than a float
module _ (widths : Widths) (wider : widths.whole ≤ widths.float) where
  last_within : (p : Place) → last (width_at widths p) ≤ last widths.float
  last_within p = omega (arith, width_within widths widths.float p (le_refl _) wider)

  enough_on : (k : ℕ) (s : Reader) → verdict s.place ≡ Verdict.More → most s.place * suc (last widths.float) ≤ length s.rest → decided_code (read_on widths k s).code ≡ true
  unfolding decided_code
  enough_on = by_words widths (λ k s r. verdict s.place ≡ Verdict.More → most s.place * suc (last widths.float) ≤ length s.rest → decided_code r.code ≡ true)
      (λ s v l. refl)
      (λ k s e v l.
      let word = mul-le-mul_right (suc (last widths.float)) (next_less s.place 0 v) in
      absurd (not_short (width_at widths s.place) s.rest (omega (arith, last_within s.place)) e))
      (λ k s e v l. refl)
      (λ k s w n e d v l. refl)
      (λ k s w n e d v l. refl)
      (λ k s w n r e d ih v l.
      let t = took (width_at widths s.place) s.rest w n e in
      let few = t.few (omega arith) in
      let word = mul-le-mul_right (suc (last widths.float)) (next_less s.place w v) in
      let left = length-drop n s.rest in
      ih d (omega (arith, last_within s.place)))

-- the bound on the words cuts no code off
more_turns : (widths : Widths) (j k : ℕ) (s : Reader) → verdict s.place ≡ Verdict.More → most s.place ≤ k → read_on widths (k + j) s ≡ read_on widths k s
unfolding placed
more_turns widths j = by_words widths (λ k s r. verdict s.place ≡ Verdict.More → most s.place ≤ k → read_on widths (k + j) s ≡ r)
    (λ s v l. absurd (omega (arith, next_less s.place 0 v)))
    (λ k s e v l. rw (suc-add k j) (on_short widths (k + j) s e))
    (λ k s e v l. rw (suc-add k j) (on_bad widths (k + j) s e))
    (λ k s w n e d v l. rw (suc-add k j) (on_word widths (k + j) s w n Verdict.Whole e d))
    (λ k s w n e d v l. rw (suc-add k j) (on_word widths (k + j) s w n Verdict.Bad e d))
    (λ k s w n r e d ih v l. rw (suc-add k j) (on_word widths (k + j) s w n Verdict.More e d ∙ ih d (omega (arith, next_less s.place w v))))

pub took_code : (widths : Widths) (bytes : List ℕ) (c n : ℕ) → (read_code widths bytes).code ≡ Code.Whole c n → TookCode 0 bytes (read_code widths bytes) c n
unfolding read_code
took_code widths bytes c n h = took_on widths c n CODE-WORDS _ h

pub decided_code_more : (widths : Widths) (bytes m : List ℕ) → decided_code (read_code widths bytes).code ≡ true → read_code widths (bytes ++ m) ≡ read_code widths bytes
unfolding read_code
decided_code_more widths bytes m h = decided_on widths m CODE-WORDS _ h

pub code_bytes_decide : (widths : Widths) → widths.whole ≤ widths.float → (bytes : List ℕ) → code_bytes widths ≤ length bytes → decided_code (read_code widths bytes).code ≡ true
unfolding read_code
code_bytes_decide widths wider bytes h = enough_on widths wider CODE-WORDS _ verdict_start (rw most_start (omega arith))

pub words_unlimited : (widths : Widths) (j : ℕ) (bytes : List ℕ) → read_on widths (CODE-WORDS + j) (record { place = start; words = []; taken = 0; rest = bytes }) ≡ read_code widths bytes
unfolding read_code
words_unlimited widths j bytes = more_turns widths j CODE-WORDS _ verdict_start (omega (arith, most_start))
