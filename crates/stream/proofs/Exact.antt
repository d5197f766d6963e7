-- Nothing but what is written is read. In order: one number; one code. Assumes nothing.
use Prim.Native.Nat.{ℕ, zero, suc, ◌+◌, ◌-◌, ◌*◌, ◌/◌, ◌%◌, ◌^◌, ◌≤◌, ◌<◌}
use mathlib.Core.Bool.{Bool, true, false}
use mathlib.Core.List.{List, [], ◌∷◌, ◌++◌, append_assoc, append-nil}
use mathlib.Core.Path.{◌≡◌, refl, ap, ◌∙◌}
use native.Mathlib.Nat.{pow-suc}
use native.Mathlib.Decide.{dec_lt}
use native.Mathlib.Omega.{arith}
use borrow.Author.Tests.{ltb-true, ltb-false, lt-ltb, le-ltb}
use lib.Dec.{ltb}
use lib.ListN.{take, drop}
use lib.Seq.{take-add}
use Rattle.lists.specs.Pick.{pick}
use Rattle.lists.specs.All.{all}
use Rattle.lists.proofs.Picks.{pick_true}
use Rattle.numbers.specs.declared.Number.{Number}
use Rattle.grammar.specs.declared.Verdict.{Verdict}
use Rattle.numbers.specs.Layout.{GROUP, last}
use Rattle.grammar.specs.Layout.{Widths, CODE-WORDS}
use Rattle.numbers.specs.Number.{is_byte, bad_group, gained, read_groups, read_number, write_groups, write_number}
use Rattle.stream.specs.declared.Code.{Code}
use Rattle.grammar.specs.Grammar.{width_at, next, verdict, reached, judge}
use Rattle.stream.specs.Code.{Reading, ◌reads◌, Reader, after, read_on, read_code, write_words, write_code, fitting, IsCode}
use Rattle.numbers.proofs.Groups.{not_last, by_groups}
use Rattle.numbers.proofs.Outcome.{took, short_no_value, bad_no_value}
use Rattle.stream.proofs.Readings.{by_words, short_not_whole, malformed_not_whole}

-- the groups of a number m, of which the first n - k bytes of l are written, with v for the k before them
record Written (bits k v : ℕ) (l : List ℕ) (w n : ℕ) : Type 0 where
  m : ℕ
  long : k < n
  bytes : take (n - k) l ≡ write_groups (last bits - k) m
  worth : w ≡ v + m * GROUP ^ k
  some : 0 < k → 0 < m

-- only the first group may be 0
not_zero : (bits k b : ℕ) → bad_group bits k b ≡ false → 0 < k → 0 < b
unfolding bad_group pick
not_zero bits k b h l = elim (dec_lt 0 b) [
  | yes p ↦ p
  | no p ↦ (
      let zero_byte : b ≡ 0 = omega arith in
      let first : ltb 0 k ≡ false = rw zero_byte at h in
      absurd (omega (arith, ltb-false 0 k first)))
]

write_small : (j b : ℕ) → b < GROUP → write_groups j b ≡ b ∷ []
unfolding write_groups pick
write_small zero b h = refl
write_small (suc j) b h = rw (lt-ltb b GROUP h)

written_last : (bits k v b : ℕ) (l : List ℕ) → bad_group bits k b ≡ false → b < GROUP → Written bits k v (b ∷ l) (gained k v b) (suc k)
unfolding gained
written_last bits k v b l h t =
    let one_byte : suc k - k ≡ 1 = omega arith in
    let same : b % GROUP ≡ b = omega arith in
    record { m = b; long = omega arith; bytes = rw (one_byte, write_small (last bits - k) b t); worth = rw same; some = not_zero bits k b h }

written_more : (bits k v b : ℕ) (l : List ℕ) (w n : ℕ) → GROUP ≤ b → b < 256 → k < last bits → Written bits (suc k) (gained k v b) l w n → Written bits k v (b ∷ l) w n
unfolding gained write_groups pick
written_more bits k v b l w n t f few y =
    let high = y.m in
    let m = high * GROUP + b % GROUP in
    let pos = y.some (omega arith) in
    let one_byte : n - k ≡ suc (n - suc k) = omega arith in
    let one_group : last bits - k ≡ suc (last bits - suc k) = omega arith in
    let byte : GROUP + m % GROUP ≡ b = omega arith in
    let rest : m / GROUP ≡ high = omega arith in
    record {
      m = m;
      long = omega arith;
      bytes = rw (one_byte, one_group, le-ltb m GROUP (omega arith), byte, rest) (ap (λ (x : List ℕ). b ∷ x) y.bytes);
      worth = y.worth ∙ rw (pow-suc GROUP k) (omega arith);
      some = λ p. omega arith;
    }

written_groups : (bits k v : ℕ) (l : List ℕ) (w n : ℕ) → k ≤ last bits → all is_byte l ≡ true → read_groups bits k v l ≡ Number.Value w n → Written bits k v l w n
unfolding all
written_groups bits k v l w n = by_groups bits (λ k v l r. k ≤ last bits → all is_byte l ≡ true → r ≡ Number.Value w n → Written bits k v l w n)
    (λ k v few fits h. short_no_value h)
    (λ k v b l e few fits h. bad_no_value h)
    (λ k v b l e t few fits h.
    let worth : gained k v b ≡ w = cc in
    let count : suc k ≡ n = cc in
    rw (← worth, ← count) (written_last bits k v b l e t))
    (λ k v b l r e t ih few fits h.
    let parts = pick_true (is_byte b) (all is_byte l) fits in
    let last = not_last bits k b e few t in
    written_more bits k v b l w n t (ltb-true b 256 parts.0) last (ih last parts.1 h))
    k v l

-- A number is read from its shortest form only.
pub number_exact : (bits : ℕ) (l : List ℕ) (w n : ℕ) → all is_byte l ≡ true → read_number bits l ≡ Number.Value w n → take n l ≡ write_number bits w
unfolding read_number write_number
number_exact bits l w n fits h =
    let y = written_groups bits 0 0 l w n (omega arith) fits h in
    let same : y.m ≡ w = omega (arith, y.worth) in
    let count : n - 0 ≡ n = omega arith in
    let groups : last bits - 0 ≡ last bits = omega arith in
    rw (count, same, groups) at y.bytes

all_drop : (p : ℕ → Bool) (m : ℕ) (l : List ℕ) → all p l ≡ true → all p (drop m l) ≡ true
unfolding all
all_drop p zero l h = h
all_drop p (suc m) [] h = h
all_drop p (suc m) (x ∷ l) h = all_drop p m l (pick_true (p x) (all p l) h).1

-- the words l that a reading took, of which the bytes up to n are written
record CodeWritten (widths : Widths) (s : Reader) (r : Reading) (n : ℕ) : Type 0 where
  l : List ℕ
  long : s.taken < n
  words : r.words ≡ s.words ++ l
  fits : fitting widths s.place l ≡ true
  end : verdict (reached s.place l) ≡ Verdict.Whole
  bytes : take (n - s.taken) s.rest ≡ write_words widths s.place l

module _ (widths : Widths) (s : Reader) (w m : ℕ) (b : all is_byte s.rest ≡ true) (e : read_number (width_at widths s.place) s.rest ≡ Number.Value w m) where
  word_fits : (l : List ℕ) → fitting widths (next s.place w) l ≡ true → fitting widths s.place (w ∷ l) ≡ true
  unfolding fitting pick
  word_fits l h = rw (lt-ltb w (2 ^ width_at widths s.place) ((took (width_at widths s.place) s.rest w m e).fits (omega arith) (omega arith))) h

  code_whole : verdict (next s.place w) ≡ Verdict.Whole → (c : Code) → CodeWritten widths s ((s.words ++ (w ∷ [])) reads c) (s.taken + m)
  unfolding fitting reached write_words
  code_whole d c =
      let t = took (width_at widths s.place) s.rest w m e in
      let count : s.taken + m - s.taken ≡ m = omega arith in
      record {
        l = w ∷ [];
        long = omega arith;
        words = refl;
        fits = word_fits [] refl;
        end = d;
        bytes = rw (count, append-nil) (number_exact (width_at widths s.place) s.rest w m b e);
      }

  code_more : (r : Reading) (n : ℕ) → CodeWritten widths (after s w m) r n → CodeWritten widths s r n
  unfolding reached write_words
  code_more r n y =
      let t = took (width_at widths s.place) s.rest w m e in
      let count : n - s.taken ≡ m + (n - (s.taken + m)) = omega (arith, y.long) in
      record {
        l = w ∷ y.l;
        long = omega (arith, y.long);
        words = y.words ∙ append_assoc s.words (w ∷ []) y.l;
        fits = word_fits y.l y.fits;
        end = y.end;
        bytes = rw (count, take-add, number_exact (width_at widths s.place) s.rest w m b e, y.bytes);
      }

code_on : (widths : Widths) (c n k : ℕ) (s : Reader) → all is_byte s.rest ≡ true → (read_on widths k s).code ≡ Code.Whole c n → CodeWritten widths s (read_on widths k s) n
code_on widths c n = by_words widths (λ k s r. all is_byte s.rest ≡ true → r.code ≡ Code.Whole c n → CodeWritten widths s r n)
    (λ s b h. malformed_not_whole h)
    (λ k s e b h. short_not_whole h)
    (λ k s e b h. malformed_not_whole h)
    (λ k s w m e d b h.
    let end : s.taken + m ≡ n = cc in
    rw (← end) (code_whole widths s w m b e d _))
    (λ k s w m e d b h. malformed_not_whole h)
    (λ k s w m r e d ih b h. code_more widths s w m b e r n (ih (all_drop is_byte m s.rest b) h))

-- A code is read from what is written of it only: its words are a code, and its bytes are theirs.
pub code_exact : (widths : Widths) (bytes : List ℕ) (c n : ℕ) → all is_byte bytes ≡ true → (read_code widths bytes).code ≡ Code.Whole c n
    → IsCode widths (read_code widths bytes).words × (take n bytes ≡ write_code widths (read_code widths bytes).words)
unfolding read_code judge
code_exact widths bytes c n b h =
    let y = code_on widths c n CODE-WORDS _ b h in
    let count : n - 0 ≡ n = omega arith in
    rw y.words (record { fits = y.fits; whole = y.end }, rw count at y.bytes)
