-- What is written is read back. In order: one number. Assumes nothing.
use Prim.Native.Nat.{ℕ, zero, suc, ◌+◌, ◌*◌, ◌/◌, ◌%◌, ◌^◌, ◌≤◌, ◌<◌}
use mathlib.Core.Bool.{Bool, true, false}
use mathlib.Core.List.{List, [], ◌∷◌, ◌++◌, append_assoc, append-nil}
use mathlib.Core.Path.{◌≡◌, refl, sym, ap, ◌∙◌}
use native.Mathlib.Nat.{pow-suc, mul_comm, mul-le-mul_right, lt_of_mul-lt-mul_left}
use native.Mathlib.Decide.{dec_lt}
use native.Mathlib.Numerals.{add-one}
use native.Mathlib.Omega.{arith}
use borrow.Author.Tests.{ltb-true, eqb-true, lt-ltb, le-ltb}
use lib.Dec.{eqb, ltb}
use lib.ListN.{length, take, drop, length-append, length-take, take-append-drop}
use lib.Seq.{drop_at}
use Rattle.lists.proofs.Picks.{pick_true}
use Rattle.lists.specs.Pick.{pick}
use Rattle.numbers.specs.declared.Number.{Number}
use Rattle.stream.specs.declared.Code.{Code}
use Rattle.numbers.specs.Layout.{GROUP, GROUP-BITS, last, last_most}
use Rattle.grammar.specs.Layout.{Widths, CODE-WORDS}
use Rattle.numbers.specs.Number.{has_bits, bad_group, gained, read_groups, read_number, decided_number, write_groups, write_number}
use Rattle.grammar.specs.declared.Verdict.{Verdict}
use Rattle.grammar.specs.Grammar.{width_at, next, verdict, reached, judge}
use Rattle.stream.specs.Code.{Reading, ◌reads◌, Reader, after, placed, read_on, read_code, decided_code, write_words, write_code, fitting, IsCode}
use Rattle.numbers.proofs.Outcome.{took, decided_number_more}
use Rattle.grammar.proofs.Places.{most, most_start, next_less, verdict_start, closed_end}
use Rattle.stream.proofs.Readings.{on_word, took_code, decided_code_more}
use Rattle.numbers.proofs.Groups.{reach, most_small, group_last, group_more}

-- where no list that is read as b is shorter, and an outcome that is decided stays, a proper beginning of b is not decided
cut_short : {R : Type 0} (read : List ℕ → R) (decided : R → Bool) (b : List ℕ) → ((a m : List ℕ) → decided (read a) ≡ true → read (a ++ m) ≡ read a)
    → ((a : List ℕ) → read b ≡ read a → length b ≤ length a) → (j : ℕ) → j < length b → decided (read (take j b)) ≡ false
cut_short {R} read decided b stays longest j h = go (decided (read (take j b))) refl
  where
    go : (d : Bool) → decided (read (take j b)) ≡ d → d ≡ false
    go false e = refl
    go true e =
        let same : read b ≡ read (take j b) = rw take-append-drop at (stays (take j b) (drop j b) e) in
        absurd (omega (arith, longest (take j b) same, length-take j b))

-- a group that may stand where it does
good_group : (bits k b : ℕ) → (0 < k → 0 < b) → (k ≡ last bits → b ≤ last_most bits) → bad_group bits k b ≡ false
unfolding bad_group pick
good_group bits k b some few = go (eqb b 0) (eqb k (last bits)) refl refl
  where
    go : (x y : Bool) → eqb b 0 ≡ x → eqb k (last bits) ≡ y → pick x (ltb 0 k) (pick y (ltb (last_most bits) b) false) ≡ false
    go true y e f = elim (dec_lt 0 k) [
      | yes l ↦ (let z = eqb-true b 0 e in let p = some l in absurd (omega arith))
      | no l ↦ le-ltb 0 k (omega arith)
    ]
    go false true e f = le-ltb (last_most bits) b (few (eqb-true k (last bits) f))
    go false false e f = refl

-- the last group of a number
last_back : (bits k v n : ℕ) (rest : List ℕ) → n < GROUP → (0 < k → 0 < n) → (k ≡ last bits → n ≤ last_most bits)
    → read_groups bits k v (n ∷ rest) ≡ Number.Value (v + n * GROUP ^ k) (k + 1)
unfolding gained
last_back bits k v n rest l some few =
    let same : n % GROUP ≡ n = omega arith in
    rw (group_last bits k v n rest (good_group bits k n some few) l, add-one, same)

-- what the groups but one, and that one, are worth together
split_worth : (k v n : ℕ) → gained k v (GROUP + n % GROUP) + n / GROUP * GROUP ^ suc k ≡ v + n * GROUP ^ k
unfolding gained
split_worth k v n =
    let low : (GROUP + n % GROUP) % GROUP ≡ n % GROUP = omega arith in
    let parts : n * GROUP ^ k ≡ (n / GROUP * GROUP + n % GROUP) * GROUP ^ k = ap (λ (m : ℕ). m * GROUP ^ k) (omega arith) in
    rw (low, pow-suc) (omega arith)

groups_back : (bits f k v n : ℕ) (rest : List ℕ) → f + k ≡ last bits → n * GROUP ^ k < 2 ^ bits → (0 < k → 0 < n)
    → read_groups bits k v (write_groups f n ++ rest) ≡ Number.Value (v + n * GROUP ^ k) (k + length (write_groups f n))
unfolding write_groups pick
groups_back bits zero k v n rest e fits some =
    let end : k ≡ last bits = omega arith in
    let few : GROUP ^ last bits * n < GROUP ^ last bits * 2 ^ (bits % GROUP-BITS) = rw (reach bits, mul_comm (GROUP ^ last bits) n, ← end) fits in
    let low = lt_of_mul-lt-mul_left (GROUP ^ last bits) few in
    last_back bits k v n rest (omega (arith, most_small bits)) some (λ s. omega arith)
groups_back bits (suc f) k v n rest e fits some = elim (dec_lt n GROUP) [
  | yes l ↦ rw (lt-ltb n GROUP l) (last_back bits k v n rest l some (λ s. absurd (omega arith)))
  | no l ↦ (
      let bytes = write_groups f (n / GROUP) in
      let high : n / GROUP * GROUP ^ suc k < 2 ^ bits = rw (pow-suc GROUP k) (omega (arith, mul-le-mul_right (GROUP ^ k) (part_le n))) in
      let count : suc k + length bytes ≡ k + suc (length bytes) = omega arith in
      let first = group_more bits k v (GROUP + n % GROUP) (bytes ++ rest) (good_group bits k (GROUP + n % GROUP) (λ s. omega arith) (λ s. absurd (omega arith))) (omega arith) in
      rw (le-ltb n GROUP (omega arith), first, groups_back bits f (suc k) (gained k v (GROUP + n % GROUP)) (n / GROUP) rest (omega arith) high (λ s. omega arith), split_worth, count))
]
  where
    part_le : (n : ℕ) → n / GROUP * GROUP ≤ n
    part_le n = omega arith

-- A number of at most so many bits is read back, whatever follows it.
pub number_back : (bits n : ℕ) (rest : List ℕ) → n < 2 ^ bits → read_number bits (write_number bits n ++ rest) ≡ Number.Value n (length (write_number bits n))
unfolding read_number write_number
number_back bits n rest fits =
    let worth : 0 + n * GROUP ^ 0 ≡ n = omega arith in
    let count : 0 + length (write_groups (last bits) n) ≡ length (write_groups (last bits) n) = omega arith in
    groups_back bits (last bits) 0 0 n rest (omega arith) (omega arith) (λ s. absurd (omega arith)) ∙ rw (worth, count)

code_on : (widths : Widths) (k : ℕ) (l : List ℕ) (s : Reader) (rest : List ℕ) → s.rest ≡ write_words widths s.place l ++ rest → verdict s.place ≡ Verdict.More
    → fitting widths s.place l ≡ true → verdict (reached s.place l) ≡ Verdict.Whole → most s.place ≤ k
    → read_on widths k s ≡ (s.words ++ l) reads Code.Whole (length (s.words ++ l)) (s.taken + length (write_words widths s.place l))
unfolding write_words fitting reached placed
code_on widths zero l s rest e v fits end room = absurd (omega (arith, next_less s.place 0 v))
code_on widths (suc k) [] s rest e v fits end room =
    let z : ◌≡◌ {A = ℕ} 0 1 = cc in
    absurd (omega arith)
code_on widths (suc k) (w ∷ l) s rest e v fits end room = go (verdict (next s.place w)) refl (code_on widths k l (after s w (length (write_number (width_at widths s.place) w))) rest onward)
  where
    bits : ℕ
    bits = width_at widths s.place

    onward_bytes : List ℕ
    onward_bytes = write_words widths (next s.place w) l

    apart : (has_bits bits w ≡ true) × (fitting widths (next s.place w) l ≡ true)
    apart = pick_true (has_bits bits w) (fitting widths (next s.place w) l) fits

    joined : s.rest ≡ write_number bits w ++ (onward_bytes ++ rest)
    joined = e ∙ append_assoc (write_number bits w) (onward_bytes) rest

    onward : drop (length (write_number bits w)) s.rest ≡ onward_bytes ++ rest
    onward = rw joined (drop_at (write_number bits w) (onward_bytes ++ rest) (length (write_number bits w)) refl)

    back : read_number bits s.rest ≡ Number.Value w (length (write_number bits w))
    back = rw joined (number_back bits w (onward_bytes ++ rest) (ltb-true w (2 ^ bits) apart.0))

    go : (x : Verdict) → verdict (next s.place w) ≡ x
        → (verdict (next s.place w) ≡ Verdict.More → fitting widths (next s.place w) l ≡ true → verdict (reached (next s.place w) l) ≡ Verdict.Whole → most (next s.place w) ≤ k
        → read_on widths k (after s w (length (write_number bits w))) ≡ ((s.words ++ (w ∷ [])) ++ l) reads Code.Whole (length ((s.words ++ (w ∷ [])) ++ l)) (s.taken + length (write_number bits w) + length (onward_bytes)))
        → read_on widths (suc k) s ≡ (s.words ++ (w ∷ l)) reads Code.Whole (length (s.words ++ (w ∷ l))) (s.taken + length (write_number bits w ++ onward_bytes))
    go Verdict.More d ih =
        let count : s.taken + length (write_number bits w) + length (onward_bytes) ≡ s.taken + length (write_number bits w ++ onward_bytes) = rw length-append (omega arith) in
        on_word widths k s w (length (write_number bits w)) Verdict.More back d
        ∙ ih d apart.1 end (omega (arith, next_less s.place w v))
        ∙ rw (append_assoc s.words (w ∷ []) l, count)
    go Verdict.Whole d ih =
        let none : l ≡ [] = closed_end (next s.place w) l (λ m. let z : ◌≡◌ {A = ℕ} 0 1 = cc in omega arith) end in
        rw (none, append-nil (write_number bits w)) (on_word widths k s w (length (write_number bits w)) Verdict.Whole back d)
    go Verdict.Bad d ih =
        let none : l ≡ [] = closed_end (next s.place w) l (λ m. let z : ◌≡◌ {A = ℕ} 0 1 = cc in omega arith) end in
        let whole : verdict (next s.place w) ≡ Verdict.Whole = rw none at end in
        let z : ◌≡◌ {A = ℕ} 0 1 = cc in
        absurd (omega arith)

-- A code is read back, whatever follows it: exactly its words, and as many bytes as were written.
pub code_back : (widths : Widths) (l rest : List ℕ) → IsCode widths l → read_code widths (write_code widths l ++ rest) ≡ l reads Code.Whole (length l) (length (write_code widths l))
unfolding read_code judge
code_back widths l rest c =
    let count : 0 + length (write_code widths l) ≡ length (write_code widths l) = omega arith in
    code_on widths CODE-WORDS l _ rest refl verdict_start c.fits c.whole (omega (arith, most_start)) ∙ rw count

-- A proper beginning of a number, and of a code, is too few bytes, and never bad.
pub number_cut : (bits n j : ℕ) → n < 2 ^ bits → j < length (write_number bits n) → decided_number (read_number bits (take j (write_number bits n))) ≡ false
number_cut bits n j fits h = cut_short (read_number bits) decided_number (write_number bits n) (decided_number_more bits) longest j h
  where
    longest : (a : List ℕ) → read_number bits (write_number bits n) ≡ read_number bits a → length (write_number bits n) ≤ length a
    longest a e =
        let whole : read_number bits a ≡ Number.Value n (length (write_number bits n)) = sym e ∙ rw append-nil at (number_back bits n [] fits) in
        omega (arith, (took bits a n (length (write_number bits n)) whole).within)

pub code_cut : (widths : Widths) (l : List ℕ) (j : ℕ) → IsCode widths l → j < length (write_code widths l) → decided_code (read_code widths (take j (write_code widths l))).code ≡ false
code_cut widths l j c h = cut_short (read_code widths) (λ r. decided_code r.code) (write_code widths l) (decided_code_more widths) longest j h
  where
    longest : (a : List ℕ) → read_code widths (write_code widths l) ≡ read_code widths a → length (write_code widths l) ≤ length a
    longest a e =
        let whole : read_code widths a ≡ l reads Code.Whole (length l) (length (write_code widths l)) = sym e ∙ rw append-nil at (code_back widths l [] c) in
        omega (arith, (took_code widths a (length l) (length (write_code widths l)) (ap (λ (r : Reading). r.code) whole)).within)
