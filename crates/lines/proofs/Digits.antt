-- Laws on digits and results, in the steps of the loops that count and put them. In order: digits that are put from the last to the first; digits that are counted; how long a number and the results are; results that are put. Assumes nothing.
use Prim.Native.Nat.{ℕ, zero, suc, ◌+◌, ◌-◌, ◌*◌, ◌/◌, ◌%◌, ◌^◌, ◌≤◌, ◌<◌}
use mathlib.Core.Bool.{Bool, true, false}
use mathlib.Core.List.{List, [], ◌∷◌, ◌++◌, append_assoc, append-nil}
use mathlib.Core.Path.{◌≡◌, refl, sym, ap, ◌∙◌}
use native.Mathlib.Numerals.{add-one}
use native.Mathlib.Nat.{pow-suc, pow-zero, div-one, div-div-eq-div-mul}
use native.Mathlib.Decide.{dec_lt}
use native.Mathlib.Omega.{arith}
use borrow.Author.Tests.{lt-ltb, le-ltb}
use lib.Dec.{ltb}
use lib.ListN.{length, drop, get_or, set, length-append, length-drop, length-set, drop_of_length-le}
use lib.Seq.{drop-cons}
use Rattle.lists.specs.Pick.{pick}
use Rattle.lists.specs.Part.{paste}
use Rattle.lines.specs.Layout.{TEN, TEN-DIGITS, HEX, HEX-DIGITS, SPACE}
use Rattle.lines.specs.Line.{glyph, digits, places_up_to, places, decimal, results}
use Rattle.lists.proofs.Parts.{paste_all}
use Rattle.lists.proofs.Puts.{paste_nil, set_paste}

pub length_digits : (base k n : ℕ) → length (digits base k n) ≡ k
unfolding digits
length_digits base zero n = refl
length_digits base (suc k) n = ap suc (length_digits base k n)

-- all but the first `left` digits are put, and the rest of n has those
pub record Spelled (before now : List ℕ) (base n left rest : ℕ) : Type 0 where
  pub few : left ≤ length before
  pub same : length now ≡ length before
  pub bytes : now ≡ paste before left (digits base (length before - left) n)
  pub high : rest ≡ n / base ^ (length before - left)

pub none_spelled : (t : List ℕ) (base n : ℕ) → Spelled t t base n (length t) n
unfolding digits
none_spelled t base n =
    let none : length t - length t ≡ 0 = omega arith in
    record {
      few = omega arith;
      same = refl;
      bytes = rw none (sym (paste_nil t (length t)));
      high = rw (none, pow-zero) (sym (div-one n));
    }

module _ {t now : List ℕ} {base n left rest : ℕ} (s : Spelled t now base n left rest) where
  pub one_spelled : 0 < left → (x : ℕ) → x ≡ glyph (rest % base) → Spelled t (set now (left - 1) x) base n (left - 1) (rest / base)
  unfolding digits
  one_spelled l x e =
      let one_more : length t - (left - 1) ≡ suc (length t - left) = omega (arith, s.few) in
      let place : suc (left - 1) ≡ left = omega arith in
      let digit : x ≡ glyph (n / base ^ (length t - left) % base) = rw s.high at e in
      record {
        few = omega (arith, s.few);
        same = length-set now (left - 1) x ∙ s.same;
        bytes = rw (s.bytes, digit, one_more) (rw place at (set_paste t (left - 1) (glyph (n / base ^ (length t - left) % base)) (digits base (length t - left) n) (omega (arith, s.few))));
        high = rw (s.high, one_more, pow-suc) (div-div-eq-div-mul n (base ^ (length t - left)) base);
      }

  pub all_spelled : left ≤ 0 → now ≡ digits base (length t) n
  all_spelled l =
      let none : left ≡ 0 = omega arith in
      let whole : length t - 0 ≡ length t = omega arith in
      (rw (none, whole) at s.bytes) ∙ paste_all t _ (omega (arith, length_digits base (length t) n))

one_place : (f m : ℕ) → m < TEN → places_up_to f m ≡ 1
unfolding places_up_to pick
one_place zero m l = refl
one_place (suc f) m l = rw (lt-ltb m TEN l)

-- k digits of n are counted, the last of them the last of the rest
pub record Counted (n k rest : ℕ) : Type 0 where
  pub some : 0 < k
  pub few : k ≤ TEN-DIGITS
  pub fits : rest < TEN ^ suc (TEN-DIGITS - k)
  pub left : k + places_up_to (TEN-DIGITS - k) rest ≡ 1 + places n

pub one_counted : (n : ℕ) → n < 2 ^ 32 → Counted n 1 n
unfolding places
one_counted n h = record { some = omega arith; few = omega arith; fits = omega arith; left = refl }

module _ {n k rest : ℕ} (s : Counted n k rest) where
  pub not_all : TEN ≤ rest → k < TEN-DIGITS
  not_all h = elim (dec_lt k TEN-DIGITS) [
    | yes l ↦ l
    | no l ↦ (
        let last : k ≡ TEN-DIGITS = omega (arith, s.few) in
        let small : rest < TEN ^ suc (TEN-DIGITS - TEN-DIGITS) = rw last at s.fits in
        absurd (omega arith))
  ]

  pub next_counted : TEN ≤ rest → Counted n (k + 1) (rest / TEN)
  unfolding places_up_to pick
  next_counted h =
      let one_less : TEN-DIGITS - k ≡ suc (TEN-DIGITS - (k + 1)) = omega (arith, not_all h) in
      let small : rest < TEN ^ suc (TEN-DIGITS - (k + 1)) * TEN = rw (one_less, pow-suc TEN (suc (TEN-DIGITS - (k + 1)))) at s.fits in
      let all : k + suc (places_up_to (TEN-DIGITS - (k + 1)) (rest / TEN)) ≡ 1 + places n = rw (one_less, le-ltb rest TEN h) at s.left in
      record { some = omega arith; few = omega (arith, not_all h); fits = omega arith; left = omega arith }

  pub all_counted : rest < TEN → k ≡ places n
  all_counted h = omega (arith, s.left, one_place (TEN-DIGITS - k) rest h)

places_le : (k n : ℕ) → places_up_to k n ≤ suc k
unfolding places_up_to pick
places_le zero n = omega arith
places_le (suc k) n = go (ltb n TEN) (places_le k (n / TEN))
  where
    go : (b : Bool) → places_up_to k (n / TEN) ≤ suc k → pick b 1 (suc (places_up_to k (n / TEN))) ≤ suc (suc k)
    go true h = omega arith
    go false h = omega arith

pub places_few : (n : ℕ) → places n ≤ TEN-DIGITS
unfolding places
places_few n = places_le (TEN-DIGITS - 1) n

pub length_decimal : (n : ℕ) → length (decimal n) ≤ TEN-DIGITS
unfolding decimal
length_decimal n = rw length_digits (places_few n)

pub length_results : (size : ℕ) (l : List ℕ) → length (results size l) ≡ length l * (1 + size)
unfolding results
length_results size [] = omega arith
length_results size (w ∷ l) = rw (length-append, length_digits, length_results size l) (omega arith)

-- i results are put, and those that are left give what all give
pub record Listed (before now l : List ℕ) (i : ℕ) : Type 0 where
  pub few : i ≤ length l
  pub left : before ++ results HEX-DIGITS l ≡ now ++ results HEX-DIGITS (drop i l)

pub none_listed : (t l : List ℕ) → Listed t t l 0
none_listed t l = record { few = omega arith; left = refl }

module _ {t now l : List ℕ} {i : ℕ} (s : Listed t now l i) where
  -- a result has room
  pub result_fits : {n : ℕ} → length t + length l * (1 + HEX-DIGITS) ≤ n → i < length l → length now + (1 + HEX-DIGITS) ≤ n
  result_fits room more =
      let some : 1 + HEX-DIGITS ≤ length (results HEX-DIGITS (drop i l)) = rw (length_results, length-drop) (omega arith) in
      omega (arith, simp length-append at (ap length s.left), length_results HEX-DIGITS l)

  pub one_listed : i < length l → {u v : List ℕ} → u ≡ now ++ SPACE ∷ [] → v ≡ u ++ digits HEX HEX-DIGITS (get_or l i 0) → Listed t v l (i + 1)
  unfolding results
  one_listed more {u} {v} p q =
      let w = get_or l i 0 in
      let behind = results HEX-DIGITS (drop (i + 1) l) in
      let first : drop i l ≡ w ∷ drop (i + 1) l = rw add-one (drop-cons l i 0 more) in
      record { few = omega arith; left = s.left ∙ rw (first, q, p) (sym (append_assoc (now ++ SPACE ∷ []) _ behind ∙ append_assoc now (SPACE ∷ []) _)) }

  pub all_listed : length l ≤ i → now ≡ t ++ results HEX-DIGITS l
  unfolding results
  all_listed h =
      let none : results HEX-DIGITS (drop i l) ≡ [] = rw (drop_of_length-le l h) in
      sym (s.left ∙ rw none (append-nil now))
