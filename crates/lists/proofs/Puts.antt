-- Laws on elements that are put into a lent list. In order: none, and one in front; one part behind another, for `Puts`; how far what was put reaches; a copy. Assumes nothing.
use Prim.Native.Nat.{ℕ, suc, ◌+◌, ◌≤◌, ◌<◌}
use mathlib.Core.List.{List, [], ◌∷◌, ◌++◌, append_assoc}
use mathlib.Core.Path.{◌≡◌, refl, sym, ◌∙◌}
use native.Mathlib.Numerals.{add-one}
use native.Mathlib.Omega.{arith}
use lib.ListN.{length, take, drop, get_or, set, length-append, length-set, take-append-drop, drop_of_length-le}
use lib.Seq.{length-take-le, drop-drop, take-suc-set, drop-set-lt, take-set-lt, set-append_left, drop-cons}
use Rattle.lists.specs.Part.{paste}
use Rattle.lists.specs.Puts.{Puts}
use Rattle.lists.proofs.Parts.{paste_paste}

module _ {A : Type 0} where
  pub paste_nil : (t : List A) (a : ℕ) → paste t a [] ≡ t
  unfolding paste
  paste_nil t a = take-append-drop a t

  -- the first element goes in first
  pub paste_cons : (t : List A) (a : ℕ) (x : A) (l : List A) → a < length t → paste t a (x ∷ l) ≡ paste (set t a x) (suc a) l
  unfolding paste
  paste_cons t a x l h =
      let behind : drop (suc (length l)) (drop a t) ≡ drop (length l) (drop (suc a) t) =
      drop-drop (suc (length l)) a t ∙ rw (same a (length l)) (sym (drop-drop (length l) (suc a) t)) in
      rw (take-suc-set t a x h, drop-set-lt (suc a) t a x (omega arith), behind, append_assoc)
    where
      same : (a k : ℕ) → a + suc k ≡ suc a + k
      same a k = omega arith

  -- the first element goes in last
  pub set_paste : (t : List A) (a : ℕ) (x : A) (l : List A) → a < length t → set (paste t (suc a) l) a x ≡ paste t a (x ∷ l)
  unfolding paste
  set_paste t a x l h =
      let long : length (take (suc a) t) ≡ suc a = length-take-le (suc a) t h in
      let inside : a < length (take (suc a) t) = omega arith in
      set-append_left (take (suc a) t) (l ++ drop (length l) (drop (suc a) t)) a x inside
      ∙ rw (← take-set-lt (suc a) t a x (omega arith), ← drop-set-lt (suc a) t a x (omega arith)) (sym (paste_cons t a x l h))

  -- what is put behind what was put
  pub puts_on : {t u : List A} {a b : ℕ} {l : List A} → Puts t u a b l → a ≤ length t → (m : List A) → paste u b m ≡ paste t a (l ++ m)
  puts_on {t} {u} {a} {b} {l} p h m = rw (p.put, p.end) (paste_paste t a l m h)

  pub puts_join : {t u v : List A} {a b c : ℕ} {l m : List A} → Puts t u a b l → Puts u v b c m → a ≤ length t → Puts t v a c (l ++ m)
  puts_join {t} {u} {v} {a} {b} {c} {l} {m} p q h = record {
    put = q.put ∙ puts_on p h m;
    end = q.end ∙ rw (p.end, length-append) (omega arith);
  }

  pub puts_one : (t : List A) (a : ℕ) (x : A) → a < length t → Puts t (set t a x) a (a + 1) (x ∷ [])
  puts_one t a x h = record { put = sym (paste_cons t a x [] h ∙ paste_nil (set t a x) (suc a)); end = refl }

  -- a list as long as before, in which no more than `most` elements are put from `at` on
  pub record Near (before now : List A) (at next most : ℕ) : Type 0 where
    pub same : length now ≡ length before
    pub from : at ≤ next
    pub near : next ≤ at + most

  pub near_start : (t : List A) (a : ℕ) → Near t t a a 0
  near_start t a = record { same = refl; from = omega arith; near = omega arith }

  pub near_more : {t u v : List A} {a b c n : ℕ} {m : List A} (k : ℕ) → Near t u a b n → Puts u v b c m → length m ≤ k → length v ≡ length u → Near t v a c (n + k)
  near_more k s p h e = record { same = e ∙ s.same; from = omega (arith, s.from, p.end); near = omega (arith, s.near, p.end) }

  -- a copy, element by element: what is left to put gives what the whole gives
  pub record Copied (before now all : List A) (at i : ℕ) : Type 0 where
    pub few : i ≤ length all
    pub same : length now ≡ length before
    pub left : paste before at all ≡ paste now (at + i) (drop i all)

  pub none_copied : (t all : List A) (at : ℕ) → Copied t t all at 0
  none_copied t all at =
      let zero_more : at + 0 ≡ at = omega arith in
      record { few = omega arith; same = refl; left = rw zero_more }

  module _ {t now all : List A} {at i : ℕ} (s : Copied t now all at i) (room : at + length all ≤ length t) where
    pub one_copied : (z : A) → i < length all → Copied t (set now (at + i) (get_or all i z)) all at (i + 1)
    one_copied z l =
        let next : at + (i + 1) ≡ suc (at + i) = omega arith in
        record {
          few = omega arith;
          same = length-set now (at + i) (get_or all i z) ∙ s.same;
          left = rw (s.left, next, add-one, drop-cons all i z l) (paste_cons now (at + i) (get_or all i z) (drop (suc i) all) (omega (arith, s.same)));
        }

    pub all_copied : length all ≤ i → Puts t now at (at + i) all
    all_copied l =
        let end : i ≡ length all = omega (arith, s.few) in
        record {
          put = sym (s.left ∙ rw (drop_of_length-le all l) (paste_nil now (at + i)));
          end = rw end;
        }
