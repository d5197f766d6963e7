-- Laws on `part` and `paste`, for rows of any length. In order: what a borrowed part holds and leaves; lengths;
-- what was put is there, and what lies before or after is as it was; the same for rows of n; one part after another, one as long as the list, and one of one element. Assumes nothing.
use Prim.Native.Nat.{ℕ, zero, suc, ◌+◌, ◌-◌, ◌*◌, ◌≤◌, ◌<◌}
use mathlib.Core.List.{List, [], ◌∷◌, ◌++◌, append-nil, append_assoc}
use mathlib.Core.Path.{◌≡◌, refl, sym, ap, ◌∙◌}
use native.Mathlib.Nat.{mul-le-mul_right, suc-mul, add-mul}
use native.Mathlib.Decide.{dec_lt}
use native.Mathlib.Numerals.{add-one}
use native.Mathlib.Omega.{arith}
use lib.ListN.{length, take, drop, get_or, set, replicate, length-append, length-take, length-drop, drop_of_length-le}
use lib.Seq.{take_at, drop_at, take-append-le, drop-append-le, take-append-add, drop-append-add, take-append_seam, drop-append_seam, drop-drop, take-take, length-take-le, get_or-take, get_or-drop, set_split}
use Rattle.lists.specs.Part.{part, paste}

cut : (a k : ℕ) → (a + k) - a ≡ k
cut a k = omega arith

module _ {A : Type 0} where
  -- what a part `&t[a..e]` holds, e being a + k
  pub part_to : (t : List A) (a e k : ℕ) → e ≡ a + k → take (e - a) (drop a t) ≡ part t a k
  unfolding part
  part_to t a e k h = rw (h, cut a k)

  -- what a part `&t[a..a + k]` holds
  pub part_is : (t : List A) (a k : ℕ) → take ((a + k) - a) (drop a t) ≡ part t a k
  unfolding part
  part_is t a k = rw (cut a k)

  -- what a table holds once a part `&mut t[a..a + k]`, left at ys, is back
  pub paste_is : (t ys r : List A) (a k : ℕ) → ys ≡ r → k ≡ length r → take a t ++ (ys ++ drop ((a + k) - a) (drop a t)) ≡ paste t a r
  unfolding paste
  paste_is t ys r a k p q = rw (cut a k, p, q)

  pub length_part : (t : List A) (a k : ℕ) → a + k ≤ length t → length (part t a k) ≡ k
  unfolding part
  length_part t a k h = simp (length-take, length-drop) (omega arith)

  -- what stands in a part
  pub get_d_part : (t : List A) (a k i : ℕ) (z : A) → i < k → get_or (part t a k) i z ≡ get_or t (a + i) z
  unfolding part
  get_d_part t a k i z l = rw (get_or-take, get_or-drop)

  pub length_paste : (t : List A) (a : ℕ) (r : List A) → a + length r ≤ length t → length (paste t a r) ≡ length t
  unfolding paste
  length_paste t a r h = simp (length-append, length-take, length-drop) (omega arith)

  -- what was put is there
  pub part_paste : (t : List A) (a : ℕ) (r : List A) → a ≤ length t → part (paste t a r) a (length r) ≡ r
  unfolding part paste
  part_paste t a r h = rw (drop_at (take a t) (r ++ drop (length r) (drop a t)) a (length-take-le a t h)) (take_at r _ (length r) refl)

  drop_take : (b a k : ℕ) (t : List A) → b + k ≤ a → take k (drop b (take a t)) ≡ take k (drop b t)
  drop_take zero a k t h = take-take k a t (omega arith)
  drop_take (suc b) zero k t h = absurd (omega arith)
  drop_take (suc b) (suc a) k [] h = refl
  drop_take (suc b) (suc a) k (x ∷ t) h = drop_take b a k t (omega arith)

  -- a part that ends before is as it was
  pub part_before : (t : List A) (a b k : ℕ) (r : List A) → b + k ≤ a → a ≤ length t → part (paste t a r) b k ≡ part t b k
  unfolding part paste
  part_before t a b k r p h =
      let e = length-take-le a t h in
      rw (drop-append-le b (take a t) _ (omega arith), take-append-le k (drop b (take a t)) _ (simp length-drop (omega arith)))
      (drop_take b a k t p)

  -- a part that starts after is as it was
  pub part_after : (t : List A) (a m k : ℕ) (r : List A) → a ≤ length t → part (paste t a r) (a + (length r + m)) k ≡ part t (a + (length r + m)) k
  unfolding part paste
  part_after t a m k r h =
      let e = length-take-le a t h in
      ap (take k) (ap (λ (n : ℕ). drop (n + (length r + m)) (paste t a r)) (sym e)
      ∙ drop-append-add (take a t) _ (length r + m)
      ∙ drop-append-add r _ m
      ∙ drop-drop m (length r) (drop a t)
      ∙ drop-drop (length r + m) a t)

  -- rows of n from b on: the row that was put, every other row, and what lies before them all
  pub row_same : (t : List A) (b n i : ℕ) (r : List A) → length r ≡ n → b + i * n ≤ length t → part (paste t (b + i * n) r) (b + i * n) n ≡ r
  row_same t b n i r e h = rw e at (part_paste t (b + i * n) r h)

  row_before : (t : List A) (b n i j : ℕ) (r : List A) → j < i → b + i * n ≤ length t → part (paste t (b + i * n) r) (b + j * n) n ≡ part t (b + j * n) n
  row_before t b n i j r l h =
      let m = mul-le-mul_right n l in
      let s = suc-mul j n in
      part_before t (b + i * n) (b + j * n) n r (omega arith) h

  row_after : (t : List A) (b n i m : ℕ) (r : List A) → length r ≡ n → b + i * n ≤ length t
      → part (paste t (b + i * n) r) (b + (i + suc m) * n) n ≡ part t (b + (i + suc m) * n) n
  row_after t b n i m r e h =
      let s : b + i * n + (length r + m * n) ≡ b + (i + suc m) * n = rw (e, add-mul, suc-mul) (omega arith) in
      rw s at (part_after t (b + i * n) (m * n) n r h)

  pub row_other : (t : List A) (b n i j : ℕ) (r : List A) → length r ≡ n → (j ≡ i → ⊥) → b + i * n ≤ length t
      → part (paste t (b + i * n) r) (b + j * n) n ≡ part t (b + j * n) n
  row_other t b n i j r e ne h = elim (dec_lt j i) [
    | yes l ↦ row_before t b n i j r l h
    | no l ↦ (
        let s : i + suc (j - (i + 1)) ≡ j = omega arith in
        rw s at (row_after t b n i (j - (i + 1)) r e h))
  ]

  pub head_kept : (t : List A) (b n i : ℕ) (r : List A) → b + i * n ≤ length t → part (paste t (b + i * n) r) 0 b ≡ part t 0 b
  head_kept t b n i r h = part_before t (b + i * n) 0 b r (omega arith) h

  -- one part after another is both at once
  pub paste_paste : (t : List A) (a : ℕ) (r s : List A) → a ≤ length t → paste (paste t a r) (a + length r) s ≡ paste t a (r ++ s)
  unfolding paste
  paste_paste t a r s h =
      let e = length-take-le a t h in
      let d = drop (length r) (drop a t) in
      let front : take (a + length r) (take a t ++ (r ++ d)) ≡ take a t ++ r =
      ap (λ (n : ℕ). take (n + length r) (take a t ++ (r ++ d))) (sym e) ∙ take-append-add (take a t) (r ++ d) (length r) ∙ ap (λ (l : List A). take a t ++ l) (take-append_seam r d) in
      let back : drop (a + length r) (take a t ++ (r ++ d)) ≡ d =
      ap (λ (n : ℕ). drop (n + length r) (take a t ++ (r ++ d))) (sym e) ∙ drop-append-add (take a t) (r ++ d) (length r) ∙ drop-append_seam r d in
      rw (front, back, length-append r s, ← drop-drop (length s) (length r) (drop a t), append_assoc (take a t) r, append_assoc r s)

  -- a part as long as the list is all of it
  pub paste_all : (t r : List A) → length t ≤ length r → paste t 0 r ≡ r
  unfolding paste
  paste_all t r h = rw (drop_of_length-le t h) (append-nil r)

  -- one element stored is a part of one
  pub set_is_paste : (t : List A) (a : ℕ) (x : A) → a < length t → set t a x ≡ paste t a (x ∷ [])
  unfolding paste
  set_is_paste t a x h = rw (set_split t a x h, drop-drop 1 a t, add-one)

-- what was put at the front of a list
pub front_of_paste : {A : Type 0} (t r : List A) (k : ℕ) → length r ≡ k → take k (paste t 0 r) ≡ r
unfolding paste
front_of_paste t r k h = take_at r (drop (length r) t) k h

-- what stands behind it in a list of d is what a reading past its end gives
get_or_drop_replicate : {A : Type 0} (d : A) (k n i : ℕ) → get_or (drop n (replicate k d)) i d ≡ d
get_or_drop_replicate d zero zero i = refl
get_or_drop_replicate d zero (suc n) i = refl
get_or_drop_replicate d (suc k) zero zero = refl
get_or_drop_replicate d (suc k) zero (suc i) = get_or_drop_replicate d k zero i
get_or_drop_replicate d (suc k) (suc n) i = get_or_drop_replicate d k n i

pub front_read : {A : Type 0} (d : A) (r : List A) (k i : ℕ) → get_or (paste (replicate k d) 0 r) i d ≡ get_or r i d
unfolding paste
front_read {A} d r k i = go r (length r) i
  where
    go : (l : List A) (n j : ℕ) → get_or (l ++ drop n (replicate k d)) j d ≡ get_or l j d
    go [] n j = get_or_drop_replicate d k n j
    go (x ∷ l) n zero = refl
    go (x ∷ l) n (suc j) = go l n j
