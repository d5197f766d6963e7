-- Laws on a loop that fills the front of a lent list, element by element, with a list that is made as it goes. In order: where the loop stands; none is filled; one more; all. Assumes nothing.
use Prim.Native.Nat.{ℕ, ◌+◌, ◌≤◌, ◌<◌}
use mathlib.Core.List.{List, [], ◌∷◌, ◌++◌, append-nil}
use mathlib.Core.Path.{◌≡◌, refl, sym, ap, ◌∙◌}
use native.Mathlib.Numerals.{add-one}
use native.Mathlib.Omega.{arith}
use lib.ListN.{length, take, drop, set, take-append-drop, length-set}
use lib.Seq.{length-take-le, take-suc-set, drop-set-lt, drop-drop, append_snoc}
use Rattle.lists.specs.Part.{paste}

module _ {A : Type 0} where
  -- i elements of `whole` are in `now`, lent as `before`, and `rest` is left
  pub record Filling (before now : List A) (i : ℕ) (rest whole : List A) : Type 0 where
    pub sized : length now ≡ length before
    pub kept : drop i now ≡ drop i before
    pub made : take i now ++ rest ≡ whole

  pub fill_none : (before rest whole : List A) → rest ≡ whole → Filling before before 0 rest whole
  fill_none before rest whole h = record { sized = refl; kept = refl; made = h }

  pub fill_more : (before now : List A) (i : ℕ) (x : A) (rest rest' whole : List A) → i < length before → rest ≡ x ∷ rest' → Filling before now i rest whole
      → Filling before (set now i x) (i + 1) rest' whole
  fill_more before now i x rest rest' whole l e s =
      let longer : take (i + 1) (set now i x) ≡ take i now ++ (x ∷ []) = rw add-one (take-suc-set now i x (omega (arith, s.sized))) in
      record {
        sized = length-set now i x ∙ s.sized;
        kept = drop-set-lt (i + 1) now i x (omega arith) ∙ sym (drop-drop 1 i now) ∙ ap (drop 1) s.kept ∙ drop-drop 1 i before;
        made = rw longer (append_snoc (take i now) x rest' ∙ (rw e at s.made));
      }

  pub fill_all : (before now : List A) (i : ℕ) (rest whole : List A) → i ≤ length before → rest ≡ [] → Filling before now i rest whole → now ≡ paste before 0 whole
  unfolding paste
  fill_all before now i rest whole l e s =
      let all : take i now ≡ whole = sym (append-nil (take i now)) ∙ (rw e at s.made) in
      let count : length whole ≡ i = ap length (sym all) ∙ length-take-le i now (omega (arith, s.sized)) in
      rw (count, ← s.kept, ← all) (sym (take-append-drop i now))
