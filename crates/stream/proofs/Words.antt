-- Laws on the words of one code, in the steps of the loop that reads them. In order: where the loop stands; each way the reading ends; one more word. Assumes nothing.
use Prim.Native.Nat.{ℕ, suc, ◌+◌, ◌-◌, ◌≤◌, ◌<◌}
use mathlib.Core.List.{List, [], ◌∷◌, ◌++◌}
use mathlib.Core.Path.{◌≡◌, refl, sym, ap, ◌∙◌}
use native.Mathlib.Numerals.{add-one}
use native.Mathlib.Omega.{arith}
use lib.ListN.{length, take, drop, set, take-append-drop, length-drop, length-set}
use lib.Seq.{take_all, length-take-le, take-suc-set, drop-set-lt, drop-drop}
use Rattle.lists.specs.Part.{paste}
use Rattle.numbers.specs.declared.Number.{Number}
use Rattle.grammar.specs.declared.Place.{Place}
use Rattle.grammar.specs.declared.Verdict.{Verdict}
use Rattle.stream.specs.declared.Code.{Code}
use Rattle.grammar.specs.Layout.{Widths, CODE-WORDS}
use Rattle.numbers.specs.Number.{read_number}
use Rattle.grammar.specs.Grammar.{width_at, start, next, verdict}
use Rattle.stream.specs.Code.{◌reads◌, shown, Reader, placed, found, read_on, read_code, Reads}
use Rattle.grammar.proofs.Places.{most, most_start, next_less, verdict_start}
use Rattle.numbers.proofs.Outcome.{took}

abbrev standing : Place → List ℕ → ℕ → List ℕ → Reader
standing p l taken rest = record { place = p; words = l; taken = taken; rest = rest }

-- the loop has read n words into `now`, lent as `before`, from the first `taken` bytes, and stands at the place p
pub record Words (widths : Widths) (bytes before now : List ℕ) (p : Place) (n taken : ℕ) : Type 0 where
  pub asks : verdict p ≡ Verdict.More
  pub room : n + most p ≤ CODE-WORDS
  pub sized : length now ≡ CODE-WORDS
  pub kept : drop n now ≡ drop n before
  pub within : taken ≤ length bytes
  pub left : read_code widths bytes ≡ read_on widths (CODE-WORDS - n) (standing p (take n now) taken (drop taken bytes))

pub none_read : (widths : Widths) (bytes before : List ℕ) (p : Place) → p ≡ start → length before ≡ CODE-WORDS → Words widths bytes before before p 0 0
unfolding read_code
none_read widths bytes before p e h = record {
  asks = rw e verdict_start;
  room = rw (e, most_start) (omega arith);
  sized = h;
  kept = refl;
  within = omega arith;
  left = rw e;
}

module _ {widths : Widths} {bytes before now : List ℕ} {p : Place} {n taken : ℕ} (s : Words widths bytes before now p n taken) where
  -- there is room for a word
  pub has_room : n < CODE-WORDS
  has_room = omega (arith, next_less p 0 s.asks, s.room)

  -- the outcome of a number that was read from the part `&bytes[taken..]`
  pub number_at : (bits : ℕ) (r : Number) → bits ≡ width_at widths p → read_number bits (take (length bytes - taken) (drop taken bytes)) ≡ r → read_number (width_at widths p) (drop taken bytes) ≡ r
  number_at bits r e h =
      let whole : take (length bytes - taken) (drop taken bytes) ≡ drop taken bytes = take_all (length bytes - taken) (drop taken bytes) (rw length-drop (omega arith)) in
      rw (e, whole) at h

  reading : (r : Number) → read_number (width_at widths p) (drop taken bytes) ≡ r → read_code widths bytes ≡ found (read_on widths (CODE-WORDS - (n + 1))) r (standing p (take n now) taken (drop taken bytes))
  unfolding read_on
  reading r h =
      let k : CODE-WORDS - n ≡ suc (CODE-WORDS - (n + 1)) = omega (arith, has_room) in
      rw (s.left, k, h)

  -- what was lent, once the first k of `after` are the words that were read
  ends : (after : List ℕ) (k : ℕ) (c : Code) → k ≤ length after → drop k after ≡ drop k before → read_code widths bytes ≡ take k after reads c → Reads widths bytes before after c
  unfolding paste
  ends after k c few same h = record {
    outcome = rw h;
    lent = rw (h, length-take-le k after few, ← same) (sym (take-append-drop k after));
  }

  pub ends_short : (c : ℕ) → read_number (width_at widths p) (drop taken bytes) ≡ Number.Short → c ≡ shown (take n now) → Reads widths bytes before now (Code.Short c)
  unfolding found
  ends_short c h e = rw e (ends now n (Code.Short (shown (take n now))) (omega (arith, has_room, s.sized)) s.kept (reading Number.Short h))

  pub ends_bad : (c : ℕ) → read_number (width_at widths p) (drop taken bytes) ≡ Number.Bad → c ≡ shown (take n now) → Reads widths bytes before now (Code.Malformed c)
  unfolding found
  ends_bad c h e = rw e (ends now n (Code.Malformed (shown (take n now))) (omega (arith, has_room, s.sized)) s.kept (reading Number.Bad h))

  module _ (w k : ℕ) (h : read_number (width_at widths p) (drop taken bytes) ≡ Number.Value w k) where
    -- the number lies within the bytes
    pub taken_within : taken + k ≤ length bytes
    taken_within = omega (arith, simp length-drop at (took (width_at widths p) (drop taken bytes) w k h).within, s.within)

    sized_after : length (set now n w) ≡ CODE-WORDS
    sized_after = length-set now n w ∙ s.sized

    kept_after : drop (n + 1) (set now n w) ≡ drop (n + 1) before
    kept_after = drop-set-lt (n + 1) now n w (omega arith) ∙ sym (drop-drop 1 n now) ∙ ap (drop 1) s.kept ∙ drop-drop 1 n before

    module _ (q : Place) (e : q ≡ next p w) where
      read_word : (v : Verdict) → verdict q ≡ v
          → read_code widths bytes ≡ placed (read_on widths (CODE-WORDS - (n + 1))) v (standing q (take (n + 1) (set now n w)) (taken + k) (drop (taken + k) bytes))
      unfolding found
      read_word v d =
          let longer : take (n + 1) (set now n w) ≡ take n now ++ (w ∷ []) = rw add-one (take-suc-set now n w (omega (arith, has_room, s.sized))) in
          let onward : drop (taken + k) bytes ≡ drop k (drop taken bytes) = sym (drop-drop k taken bytes) in
          rw (longer, onward, ← d, e) (reading (Number.Value w k) h)

      ends_word : (c : Code) → read_code widths bytes ≡ take (n + 1) (set now n w) reads c → Reads widths bytes before (set now n w) c
      ends_word c = ends (set now n w) (n + 1) c (omega (arith, has_room, sized_after)) kept_after

      pub ends_whole : verdict q ≡ Verdict.Whole → Reads widths bytes before (set now n w) (Code.Whole (n + 1) (taken + k))
      unfolding placed
      ends_whole d =
          let count : length (take (n + 1) (set now n w)) ≡ n + 1 = length-take-le (n + 1) (set now n w) (omega (arith, has_room, sized_after)) in
          ends_word (Code.Whole (n + 1) (taken + k)) (rw count at (read_word Verdict.Whole d))

      pub ends_wrong : (c : ℕ) → verdict q ≡ Verdict.Bad → c ≡ shown (take (n + 1) (set now n w)) → Reads widths bytes before (set now n w) (Code.Malformed c)
      unfolding placed
      ends_wrong c d x = rw x (ends_word (Code.Malformed (shown (take (n + 1) (set now n w)))) (read_word Verdict.Bad d))

      pub one_more : verdict q ≡ Verdict.More → Words widths bytes before (set now n w) q (n + 1) (taken + k)
      unfolding placed
      one_more d = record {
        asks = d;
        room = rw e (omega (arith, next_less p w s.asks, s.room));
        sized = sized_after;
        kept = kept_after;
        within = taken_within;
        left = read_word Verdict.More d;
      }
