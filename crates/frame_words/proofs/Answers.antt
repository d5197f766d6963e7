-- Laws on the answers of a drive. In order: how many words one takes; how many answers; the answers from one on, and none. Assumes nothing.
use Prim.Native.Nat.{ℕ, zero, suc, ◌+◌, ◌-◌, ◌≤◌, ◌<◌}
use mathlib.Core.Bool.{Bool, true, false}
use mathlib.Core.List.{List, [], ◌∷◌}
use mathlib.Core.Path.{◌≡◌, refl, ap}
use native.Mathlib.Omega.{arith}
use lib.Dec.{eqb}
use lib.ListN.{length, get_or}
use lib.Ieee.{Format}
use Rattle.lists.specs.Pick.{pick}
use Rattle.grammar.specs.Layout as code
use Rattle.scenario.specs.Layout as at
use Rattle.scenario.specs.Decode.{number_from}
use Rattle.frame_words.specs.Frame.{answer_from, answer_words, answers_from}

pub answer_words_le : (kind : ℕ) → answer_words kind ≤ at.HIT-UP-WORDS
unfolding answer_words pick
answer_words_le kind = go (eqb kind code.HIT) (eqb kind code.HIT-UP)
  where
    go : (hit up : Bool) → pick hit at.HIT-WORDS (pick up at.HIT-UP-WORDS 1) ≤ at.HIT-UP-WORDS
    go true up = omega arith
    go false true = omega arith
    go false false = omega arith

pub length_answers : (f : Format) (l : List ℕ) (a n : ℕ) → length (answers_from f l a n) ≡ n
unfolding answers_from
length_answers f l a zero = refl
length_answers f l a (suc n) = ap suc (length_answers f l (a + answer_words (number_from l a)) n)

pub answers_more : (f : Format) (l : List ℕ) (a n i : ℕ) → i < n → answers_from f l a (n - i) ≡ answer_from f l a ∷ answers_from f l (a + answer_words (get_or l a 0)) (n - (i + 1))
unfolding answers_from number_from
answers_more f l a n i h =
    let k : n - i ≡ suc (n - (i + 1)) = omega arith in
    rw k

pub answers_end : (f : Format) (l : List ℕ) (a n i : ℕ) → n ≤ i → answers_from f l a (n - i) ≡ []
unfolding answers_from
answers_end f l a n i h =
    let k : n - i ≡ 0 = omega arith in
    rw k

pub answers_start_lem : (f : Format) (l : List ℕ) (a n : ℕ) → answers_from f l a (n - 0) ≡ answers_from f l a n
answers_start_lem f l a n =
    let k : n - 0 ≡ n = omega arith in
    rw k
