-- Laws on results as words. In order: how many; those of one list after another; the steps of the loop that writes them. Assumes nothing.
use Prim.Native.Nat.{ℕ, suc, ◌+◌, ◌≤◌, ◌<◌}
use mathlib.Core.List.{List, [], ◌∷◌, ◌++◌}
use mathlib.Core.Path.{◌≡◌, refl, ap}
use native.Mathlib.Numerals.{add-one}
use lib.ListN.{length, get_or, drop, drop_of_length-le}
use lib.Seq.{drop-cons}
use lib.Ieee.{Float, Format, nan, to_bits}
use Rattle.scenario.specs.Results.{words_of}

pub length_words : (f : Format) (l : List Float) → length (words_of f l) ≡ length l
unfolding words_of
length_words f [] = refl
length_words f (x ∷ l) = ap suc (length_words f l)

pub words_append : (f : Format) (l m : List Float) → words_of f (l ++ m) ≡ words_of f l ++ words_of f m
unfolding words_of
words_append f [] m = refl
words_append f (x ∷ l) m = ap (λ (w : List ℕ). to_bits f x ∷ w) (words_append f l m)

pub words_more : (f : Format) (l : List Float) (i : ℕ) → i < length l → words_of f (drop i l) ≡ to_bits f (get_or l i nan) ∷ words_of f (drop (i + 1) l)
unfolding words_of
words_more f l i h = rw (add-one, drop-cons l i nan h)

pub words_end : (f : Format) (l : List Float) (i : ℕ) → length l ≤ i → words_of f (drop i l) ≡ []
unfolding words_of
words_end f l i h = rw (drop_of_length-le l h)
