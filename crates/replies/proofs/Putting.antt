-- Laws on words that are put part by part. In order: where the putting stands; none is put; one part more; all; the sights that are left. Assumes nothing.
use Prim.Native.Nat.{ℕ, ◌+◌, ◌≤◌, ◌<◌}
use mathlib.Core.List.{List, [], ◌∷◌, ◌++◌}
use mathlib.Core.Path.{◌≡◌, refl, sym, ap, ◌∙◌}
use native.Mathlib.Numerals.{add-one}
use native.Mathlib.Omega.{arith}
use lib.ListN.{length, drop, get_or, length-append, drop_of_length-le}
use lib.Seq.{drop-cons}
use lib.Ieee.{Format}
use Rattle.lists.specs.Part.{paste}
use Rattle.lists.proofs.Parts.{length_paste, paste_paste}
use Rattle.aim.specs.declared.Sight.{Sight}
use Rattle.lists.specs.Puts.{Puts}
use Rattle.lists.proofs.Puts.{paste_nil}
use Rattle.scenario.specs.Results.{words_of}
use Rattle.scenario.proofs.Words.{words_append}
use Rattle.aim.specs.Sights.{sight_list, sights_list}

-- words lent as `before` get `whole` from `at` on; `rest` of it is left, and goes into `now` from `next` on
pub record Putting (before now : List ℕ) (at next : ℕ) (rest whole : List ℕ) : Type 0 where
  pub same : length now ≡ length before
  pub end : next + length rest ≡ at + length whole
  pub left : paste now next rest ≡ paste before at whole

pub none_put : (before : List ℕ) (at : ℕ) (whole : List ℕ) → Putting before before at at whole whole
none_put before at whole = record { same = refl; end = refl; left = refl }

pub part_put : {before now now' : List ℕ} {at next : ℕ} {rest whole : List ℕ} (l rest' : List ℕ) → Putting before now at next rest whole → rest ≡ l ++ rest'
    → now' ≡ paste now next l → next + length l ≤ length now → Putting before now' at (next + length l) rest' whole
part_put {before} {now} {now'} {at} {next} {rest} {whole} l rest' s e p h = record {
  same = ap length p ∙ length_paste now next l h ∙ s.same;
  end = (let k : length rest ≡ length l + length rest' = ap length e ∙ length-append l rest' in omega (arith, s.end));
  left = rw p (paste_paste now next l rest' (omega arith)) ∙ (rw e at s.left);
}

pub all_put : {before now : List ℕ} {at next : ℕ} {rest whole : List ℕ} → Putting before now at next rest whole → rest ≡ [] → Puts before now at next whole
all_put {before} {now} {at} {next} {rest} {whole} s e = record {
  put = sym (paste_nil now next) ∙ (rw e at s.left);
  end = (let k : length rest ≡ 0 = ap length e in omega (arith, s.end));
}

-- ---- the sights of the wheels, once i of them are put
pub sights_more : (f : Format) (l : List Sight) (i : ℕ) (z : Sight) → i < length l →
    let s = get_or l i z in
    words_of f (sights_list (drop i l)) ≡ words_of f (sight_list s) ++ words_of f (sights_list (drop (i + 1) l))
unfolding sights_list
sights_more f l i z h =
    let first : drop i l ≡ get_or l i z ∷ drop (i + 1) l = rw add-one (drop-cons l i z h) in
    rw (first, ← words_append)

pub sights_end : (f : Format) (l : List Sight) (i : ℕ) → length l ≤ i → words_of f (sights_list (drop i l)) ≡ []
unfolding sights_list words_of
sights_end f l i h = rw (drop_of_length-le l h)
