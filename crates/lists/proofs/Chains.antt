-- Laws from what a chain of iterators answers to `all` and `every`. In order: std's words for `all`, and for a fold that looks at every element; places and numbers;
-- `.all(f)` of any chain, of a slice, of a slice by places, and of a range; a fold of a slice. Of `.all(f)` each takes the call's clause `ran` and what a call of f says:
--     all_slice _ c.all.ensures.ran (cc) (λ x b q k. search (rules, tests))
--     every_slice p d c.all.ensures.ran (cc) (λ x b q k. search (rules, tests))
--     every_range _ _ c.all.ensures.ran refl (λ x b q k. search (rules, tests)) (λ x b q l k. search (rules, tests))
--     all_fold _ _ (grind (arith, common_steps))
-- Assumes nothing.
use Prim.Native.Nat.{ℕ, zero, suc, ◌+◌, ◌<◌, ◌≤◌}
use mathlib.Core.Bool.{Bool, true, false, ◌&&◌}
use mathlib.Core.List.{List, [], ◌∷◌}
use mathlib.Core.Path.{◌≡◌, refl, sym, ap, ◌∙◌}
use native.Mathlib.Nat.{zero-add}
use native.Mathlib.Decide.{dec_lt}
use native.Mathlib.Omega.{arith}
use lib.ListN.{length, get_or}
use denote.Param.Members.{Mut}
use denote.Ref.{Bor}
use Rattle.std.specs.declared.ops.Range.{Range}
use Rattle.std.specs.declared.slice.Iter.{Iter}
use Rattle.std.specs.declared.option.Option.{Option}
use Rattle.std.specs.Iterator.{YieldsThen}
use Rattle.std.specs.List.{FoldsTo, AllWithin, HoldsAt, list_all, fold, range_with_len}
use Rattle.std.specs.Fn.{Called}
use Rattle.std.specs.Option.{MatchOption}
use Rattle.std.specs.Bool.{MatchBool}
use Rattle.std.specs.Slice.Iter.{iter_rest}
use Rattle.std.proofs.iter.Yields.{fronts, nat_range_steps}
use Rattle.std.proofs.lemmas.Iterator.{YieldsList, YieldsList-from_slice, YieldsList-from_range, cases_from_all}
use Rattle.std.proofs.lemmas.List.FromFn.{length-range_with_len, get_or-range_with_len}
use Rattle.std.proofs.lemmas.Iterator.Search.{all_from_yields_List}
use Rattle.lists.specs.Pick.{pick, ◌and◌}
use Rattle.lists.specs.All.{all}
use Rattle.lists.specs.Counted.{every}

both : (a b c : Bool) → b ≡ c → (a && b) ≡ (a and c)
unfolding pick
both true b c e = e
both false b c e = refl

module _ {A : Type 0} (p : A → Bool) where
  all_listed : (s : List A) → list_all p s ≡ all p s
  unfolding all
  all_listed [] = refl
  all_listed (x ∷ s) = both (p x) (list_all p s) (all p s) (all_listed s)

  all_folded : (ok : Bool) (s : List A) → fold (λ (a : Bool) (x : A). a && p x) ok s ≡ (ok and all p s)
  unfolding all pick
  all_folded true [] = refl
  all_folded false [] = refl
  all_folded true (x ∷ s) = all_folded (p x) s
  all_folded false (x ∷ s) = all_folded false s

  every_from : (d : A) (s : List A) (q : ℕ → Bool) (i : ℕ) → ((j : ℕ) → q (i + j) ≡ p (get_or s j d)) → all p s ≡ every q (length s) i
  unfolding all every pick
  every_from d [] q i h = refl
  every_from d (x ∷ s) q i h =
      let here : i + 0 ≡ i = omega arith in
      let first : q i ≡ p x = rw here at (h 0) in
      let rest = every_from d s q (suc i) (λ j. let there : suc i + j ≡ i + suc j = omega arith in rw there (h (suc j))) in
      rw first (ap (λ (b : Bool). pick (p x) b false) rest)

  -- a test of each element is one of each place
  pub all_every : (d : A) (s : List A) → all p s ≡ every (λ i. p (get_or s i d)) (length s) 0
  all_every d s = every_from d s (λ i. p (get_or s i d)) 0 (λ j. let there : 0 + j ≡ j = omega arith in rw there)

-- a test of each number of a range
every_true : (p : ℕ → Bool) (k i : ℕ) → ((j : ℕ) → i ≤ j → j < i + k → p j ≡ true) → every p k i ≡ true
unfolding every pick
every_true p zero i h = refl
every_true p (suc k) i h = rw (h i (omega arith) (omega arith)) (every_true p k (suc i) (λ j a l. h j (omega arith) (omega arith)))

every_false : (p : ℕ → Bool) (k i j : ℕ) → i ≤ j → j < i + k → p j ≡ false → every p k i ≡ false
unfolding every pick
every_false p zero i j a l e = absurd (omega arith)
every_false p (suc k) i j a l e = elim (dec_lt i j) [
  | yes g ↦ later (p i) (every_false p k (suc i) j (omega arith) (omega arith) e)
  | no g ↦ (
      let s : i ≡ j = omega arith in
      rw s (rw e))
]
  where
    later : (b : Bool) → every p k (suc i) ≡ false → pick b (every p k (suc i)) false ≡ false
    later true h = h
    later false h = refl

-- what std's `all` ensures of its run
abbrev pub AllRan : {S A F : Type 0} → (S → Option A → S → Type 0) → Mut F (A × Unit {0}) Bool → S → S → F → Bool → Type 0
AllRan {S} {A} {F} steps g s u f r =
    (ys : List A) × (o : Option A) × (j : F) × YieldsThen steps s ys o u × FoldsTo (λ q x t. Called g q (x, tt) true t) f ys j
    × MatchOption o (r ≡ true) (λ x. (r ≡ false) × ((h : F) × Called g j (x, tt) false h))

module _ {S A B F : Type 0} {steps : S → Option A → S → Type 0} {v : A → B} {g : Mut F (A × Unit {0}) Bool} {s : S} (u : S) (f : F) (r : Bool) {xs : List B} (p : B → Bool)
  where
    pub all_chain : AllRan steps g s u f r
        → YieldsList steps v s xs → ((x : A) (b : Bool) (q : F) → Called g f (x, tt) b q → (q ≡ f) × (b ≡ p (v x))) → r ≡ all p xs
    all_chain ran y k = all_from_yields_List p u f r ran y k ∙ all_listed p xs

-- the same of a slice
module _ {A F : Type 0} {g : Mut F (Bor A × Unit {0}) Bool} {s u : Iter A} {f : F} {r : Bool} {xs : List A} (p : A → Bool) where
  pub all_slice : AllRan fronts g s u f r
      → iter_rest s ≡ xs → ((x : Bor A) (b : Bool) (q : F) → Called g f (x, tt) b q → (q ≡ f) × (b ≡ p x.now)) → r ≡ all p xs
  all_slice ran e k = all_chain u f r p ran (YieldsList-from_slice xs e) k

  pub every_slice : (d : A) → AllRan fronts g s u f r
      → iter_rest s ≡ xs → ((x : Bor A) (b : Bool) (q : F) → Called g f (x, tt) b q → (q ≡ f) × (b ≡ p x.now))
      → r ≡ every (λ i. p (get_or xs i d)) (length xs) 0
  every_slice d ran e k = all_slice ran e k ∙ all_every p d xs

-- `(0..n).all(f)`, where a call of f has to say something only below n
module _ {F : Type 0} {g : Mut F (ℕ × Unit {0}) Bool} {s u : Range ℕ} {f : F} {r : Bool} (p : ℕ → Bool) (n : ℕ) where
  pub every_range : AllRan nat_range_steps g s u f r
      → s ≡ record { start = 0; end = n } → ((x : ℕ) (b : Bool) (q : F) → Called g f (x, tt) b q → q ≡ f)
      → ((x : ℕ) (b : Bool) (q : F) → x < n → Called g f (x, tt) b q → b ≡ p x) → r ≡ every p n 0
  every_range ran e keeps says =
      answered r (cases_from_all u f r (λ x. x < n → p x ≡ true) (λ x. x < n → p x ≡ false) ran (YieldsList-from_range 0 n n e (omega arith))
      (λ x q c. (keeps x true q c, λ l. sym (says x true q l c))) (λ x q c l. sym (says x false q l c)))
    where
      at_place : (k : ℕ) → k < n → get_or (range_with_len 0 n) k 0 ≡ k
      at_place k l = get_or-range_with_len 0 n k 0 l ∙ zero-add k

      many : length (range_with_len 0 n) ≡ n
      many = length-range_with_len 0 n

      answered : (b : Bool) → MatchBool b (AllWithin (λ x. x < n → p x ≡ true) (range_with_len 0 n) 0 (length (range_with_len 0 n)))
          ((k : ℕ) × (k < length (range_with_len 0 n)) × HoldsAt (λ x. x < n → p x ≡ false) (range_with_len 0 n) k) → b ≡ every p n 0
      answered true h = sym (every_true p n 0 (λ j a l. let m : j < n = omega arith in (rw (at_place j m) at (h j 0 (omega arith) (omega (arith, many)))) m))
      answered false h =
          let l : h.0 < n = omega (arith, h.1, many) in
          sym (every_false p n 0 h.0 (omega arith) (omega arith) ((rw (at_place h.0 l) at (h.2 0)) l))

-- `s.iter().fold(true, |ok, x| ok & f(x))`, of what std says of a fold
pub all_fold : {A : Type 0} {r : Bool} (p : A → Bool) (xs : List A) → r ≡ fold (λ (a : Bool) (x : A). a && p x) true xs → r ≡ all p xs
unfolding pick
all_fold p xs e = e ∙ all_folded p true xs
