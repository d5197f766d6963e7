-- Lists whose numbers the format holds. In order: the claim as one fact for each number, and back; appending, parts and paste; a number by its place. Assumes nothing.
use Prim.Native.Nat.{ℕ, zero, suc}
use mathlib.Core.Bool.{Bool, true, false}
use mathlib.Core.List.{List, [], ◌∷◌, ◌++◌}
use mathlib.Core.Path.{◌≡◌, refl}
use lib.Dec.{T}
use lib.ListN.{length, get_or, take, drop, replicate}
use lib.Ieee.{Float, Format, nan, fits}
use lib.Ieee.Fits.{nan-fits}
use Rattle.lists.specs.Pick.{pick}
use Rattle.lists.specs.All.{all}
use Rattle.lists.specs.Part.{part, paste}
use Rattle.lists.proofs.Picks.{pick_true}
use Rattle.demands.specs.Held.{are_held, Held}

-- a fact for each number
abbrev pub Each : Format → List Float → Type 0
Each f [] = Unit {0}
Each f (x ∷ l) = T (fits f x) × Each f l

holds : (b : Bool) → b ≡ true → T b
holds b h = rw h tt

true_of : (b : Bool) → T b → b ≡ true
true_of true h = refl
true_of false h = absurd h

module _ (f : Format) where
  pub each_of_held : (l : List Float) → Held f l → Each f l
  unfolding are_held all
  each_of_held [] h = tt
  each_of_held (x ∷ l) h = let p = pick_true (fits f x) (all (fits f) l) h in (holds (fits f x) p.0, each_of_held l p.1)

  pub held_of_each : (l : List Float) → Each f l → Held f l
  unfolding are_held all pick
  held_of_each [] h = refl
  held_of_each (x ∷ l) h = rw (true_of (fits f x) h.0) (held_of_each l h.1)

  pub each_append : (a b : List Float) → Each f a → Each f b → Each f (a ++ b)
  each_append [] b p q = q
  each_append (x ∷ a) b p q = (p.0, each_append a b p.1 q)

  each_take : (k : ℕ) (l : List Float) → Each f l → Each f (take k l)
  each_take zero l h = tt
  each_take (suc k) [] h = tt
  each_take (suc k) (x ∷ l) h = (h.0, each_take k l h.1)

  each_drop : (k : ℕ) (l : List Float) → Each f l → Each f (drop k l)
  each_drop zero l h = h
  each_drop (suc k) [] h = tt
  each_drop (suc k) (x ∷ l) h = each_drop k l h.1

  pub each_part : (t : List Float) (a k : ℕ) → Each f t → Each f (part t a k)
  unfolding part
  each_part t a k h = each_take k (drop a t) (each_drop a t h)

  pub each_paste : (t : List Float) (a : ℕ) (r : List Float) → Each f t → Each f r → Each f (paste t a r)
  unfolding paste
  each_paste t a r h k = each_append (take a t) (r ++ drop (length r) (drop a t)) (each_take a t h) (each_append r (drop (length r) (drop a t)) k (each_drop (length r) (drop a t) (each_drop a t h)))

  pub each_replicate : (n : ℕ) (x : Float) → T (fits f x) → Each f (replicate n x)
  each_replicate zero x h = tt
  each_replicate (suc n) x h = (h, each_replicate n x h)

  -- the number at a place, or no number
  pub number_fits : (l : List Float) (k : ℕ) → Each f l → T (fits f (get_or l k nan))
  number_fits [] k h = nan-fits f
  number_fits (x ∷ l) zero h = h.0
  number_fits (x ∷ l) (suc k) h = number_fits l k h.1
