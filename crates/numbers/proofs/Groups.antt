-- Laws on the groups of one number, in the steps of the loop that reads them. In order: what the last group reaches; which group may be the last; what the groups so far are worth; where the loop stands; one more group, and each way the number ends. Assumes nothing.
use Prim.Native.Nat.{ℕ, zero, suc, ◌+◌, ◌*◌, ◌%◌, ◌^◌, ◌≤◌, ◌<◌}
use mathlib.Core.Bool.{Bool, true, false}
use mathlib.Core.List.{List, [], ◌∷◌}
use mathlib.Core.Path.{◌≡◌, refl, sym, ap, ◌∙◌}
use native.Mathlib.Nat.{pow-suc, pow-le-pow_right, mul-le-mul_left, mul-le-mul_right}
use native.Mathlib.Decide.{dec_lt}
use native.Mathlib.Numerals.{add-one}
use native.Mathlib.Omega.{arith}
use borrow.Author.Tests.{ltb-true, ltb-false, lt-ltb, le-ltb, eqb-true, eq-eqb}
use lib.Dec.{eqb, ltb, lit<}
use lib.Pow.{pow_pos, pow_mono, pow-add}
use lib.ListN.{length, get_or, drop, drop_of_length-le}
use lib.Seq.{drop-cons}
use Rattle.lists.specs.Pick.{pick}
use Rattle.numbers.specs.declared.Number.{Number}
use Rattle.numbers.specs.declared.Number.TheVariants.{Value, Short, Bad}
use Rattle.numbers.specs.Layout.{GROUP, GROUP-BITS, last, last_most}
use Rattle.numbers.specs.Number.{bad_group, gained, read_groups, read_number}

-- k groups hold so many bits
groups_bits : (k : ℕ) → GROUP ^ k ≡ 2 ^ (k * GROUP-BITS)
groups_bits zero = refl
groups_bits (suc k) =
    let more : suc k * GROUP-BITS ≡ k * GROUP-BITS + GROUP-BITS = omega arith in
    rw (more, pow-add 2 (k * GROUP-BITS) GROUP-BITS, pow-suc GROUP k, groups_bits k)

-- the groups before the last, and the last, hold the bits
pub reach : (bits : ℕ) → GROUP ^ last bits * 2 ^ (bits % GROUP-BITS) ≡ 2 ^ bits
reach bits =
    let whole : last bits * GROUP-BITS + bits % GROUP-BITS ≡ bits = omega arith in
    rw groups_bits (sym (pow-add 2 (last bits * GROUP-BITS) (bits % GROUP-BITS)) ∙ ap (λ (n : ℕ). 2 ^ n) whole)

pub groups_within : (bits : ℕ) → GROUP ^ last bits ≤ 2 ^ bits
groups_within bits =
    let one_bit = mul-le-mul_left (GROUP ^ last bits) (pow_pos (bits % GROUP-BITS)) in
    omega (arith, reach bits)

-- the last group has no room for a top bit
pub most_small : (bits : ℕ) → last_most bits < GROUP
most_small bits =
    let few : bits % GROUP-BITS ≤ GROUP-BITS = omega arith in
    omega (arith, pow_mono few, pow_pos (bits % GROUP-BITS))

last_most_lem : (bits b : ℕ) → bad_group bits (last bits) b ≡ false → b ≤ last_most bits
unfolding bad_group pick
last_most_lem bits b h = go (eqb b 0) refl (rw (eq-eqb (last bits) (last bits) refl) at h)
  where
    go : (z : Bool) → eqb b 0 ≡ z → pick z (ltb 0 (last bits)) (ltb (last_most bits) b) ≡ false → b ≤ last_most bits
    go true e r = omega (arith, eqb-true b 0 e)
    go false e r = ltb-false (last_most bits) b r

-- a group with its top bit set is not the last
pub not_last : (bits k b : ℕ) → bad_group bits k b ≡ false → k ≤ last bits → GROUP ≤ b → k < last bits
not_last bits k b h l g = elim (dec_lt k (last bits)) [
  | yes s ↦ s
  | no s ↦ (
      let e : k ≡ last bits = omega arith in
      let m = last_most_lem bits b (rw e at h) in
      absurd (omega (arith, most_small bits)))
]

-- k groups are worth less than 128 ^ k
pub gained_lt : (k v b : ℕ) → v < GROUP ^ k → gained k v b < GROUP ^ suc k
unfolding gained
gained_lt k v b h =
    let r : b % GROUP ≤ 127 = omega arith in
    let m = mul-le-mul_right (GROUP ^ k) r in
    rw pow-suc (omega arith)

-- no number passes its bits
pub gained_fits : (bits k v b : ℕ) → bad_group bits k b ≡ false → k ≤ last bits → v < GROUP ^ k → gained k v b < 2 ^ bits
unfolding gained
gained_fits bits k v b h l s = elim (dec_lt k (last bits)) [
  | yes t ↦ (
      let g = gained_lt k v b s in
      let u : GROUP ^ suc k ≤ GROUP ^ last bits = pow-le-pow_right (lit< tt) t in
      omega (arith, groups_within bits))
  | no t ↦ (
      let e : k ≡ last bits = omega arith in
      let m = last_most_lem bits b (rw e at h) in
      let f : v < GROUP ^ last bits = rw e at s in
      let r : b % GROUP + 1 ≤ 2 ^ (bits % GROUP-BITS) = omega (arith, pow_pos (bits % GROUP-BITS)) in
      let u = mul-le-mul_left (GROUP ^ last bits) r in
      rw e (omega (arith, reach bits)))
]

-- what the first byte makes of the number
module _ (bits k v b : ℕ) (l : List ℕ) where
  pub group_bad : bad_group bits k b ≡ true → read_groups bits k v (b ∷ l) ≡ Bad
  unfolding read_groups pick
  group_bad h = rw h

  module _ (h : bad_group bits k b ≡ false) where
    pub group_last : b < GROUP → read_groups bits k v (b ∷ l) ≡ Value (gained k v b) (suc k)
    unfolding read_groups pick
    group_last t = rw (h, lt-ltb b GROUP t)

    pub group_more : GROUP ≤ b → read_groups bits k v (b ∷ l) ≡ read_groups bits (suc k) (gained k v b) l
    unfolding read_groups pick
    group_more t = rw (h, le-ltb b GROUP t)

-- a fact on every outcome, from its four cases
module _ (bits : ℕ) (P : ℕ → ℕ → List ℕ → Number → Type 0)
    (short : (k v : ℕ) → P k v [] Short)
    (bad : (k v b : ℕ) (l : List ℕ) → bad_group bits k b ≡ true → P k v (b ∷ l) Bad)
    (last : (k v b : ℕ) (l : List ℕ) → bad_group bits k b ≡ false → b < GROUP → P k v (b ∷ l) (Value (gained k v b) (suc k)))
    (more : (k v b : ℕ) (l : List ℕ) (r : Number) → bad_group bits k b ≡ false → GROUP ≤ b → P (suc k) (gained k v b) l r → P k v (b ∷ l) r) where
  pub by_groups : (k v : ℕ) (l : List ℕ) → P k v l (read_groups bits k v l)
  unfolding read_groups pick
  by_groups k v [] = short k v
  by_groups k v (b ∷ l) = go (bad_group bits k b) (ltb b GROUP) refl refl (by_groups (suc k) (gained k v b) l)
    where
      go : (x y : Bool) → bad_group bits k b ≡ x → ltb b GROUP ≡ y → P (suc k) (gained k v b) l (read_groups bits (suc k) (gained k v b) l)
          → P k v (b ∷ l) (pick x Bad (pick y (Value (gained k v b) (suc k)) (read_groups bits (suc k) (gained k v b) l)))
      go true y e f r = bad k v b l e
      go false true e f r = last k v b l e (ltb-true b GROUP f)
      go false false e f r = more k v b l (read_groups bits (suc k) (gained k v b) l) e (ltb-false b GROUP f) r

-- the loop has read k groups of s, worth v; the next is worth unit times itself
pub record Groups (bits : ℕ) (s : List ℕ) (k unit v : ℕ) : Type 0 where
  pub few : k ≤ last bits
  pub weight : unit ≡ GROUP ^ k
  pub worth : v < GROUP ^ k
  pub left : read_number bits s ≡ read_groups bits k v (drop k s)

pub none_read : (bits : ℕ) (s : List ℕ) → Groups bits s 0 1 0
unfolding read_number
none_read bits s = record { few = omega arith; weight = refl; worth = omega arith; left = refl }

module _ {bits : ℕ} {s : List ℕ} {k unit v : ℕ} (g : Groups bits s k unit v) where
  pub ends_short : length s ≤ k → Short ≡ read_number bits s
  unfolding read_groups
  ends_short l = rw (g.left, drop_of_length-le s l)

  module _ (l : k < length s) where
    pub ends_bad : bad_group bits k (get_or s k 0) ≡ true → Bad ≡ read_number bits s
    ends_bad h = rw (g.left, drop-cons s k 0 l, group_bad bits k v (get_or s k 0) (drop (suc k) s) h)

    module _ (w : ℕ) (h : bad_group bits k (get_or s k 0) ≡ false) (e : w ≡ get_or s k 0 % GROUP) where
      gained_is : v + w * unit ≡ gained k v (get_or s k 0)
      unfolding gained
      gained_is = rw (e, g.weight)

      pub sum_fits : v + w * unit < 2 ^ bits
      sum_fits = rw gained_is (gained_fits bits k v (get_or s k 0) h g.few g.worth)

      pub ends_value : get_or s k 0 < GROUP → Value (v + w * unit) (k + 1) ≡ read_number bits s
      ends_value t = rw (g.left, gained_is, add-one, drop-cons s k 0 l, group_last bits k v (get_or s k 0) (drop (suc k) s) h t)

      -- the next group's unit, where the bits reach into group n at most
      pub unit_fits : (n : ℕ) → last bits ≤ n → GROUP ≤ get_or s k 0 → unit * GROUP ≤ GROUP ^ n
      unit_fits n f t =
          let low = not_last bits k (get_or s k 0) h g.few t in
          rw (g.weight, ← pow-suc) (pow-le-pow_right (lit< tt) (omega arith))

      pub one_more : GROUP ≤ get_or s k 0 → Groups bits s (k + 1) (unit * GROUP) (v + w * unit)
      one_more t = record {
        few = rw add-one (not_last bits k (get_or s k 0) h g.few t);
        weight = rw (g.weight, add-one, pow-suc);
        worth = rw (gained_is, add-one) (gained_lt k v (get_or s k 0) g.worth);
        left = rw (g.left, gained_is, add-one, drop-cons s k 0 l, group_more bits k v (get_or s k 0) (drop (suc k) s) h t);
      }
