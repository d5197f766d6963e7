-- The loop of `whole_root`, for a word of any width: W is the word's range, N the number under the root, and B above every root. Assumes nothing.
use mathlib.Core.Path.{◌≡◌, refl, sym, ap, subst}
use mathlib.Core.Bool.{Bool, true, false, not, cond}
use Prim.Native.Nat.{ℕ, zero, suc, ◌+◌, ◌-◌, ◌*◌, ◌/◌, ◌%◌, ◌^◌, ◌≤◌, ◌<◌}
use native.Mathlib.Nat.{mul-lt-mul_of_pos_right, lt_of_mul-lt-mul_right, mod-eq_of_lt, pow-succ'}
use native.Mathlib.Omega.{arith}
use lib.Dec.{T, ltb, ltb→lt, nltb→le}
use lib.Pow.{pow_pos}

-- ---- what holds before every turn, in the code's words; `last` is 2 place
pub record Holds (N remainder root last : ℕ) : Type 0 where
  -- root² + remainder × place is the number; doubled, since the next place would be a half after the last turn
  pub number : root * root * 2 + remainder * last ≡ N * 2
  -- (root + 2 place)² is more than the number
  pub more : N < (root + last) * (root + last)

remainder_lt : (N remainder root last : ℕ) → Holds N remainder root last → remainder < 4 * root + 2 * last
remainder_lt N remainder root last b = lt_of_mul-lt-mul_right last (omega (arith, b.number, b.more))

-- a turn, by its digit
module _ (N remainder root place : ℕ) (b : Holds N remainder root (place + place)) where
  one_digit : root + root + place ≤ remainder → Holds N ((remainder - (root + root + place)) * 2) (root + place) place
  one_digit h = record {
    number = let split : remainder ≡ root + root + place + (remainder - (root + root + place)) = omega arith in omega (arith, b.number, ap (λ (x : ℕ). x * (place + place)) split);
    more = omega (arith, b.more);
  }

  zero_digit : 0 < place → remainder < root + root + place → Holds N (remainder * 2) root place
  zero_digit some h = record {
    number = omega (arith, b.number);
    more = omega (arith, b.number, mul-lt-mul_of_pos_right h some);
  }

-- ---- the same of the code's numbers, with `left` digits to come
pub record Inv (N B remainder twice place : ℕ) : Type 0 where
  pub left : ℕ
  pub half : place ≡ 2 ^ left / 2
  pub root : ℕ
  pub doubled : twice ≡ root + root
  pub holds : Holds N remainder root (2 ^ left)
  pub room : root + 2 ^ left ≤ B

-- before the first turn no digit is decided: the number is counted in first places, and is below the square of two of them
pub begins : (k places : ℕ) → places < 4 * 2 ^ k → Inv (places * 2 ^ k) (2 ^ suc k) places 0 (2 ^ k)
begins k places h = record {
  left = suc k;
  half = omega (arith, twofold);
  root = 0;
  doubled = refl;
  holds = record { number = omega (arith, ap (λ (x : ℕ). places * x) twofold); more = omega (arith, mul-lt-mul_of_pos_right h (pow_pos k), ap (λ (x : ℕ). x * x) twofold) };
  room = omega arith;
}
  where
    twofold : 2 ^ suc k ≡ 2 * 2 ^ k
    twofold = pow-succ' 2 k

-- a place that is left is a power of two, as the one before it
power : (left place : ℕ) → place ≡ 2 ^ left / 2 → 0 < place → (k : ℕ) × (2 ^ left ≡ place + place) × (place ≡ 2 ^ k)
power zero place e h = absurd (no_half place e h)
  where
    no_half : (p : ℕ) → p ≡ 1 / 2 → 0 < p → ⊥
    no_half p e h = omega arith
power (suc k) place e h = let z = go (2 ^ suc k) (2 ^ k) (pow-succ' 2 k) e in (k, z.0, z.1)
  where
    go : (L K : ℕ) → L ≡ 2 * K → place ≡ L / 2 → (L ≡ place + place) × (place ≡ K)
    go L K a b = omega arith

-- ---- a turn of the code
module _ (N B remainder twice place : ℕ) (inv : Inv N B remainder twice place) where
  pub twice_le : twice + place + place ≤ B + B
  twice_le = omega (arith, inv.doubled, inv.half, inv.room)

  -- with no place left, the last one was worth 1
  pub at_end : place ≤ 0 → (twice / 2 * (twice / 2) ≤ N) × (N < (twice / 2 + 1) * (twice / 2 + 1))
  at_end h =
      let root : inv.root ≡ twice / 2 = omega (arith, inv.doubled) in
      let last : 2 ^ inv.left ≡ 1 = omega (arith, inv.half, pow_pos inv.left) in
      let b = subst (Holds N remainder (twice / 2)) last (subst (λ (x : ℕ). Holds N remainder x (2 ^ inv.left)) root inv.holds) in
      (omega (arith, b.number), b.more)

  module _ (W : ℕ) (wide : 8 * B ≤ W) (some : 0 < place) where
    -- the word has room for what is doubled
    remainder_doubled : remainder * 2 % W ≡ remainder * 2
    remainder_doubled = mod-eq_of_lt (omega (arith, remainder_lt N remainder inv.root (2 ^ inv.left) inv.holds, inv.room))

    trial_doubled : (twice + place) * 2 % W ≡ (twice + place) * 2
    trial_doubled = mod-eq_of_lt (omega (arith, twice_le))

    module _ (t : ℕ) where
      pub taken_le : t ≡ cond (ltb remainder (twice + place)) 0 ((twice + place) * 2 % W) → t ≤ remainder * 2 % W
      taken_le = go (ltb remainder (twice + place)) (nltb→le remainder (twice + place))
        where
          go : (large : Bool) → (T (not large) → twice + place ≤ remainder) → t ≡ cond large 0 ((twice + place) * 2 % W) → t ≤ remainder * 2 % W
          go true h e = omega arith
          go false h e = omega (arith, h tt, remainder_doubled, trial_doubled)

      -- what the turn leaves
      after : (w k remainder' root' : ℕ) → place ≡ 2 ^ k → remainder * 2 % W - t ≡ remainder' → w ≡ root' + root' → root' + place ≤ B → Holds N remainder' root' place → Inv N B (remainder * 2 % W - t) w (place / 2)
      after w k remainder' root' p e d f b = record {
        left = k;
        half = ap (λ (x : ℕ). x / 2) p;
        root = root';
        doubled = d;
        holds = subst (λ (x : ℕ). Holds N x root' (2 ^ k)) (sym e) (subst (Holds N remainder' root') p b);
        room = subst (λ (x : ℕ). root' + x ≤ B) p f;
      }

      pub turn : (w : ℕ) → t ≡ cond (ltb remainder (twice + place)) 0 ((twice + place) * 2 % W) → w ≡ cond (ltb remainder (twice + place)) twice (twice + place + place) → Inv N B (remainder * 2 % W - t) w (place / 2)
      turn w =
          let z = power inv.left place inv.half some in
          go z.0 inv.root z.2 inv.doubled (subst (λ (x : ℕ). inv.root + x ≤ B) z.1 inv.room) (subst (Holds N remainder inv.root) z.1 inv.holds)
          (ltb remainder (twice + place)) (ltb→lt remainder (twice + place)) (nltb→le remainder (twice + place))
        where
          go : (k root : ℕ) → place ≡ 2 ^ k → twice ≡ root + root → root + (place + place) ≤ B → Holds N remainder root (place + place)
              → (large : Bool) → (T large → remainder < twice + place) → (T (not large) → twice + place ≤ remainder)
              → t ≡ cond large 0 ((twice + place) * 2 % W) → w ≡ cond large twice (twice + place + place) → Inv N B (remainder * 2 % W - t) w (place / 2)
          go k root p d f b true h g taken doubled = after w k (remainder * 2) root p (omega (arith, remainder_doubled)) (omega arith) (omega arith) (zero_digit N remainder root place b some (omega (arith, h tt)))
          go k root p d f b false h g taken doubled = after w k ((remainder - (root + root + place)) * 2) (root + place) p (omega (arith, g tt, remainder_doubled, trial_doubled)) (omega arith) (omega arith) (one_digit N remainder root place b (omega (arith, g tt)))
