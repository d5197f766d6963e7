-- Products that are exact. A unit is a power of two far finer than a grain (fine, unit_split), and the format holds it (unit_holds), and even GRAINS times as much (unit_under). A product of two values is exact where the
-- format holds it (mul_exact), and more zeros after the digits make no difference to that (holds_shifted). Assumes nothing.
use Rattle.std.proofs.Common.{◌≡◌, ℕ, suc, ◌+◌, ◌-◌, ◌*◌, ◌^◌, ◌<◌, ◌≤◌, Bool, sym, ap, ◌∙◌, subst, zero-le, lt_of_le_of_lt, mul-le-mul_right, mul_assoc, mul-pos, one-mul, arith, lit<, lit≤, pow_pos, pow-add}
use lib.Pow.{pow-lt}
use lib.Ieee.{Float, Format, binary32, binary64, prec, emax, low, unlike, round, mul}
use lib.Ieee.Exact.{round_exact}
use lib.Ieee.Scale.{overflow, round_same}
use Rattle.real.specs.Units.{unit}
use Rattle.real.proofs.SignedCounts.{Counted, Holds, power_holds}
use Rattle.real.proofs.Rounding.{mul_round}
use Rattle.angle.specs.Angle.{GRAINS}

-- ---- a unit
pub fine : (f : Format) → 30 + prec f ≤ low f
fine binary32 = lit≤ tt
fine binary64 = lit≤ tt

pub unit_split : (f : Format) (k : ℕ) → k ≤ low f → 2 ^ k * 2 ^ (low f - k) ≡ unit f
unit_split f k h =
    let back : k + (low f - k) ≡ low f = omega arith in
    sym (pow-add 2 k (low f - k)) ∙ ap (λ (z : ℕ). 2 ^ z) back

pub unit_holds : (f : Format) → Holds f (unit f)
unit_holds f = rw (one-mul (unit f)) at (power_holds f 0 zero-le)

pub unit_under : (f : Format) {a : ℕ} → a ≤ unit f → a * GRAINS < overflow f
unit_under f h = lt_of_le_of_lt (mul-le-mul_right GRAINS h) (subst (λ (z : ℕ). z < overflow f) (pow-add 2 (low f) 30) (pow-lt (wide f)))
  where
    wide : (f : Format) → low f + 30 < low f + suc (emax f)
    wide binary32 = lit< tt
    wide binary64 = lit< tt

-- ---- where a product is exact
pub holds_shifted : {f : Format} {a : ℕ} (k : ℕ) → Holds f a → a * 2 ^ k < overflow f → Holds f (a * 2 ^ k)
holds_shifted {f} {a} k h l =
    let p = h.places in
    let is : a * 2 ^ k ≡ p.lead * 2 ^ (p.zeros + k) = ap (λ (z : ℕ). z * 2 ^ k) p.is ∙ mul_assoc p.lead (2 ^ p.zeros) (2 ^ k) ∙ ap (λ (z : ℕ). p.lead * z) (sym (pow-add 2 p.zeros k)) in
    record { places = record { lead = p.lead; zeros = p.zeros + k; is = is; few = p.few }; under = l }

held_exact : (f : Format) (s : Bool) {u : ℕ} → Holds f u → Counted f (round f s u (unit f)) s u
held_exact f s {u} h =
    let p = h.places in
    let under : p.lead * 2 ^ p.zeros < overflow f = subst (λ (z : ℕ). z < overflow f) p.is h.under in
    record { value = round_exact f s u (unit f) p.lead p.zeros (pow_pos (low f)) p.few under (ap (λ (z : ℕ). z * unit f) p.is) }

pub mul_exact : {f : Format} {x y : Float} {s t : Bool} {a b u : ℕ} → Counted f x s a → Counted f y t b → Holds f u → a * b ≡ u * unit f → Counted f (mul f x y) (unlike s t) u
mul_exact {f} {s = s} {t} {a} {b} {u} h k v e =
    let D = pow_pos (low f) in
    let same : round f (unlike s t) (a * b) (unit f * unit f) ≡ round f (unlike s t) u (unit f) =
    round_same f (unlike s t) (a * b) (unit f * unit f) u (unit f) (mul-pos D D) D (ap (λ (z : ℕ). z * unit f) e ∙ mul_assoc u (unit f) (unit f)) in
    rw (mul_round h k ∙ same) (held_exact f (unlike s t) v)
