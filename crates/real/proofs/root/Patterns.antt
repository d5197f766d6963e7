-- What number a bit pattern of a format stands for, by its fields. Assumes nothing.
use mathlib.Core.Path.{◌≡◌, refl, sym, ap, ◌∙◌, subst}
use mathlib.Core.Bool.{Bool, false, not, cond}
use Prim.Native.Nat.{ℕ, suc, ◌+◌, ◌*◌, ◌/◌, ◌%◌, ◌^◌, ◌<◌}
use native.Mathlib.Nat.{mul_comm, mul-one, mod-eq_of_lt, not-le_of_lt}
use native.Mathlib.Omega.{arith}
use lib.Dec.{T, leb, ltb, eqb, leb→le, ltb→lt, eqb→eq, not_T}
use lib.Arith.{digits_lt, digits_div, digits_mod}
use lib.Ieee.{Float, nan, inf, Format, binary32, binary64, prec, low, hid, ones, top, odd, of_fields, of_bits, nan_bits}
use lib.Ieee.Bits.{is_false, cond_no, nan_bits_above}
use lib.Ieee.Exact.{HasValue, odd_sign}
use Rattle.real.specs.Units.{unit}

pub of_bits_is : (f : Format) (b : ℕ) → of_bits f b ≡ of_fields f (leb (top f) b) (b % top f / hid f) (b % hid f)
unfolding of_bits
of_bits_is f b = refl

-- a pattern without its sign
pub fields : (f : Format) (x t : ℕ) → x < suc (ones f) → t < hid f → of_bits f (x * hid f + t) ≡ of_fields f false x t
fields f x t X H =
    let b = x * hid f + t in
    let l : b < top f = subst (λ (a : ℕ). b < a) (mul_comm (suc (ones f)) (hid f)) (digits_lt X H) in
    of_bits_is f b
    ∙ ap (λ (s : Bool). of_fields f s (b % top f / hid f) (b % hid f)) (is_false (leb (top f) b) (not_T (leb (top f) b) (λ (u : T (leb (top f) b)). not-le_of_lt l (leb→le (top f) b u))))
    ∙ ap (λ (y : ℕ). of_fields f false (y / hid f) (b % hid f)) (mod-eq_of_lt l)
    ∙ ap (λ (y : ℕ). of_fields f false y (b % hid f)) (digits_div x H)
    ∙ ap (λ (y : ℕ). of_fields f false x y) (digits_mod x H)

below_ones : (f : Format) (s : Bool) (t x : ℕ) → suc x < ones f → of_fields f s (suc x) t ≡ odd (prec f) s (hid f + t) x (low f)
unfolding of_fields
below_ones f s t x h = cond_no (eqb (suc x) (ones f)) (cond (eqb t 0) (inf s) nan) (odd (prec f) s (hid f + t) x (low f)) (not_T (eqb (suc x) (ones f)) (λ (u : T (eqb (suc x) (ones f))). differ x (ones f) h (eqb→eq (suc x) (ones f) u)))
  where
    differ : (x o : ℕ) → suc x < o → suc x ≡ o → ⊥
    differ x o h e = omega arith

-- a normal value
pub normal : (f : Format) (x t : ℕ) → suc x < ones f → t < hid f → HasValue (of_bits f (suc x * hid f + t)) false ((hid f + t) * 2 ^ x) (unit f)
normal f x t X H =
    subst (λ (y : Float). HasValue y false ((hid f + t) * 2 ^ x) (unit f)) (sym (fields f (suc x) t (lt_suc (suc x) (ones f) X) H ∙ below_ones f false t x X)) (odd_sign (prec f) false (hid f + t) x (low f))
  where
    lt_suc : (a b : ℕ) → a < b → a < suc b
    lt_suc a b h = omega arith

-- a subnormal value, and zero
pub subnormal : (f : Format) (t : ℕ) → t < hid f → HasValue (of_bits f t) false t (unit f)
unfolding of_fields
subnormal f t H =
    subst (λ (y : Float). HasValue y false t (unit f)) (sym (ap (of_bits f) (zero_field (hid f) t) ∙ fields f 0 t (zero_lt (ones f)) H))
    (subst (λ (c : ℕ). HasValue (odd (prec f) false t 0 (low f)) false c (unit f)) (mul-one t) (odd_sign (prec f) false t 0 (low f)))
  where
    zero_lt : (o : ℕ) → 0 < suc o
    zero_lt o = omega arith

    zero_field : (h t : ℕ) → t ≡ 0 * h + t
    zero_field h t = omega arith

-- a pattern below the infinity's is no NaN's
pub not_nan : (f : Format) (b : ℕ) → b < ones f * hid f → T (not (nan_bits f b))
not_nan f b h =
    subst (λ (t : Bool). T (not t)) (sym (nan_bits_above f b)) (not_T (ltb (ones f * hid f) (b % top f)) (λ (t : T (ltb (ones f * hid f) (b % top f))). not_above f h (ltb→lt (ones f * hid f) (b % top f) t)))
  where
    not_above : (f : Format) → b < ones f * hid f → ones f * hid f < b % top f → ⊥
    not_above binary32 h k = omega arith
    not_above binary64 h k = omega arith
