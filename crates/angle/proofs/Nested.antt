-- The nested brackets over whole numbers. `Square` says how far q grains are from a square X / Y (square_of_cut), and `Tracks` that t grains are within 8 of a fraction y / E: what a bracket's own
-- cut adds, its division by d, which is 2 at least, makes up for. `left` and `whole` are the brackets inside brackets, exactly, and `grains` is what they come to in grains: it tracks them (tracks, left_off). Then what is rounded is
-- within two parts in 2^24 (near_of_tracks), and a product with it, rounded again, within three (near_of_product). Assumes nothing.
use Rattle.std.proofs.Common.{◌≡◌, ℕ, ◌+◌, ◌-◌, ◌*◌, ◌/◌, ◌^◌, ◌<◌, ◌≤◌, List, [], ◌∷◌, sym, refl, ap, ◌∙◌, le_trans, le_refl, mul-le-mul_right, add-mul, mul-le-mul, mul-le-mul_left, mul-pos, sub-add_cancel, div-mul-le_self, le_of_mul-le-mul_right, sub-le, arith, lit<, lit≤}
use native.Mathlib.Nat.{lt-div-mul-add}
use Rattle.angle.specs.Angle.{GRAINS, bracket}
use Rattle.angle.proofs.Quotients.{quotient_most, taken_most}
use Rattle.angle.proofs.Apart.{Apart, apart_trans, apart_regroup, apart_scale, apart_of_scaled, apart_of_finer}

-- q grains of G are X / Y, cut: less by at most 3 grains
pub record Square (G X Y q : ℕ) : Type 0 where
  pub part : X ≤ Y
  pub some : 0 < Y
  pub most : q ≤ G
  pub below : q * Y ≤ X * G
  pub above : X * G ≤ (q + 3) * Y

-- the square of a / D, which is at most 1 and is cut to grains first
pub square_of_cut : {G D a : ℕ} → 0 < G → 0 < D → a ≤ D → Square G (a * a) (D * D) (a * G / D * (a * G / D) / G)
square_of_cut {G} {D} {a} G-pos D-pos l =
    let n = a * G / D in
    let q = n * n / G in
    let X = a * a in
    let Y = D * D in
    let n_most : n ≤ G = quotient_most D-pos (omega (arith, mul-le-mul_right G l)) in
    let n_below : n * D ≤ a * G = div-mul-le_self (a * G) D in
    let n_above : a * G ≤ (n + 1) * D = omega (arith, lt-div-mul-add {a = a * G} D-pos) in
    let q_below : q * G ≤ n * n = div-mul-le_self (n * n) G in
    let room : (n + 1) * (n + 1) ≤ (q + 3) * G = omega (arith, lt-div-mul-add {a = n * n} G-pos) in
    let below : q * Y * G ≤ X * G * G = omega (arith, mul-le-mul_right Y q_below, mul-le-mul n_below n_below) in
    let above : X * G * G ≤ (q + 3) * Y * G = omega (arith, mul-le-mul_right Y room, mul-le-mul n_above n_above) in
    record { part = mul-le-mul l l; some = mul-pos D-pos D-pos; most = quotient_most G-pos (mul-le-mul n_most n_most); below = le_of_mul-le-mul_right below G-pos; above = le_of_mul-le-mul_right above G-pos }

-- t grains of G are within 8 grains of y / E, which is at most 1
pub record Tracks (G y E t : ℕ) : Type 0 where
  pub some : 0 < E
  pub part : y ≤ E
  pub most : t ≤ G
  pub near : Apart 1 (8 * E) (t * E) (y * G)

-- a bracket takes off no more than is there
bracket_room : {X Y d y E : ℕ} → X ≤ Y → y ≤ E → 2 ≤ d → X * y ≤ d * Y * E
bracket_room {Y = Y} {E = E} h k D = le_trans (mul-le-mul h k) (omega (arith, mul-le-mul_right (Y * E) D))

-- w grains, cut, are what a bracket takes off: (X / Y / d) × (y / E)
module _ {G X Y q d y E t : ℕ} (w : ℕ) (G-large : 8 ≤ G) (sq : Square G X Y q) (d-large : 2 ≤ d) (h : Tracks G y E t) (lower : w * (G * d) ≤ q * t) (upper : q * t ≤ (w + 1) * (G * d)) where
  off_least : X * y * G ≤ (w + 8) * (d * Y * E)
  off_least =
      let room : (q + 3) * (t + 8) ≤ (w + 8) * (G * d) = omega (arith, sq.most, h.most, mul-le-mul_left G d-large) in
      let product : X * G * (y * G) ≤ (q + 3) * Y * ((t + 8) * E) = mul-le-mul sq.above (omega (arith, h.near.below)) in
      let scaled : X * y * G * G ≤ (w + 8) * (d * Y * E) * G = omega (arith, mul-le-mul_right (Y * E) room) in
      le_of_mul-le-mul_right scaled (omega arith)

  off_most : w * (d * Y * E) ≤ X * y * G + 8 * (d * Y * E)
  off_most =
      let product : q * Y * (t * E) ≤ X * G * (y * G + 8 * E) = mul-le-mul sq.below (omega (arith, h.near.above)) in
      let part : X * (G * E) ≤ d * Y * (G * E) = mul-le-mul_right (G * E) (omega (arith, sq.part, mul-le-mul_right Y d-large)) in
      let scaled : w * (d * Y * E) * G ≤ (X * y * G + 8 * (d * Y * E)) * G = omega (arith, mul-le-mul_right (Y * E) lower) in
      le_of_mul-le-mul_right scaled (omega arith)

  -- one bracket more
  bracket_tracks : w ≤ G → Tracks G (d * Y * E - X * y) (d * Y * E) (G - w)
  bracket_tracks l =
      let E' = d * Y * E in
      let grains : (G - w) * E' + w * E' ≡ G * E' = sym (add-mul (G - w) w E') ∙ ap (λ (z : ℕ). z * E') (sub-add_cancel l) in
      let exact : (E' - X * y) * G + X * y * G ≡ E' * G = sym (add-mul (E' - X * y) (X * y) G) ∙ ap (λ (z : ℕ). z * G) (sub-add_cancel (bracket_room sq.part h.part d-large)) in
      record {
        some = mul-pos (mul-pos (omega arith) sq.some) h.some;
        part = sub-le E' (X * y);
        most = sub-le G w;
        near = record { above = omega (arith, off_least); below = omega (arith, off_most) };
      }

-- ---- brackets inside brackets, by their divisors, the outermost first

-- the common denominator
unfoldable pub whole : ℕ → List ℕ → ℕ
whole Y [] = 1
whole Y (d ∷ ds) = d * Y * whole Y ds

-- 1 − (X / Y / d) × (the brackets inside), over it
unfoldable pub left : ℕ → ℕ → List ℕ → ℕ
unfolding whole
left X Y [] = 1
left X Y (d ∷ ds) = whole Y (d ∷ ds) - X * left X Y ds

-- in grains
unfoldable pub grains : ℕ → List ℕ → ℕ
unfolding bracket
grains q [] = GRAINS
grains q (d ∷ ds) = bracket q d (grains q ds)

-- each divisor is 2 at least
abbrev pub Large : List ℕ → Type 0
Large [] = Unit {0}
Large (d ∷ ds) = (2 ≤ d) × Large ds

module _ {X Y q : ℕ} (sq : Square GRAINS X Y q) where
  pub tracks : (ds : List ℕ) → Large ds → Tracks GRAINS (left X Y ds) (whole Y ds) (grains q ds)
  unfolding left grains
  tracks [] l = record { some = lit< tt; part = le_refl 1; most = le_refl GRAINS; near = record { above = lit≤ tt; below = lit≤ tt } }
  tracks (d ∷ ds) l =
      let h = tracks ds l.1 in
      let D : 0 < GRAINS * d = mul-pos (lit< tt) (omega (arith, l.0)) in
      let t = grains q ds in
      bracket_tracks (q * t / (GRAINS * d)) (lit≤ tt) sq l.0 h (div-mul-le_self (q * t) (GRAINS * d)) (omega (arith, lt-div-mul-add {a = q * t} D)) (taken_most sq.most h.most (omega (arith, l.0)))

  -- as `left` says, with nothing cut
  pub left_off : (d : ℕ) (ds : List ℕ) → Large (d ∷ ds) → left X Y (d ∷ ds) + X * left X Y ds ≡ d * Y * whole Y ds
  unfolding left
  left_off d ds l = sub-add_cancel (bracket_room sq.part (tracks ds l.1).part l.0)

-- ---- rounded

-- g / D is t grains, rounded
pub near_of_tracks : {y E t : ℕ} (D g : ℕ) → Tracks GRAINS y E t → Apart (2 ^ 24) (D * GRAINS) (g * GRAINS) (t * D) → Apart (2 ^ 24) (2 * (E * D)) (g * E) (y * D)
near_of_tracks {y} {E} {t} D g h r =
    let rounded : Apart (2 ^ 24) (D * GRAINS * E) (g * GRAINS * E) (t * E * D) = apart_regroup (apart_scale E r) refl (omega arith) in
    let tracked : Apart (2 ^ 24) (8 * (E * D) * 2 ^ 24) (t * E * D) (y * GRAINS * D) = apart_of_finer (2 ^ 24) (8 * (E * D) * 2 ^ 24) (lit< tt) (omega arith) (apart_scale D h.near) in
    let both : Apart (2 ^ 24) (2 * (E * D) * GRAINS) (g * GRAINS * E) (y * GRAINS * D) = apart_of_finer (2 ^ 24) (2 * (E * D) * GRAINS) (lit< tt) (omega arith) (apart_trans rounded tracked) in
    apart_of_scaled GRAINS (lit< tt) (apart_regroup both (omega arith) (omega arith))

-- c / D is the product of a / D and g / D, rounded
pub near_of_product : {a D : ℕ} (y E g c : ℕ) → 0 < D → a ≤ D → Apart (2 ^ 24) (2 * (E * D)) (g * E) (y * D) → Apart (2 ^ 24) (D * D) (c * D) (a * g) → Apart (2 ^ 24) (3 * (E * D)) (c * E) (a * y)
near_of_product {a} {D} y E g c D-pos l h r =
    let rounded : Apart (2 ^ 24) (D * D * E) (c * D * E) (g * E * a) = apart_regroup (apart_scale E r) refl (omega arith) in
    let less : E * D * a ≤ E * D * D = mul-le-mul_left (E * D) l in
    let both : Apart (2 ^ 24) (3 * (E * D) * D) (c * D * E) (y * D * a) = apart_of_finer (2 ^ 24) (3 * (E * D) * D) (lit< tt) (omega arith) (apart_trans rounded (apart_scale a h)) in
    apart_of_scaled D D-pos (apart_regroup both (omega arith) (omega arith))
