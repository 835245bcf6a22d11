-- The value of a table: where it begins, that it does not fall, and how near it is to the exact fraction.
use Rattle.std.proofs.Common.{◌≡◌, ℕ, suc, ℤ, ◌^◌, ◌+◌, ◌-◌, ◌≤◌, ◌≤ℤ◌, ◌<ℤ◌, true, false, cond, int_le, pos, ◌*◌, unsigned_abs, length, get_or, List, [], ◌∷◌, SFits, w64, refl, subst, arith}
use Rattle.std.proofs.lemmas.Int.{ints}
use Rattle.wrp_law.specs.Law.{IsNear}
use Rattle.wrp_law.specs.Table.{FitsPoint, Rises, IsWithin, TableNeverFalls, first_x, last_x, segment_value, table_value}
use Rattle.wrp_law.specs.declared.delay.LawKind.TheVariants.{Linear}
use Rattle.wrp_law.proofs.Segments.{segment_value-from, segment_value-to, segment_value-rises, segment_value-near}

-- the numbers of a point in its range fit 64 bits
pub fits_x : (point : ℤ × ℤ) → FitsPoint point → SFits w64 point.0
fits_x point fits = omega (arith, ints, fits.least, fits.most)

pub fits_y : (point : ℤ × ℤ) → FitsPoint point → SFits w64 point.1
fits_y point fits = omega (arith, ints, fits.value)

-- what a test of an order says
pub is_before : (x z : ℤ) → int_le x z ≡ true → x ≤ℤ z
is_before x z test = grind (arith, ints)

pub is_past : (x z : ℤ) → int_le x z ≡ false → z <ℤ x
is_past x z test = grind (arith, ints)

pub eased : (x z : ℤ) → x <ℤ z → x ≤ℤ z
eased x z h = omega (arith, ints)

-- the value is at least the first point's
table_value-from : (start : ℤ × ℤ) (points : List (ℤ × ℤ)) (x : ℤ) → Rises (start ∷ points) → start.0 ≤ℤ x → start.1 ≤ℤ table_value (start ∷ points) x
table_value-from start [] x rises after = omega (arith, ints)
table_value-from start (end ∷ points) x rises after =
    elim (int_le x end.0) as (λ b. int_le x end.0 ≡ b → start.1 ≤ℤ cond b (segment_value start end x) (table_value (end ∷ points) x)) [
      | true ↦ λ test. segment_value-from start.0 start.1 end.0 end.1 x rises.0 rises.1 after (is_before x end.0 test)
      | false ↦ λ test.
          let later : end.1 ≤ℤ table_value (end ∷ points) x = table_value-from end points x rises.2 (eased end.0 x (is_past x end.0 test)) in
          let stays : start.1 ≤ℤ end.1 = rises.1 in
          omega (arith, ints)
    ]
    refl

-- the value never falls
never_falls : (start : ℤ × ℤ) (points : List (ℤ × ℤ)) (x z : ℤ) → Rises (start ∷ points) → start.0 ≤ℤ x → x ≤ℤ z → table_value (start ∷ points) x ≤ℤ table_value (start ∷ points) z
never_falls start [] x z rises after later = omega (arith, ints)
never_falls start (end ∷ points) x z rises after later =
    elim (int_le x end.0) as (λ b. int_le x end.0 ≡ b → cond b (segment_value start end x) (table_value (end ∷ points) x) ≤ℤ table_value (start ∷ end ∷ points) z) [
      | true ↦ λ test.
          elim (int_le z end.0) as (λ b. int_le z end.0 ≡ b → segment_value start end x ≤ℤ cond b (segment_value start end z) (table_value (end ∷ points) z)) [
            | true ↦ λ test'. segment_value-rises start.0 start.1 end.0 end.1 x z rises.0 rises.1 after later (is_before z end.0 test')
            | false ↦ λ test'.
                let most : segment_value start end x ≤ℤ end.1 = segment_value-to start.0 start.1 end.0 end.1 x rises.0 rises.1 after (is_before x end.0 test) in
                let least : end.1 ≤ℤ table_value (end ∷ points) z = table_value-from end points z rises.2 (eased end.0 z (is_past z end.0 test')) in
                omega (arith, ints)
          ]
          refl
      | false ↦ λ test.
          elim (int_le z end.0) as (λ b. int_le z end.0 ≡ b → table_value (end ∷ points) x ≤ℤ cond b (segment_value start end z) (table_value (end ∷ points) z)) [
            | true ↦ λ test'.
                let past : end.0 <ℤ x = is_past x end.0 test in
                let before : z ≤ℤ end.0 = is_before z end.0 test' in
                omega (arith, ints)
            | false ↦ λ test'. never_falls end points x z rises.2 (eased end.0 x (is_past x end.0 test)) later
          ]
          refl
    ]
    refl

pub table_value-never_falls : TableNeverFalls
table_value-never_falls [] x z rises first later last = omega (arith, ints)
table_value-never_falls (start ∷ points) x z rises first later last = never_falls start points x z rises first later

pub wider : (m err a : ℕ) → a ≤ m * err → a ≤ m * (err + 1)
wider m err a h = omega arith

-- if each point is within an error of the exact fraction, the value is within that and one more
pub at_last : (kappa : ℤ) (err : ℕ) (start : ℤ × ℤ) (x : ℤ) → start.0 ≤ℤ x → x ≤ℤ start.0 → IsNear (Linear kappa) err start.0 start.1 → IsNear (Linear kappa) (err + 1) x start.1
at_last kappa err start x after before near =
    let same : start.0 ≡ x = omega (arith, ints) in
    subst (λ z. IsNear (Linear kappa) (err + 1) z start.1) same (wider (2 ^ 40) err _ near)

pub near_from : (kappa : ℤ) (err : ℕ) (start : ℤ × ℤ) (points : List (ℤ × ℤ)) (x : ℤ) → unsigned_abs kappa ≤ 2 ^ 38 → Rises (start ∷ points) → start.0 ≤ℤ x → x ≤ℤ last_x (start ∷ points) → IsWithin kappa err (start ∷ points) → IsNear (Linear kappa) (err + 1) x (table_value (start ∷ points) x)
near_from kappa err start [] x size rises after before near = at_last kappa err start x after before near.0
near_from kappa err start (end ∷ points) x size rises after before near =
    elim (int_le x end.0) as (λ b. int_le x end.0 ≡ b → IsNear (Linear kappa) (err + 1) x (cond b (segment_value start end x) (table_value (end ∷ points) x))) [
      | true ↦ λ test. segment_value-near kappa err start.0 start.1 end.0 end.1 x size rises.0 rises.1 after (is_before x end.0 test) near.0 near.1.0
      | false ↦ λ test. near_from kappa err end points x size rises.2 (eased end.0 x (is_past x end.0 test)) before near.1
    ]
    refl

pub none : 1 ≤ 0 → ⊥
none h = omega arith

pub table_value-near : (kappa : ℤ) (err : ℕ) (points : List (ℤ × ℤ)) (x : ℤ) → unsigned_abs kappa ≤ 2 ^ 38 → 1 ≤ length points → Rises points → first_x points ≤ℤ x → x ≤ℤ last_x points → IsWithin kappa err points → IsNear (Linear kappa) (err + 1) x (table_value points x)
table_value-near kappa err [] x size least rises first last near = absurd (none least)
table_value-near kappa err (start ∷ points) x size least rises first last near = near_from kappa err start points x size rises first last near

-- the x of the last point is at its place
pub last_x-at : (points : List (ℤ × ℤ)) → last_x points ≡ (get_or points (length points - 1) (pos 0, pos 0)).0
last_x-at [] = refl
last_x-at (point ∷ []) = refl
last_x-at (point ∷ next ∷ points) =
    let later : suc (suc (length points)) - 1 ≡ suc (suc (length points) - 1) = omega arith in
    rw later (last_x-at (next ∷ points))
