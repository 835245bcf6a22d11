-- The walk along a table: the points that are ahead have the value at x.
use Rattle.std.proofs.Common.{◌≡◌, ℕ, suc, ℤ, pos, ◌+◌, ◌-◌, ◌<◌, ◌≤◌, ◌≤ℤ◌, Bool, true, false, int_le, cond, List, [], ◌∷◌, length, get_or, take, drop, take_all, drop-cons, to_z, of_z, w64, add-one, refl, sym, ap, ◌∙◌, subst, arith}
use Rattle.std.proofs.lemmas.List.{drop_all}
use Rattle.std.proofs.lemmas.Int.{to_z-of_z}
use Rattle.std.specs.List.{AllByRecursion}
use Rattle.wrp_law.specs.Table.{FitsPoint, IsTable, IsOnTable, Rises, segment_value, table_value}
use Rattle.wrp_law.proofs.Tables.{eased, is_past, fits_x}

-- the point before x, and the points ahead of it
pub record IsAhead (points : List (ℤ × ℤ)) (x : ℤ) (start : ℤ × ℤ) (ahead : List (ℤ × ℤ)) : Type 0 where
  pub same : table_value (start ∷ ahead) x ≡ table_value points x
  pub rises : Rises (start ∷ ahead)
  pub fits : AllByRecursion FitsPoint (start ∷ ahead)
  pub after : start.0 ≤ℤ x

-- the walk begins at the first point
pub begun : (points : List (ℤ × ℤ)) (x : ℤ) → IsTable points → IsOnTable points x → IsAhead points x (get_or points 0 (pos 0, pos 0)) (take (length points - 1) (drop 1 points))
begun [] x table on = absurd (omega (arith, table.least))
begun (start ∷ points) x table on =
    let all : take (suc (length points) - 1) points ≡ points = take_all (suc (length points) - 1) points (omega arith) in
    subst (IsAhead (start ∷ points) x start) (sym all) (record { same = refl; rises = table.rises; fits = table.fits; after = on.first })

-- the next point is the head of the points ahead
pub next : (points : List (ℤ × ℤ)) (x : ℤ) (start : ℤ × ℤ) (items : List (ℤ × ℤ)) (i : ℕ) → i < length items → IsAhead points x start (drop i items) → IsAhead points x start (get_or items i (pos 0, pos 0) ∷ drop (i + 1) items)
next points x start items i h ahead = rw (add-one i) (subst (IsAhead points x start) (drop-cons items i (pos 0, pos 0) h) ahead)

-- a test at a point, as the code reads it
pub tested : (x : ℤ) (point : ℤ × ℤ) (b : Bool) → FitsPoint point → int_le x (to_z w64 (of_z w64 point.0)) ≡ b → int_le x point.0 ≡ b
tested x point b fits test =
    ap (int_le x) (sym (to_z-of_z w64 point.0 (fits_x point fits))) ∙ test

-- the segment up to the next point has x
pub found : (points : List (ℤ × ℤ)) (x : ℤ) (start end : ℤ × ℤ) (ahead : List (ℤ × ℤ)) → IsAhead points x start (end ∷ ahead) → int_le x end.0 ≡ true → segment_value start end x ≡ table_value points x
found points x start end ahead walk test =
    sym (ap (λ b. cond b (segment_value start end x) (table_value (end ∷ ahead) x)) test) ∙ walk.same

-- x is past the next point
pub passed : (points : List (ℤ × ℤ)) (x : ℤ) (start end : ℤ × ℤ) (ahead : List (ℤ × ℤ)) → IsAhead points x start (end ∷ ahead) → int_le x end.0 ≡ false → IsAhead points x end ahead
passed points x start end ahead walk test = record {
  same = sym (ap (λ b. cond b (segment_value start end x) (table_value (end ∷ ahead) x)) test) ∙ walk.same;
  rises = walk.rises.2;
  fits = walk.fits.1;
  after = eased end.0 x (is_past x end.0 test);
}

-- no point is ahead
pub ended : (points : List (ℤ × ℤ)) (x : ℤ) (start : ℤ × ℤ) (items : List (ℤ × ℤ)) (i : ℕ) → length items ≤ i → IsAhead points x start (drop i items) → start.1 ≡ table_value points x
ended points x start items i h walk = (subst (IsAhead points x start) (drop_all i items h) walk).same
