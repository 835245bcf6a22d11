-- The points of a stored delay law: two-way delays x and one-way delays down y, in tau (this
-- project's profile).
use Rattle.std.specs.Prelude.{◌&&◌, ◌^◌, ◌*◌, ◌+ℤ◌, ◌-ℤ◌, ◌*ℤ◌, ℕ, ℤ, pos, neg_ℤ, unsigned_abs, List, [], ◌∷◌, Bool, true, false, Option, Some, None, option_map, option_and_then, length, nat_le, if◌then◌else◌}
use Rattle.std.specs.Int.Signed.{le_z, lt_z}
use Rattle.std.specs.List.{list_all}
use Rattle.toml.specs.Data.{Data, Items, no_items, item, as_integer, as_array}
use Rattle.wrp_caldb.specs.declared.row.Linear.{Linear}

-- items as a list
abbrev pub list_of : Items → List Data
list_of no_items = []
list_of (item d ds) = d ∷ list_of ds

-- the values of an array
abbrev pub values_of : Data → Option (List Data)
values_of d = option_map list_of (as_array d)

-- a point of two numbers, if both are there
abbrev pub both : Option ℤ → Option ℤ → Option (ℤ × ℤ)
both (Some x) (Some y) = Some (x, y)
both _ _ = None

-- the point that two values give
abbrev pub two_numbers : List Data → Option (ℤ × ℤ)
two_numbers (x ∷ y ∷ []) = both (as_integer x) (as_integer y)
two_numbers _ = None

-- the point that an array of two whole numbers gives
abbrev pub point_of : Data → Option (ℤ × ℤ)
point_of d = option_and_then two_numbers (values_of d)

-- a point before others, if all are there
abbrev pub with_point : Option (ℤ × ℤ) → Option (List (ℤ × ℤ)) → Option (List (ℤ × ℤ))
with_point (Some p) (Some ps) = Some (p ∷ ps)
with_point _ _ = None

-- the points of a list of values, if each is one
abbrev pub points_of : List Data → Option (List (ℤ × ℤ))
points_of [] = Some []
points_of (d ∷ ds) = with_point (point_of d) (points_of ds)

-- the points of 2 to 32 values
abbrev pub few_points : List Data → Option (List (ℤ × ℤ))
few_points ds = if nat_le 2 (length ds) && nat_le (length ds) 32 then points_of ds else None

-- the points of an array of 2 to 32 arrays of two whole numbers
abbrev pub stored_points : Data → Option (List (ℤ × ℤ))
stored_points d = option_and_then few_points (values_of d)

-- x is from -2^30 to 2^53, and y from -2^53 to 2^53
abbrev pub has_bounds : ℤ × ℤ → Bool
has_bounds p = (le_z (neg_ℤ (pos (2 ^ 30))) p.0 && le_z p.0 (pos (2 ^ 53)))
    && (le_z (neg_ℤ (pos (2 ^ 53))) p.1 && le_z p.1 (pos (2 ^ 53)))

-- x rises strictly and y does not fall, from a point to the next
abbrev pub is_step : ℤ × ℤ → ℤ × ℤ → Bool
is_step p q = lt_z p.0 q.0 && le_z p.1 q.1

-- the same from a point through the points after it
abbrev pub rises_from : ℤ × ℤ → List (ℤ × ℤ) → Bool
rises_from p [] = true
rises_from p (q ∷ qs) = is_step p q && rises_from q qs

-- x rises strictly and y does not fall, from each point to the next
abbrev pub rises : List (ℤ × ℤ) → Bool
rises [] = true
rises (p ∷ ps) = rises_from p ps

-- how far 2^40 y is from (2^39 + kappa) x
abbrev pub distance_from : Linear → ℤ × ℤ → ℕ
distance_from law p =
    unsigned_abs (pos (2 ^ 40) *ℤ p.1 -ℤ (pos (2 ^ 39) +ℤ law.kappa) *ℤ p.0)

-- the point is within the law's error of it, if there is a law
abbrev pub is_near : Option Linear → ℤ × ℤ → Bool
is_near None p = true
is_near (Some law) p = nat_le (distance_from law p) (2 ^ 40 * law.err)

-- the point is within the bounds and near the law
abbrev pub is_sound : Option Linear → ℤ × ℤ → Bool
is_sound law p = has_bounds p && is_near law p

-- points within the bounds and near the law, which rise
abbrev pub is_table : Option Linear → Option (List (ℤ × ℤ)) → Bool
is_table law None = false
is_table law (Some ps) = list_all (is_sound law) ps && rises ps
