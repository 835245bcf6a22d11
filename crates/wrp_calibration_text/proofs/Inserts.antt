-- What an insert into the map of a table does to the members that the map represents.
use Rattle.std.proofs.Common.{◌≡◌, List, [], ◌∷◌, String, Global, Ordering, Less, Equal, Greater, refl, ◌∙◌}
use Rattle.std.specs.Prelude.{string_bytes}
use Rattle.std.specs.BTreeMap.{insert_entry}
use Rattle.std.specs.Ordering.{match_ordering}
use Rattle.std.specs.String.{string_cmp}
use Rattle.toml.specs.View.{view, members_view}
use Rattle.toml.specs.declared.value.Value.{Value}
use Rattle.wrp_calibration_text.specs.Text.{with_member}

view_of_match : (o : Ordering) (a b c : List (String Global × Value))
    → members_view (match_ordering o a b c)
    ≡ match_ordering o (members_view a) (members_view b) (members_view c)
view_of_match Less a b c = refl
view_of_match Equal a b c = refl
view_of_match Greater a b c = refl

-- an insert puts the member in its place among the members
pub members_view-insert : (es : List (String Global × Value)) (k : String Global) (v : Value)
    → members_view (insert_entry string_cmp es k v)
    ≡ with_member (string_bytes k) (view v) (members_view es)
members_view-insert [] k v = refl
members_view-insert (e ∷ es) k v =
    view_of_match (string_cmp k e.0) ((k, v) ∷ e ∷ es) ((e.0, v) ∷ es) (e ∷ insert_entry string_cmp es k v)
    ∙ rw (members_view-insert es k v) refl
