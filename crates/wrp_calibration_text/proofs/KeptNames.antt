-- A name that a text may have is the name that is read, and no two become one.
use Rattle.std.proofs.Common.{◌≡◌, not, ℕ, List, [], ◌∷◌, Bool, true, false, Option, None, Some, map, take, refl, ap, ◌∙◌}
use Rattle.std.proofs.lemmas.Bool.{and_parts, not-false}
use Rattle.std.specs.Prelude.{option_and_then, codes, if◌then◌else◌}
use Rattle.std.specs.List.{list_any}
use Rattle.toml.specs.Data.{Data, Members, table, as_str}
use Rattle.wrp_caldb.specs.Database.{name_at, name_or_none}
use Rattle.wrp_caldb.specs.Key.{required_key}
use Rattle.wrp_caldb.specs.Name.{same_name, is_name, is_module_name}
use Rattle.wrp_caldb.specs.Repeats.{are_same_texts, name_in, has_name_of, place_of_name}
use Rattle.wrp_caldb.specs.Rows.{has_fault, is_text_of}
use Rattle.wrp_caldb.specs.declared.place.At.{At}
use Rattle.wrp_caldb.specs.declared.row.Code.{Code}
use Rattle.wrp_caldb.specs.declared.row.Code.TheVariants as co
use Rattle.wrp_caldb.specs.declared.row.Sort.TheVariants as so
use Rattle.wrp_calibration_text.proofs.Kept.{if_none, any_kept, all_true}

-- the text passes the test
pub record IsText (test : List ℕ → Bool) (found : Option (List ℕ)) : Type 0 where
  pub text : List ℕ
  pub is : found ≡ Some text
  pub passes : test text ≡ true

pub fitting_text : (test : List ℕ → Bool) (o : Option (List ℕ)) → not (is_text_of test o) ≡ false → IsText test o
fitting_text test None e = cc e
fitting_text test (Some text) e = record { text = text; is = refl; passes = not-false (test text) e }

-- a required name that is there and fits
pub module_text : (name : List ℕ) (found : Option Data)
    → has_fault co.Missing (required_key name so.ModuleName) found ≡ false
    → has_fault co.Range (required_key name so.ModuleName) found ≡ false
    → IsText is_module_name (option_and_then as_str found)
module_text name None missing range = cc missing
module_text name (Some d) missing range = fitting_text is_module_name (as_str d) range

pub plain_text : (name : List ℕ) (found : Option Data)
    → has_fault co.Missing (required_key name so.Name) found ≡ false
    → has_fault co.Range (required_key name so.Name) found ≡ false
    → IsText is_name (option_and_then as_str found)
plain_text name None missing range = cc missing
plain_text name (Some d) missing range = fitting_text is_name (as_str d) range

-- a module's name is a name
pub is_plain : (found : Option (List ℕ)) → IsText is_module_name found → IsText is_name found
is_plain found n = record {
  text = n.text;
  is = n.is;
  passes = (and_parts (is_name n.text) (not (same_name n.text (codes "unlisted"))) n.passes).0;
}

-- the name that is read
pub name_read : (found : Option (List ℕ)) (n : IsText is_name found) → name_or_none found ≡ n.text
name_read found n = rw (n.is, n.passes) refl

-- no name is empty
not_empty : (text : List ℕ) → is_name text ≡ true → same_name [] text ≡ false
not_empty [] e = cc e
not_empty (c ∷ cs) e = refl

other_if : (y x : List ℕ) (b : Bool) → is_name y ≡ b → is_name x ≡ true → same_name y x ≡ false
    → same_name (if b then y else []) x ≡ false
other_if y x true e is differ = differ
other_if y x false e is differ = not_empty x is

other_name : (s : Option (List ℕ)) (x : List ℕ) → is_name x ≡ true → are_same_texts s (Some x) ≡ false
    → same_name (name_or_none s) x ≡ false
other_name None x is differ = not_empty x is
other_name (Some y) x is differ = other_if y x (is_name y) refl is differ

-- a table with another name is read with another name
other_read : (s t : Members) (n : IsText is_name (name_in t)) → are_same_texts (name_in s) (name_in t) ≡ false
    → same_name (name_at s) (name_at t) ≡ false
other_read s t n differ =
    rw (name_read (name_in t) n) (other_name (name_in s) n.text n.passes (rw n.is at differ))

-- a name that is no repeat is none among what is made of the tables
pub names_kept : (code : Code) (at : At) (h : Members → Members) (n : ℕ) (ts : List Members) (t : Members)
    → ((s : Members) → name_in (h s) ≡ Some (name_at s)) → IsText is_name (name_in t)
    → place_of_name code at (take n (map table ts)) t ≡ None
    → place_of_name code at (take n (map table (map h ts))) (h t) ≡ None
names_kept co.UnknownKey at h n ts t reads valid none = refl
names_kept co.Missing at h n ts t reads valid none = refl
names_kept co.Range at h n ts t reads valid none = refl
names_kept co.Twice at h n ts t reads valid none =
    let fresh = if_none (list_any (has_name_of t) (take n (map table ts))) _ none in
    let still = any_kept (has_name_of t) (has_name_of (h t)) h (λ s. true)
    (λ s well differ. rw (reads s, reads t) (other_read s t valid differ)) n ts (all_true ts) fresh in
    rw still refl

-- the name of a module that is read
pub module_named : (found : Option (List ℕ)) → IsText is_module_name found → is_module_name (name_or_none found) ≡ true
module_named found n =
    let plain = (and_parts (is_name n.text) (not (same_name n.text (codes "unlisted"))) n.passes).0 in
    let read : name_or_none found ≡ n.text = rw (n.is, plain) refl in
    ap is_module_name read ∙ n.passes
