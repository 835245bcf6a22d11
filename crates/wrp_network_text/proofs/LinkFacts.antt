-- The links of a text whose tables are taken: their ends, their names, and what they take from modules and fibres.
use Rattle.std.proofs.Common.{◌≡◌, ◌+◌, ◌&&◌, ℕ, ℤ, pos, List, Bool, true, false, Option, None, Some, map, option_map, take, unsigned_abs, refl, ap, arith, inl, inr, ◌↔◌, not, sym, ◌∙◌}
use Rattle.std.proofs.lemmas.Bool.{false≢true, and_parts, not-false, not-true, or_cases, or_parts}
use Rattle.std.specs.Int.Signed.{le_z}
use Rattle.std.proofs.lemmas.Int.{ints}
use Rattle.std.proofs.lemmas.Bool.Decides.{Decides-int_eq}
use Rattle.std.specs.Prelude.{codes, option_and_then, if◌then◌else◌, unwrap_or, IsSome, ◌≤ℤ◌}
use Rattle.std.specs.Option.{option_or, is_some}
use Rattle.std.specs.Ordering.{int_eq}
use Rattle.std.specs.List.{AllByRecursion, find, list_any}
use Rattle.toml.specs.Data.{Data, Members, as_integer, as_str, get_member}
use Rattle.wrp_network.specs.Network.{IsWavelength}
use Rattle.wrp_base.specs.declared.link.Fibre.{Fibre}
use Rattle.wrp_base.proofs.Options.{pair_there}
use Rattle.wrp_caldb.specs.Database.{Database, fibre_at, module_at}
use Rattle.wrp_caldb.specs.Name.{is_name}
use Rattle.wrp_caldb.specs.Key.{Key, name_key, required_key}
use Rattle.wrp_caldb.specs.Refusal.{key_place, place_of_others}
use Rattle.wrp_caldb.specs.Repeats.{are_same_texts, name_in, has_name_of, place_of_name}
use Rattle.wrp_caldb.specs.Rows.{has_fault, is_wavelength, fits_first, number_in}
use Rattle.wrp_caldb.specs.declared.place.At.{At}
use Rattle.wrp_caldb.specs.declared.place.At.TheVariants as tables
use Rattle.wrp_caldb.specs.declared.row.Code.{Code}
use Rattle.wrp_caldb.specs.declared.row.Code.TheVariants as co
use Rattle.wrp_calibration_text.proofs.Kept.{none_parts, if_none}
use Rattle.wrp_calibration_text.proofs.KeptNames.{IsText, plain_text, module_text, is_plain, name_read}
use Rattle.wrp_network_text.specs.Config.{end_at, name_of}
use Rattle.wrp_network_text.specs.Ends.{end_in, end_of_value, text_at}
use Rattle.wrp_network_text.specs.Links.{LinkKey, Context, link_keys, upper_key, lower_key, fibre_key, upper_module_key, lower_module_key, down_key, up_key, down_in, up_in, first_in, names_one, names_module, may_be_missing, is_stray, has_link_fault, place_of_link_keys, place_in_link_table, is_any, first_of}
use Rattle.wrp_network_text.specs.declared.link_rows.Names.TheVariants as na
use Rattle.wrp_caldb.specs.declared.row.Sort.TheVariants as so
use Rattle.wrp_network_text.specs.Places.{has_end, repeats_upper, repeats_lower, place_of_port, place_in_link}
use Rattle.wrp_config.proofs.Lists.{none_at}
use Rattle.wrp_network_text.proofs.Texts.{IsEnd, end_is}

named_none : (at : At) (o : Option LinkKey) → key_place at (option_map (λ k. k.key.name) o) ≡ None → o ≡ None
named_none at None e = refl
named_none at (Some k) e = cc e

-- what the rows of a link's table have no fault of
pub record IsSoundLink (file : Context) (t : Members) : Type 0 where
  pub missing : AllByRecursion (λ k. has_link_fault co.Missing file t k ≡ false) (link_keys t)
  pub range : AllByRecursion (λ k. has_link_fault co.Range file t k ≡ false) (link_keys t)

-- a link that repeats nothing
pub record IsNewLink (nodes links : List Data) (l : ℕ) (t : Members) : Type 0 where
  pub node_name : list_any (has_name_of t) nodes ≡ false
  pub name : list_any (has_name_of t) (take l links) ≡ false
  pub upper : list_any (has_end (text_at (codes "upper") t)) (take l links) ≡ false
  pub own : are_same_texts (text_at (codes "upper") t) (text_at (codes "lower") t) ≡ false
  pub lower : list_any (has_end (text_at (codes "lower") t)) (take l links) ≡ false

-- what a link's table keeps that has no place of a code
own_none : (file : Context) (links : List Data) (l : ℕ) (t : Members) (code : Code) → place_in_link code file links l t ≡ None
    → place_in_link_table code (tables.Link (l + 1)) file t ≡ None
own_none file links l t code none =
    (none_parts (place_in_link_table code (tables.Link (l + 1)) file t)
    (option_or (place_of_name code (tables.Link (l + 1)) file.nodes t)
    (option_or (place_of_name code (tables.Link (l + 1)) (take l links) t) (place_of_port code (tables.Link (l + 1)) (take l links) t))) none).0

no_link_faults : (file : Context) (links : List Data) (l : ℕ) (t : Members) (code : Code) → place_in_link code file links l t ≡ None
    → AllByRecursion (λ k. has_link_fault code file t k ≡ false) (link_keys t)
no_link_faults file links l t code none =
    let at = tables.Link (l + 1) in
    let keys = (none_parts (place_of_others code at (map (λ k. k.key) (link_keys t)) t) (place_of_link_keys code at file t) (own_none file links l t code none)).1 in
    none_at (has_link_fault code file t) (link_keys t) (named_none at (find (has_link_fault code file t) (link_keys t)) keys)

pub sound_link : (file : Context) (links : List Data) (l : ℕ) (t : Members) → ((code : Code) → place_in_link code file links l t ≡ None) → IsSoundLink file t
sound_link file links l t none = record {
  missing = no_link_faults file links l t co.Missing (none co.Missing);
  range = no_link_faults file links l t co.Range (none co.Range);
}

two_none : {T : Type 0} (b c : Bool) (x y : T) → (if b then Some x else (if c then Some y else None)) ≡ None → (b ≡ false) × (c ≡ false)
two_none true c x y e = cc e
two_none false true x y e = cc e
two_none false false x y e = (refl, refl)

pub new_link : (file : Context) (links : List Data) (l : ℕ) (t : Members) → ((code : Code) → place_in_link code file links l t ≡ None) → IsNewLink file.nodes links l t
new_link file links l t none =
    let at = tables.Link (l + 1) in
    let a = (none_parts (place_in_link_table co.Twice at file t)
    (option_or (place_of_name co.Twice at file.nodes t)
    (option_or (place_of_name co.Twice at (take l links) t) (place_of_port co.Twice at (take l links) t))) (none co.Twice)).1 in
    let b = none_parts (place_of_name co.Twice at file.nodes t)
    (option_or (place_of_name co.Twice at (take l links) t) (place_of_port co.Twice at (take l links) t)) a in
    let c = none_parts (place_of_name co.Twice at (take l links) t) (place_of_port co.Twice at (take l links) t) b.1 in
    let ports = two_none (repeats_upper (take l links) t) (repeats_lower (take l links) t) _ _ c.1 in
    let lower = or_parts (are_same_texts (text_at (codes "upper") t) (text_at (codes "lower") t))
    (list_any (has_end (text_at (codes "lower") t)) (take l links)) ports.1 in
    record {
      node_name = if_none (list_any (has_name_of t) file.nodes) _ b.0;
      name = if_none (list_any (has_name_of t) (take l links)) _ c.0;
      upper = ports.0;
      own = lower.0;
      lower = lower.1;
    }

-- an end of a link that names a port of a node
pub record HasEnd (nodes : List Data) (key : List ℕ) (t : Members) : Type 0 where
  pub text : List ℕ
  pub is : text_at key t ≡ Some text
  pub end : ℕ × ℕ
  pub names : IsEnd nodes text end
  pub read : end_at nodes key t ≡ end

text_names : (nodes : List Data) (o : Option (List ℕ)) → is_some (option_and_then (end_in nodes) o) ≡ true
    → (text : List ℕ) × (e : ℕ × ℕ) × (o ≡ Some text) × (end_in nodes text ≡ Some e)
text_names nodes None is = absurd (false≢true is)
text_names nodes (Some text) is = let some = pair_there (end_in nodes text) is in (text, some.0, refl, some.1)

value_names : (nodes : List Data) (key : Key) (missable : Bool) (found : Option Data) → has_fault co.Missing key found ≡ false → key.need ≡ upper_key.need
    → is_stray co.Range missable (λ d. is_some (end_of_value nodes d)) found ≡ false
    → (text : List ℕ) × (e : ℕ × ℕ) × (option_and_then as_str found ≡ Some text) × (end_in nodes text ≡ Some e)
value_names nodes key missable None missing need stray = let told = rw need at missing in cc told
value_names nodes key missable (Some d) missing need stray = text_names nodes (as_str d) (not-false (is_some (end_of_value nodes d)) stray)

end_there : (nodes : List Data) (name : List ℕ) (key : Key) (missable : Bool) (t : Members) → key.need ≡ upper_key.need → has_fault co.Missing key (get_member name t) ≡ false
    → is_stray co.Range missable (λ d. is_some (end_of_value nodes d)) (get_member name t) ≡ false → HasEnd nodes name t
end_there nodes name key missable t need missing stray =
    let n = value_names nodes key missable (get_member name t) missing need stray in
    record {
      text = n.0;
      is = n.2;
      end = n.1;
      names = end_is nodes n.0 n.1 n.3;
      read = rw (n.2, n.3) refl;
    }

-- the parts of a row's fault
row_parts : (code : Code) (file : Context) (t : Members) (k : LinkKey) → has_link_fault code file t k ≡ false
    → (has_fault code k.key (get_member k.key.name t) ≡ false) × (is_stray code (may_be_missing t k.names) (names_one file t k.names) (get_member k.key.name t) ≡ false)
row_parts code file t k none =
    or_parts (has_fault code k.key (get_member k.key.name t)) (is_stray code (may_be_missing t k.names) (names_one file t k.names) (get_member k.key.name t)) none

pub upper_end : (file : Context) (t : Members) → IsSoundLink file t → HasEnd file.nodes (codes "upper") t
upper_end file t sound =
    let row : LinkKey = record { key = upper_key; names = na.Node } in
    end_there file.nodes (codes "upper") upper_key true t refl (row_parts co.Missing file t row sound.missing.1.0).0 (row_parts co.Range file t row sound.range.1.0).1

pub lower_end : (file : Context) (t : Members) → IsSoundLink file t → HasEnd file.nodes (codes "lower") t
lower_end file t sound =
    let row : LinkKey = record { key = lower_key; names = na.Node } in
    end_there file.nodes (codes "lower") lower_key true t refl (row_parts co.Missing file t row sound.missing.1.1.0).0 (row_parts co.Range file t row sound.range.1.1.0).1

-- the name of a link
pub link_name : (file : Context) (t : Members) → IsSoundLink file t → IsText is_name (name_in t)
link_name file t sound =
    let row : LinkKey = record { key = name_key; names = na.Nothing } in
    plain_text (codes "name") (get_member (codes "name") t) (row_parts co.Missing file t row sound.missing.0).0 (row_parts co.Range file t row sound.range.0).0

-- what a text that is listed finds
some_value : {X : Type 0} (o : Option X) → is_some o ≡ true → IsSome o
some_value None is = absurd (false≢true is)
some_value (Some x) is = refl

listed_text : {X : Type 0} (f : List ℕ → Option X) (missable : Bool) (found : Option Data) (text : List ℕ) → option_and_then as_str found ≡ Some text
    → is_stray co.Range missable (λ d. is_some (option_and_then f (as_str d))) found ≡ false → is_some (f text) ≡ true
listed_text f missable None text is stray = cc is
listed_text f missable (Some d) text is stray =
    let told = not-false (is_some (option_and_then f (as_str d))) stray in
    rw is at told

-- the fibre of a link
pub record HasFibre (db : Database) (t : Members) : Type 0 where
  pub text : List ℕ
  pub read : name_of (codes "fibre") t ≡ text
  pub fibre : Fibre
  pub at : fibre_at db text ≡ Some fibre

fibre_some : (o : Option Fibre) → is_some o ≡ true → (f : Fibre) × (o ≡ Some f)
fibre_some None is = absurd (false≢true is)
fibre_some (Some f) is = (f, refl)

pub link_fibre : (file : Context) (t : Members) → IsSoundLink file t → HasFibre file.db t
link_fibre file t sound =
    let row : LinkKey = record { key = fibre_key; names = na.Fibre } in
    let m = row_parts co.Missing file t row sound.missing.1.1.1.0 in
    let r = row_parts co.Range file t row sound.range.1.1.1.0 in
    let n = plain_text (codes "fibre") (get_member (codes "fibre") t) m.0 r.0 in
    let some = fibre_some (fibre_at file.db n.text) (listed_text (fibre_at file.db) true (get_member (codes "fibre") t) n.text n.is r.1) in
    record {
      text = n.text;
      read = name_read (text_at (codes "fibre") t) n;
      fibre = some.0;
      at = some.1;
    }

-- a module of a link, at an end of these wavelengths
pub module_there : (db : Database) (name : List ℕ) (tx rx : ℕ) (missable : Bool) (t : Members)
    → has_fault co.Missing (required_key name so.ModuleName) (get_member name t) ≡ false
    → has_fault co.Range (required_key name so.ModuleName) (get_member name t) ≡ false
    → is_stray co.Range missable (names_module db tx rx) (get_member name t) ≡ false
    → IsSome (module_at db (name_of name t) tx rx)
module_there db name tx rx missable t missing range stray =
    let n = is_plain (text_at name t) (module_text name (get_member name t) missing range) in
    rw (name_read (text_at name t) n) (some_value (module_at db n.text tx rx) (listed_text (λ text. module_at db text tx rx) missable (get_member name t) n.text n.is stray))

pub upper_module_there : (file : Context) (t : Members) → IsSoundLink file t → IsSome (module_at file.db (name_of (codes "upper_module") t) (down_in t) (up_in t))
upper_module_there file t sound =
    let row : LinkKey = record { key = upper_module_key; names = na.UpperModule } in
    let m = row_parts co.Missing file t row sound.missing.1.1.1.1.0 in
    let r = row_parts co.Range file t row sound.range.1.1.1.1.0 in
    module_there file.db (codes "upper_module") (down_in t) (up_in t) true t m.0 r.0 r.1

pub lower_module_there : (file : Context) (t : Members) → IsSoundLink file t → IsSome (module_at file.db (name_of (codes "lower_module") t) (up_in t) (down_in t))
lower_module_there file t sound =
    let row : LinkKey = record { key = lower_module_key; names = na.LowerModule } in
    let m = row_parts co.Missing file t row sound.missing.1.1.1.1.1.0 in
    let r = row_parts co.Range file t row sound.range.1.1.1.1.1.0 in
    module_there file.db (codes "lower_module") (up_in t) (down_in t) true t m.0 r.0 r.1

wave_in : (o : Option ℤ) → is_wavelength o ≡ true → IsWavelength (unsigned_abs (unwrap_or o (pos 0)))
wave_in None e = absurd (false≢true e)
wave_in (Some z) e =
    elim (or_cases (int_eq z (pos 0)) (le_z (pos 800) z && le_z z (pos 1700)) e) [
      | inl zero ↦ inl (ap unsigned_abs ((Decides-int_eq z (pos 0)).0 zero))
      | inr range ↦
          let parts = and_parts (le_z (pos 800) z) (le_z z (pos 1700)) range in
          let low : pos 800 ≤ℤ z = grind (arith, ints, parts.0) in
          let high : z ≤ℤ pos 1700 = grind (arith, ints, parts.1) in
          inr (omega (arith, ints, low, high), omega (arith, ints, low, high))
    ]

down_wave : (found : Option Data) → has_fault co.Range down_key found ≡ false → IsWavelength (unsigned_abs (unwrap_or (number_in down_key found) (pos 0)))
down_wave None range = inl refl
down_wave (Some d) range =
    let fits = not-false (is_wavelength (as_integer d)) range in
    rw fits (wave_in (as_integer d) fits)

up_wave : (first : Option ℤ) (found : Option Data) → has_fault co.Range (up_key first) found ≡ false
    → IsWavelength (unsigned_abs (unwrap_or (number_in (up_key first) found) (pos 0)))
up_wave first None range = inl refl
up_wave first (Some d) range =
    let fits = not-false (is_wavelength (as_integer d) && fits_first first (as_integer d)) range in
    rw fits (wave_in (as_integer d) (and_parts (is_wavelength (as_integer d)) (fits_first first (as_integer d)) fits).0)

pub link_waves : (file : Context) (t : Members) → IsSoundLink file t → IsWavelength (down_in t) × IsWavelength (up_in t)
link_waves file t sound =
    let down : LinkKey = record { key = down_key; names = na.Nothing } in
    let up : LinkKey = record { key = up_key (first_in t); names = na.Up } in (
      down_wave (get_member (codes "down_nm") t) (row_parts co.Range file t down sound.range.1.1.1.1.1.1.1.0).0,
      up_wave (first_in t) (get_member (codes "up_nm") t) (row_parts co.Range file t up sound.range.1.1.1.1.1.1.1.1.0).0,
    )

-- one wavelength means any if and only if the other does
is_zero : (z : ℤ) → unsigned_abs z ≡ 0 → int_eq z (pos 0) ≡ true
is_zero z e = (Decides-int_eq z (pos 0)).1 (omega (arith, ints, e))

zero_is : (z : ℤ) → int_eq z (pos 0) ≡ true → unsigned_abs z ≡ 0
zero_is z e = ap unsigned_abs ((Decides-int_eq z (pos 0)).0 e)

agree_if : (z y : ℤ) (any : Bool) → int_eq z (pos 0) ≡ any → (if any then int_eq y (pos 0) else not (int_eq y (pos 0))) ≡ true
    → (unsigned_abs z ≡ 0) ↔ (unsigned_abs y ≡ 0)
agree_if z y true is e = (λ h. zero_is y e, λ h. zero_is z is)
agree_if z y false is e =
    let other = not-true (int_eq y (pos 0)) e in (
      λ h. absurd (false≢true (sym is ∙ is_zero z h)),
      λ h. absurd (false≢true (sym other ∙ is_zero y h)),
    )

agree : (a b : Option ℤ) → is_wavelength a ≡ true → is_wavelength b ≡ true → fits_first a b ≡ true
    → (unsigned_abs (unwrap_or a (pos 0)) ≡ 0) ↔ (unsigned_abs (unwrap_or b (pos 0)) ≡ 0)
agree None b wa wb e = absurd (false≢true wa)
agree (Some z) None wa wb e = absurd (false≢true wb)
agree (Some z) (Some y) wa wb e = agree_if z y (int_eq z (pos 0)) refl e

any_fits : (a : Option ℤ) → is_wavelength a ≡ true → is_any a ≡ true → fits_first a (Some (pos 0)) ≡ true
any_fits None wa e = absurd (false≢true wa)
any_fits (Some z) wa e = rw e refl

waves_agree : (names : Data → Bool) (down up : Option Data) → has_fault co.Range down_key down ≡ false
    → has_fault co.Range (up_key (first_of down)) up ≡ false → is_stray co.Range (is_any (first_of down)) names up ≡ false
    → (unsigned_abs (unwrap_or (number_in down_key down) (pos 0)) ≡ 0) ↔ (unsigned_abs (unwrap_or (number_in (up_key (first_of down)) up) (pos 0)) ≡ 0)
waves_agree names None None d u s = (λ h. refl, λ h. refl)
waves_agree names None (Some e) d u s =
    let fits = not-false (is_wavelength (as_integer e) && fits_first (Some (pos 0)) (as_integer e)) u in
    let parts = and_parts (is_wavelength (as_integer e)) (fits_first (Some (pos 0)) (as_integer e)) fits in
    rw fits (agree (Some (pos 0)) (as_integer e) refl parts.0 parts.1)
waves_agree names (Some x) None d u s =
    let fits = not-false (is_wavelength (as_integer x)) d in
    let any = not-false (is_any (as_integer x)) s in
    rw fits (agree (as_integer x) (Some (pos 0)) fits refl (any_fits (as_integer x) fits any))
waves_agree names (Some x) (Some e) d u s =
    let first = not-false (is_wavelength (as_integer x)) d in
    let fits = not-false (is_wavelength (as_integer e) && fits_first (as_integer x) (as_integer e)) u in
    let parts = and_parts (is_wavelength (as_integer e)) (fits_first (as_integer x) (as_integer e)) fits in
    rw (first, fits) (agree (as_integer x) (as_integer e) first parts.0 parts.1)

pub link_agrees : (file : Context) (t : Members) → IsSoundLink file t → (down_in t ≡ 0) ↔ (up_in t ≡ 0)
link_agrees file t sound =
    let down : LinkKey = record { key = down_key; names = na.Nothing } in
    let up : LinkKey = record { key = up_key (first_in t); names = na.Up } in
    let d = (row_parts co.Range file t down sound.range.1.1.1.1.1.1.1.0).0 in
    let u = row_parts co.Range file t up sound.range.1.1.1.1.1.1.1.1.0 in
    waves_agree (names_one file t na.Up) (get_member (codes "down_nm") t) (get_member (codes "up_nm") t) d u.0 u.1
