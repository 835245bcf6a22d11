-- How many octets the text of a database has at most.
use Rattle.std.proofs.Common.{◌≡◌, ◌≤◌, ◌+◌, ◌==◌, cond, ℕ, ℤ, pos, min, true, false, Bool, List, [], ◌∷◌, ◌++◌, length, map, codes, Option, Some, None, refl, ap, subst, arith, length-append, lit<}
use Rattle.std.proofs.lemmas.Bool.{and_parts}
use Rattle.std.proofs.lemmas.Fmt.{length-decimal-le}
use Rattle.std.proofs.lemmas.Bool.Decides.{nat_tests}
use Rattle.std.specs.Fmt.{signed_decimal}
use Rattle.std.specs.List.{AllByRecursion, list_all, list_any}
use Rattle.toml.specs.Data.{Data, string, integer, float, boolean, datetime, array, table, Items, no_items, item, Members}
use Rattle.toml.specs.Tables.{Definition, key_value, std_table, array_table, Expression}
use Rattle.toml.specs.Text.{IsValueText, IsItemsText, IsLineText, IsLinesText, before_item, breaks_lines, gap, header_open, header_close, are_tables, pairs, sections, elements, expressions}
use Rattle.toml.specs.View.{items_of}
use Rattle.toml_writer.specs.Text.{dotted_text, escaped, encoding_of, is_control, key_text, needs_escape, quotes_after, string_text}
use Rattle.wrp_caldb.specs.Database.{Database, ModuleAt, FibreAt, TableAt, name_or_none}
use Rattle.wrp_caldb.specs.Name.{is_letter, is_name, is_name_octet}
use Rattle.wrp_calibration_text.specs.Text.{linear_members, number, pair_members, module_members, point_data, table_members, fibre_members, document_of, IsTextDue}
use Rattle.wrp_caldb.specs.declared.database.Entry.{Entry}

-- ---- a value on one line

abbrev mutual
  value_octets : Data → ℕ
  value_octets (string s) = length (string_text s)
  value_octets (integer z) = length (signed_decimal z)
  value_octets (array ds) = 2 + items_octets ds
  value_octets _ = 0

  items_octets : Items → ℕ
  items_octets no_items = 0
  items_octets (item d ds) = (2 + value_octets d) + items_octets ds

-- a text, a number, or an array of such
abbrev mutual
  IsCounted : Data → Type 0
  IsCounted (string s) = Unit {0}
  IsCounted (integer z) = Unit {0}
  IsCounted (array ds) = AreCounted ds
  IsCounted _ = ⊥

  AreCounted : Items → Type 0
  AreCounted no_items = Unit {0}
  AreCounted (item d ds) = IsCounted d × AreCounted ds

no_breaks : (ds : Items) → breaks_lines false ds ≡ false
no_breaks no_items = refl
no_breaks (item d no_items) = refl
no_breaks (item d (item e ds)) = refl

before_le : (is_first : Bool) → length (before_item false is_first) ≤ 2
before_le true = omega arith
before_le false = omega arith

mutual
  value_length : (d : Data) (text : List ℕ) → IsCounted d → IsValueText false d text → length text ≤ value_octets d
  value_length (string s) text h is = let same = ap length is in omega (arith, same)
  value_length (integer z) text h is = let same = ap length is.0 in omega (arith, same)
  value_length (float x) text h is = absurd h
  value_length (boolean b) text h is = absurd h
  value_length (datetime dt) text h is = absurd h
  value_length (array ds) text h is =
      let rest : IsItemsText false false true ds is.0 = subst (λ (b : Bool). IsItemsText false b true ds is.0) (no_breaks ds) is.2 in
      let more = items_length true ds is.0 h rest in
      let same = ap length is.1 in
      omega (arith, more, same)
  value_length (table ms) text h is = absurd h

  items_length : (is_first : Bool) (ds : Items) (text : List ℕ) → AreCounted ds → IsItemsText false false is_first ds text → length text ≤ 1 + items_octets ds
  items_length is_first no_items text h is = let same = ap length is in omega (arith, same)
  items_length is_first (item d ds) text h is =
      let own = value_length d is.0 h.0 is.3 in
      let more = items_length false ds is.1 h.1 is.4 in
      let same = ap length is.2 in
      let parts = length-append (before_item false is_first) (is.0 ++ is.1) in
      let two = length-append is.0 is.1 in
      let before = before_le is_first in
      omega (arith, own, more, same, parts, two, before)

-- ---- lines

abbrev definition_octets : Definition → ℕ
definition_octets (key_value d) = 4 + value_octets d
definition_octets std_table = 4
definition_octets array_table = 6

abbrev line_octets : Expression → ℕ
line_octets e = length (dotted_text e.0) + definition_octets e.1

abbrev lines_octets : List Expression → ℕ
lines_octets [] = 0
lines_octets (e ∷ es) = line_octets e + lines_octets es

abbrev SaysCounted : Definition → Type 0
SaysCounted (key_value d) = IsCounted d
SaysCounted _ = Unit {0}

abbrev LinesCounted : List Expression → Type 0
LinesCounted [] = Unit {0}
LinesCounted (e ∷ es) = SaysCounted e.1 × LinesCounted es

gap_le : (started : Bool) → length (gap started) ≤ 1
gap_le true = omega arith
gap_le false = omega arith

line_length : (started : Bool) (e : Expression) (text : List ℕ) → SaysCounted e.1 → IsLineText false started e.0 e.1 text → length text ≤ line_octets e
line_length started (key, key_value d) text h is =
    let own = value_length d is.0 h is.2 in
    let same = ap length is.1 in
    let parts = length-append (dotted_text key) (codes " = " ++ (is.0 ++ 10 ∷ [])) in
    let end = length-append is.0 (10 ∷ []) in
    omega (arith, own, same, parts, end)
line_length started (key, std_table) text h is =
    let same = ap length is in
    let parts = length-append (gap started) (header_open false ++ (dotted_text key ++ header_close false)) in
    let end = length-append (dotted_text key) (header_close false) in
    let before = gap_le started in
    omega (arith, same, parts, end, before)
line_length started (key, array_table) text h is =
    let same = ap length is in
    let parts = length-append (gap started) (header_open true ++ (dotted_text key ++ header_close true)) in
    let end = length-append (dotted_text key) (header_close true) in
    let before = gap_le started in
    omega (arith, same, parts, end, before)

lines_length : (started : Bool) (es : List Expression) (text : List ℕ) → LinesCounted es → IsLinesText false started es text → length text ≤ lines_octets es
lines_length started [] text h is = let same = ap length is in omega (arith, same)
lines_length started (e ∷ es) text h is =
    let own = line_length started e is.0 h.0 is.3 in
    let more = lines_length true es is.1 h.1 is.4 in
    let same = ap length is.2 in
    let parts = length-append is.0 is.1 in
    omega (arith, own, more, same, parts)

-- lines whose texts have at most this many octets
record AreWithin (most : ℕ) (es : List Expression) : Type 0 where
  counted : LinesCounted es
  octets : lines_octets es ≤ most

joined : (xs ys : List Expression) (a b : ℕ) → AreWithin a xs → AreWithin b ys → AreWithin (a + b) (xs ++ ys)
joined [] ys a b h k = let few = k.octets in record { counted = k.counted; octets = omega (arith, few) }
joined (x ∷ xs) ys a b h k =
    let own : lines_octets (x ∷ xs) ≤ a = h.octets in
    let rest : AreWithin (lines_octets xs) xs = record { counted = h.counted.1; octets = omega arith } in
    let on = joined xs ys (lines_octets xs) b rest k in
    let more = on.octets in
    record { counted = (h.counted.0, on.counted); octets = omega (arith, own, more) }

within : (a b : ℕ) (es : List Expression) → a ≤ b → AreWithin a es → AreWithin b es
within a b es less h = let few = h.octets in record { counted = h.counted; octets = omega (arith, few, less) }

no_lines : AreWithin 0 []
no_lines = record { counted = tt; octets = omega arith }

-- ---- pairs of wavelengths

-- the digits of a number from 0 on
abbrev pub digits : ℕ → ℕ
digits n = length (signed_decimal (pos (min n 9_223_372_036_854_775_807)))

abbrev pub pair_octets : Entry → ℕ
pair_octets e =
    ((68 + digits e.delays.err) + (digits e.delays.rx + digits e.rx_nm)) + ((digits e.delays.transition + digits e.delays.tx) + digits e.tx_nm)

abbrev pub pairs_octets : List Entry → ℕ
pairs_octets [] = 0
pairs_octets (e ∷ es) = pair_octets e + pairs_octets es

abbrev pair_key : List (List ℕ) × List ℕ
pair_key = (codes "module" ∷ [], codes "pair")

pair_within : (e : Entry)
    → AreWithin (pair_octets e) ((pair_key, array_table) ∷ (pairs (pair_members e) ++ sections (codes "module" ∷ codes "pair" ∷ []) (pair_members e)))
unfolding key_text
pair_within e = record { counted = (tt, (tt, (tt, (tt, (tt, (tt, (tt, tt))))))); octets = omega arith }

pairs_within : (es : List Entry) → AreWithin (pairs_octets es) (elements pair_key (items_of (map (λ e. table (pair_members e)) es)))
pairs_within [] = no_lines
pairs_within (e ∷ es) =
    joined ((pair_key, array_table) ∷ (pairs (pair_members e) ++ sections (codes "module" ∷ codes "pair" ∷ []) (pair_members e)))
    (elements pair_key (items_of (map (λ e. table (pair_members e)) es))) (pair_octets e) (pairs_octets es) (pair_within e) (pairs_within es)

are_pairs : (es : List Entry) → are_tables (items_of (map (λ e. table (pair_members e)) es)) ≡ true
are_pairs [] = refl
are_pairs (e ∷ es) = are_pairs es

-- ---- modules

-- a name with its quotes
abbrev pub IsShortName : List ℕ → Type 0
IsShortName name = length (string_text name) ≤ length name + 2

abbrev pub entries_octets : List Entry → ℕ
entries_octets [] = 10
entries_octets (e ∷ es) = pairs_octets (e ∷ es)

abbrev pub module_octets : ModuleAt → ℕ
module_octets m = (22 + length m.name) + entries_octets m.entries

abbrev module_key : List (List ℕ) × List ℕ
module_key = ([], codes "module")

-- the lines of an element of an array of tables
abbrev element : List (List ℕ) × List ℕ → Members → List Expression
element key ms = (key, array_table) ∷ (pairs ms ++ sections (key.0 ++ key.1 ∷ []) ms)

module_lines : (name : List ℕ) (es : List Entry) → IsShortName name
    → AreWithin ((22 + length name) + entries_octets es) (element module_key (module_members (record { name = name; entries = es })))
unfolding key_text
module_lines name [] short = record { counted = (tt, (tt, (tt, tt))); octets = omega (arith, short) }
module_lines name (e ∷ es) short =
    let ds = items_of (map (λ e. table (pair_members e)) es) in
    let first_lines : AreWithin (22 + length name) ((module_key, array_table) ∷ (([], codes "name"), key_value (string name)) ∷ []) =
    record { counted = (tt, (tt, tt)); octets = omega (arith, short) } in
    let more = joined (elements pair_key (item (table (pair_members e)) ds)) [] (pairs_octets (e ∷ es)) 0 (pairs_within (e ∷ es)) no_lines in
    rw (are_pairs es) (within ((22 + length name) + (pairs_octets (e ∷ es) + 0)) ((22 + length name) + pairs_octets (e ∷ es))
    (((module_key, array_table) ∷ (([], codes "name"), key_value (string name)) ∷ []) ++ (elements pair_key (item (table (pair_members e)) ds) ++ []))
    (omega arith)
    (joined ((module_key, array_table) ∷ (([], codes "name"), key_value (string name)) ∷ []) (elements pair_key (item (table (pair_members e)) ds) ++ [])
    (22 + length name) (pairs_octets (e ∷ es) + 0) first_lines more))

abbrev pub modules_octets : List ModuleAt → ℕ
modules_octets [] = 0
modules_octets (m ∷ ms) = module_octets m + modules_octets ms

abbrev pub HaveShortNames : List ModuleAt → Type 0
HaveShortNames ms = AllByRecursion (λ m. IsShortName m.name) ms

modules_within : (ms : List ModuleAt) → HaveShortNames ms
    → AreWithin (modules_octets ms) (elements module_key (items_of (map (λ m. table (module_members m)) ms)))
modules_within [] short = no_lines
modules_within (m ∷ ms) short =
    joined (element module_key (module_members m)) (elements module_key (items_of (map (λ m. table (module_members m)) ms)))
    (module_octets m) (modules_octets ms) (module_lines m.name m.entries short.0) (modules_within ms short.1)

-- ---- fibres

abbrev pub point_octets : ℤ × ℤ → ℕ
point_octets p = (8 + length (signed_decimal p.0)) + length (signed_decimal p.1)

abbrev pub points_octets : List (ℤ × ℤ) → ℕ
points_octets [] = 0
points_octets (p ∷ ps) = point_octets p + points_octets ps

abbrev pub table_octets : Option TableAt → ℕ
table_octets None = 0
table_octets (Some t) = (24 + points_octets t.points) + digits t.err

abbrev pub fibre_octets : FibreAt → ℕ
fibre_octets f = ((37 + length f.name) + (digits f.fibre.err + length (signed_decimal f.fibre.kappa))) + table_octets f.table

abbrev fibre_key : List (List ℕ) × List ℕ
fibre_key = ([], codes "fibre")

points_counted : (ps : List (ℤ × ℤ)) → AreCounted (items_of (map point_data ps))
points_counted [] = tt
points_counted (p ∷ ps) = ((tt, (tt, tt)), points_counted ps)

points_length : (ps : List (ℤ × ℤ)) → items_octets (items_of (map point_data ps)) ≤ points_octets ps
points_length [] = omega arith
points_length (p ∷ ps) = let more = points_length ps in omega (arith, more)

fibre_lines : (f : FibreAt) (t : Option TableAt) → f.table ≡ t → IsShortName f.name → AreWithin (fibre_octets f) (element fibre_key (fibre_members f))
unfolding key_text
fibre_lines f None is short = rw is (record { counted = (tt, (tt, (tt, (tt, tt)))); octets = omega (arith, short) })
fibre_lines f (Some t) is short = rw is (with_points t.points refl)
  where
    with_points : (ps : List (ℤ × ℤ)) → t.points ≡ ps
        → AreWithin (((37 + length f.name) + (digits f.fibre.err + length (signed_decimal f.fibre.kappa))) + ((24 + points_octets t.points) + digits t.err))
        (element fibre_key (linear_members f (table_members (Some t))))
    with_points [] none = rw none (record { counted = (tt, (tt, (tt, (tt, (tt, (tt, tt)))))); octets = omega (arith, short) })
    with_points (p ∷ ps) some =
        let size = points_length (p ∷ ps) in
        rw some (record { counted = (tt, (tt, (tt, (tt, (points_counted (p ∷ ps), (tt, tt)))))); octets = omega (arith, short, size) })

are_modules : (ms : List ModuleAt) → are_tables (items_of (map (λ m. table (module_members m)) ms)) ≡ true
are_modules [] = refl
are_modules (m ∷ ms) = are_modules ms

are_fibres : (fs : List FibreAt) → are_tables (items_of (map (λ f. table (fibre_members f)) fs)) ≡ true
are_fibres [] = refl
are_fibres (f ∷ fs) = are_fibres fs

abbrev pub fibres_octets : List FibreAt → ℕ
fibres_octets [] = 0
fibres_octets (f ∷ fs) = fibre_octets f + fibres_octets fs

abbrev pub HaveShortFibres : List FibreAt → Type 0
HaveShortFibres fs = AllByRecursion (λ f. IsShortName f.name) fs

fibres_within : (fs : List FibreAt) → HaveShortFibres fs → AreWithin (fibres_octets fs) (elements fibre_key (items_of (map (λ f. table (fibre_members f)) fs)))
fibres_within [] short = no_lines
fibres_within (f ∷ fs) short =
    joined (element fibre_key (fibre_members f)) (elements fibre_key (items_of (map (λ f. table (fibre_members f)) fs)))
    (fibre_octets f) (fibres_octets fs) (fibre_lines f f.table refl short.0) (fibres_within fs short.1)

-- ---- the document

-- a list that is empty has a line
abbrev pub modules_part : List ModuleAt → ℕ
modules_part [] = 12
modules_part (m ∷ ms) = modules_octets (m ∷ ms)

abbrev pub fibres_part : List FibreAt → ℕ
fibres_part [] = 11
fibres_part (f ∷ fs) = fibres_octets (f ∷ fs)

abbrev version_lines : List Expression
version_lines = (([], codes "version"), key_value (number 2)) ∷ []

two_octets : value_octets (number 2) ≤ 1
two_octets = length-decimal-le 1 2 (omega arith) (lit< tt) (lit< tt)

document_within : (fs : List FibreAt) (ms : List ModuleAt) → HaveShortFibres fs → HaveShortNames ms
    → AreWithin ((12 + fibres_part fs) + modules_part ms) (expressions (document_of (record { modules = ms; fibres = fs })))
unfolding key_text
document_within [] [] short names = record { counted = (tt, (tt, (tt, tt))); octets = omega (arith, two_octets) }
document_within [] (m ∷ ms) short names =
    let lines = elements module_key (items_of (map (λ m. table (module_members m)) (m ∷ ms))) in
    let front : AreWithin 23
    ((([], codes "fibre"), key_value (array no_items)) ∷ version_lines) = record { counted = (tt, (tt, tt)); octets = omega (arith, two_octets) } in
    let behind = joined lines [] (modules_octets (m ∷ ms)) 0 (modules_within (m ∷ ms) names) no_lines in
    rw (are_modules ms) (within (23 + (modules_octets (m ∷ ms) + 0)) ((12 + 11) + modules_octets (m ∷ ms))
    (((([], codes "fibre"), key_value (array no_items)) ∷ version_lines) ++ (lines ++ [])) (omega arith)
    (joined ((([], codes "fibre"), key_value (array no_items)) ∷ version_lines) (lines ++ []) 23 (modules_octets (m ∷ ms) + 0) front behind))
document_within (f ∷ fs) [] short names =
    let lines = elements fibre_key (items_of (map (λ f. table (fibre_members f)) (f ∷ fs))) in
    let front : AreWithin 24
    ((([], codes "module"), key_value (array no_items)) ∷ version_lines) = record { counted = (tt, (tt, tt)); octets = omega (arith, two_octets) } in
    let behind = joined lines [] (fibres_octets (f ∷ fs)) 0 (fibres_within (f ∷ fs) short) no_lines in
    rw (are_fibres fs) (within (24 + (fibres_octets (f ∷ fs) + 0)) ((12 + fibres_octets (f ∷ fs)) + 12)
    (((([], codes "module"), key_value (array no_items)) ∷ version_lines) ++ (lines ++ [])) (omega arith)
    (joined ((([], codes "module"), key_value (array no_items)) ∷ version_lines) (lines ++ []) 24 (fibres_octets (f ∷ fs) + 0) front behind))
document_within (f ∷ fs) (m ∷ ms) short names =
    let lines = elements fibre_key (items_of (map (λ f. table (fibre_members f)) (f ∷ fs))) in
    let more = elements module_key (items_of (map (λ m. table (module_members m)) (m ∷ ms))) in
    let front : AreWithin 12 version_lines = record { counted = (tt, tt); octets = omega (arith, two_octets) } in
    let last = joined more [] (modules_octets (m ∷ ms)) 0 (modules_within (m ∷ ms) names) no_lines in
    let behind = joined lines (more ++ []) (fibres_octets (f ∷ fs)) (modules_octets (m ∷ ms) + 0) (fibres_within (f ∷ fs) short) last in
    rw (are_fibres fs, are_modules ms)
    (within (12 + (fibres_octets (f ∷ fs) + (modules_octets (m ∷ ms) + 0))) ((12 + fibres_octets (f ∷ fs)) + modules_octets (m ∷ ms))
    (version_lines ++ (lines ++ (more ++ []))) (omega arith)
    (joined version_lines (lines ++ (more ++ [])) 12 (fibres_octets (f ∷ fs) + (modules_octets (m ∷ ms) + 0)) front behind))

-- ---- names

any_false : (p : ℕ → Bool) → ((c : ℕ) → is_name_octet c ≡ true → p c ≡ false) → (s : List ℕ) → list_all is_name_octet s ≡ true → list_any p s ≡ false
any_false p h [] all = refl
any_false p h (c ∷ cs) all =
    let parts = and_parts (is_name_octet c) (list_all is_name_octet cs) all in
    rw (h c parts.0, any_false p h cs parts.1) refl

no_control : (c : ℕ) → is_name_octet c ≡ true → is_control c ≡ false
no_control c is = grind (arith, nat_tests, is)

no_escape : (quotes c : ℕ) → is_name_octet c ≡ true → needs_escape false quotes c ≡ false
unfolding needs_escape
no_escape quotes c is = grind (arith, nat_tests, is)

other_octet : (b c : ℕ) → is_name_octet b ≡ false → is_name_octet c ≡ true → (c == b) ≡ false
other_octet b c none is = grind (arith, nat_tests, none, is)

escaped_length : (quotes : ℕ) (s : List ℕ) → list_all is_name_octet s ≡ true → length (escaped false quotes s) ≡ length s
unfolding escaped
escaped_length quotes [] all = refl
escaped_length quotes (c ∷ cs) all =
    let parts = and_parts (is_name_octet c) (list_all is_name_octet cs) all in
    let more = escaped_length (quotes_after false quotes c) cs parts.1 in
    rw (no_escape quotes c parts.0) (omega (arith, more))

plain_short : (s : List ℕ) → list_all is_name_octet s ≡ true → IsShortName s
unfolding string_text encoding_of
plain_short s all =
    let size = escaped_length 0 s all in
    let parts = length-append (escaped false 0 s) (34 ∷ []) in
    rw (
      any_false is_control no_control s all,
      any_false (λ c. c == 92) (λ c. other_octet 92 c refl) s all,
      any_false (λ c. c == 34) (λ c. other_octet 34 c refl) s all,
      any_false (λ c. c == 10) (λ c. other_octet 10 c refl) s all,
    ) (omega (arith, size, parts))

name_octets : (c : ℕ) (cs : List ℕ) → is_name (c ∷ cs) ≡ true → list_all is_name_octet (c ∷ cs) ≡ true
name_octets c cs is =
    let parts = and_parts (is_letter c) _ is in
    let rest = and_parts (list_all is_name_octet cs) _ parts.1 in
    rw (parts.0, rest.0) refl

short_if : (name : List ℕ) (b : Bool) → is_name name ≡ b → IsShortName (cond b name [])
short_if name false is = plain_short [] refl
short_if [] true is = plain_short [] refl
short_if (c ∷ cs) true is = plain_short (c ∷ cs) (name_octets c cs is)

-- a name that was read, or none
pub read_short : (o : Option (List ℕ)) → IsShortName (name_or_none o)
read_short None = plain_short [] refl
read_short (Some name) = short_if name (is_name name) refl

-- ---- the law

abbrev pub document_octets : Database → ℕ
document_octets db = (12 + fibres_part db.fibres) + modules_part db.modules

-- the text of a database whose names are plain has at most this many octets
pub printed_le : (db : Database) (text : List ℕ) → HaveShortFibres db.fibres → HaveShortNames db.modules → IsTextDue db text → length text ≤ document_octets db
printed_le db text short names due =
    let lines = document_within db.fibres db.modules short names in
    let most = lines.octets in
    let size = lines_length false (expressions (document_of db)) text lines.counted due in
    omega (arith, most, size)
