-- The texts that `toml` writes for a document. The relation leaves a choice only at floats, and is empty only if a
-- whole number does not fit or the keys of a table do not ascend: without these a document has exactly one text.
use Rattle.std.proofs.Common.{◌≡◌, ◌++◌, ℕ, ℤ, List, [], ◌∷◌, Bool, true, false, FitsSigned, refl, sym, ap, ap₂, ◌∙◌}
use Rattle.std.specs.Int.{w64}
use Rattle.std.specs.Prelude.{codes, if◌then◌else◌}
use Rattle.toml.specs.Data.{Data, string, integer, float, boolean, datetime, array, table, Items, no_items, item, Members, no_members, member, is_before}
use Rattle.toml.specs.Tables.{Definition, key_value, std_table, array_table, Expression}
use Rattle.toml.specs.Text.{IsValueText, IsItemsText, IsMembersText, IsLineText, IsLinesText, IsDocumentText, breaks_lines, before_item, after_item, array_end, is_section, are_tables, needs_header, header_of, pairs, sections, section, elements, expressions}

-- a key of several parts
abbrev Key : Type 0
Key = List (List ℕ) × List ℕ

-- whole numbers of this kind, no floats, and keys that ascend
module _ (IsNumber : ℤ → Type 0) where
  abbrev mutual
    pub IsPlain : Data → Type 0
    IsPlain (integer z) = IsNumber z
    IsPlain (float x) = ⊥
    IsPlain (array ds) = ItemsArePlain ds
    IsPlain (table ms) = MembersArePlain ms
    IsPlain _ = Unit {0}

    pub ItemsArePlain : Items → Type 0
    ItemsArePlain no_items = Unit {0}
    ItemsArePlain (item d ds) = IsPlain d × ItemsArePlain ds

    pub MembersArePlain : Members → Type 0
    MembersArePlain no_members = Unit {0}
    MembersArePlain (member k d ms) = IsPlain d × MembersArePlain ms × (is_before k ms ≡ true)

  -- the same of what a line says
  abbrev pub SaysPlain : Definition → Type 0
  SaysPlain (key_value d) = IsPlain d
  SaysPlain std_table = Unit {0}
  SaysPlain array_table = Unit {0}

  abbrev pub LinesArePlain : List Expression → Type 0
  LinesArePlain [] = Unit {0}
  LinesArePlain (x ∷ xs) = SaysPlain x.1 × LinesArePlain xs

-- ---- the lines of a plain table are plain

joined : (Q : ℤ → Type 0) (xs ys : List Expression) → LinesArePlain Q xs → LinesArePlain Q ys → LinesArePlain Q (xs ++ ys)
joined Q [] ys h k = k
joined Q (x ∷ xs) ys h k = (h.0, joined Q xs ys h.1 k)

pair_if : (Q : ℤ → Type 0) (b : Bool) (x : Expression) (xs : List Expression) → SaysPlain Q x.1 → LinesArePlain Q xs
    → LinesArePlain Q (if b then xs else x ∷ xs)
pair_if Q true x xs h k = k
pair_if Q false x xs h k = (h, k)

plain_pairs : (Q : ℤ → Type 0) (ms : Members) → MembersArePlain Q ms → LinesArePlain Q (pairs ms)
plain_pairs Q no_members h = tt
plain_pairs Q (member k d ms) h = pair_if Q (is_section d) (([], k), key_value d) (pairs ms) h.0 (plain_pairs Q ms h.1)

lines_if : (Q : ℤ → Type 0) (b : Bool) (xs : List Expression) → LinesArePlain Q xs → LinesArePlain Q (if b then xs else [])
lines_if Q true xs h = h
lines_if Q false xs h = tt

plain_header : (Q : ℤ → Type 0) (key : Key) (ms : Members) → LinesArePlain Q (header_of key ms)
plain_header Q key ms = lines_if Q (needs_header ms) ((key, std_table) ∷ []) (tt, tt)

mutual
  plain_sections : (Q : ℤ → Type 0) (path : List (List ℕ)) (ms : Members) → MembersArePlain Q ms → LinesArePlain Q (sections path ms)
  plain_sections Q path no_members h = tt
  plain_sections Q path (member k d ms) h =
      joined Q (section (path, k) d) (sections path ms) (plain_section Q (path, k) d h.0) (plain_sections Q path ms h.1)

  plain_section : (Q : ℤ → Type 0) (key : Key) (d : Data) → IsPlain Q d → LinesArePlain Q (section key d)
  plain_section Q key (string s) h = tt
  plain_section Q key (integer z) h = tt
  plain_section Q key (float x) h = tt
  plain_section Q key (boolean b) h = tt
  plain_section Q key (datetime dt) h = tt
  plain_section Q key (array ds) h = lines_if Q (are_tables ds) (elements key ds) (plain_elements Q key ds h)
  plain_section Q key (table ms) h =
      let path = key.0 ++ key.1 ∷ [] in
      joined Q (header_of key ms) (pairs ms ++ sections path ms) (plain_header Q key ms)
      (joined Q (pairs ms) (sections path ms) (plain_pairs Q ms h) (plain_sections Q path ms h))

  plain_elements : (Q : ℤ → Type 0) (key : Key) (ds : Items) → ItemsArePlain Q ds → LinesArePlain Q (elements key ds)
  plain_elements Q key no_items h = tt
  plain_elements Q key (item (string s) ds) h = plain_elements Q key ds h.1
  plain_elements Q key (item (integer z) ds) h = plain_elements Q key ds h.1
  plain_elements Q key (item (float x) ds) h = plain_elements Q key ds h.1
  plain_elements Q key (item (boolean b) ds) h = plain_elements Q key ds h.1
  plain_elements Q key (item (datetime dt) ds) h = plain_elements Q key ds h.1
  plain_elements Q key (item (array es) ds) h = plain_elements Q key ds h.1
  plain_elements Q key (item (table ms) ds) h =
      let path = key.0 ++ key.1 ∷ [] in
      let inside = joined Q (pairs ms) (sections path ms) (plain_pairs Q ms h.0) (plain_sections Q path ms h.0) in
      (tt, joined Q (pairs ms ++ sections path ms) (elements key ds) inside (plain_elements Q key ds h.1))

plain_lines : (Q : ℤ → Type 0) (ms : Members) → MembersArePlain Q ms → LinesArePlain Q (expressions ms)
plain_lines Q ms h = joined Q (pairs ms) (sections [] ms) (plain_pairs Q ms h) (plain_sections Q [] ms h)

-- ---- two texts are one

mutual
  one_value : (Q : ℤ → Type 0) (pretty : Bool) (d : Data) (a b : List ℕ) → IsPlain Q d → IsValueText pretty d a → IsValueText pretty d b → a ≡ b
  one_value Q pretty (string s) a b h e f = e ∙ sym f
  one_value Q pretty (integer z) a b h e f = e.0 ∙ sym f.0
  one_value Q pretty (float x) a b h e f = absurd h
  one_value Q pretty (boolean c) a b h e f = e ∙ sym f
  one_value Q pretty (datetime dt) a b h e f = e ∙ sym f
  one_value Q pretty (array ds) a b h e f =
      e.1 ∙ ap (λ rest. codes "[" ++ rest) (one_items Q pretty (breaks_lines pretty ds) true ds e.0 f.0 h e.2 f.2) ∙ sym f.1
  one_value Q pretty (table ms) a b h e f =
      e.1 ∙ ap (λ rest. codes "{" ++ rest) (one_members Q pretty true ms e.0 f.0 h e.2 f.2) ∙ sym f.1

  one_items : (Q : ℤ → Type 0) (pretty lines is_first : Bool) (ds : Items) (a b : List ℕ) → ItemsArePlain Q ds
      → IsItemsText pretty lines is_first ds a → IsItemsText pretty lines is_first ds b → a ≡ b
  one_items Q pretty lines is_first no_items a b h e f = e ∙ sym f
  one_items Q pretty lines is_first (item d ds) a b h e f =
      e.2
      ∙ ap₂ (λ this rest. before_item lines is_first ++ (this ++ (after_item lines ++ rest)))
      (one_value Q pretty d e.0 f.0 h.0 e.3 f.3) (one_items Q pretty lines false ds e.1 f.1 h.1 e.4 f.4)
      ∙ sym f.2

  one_members : (Q : ℤ → Type 0) (pretty is_first : Bool) (ms : Members) (a b : List ℕ) → MembersArePlain Q ms
      → IsMembersText pretty is_first ms a → IsMembersText pretty is_first ms b → a ≡ b
  one_members Q pretty is_first no_members a b h e f = e ∙ sym f
  one_members Q pretty is_first (member k d ms) a b h (this, rest, e, v, vs, up) (that, more, f, w, ws, also) =
      let same_value = one_value Q pretty d this that h.0 v w in
      let same_rest = one_members Q pretty false ms rest more h.1 vs ws in
      cc

one_line : (Q : ℤ → Type 0) (pretty started : Bool) (key : Key) (x : Definition) (a b : List ℕ) → SaysPlain Q x
    → IsLineText pretty started key x a → IsLineText pretty started key x b → a ≡ b
one_line Q pretty started key (key_value d) a b h (this, e, v) (that, f, w) =
    let same_value = one_value Q pretty d this that h v w in cc
one_line Q pretty started key std_table a b h e f = e ∙ sym f
one_line Q pretty started key array_table a b h e f = e ∙ sym f

one_text_of_lines : (Q : ℤ → Type 0) (pretty started : Bool) (xs : List Expression) (a b : List ℕ) → LinesArePlain Q xs
    → IsLinesText pretty started xs a → IsLinesText pretty started xs b → a ≡ b
one_text_of_lines Q pretty started [] a b h e f = e ∙ sym f
one_text_of_lines Q pretty started (x ∷ xs) a b h e f =
    e.2
    ∙ ap₂ (λ this rest. this ++ rest) (one_line Q pretty started x.0 x.1 e.0 f.0 h.0 e.3 f.3)
    (one_text_of_lines Q pretty true xs e.1 f.1 h.1 e.4 f.4)
    ∙ sym f.2

-- two texts of a plain table are one, whatever its numbers
pub one_document : (Q : ℤ → Type 0) (pretty : Bool) (ms : Members) → MembersArePlain Q ms → (a b : List ℕ)
    → IsDocumentText pretty ms a → IsDocumentText pretty ms b → a ≡ b
one_document Q pretty ms h a b e f = one_text_of_lines Q pretty false (expressions ms) a b (plain_lines Q ms h) e f

-- ---- there is one

-- a whole number of 64 bits
abbrev pub Fits : ℤ → Type 0
Fits z = FitsSigned w64 z

mutual
  value_text : (pretty : Bool) (d : Data) → IsPlain Fits d → (text : List ℕ) × IsValueText pretty d text
  value_text pretty (string s) h = (_, refl)
  value_text pretty (integer z) h = (_, (refl, h))
  value_text pretty (float x) h = absurd h
  value_text pretty (boolean b) h = (_, refl)
  value_text pretty (datetime dt) h = (_, refl)
  value_text pretty (array ds) h =
      let rest = items_text pretty (breaks_lines pretty ds) true ds h in (_, (rest.0, refl, rest.1))
  value_text pretty (table ms) h = let rest = members_text pretty true ms h in (_, (rest.0, refl, rest.1))

  items_text : (pretty lines is_first : Bool) (ds : Items) → ItemsArePlain Fits ds → (text : List ℕ) × IsItemsText pretty lines is_first ds text
  items_text pretty lines is_first no_items h = (array_end lines, refl)
  items_text pretty lines is_first (item d ds) h =
      let this = value_text pretty d h.0 in
      let rest = items_text pretty lines false ds h.1 in
      (_, (this.0, rest.0, refl, this.1, rest.1))

  members_text : (pretty is_first : Bool) (ms : Members) → MembersArePlain Fits ms → (text : List ℕ) × IsMembersText pretty is_first ms text
  members_text pretty is_first no_members h = (_, refl)
  members_text pretty is_first (member k d ms) h =
      let this = value_text pretty d h.0 in
      let rest = members_text pretty false ms h.1 in
      (_, (this.0, rest.0, refl, this.1, rest.1, h.2))

line_text : (pretty started : Bool) (key : Key) (x : Definition) → SaysPlain Fits x → (text : List ℕ) × IsLineText pretty started key x text
line_text pretty started key (key_value d) h = let this = value_text pretty d h in (_, (this.0, refl, this.1))
line_text pretty started key std_table h = (_, refl)
line_text pretty started key array_table h = (_, refl)

lines_text : (pretty started : Bool) (xs : List Expression) → LinesArePlain Fits xs → (text : List ℕ) × IsLinesText pretty started xs text
lines_text pretty started [] h = ([], refl)
lines_text pretty started (x ∷ xs) h =
    let this = line_text pretty started x.0 x.1 h.0 in
    let rest = lines_text pretty true xs h.1 in
    (this.0 ++ rest.0, (this.0, rest.0, refl, this.1, rest.1))

-- a plain table whose numbers fit has a text
pub document_text : (pretty : Bool) (ms : Members) → MembersArePlain Fits ms → (text : List ℕ) × IsDocumentText pretty ms text
document_text pretty ms h = lines_text pretty false (expressions ms) (plain_lines Fits ms h)
