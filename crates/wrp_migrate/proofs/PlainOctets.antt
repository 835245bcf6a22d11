-- What `toml` writes for a table is of octets below 128 if its names and keys are.
use Rattle.std.proofs.Common.{inl, inr, suc, ◌<◌, ◌/◌, ◌%◌, ◌^◌, ◌==◌, ◌||◌, ◌&&◌, lit<, ℕ, ℤ, pos, negsuc, Bool, true, false, if◌then◌else◌, List, [], ◌∷◌, ◌++◌, codes, nat_lt, not, length, sym, subst, arith, FitsSigned}
use Rattle.std.proofs.ByRecursion.{IsAscii-from_all, All-from_ascii}
use Rattle.std.proofs.lemmas.Bool.{cases_Bool}
use Rattle.std.proofs.lemmas.Fmt.{IsAscii-decimal_wide}
use Rattle.std.proofs.lemmas.Int.{ints}
use Rattle.std.proofs.lemmas.Str.{IsUtf8-from_ascii}
use Rattle.std.specs.Fmt.{decimal, signed_decimal, digit_glyph}
use Rattle.std.specs.Int.{w64}
use Rattle.std.specs.List.{AllByRecursion, list_all}
use Rattle.std.specs.Str.{IsUtf8}
use Rattle.toml.specs.Data.{Data, string, integer, float, boolean, datetime, array, table, Items, no_items, item, Members, no_members, member}
use Rattle.toml.specs.Tables.{Definition, key_value, std_table, array_table, Expression}
use Rattle.toml.specs.Text.{IsValueText, IsItemsText, IsMembersText, IsLineText, IsLinesText, IsDocumentText, before_item, after_item, array_end, before_member, table_end, breaks_lines, gap, header_open, header_close, is_section, are_tables, needs_header, header_of, pairs, sections, section, elements, expressions}
use Rattle.toml_parser.specs.Lexical.{is_bare, is_non_eol}
use Rattle.toml_writer.specs.Text.{escape_letter, escape_text, needs_escape, quotes_after, escaped, Encoding, basic, literal, multi_basic, multi_literal, encoding_of, encoded, opening_newline, has, string_text, key_text, path_text, dotted_text}

-- an octet below 128, and octets that are
abbrev pub IsLow : ℕ → Type 0
IsLow c = c < 128

abbrev pub AreLow : List ℕ → Type 0
AreLow cs = AllByRecursion IsLow cs

-- of two lists
pub low_both : (xs ys : List ℕ) → AreLow xs → AreLow ys → AreLow (xs ++ ys)
low_both [] ys h k = k
low_both (x ∷ xs) ys h k = (h.0, low_both xs ys h.1 k)

low_if : (b : Bool) (xs ys : List ℕ) → AreLow xs → AreLow ys → AreLow (if b then xs else ys)
low_if true xs ys h k = h
low_if false xs ys h k = k

-- ---- numbers and strings

low_decimal : (n : ℕ) → n < 2 ^ 64 → AreLow (decimal n)
low_decimal n small = All-from_ascii (decimal n) (IsAscii-decimal_wide n (omega arith))

low_number : (z : ℤ) → FitsSigned w64 z → AreLow (signed_decimal z)
low_number (pos n) fits = low_decimal n (grind (arith, ints, fits))
low_number (negsuc n) fits = (lit< tt, low_decimal (suc n) (grind (arith, ints, fits)))

low_digit : (d : ℕ) → d < 16 → IsLow (digit_glyph true d)
low_digit d small = elim (cases_Bool (nat_lt d 10)) [
  | inl digit ↦ rw digit (omega arith)
  | inr letter ↦ rw letter (omega arith)
]

letter_if : (b : Bool) (x y : ℕ) → IsLow x → IsLow y → IsLow (if b then x else y)
letter_if true x y h k = h
letter_if false x y h k = k

low_letter : (c : ℕ) → IsLow c → IsLow (escape_letter c)
low_letter c h =
    letter_if (c == 8) 98 _ (lit< tt)
    (letter_if (c == 9) 116 _ (lit< tt)
    (letter_if (c == 10) 110 _ (lit< tt)
    (letter_if (c == 12) 102 _ (lit< tt) (letter_if (c == 13) 114 _ (lit< tt) (letter_if (c == 34 || c == 92) c 0 h (lit< tt))))))

low_escape : (c : ℕ) → IsLow c → AreLow (escape_text c)
low_escape c h =
    low_if (escape_letter c == 0) (codes "\\u00" ++ digit_glyph true (c / 16) ∷ digit_glyph true (c % 16) ∷ []) (92 ∷ escape_letter c ∷ [])
    (lit< tt, (lit< tt, (lit< tt, (lit< tt, (low_digit (c / 16) (omega arith), (low_digit (c % 16) (omega arith), tt)))))) (lit< tt, (low_letter c h, tt))

low_escaped : (multi : Bool) (quotes : ℕ) (s : List ℕ) → AreLow s → AreLow (escaped multi quotes s)
unfolding escaped
low_escaped multi quotes [] h = tt
low_escaped multi quotes (c ∷ cs) h =
    low_both (if needs_escape multi quotes c then escape_text c else c ∷ []) (escaped multi (quotes_after multi quotes c) cs)
    (low_if (needs_escape multi quotes c) (escape_text c) (c ∷ []) (low_escape c h.0) (h.0, tt)) (low_escaped multi (quotes_after multi quotes c) cs h.1)

low_opening : (s : List ℕ) → AreLow (opening_newline s)
low_opening s = low_if (has 10 s) (10 ∷ []) [] (lit< tt, tt) tt

-- three of one octet
low_three : (c : ℕ) → IsLow c → AreLow (c ∷ c ∷ c ∷ [])
low_three c h = (h, (h, (h, tt)))

low_encoded : (e : Encoding) (s : List ℕ) → AreLow s → AreLow (encoded e s)
low_encoded basic s h = (lit< tt, low_both (escaped false 0 s) (34 ∷ []) (low_escaped false 0 s h) (lit< tt, tt))
low_encoded literal s h = (lit< tt, low_both s (39 ∷ []) h (lit< tt, tt))
low_encoded multi_basic s h =
    low_both (codes "\"\"\"") (opening_newline s ++ (escaped true 0 s ++ codes "\"\"\"")) (low_three 34 (lit< tt))
    (low_both (opening_newline s) (escaped true 0 s ++ codes "\"\"\"") (low_opening s)
    (low_both (escaped true 0 s) (codes "\"\"\"") (low_escaped true 0 s h) (low_three 34 (lit< tt))))
low_encoded multi_literal s h =
    low_both (codes "'''") (opening_newline s ++ (s ++ codes "'''")) (low_three 39 (lit< tt))
    (low_both (opening_newline s) (s ++ codes "'''") (low_opening s) (low_both s (codes "'''") h (low_three 39 (lit< tt))))

low_string : (s : List ℕ) → AreLow s → AreLow (string_text s)
unfolding string_text
low_string s h = low_encoded (encoding_of s) s h

low_key : (k : List ℕ) → AreLow k → AreLow (key_text k)
unfolding key_text
low_key k h =
    let is_short : Bool = nat_lt 0 (length k) && list_all is_bare k in
    let is_literal : Bool = list_all is_non_eol k && ((has 92 k || has 34 k) && not (has 39 k)) in
    low_if is_short k (if is_literal then encoded literal k else encoded basic k) h
    (low_if is_literal (encoded literal k) (encoded basic k) (low_encoded literal k h) (low_encoded basic k h))

-- a key of several parts
abbrev Key : Type 0
Key = List (List ℕ) × List ℕ

-- each part is of octets below 128
abbrev IsLowKey : Key → Type 0
IsLowKey key = AllByRecursion AreLow key.0 × AreLow key.1

low_path : (path : List (List ℕ)) → AllByRecursion AreLow path → AreLow (path_text path)
low_path [] h = tt
low_path (k ∷ path) h = low_both (key_text k) (46 ∷ path_text path) (low_key k h.0) (lit< tt, low_path path h.1)

low_dotted : (key : Key) → IsLowKey key → AreLow (dotted_text key)
low_dotted key h = low_both (path_text key.0) (key_text key.1) (low_path key.0 h.0) (low_key key.1 h.1)

under_path : (path : List (List ℕ)) (k : List ℕ) → AllByRecursion AreLow path → AreLow k → AllByRecursion AreLow (path ++ k ∷ [])
under_path [] k h low = (low, tt)
under_path (p ∷ path) k h low = (h.0, under_path path k h.1 low)

-- ---- values

-- names and keys of octets below 128, no floats and no dates
abbrev mutual
  pub IsPlain : Data → Type 0
  IsPlain (string s) = AreLow s
  IsPlain (integer z) = Unit {0}
  IsPlain (float x) = ⊥
  IsPlain (boolean b) = Unit {0}
  IsPlain (datetime dt) = ⊥
  IsPlain (array ds) = ItemsArePlain ds
  IsPlain (table ms) = MembersArePlain ms

  pub ItemsArePlain : Items → Type 0
  ItemsArePlain no_items = Unit {0}
  ItemsArePlain (item d ds) = IsPlain d × ItemsArePlain ds

  pub MembersArePlain : Members → Type 0
  MembersArePlain no_members = Unit {0}
  MembersArePlain (member k d ms) = AreLow k × IsPlain d × MembersArePlain ms

low_before : (lines is_first : Bool) → AreLow (before_item lines is_first)
low_before true is_first = (lit< tt, (lit< tt, (lit< tt, (lit< tt, (lit< tt, tt)))))
low_before false true = tt
low_before false false = (lit< tt, (lit< tt, tt))

low_after : (lines : Bool) → AreLow (after_item lines)
low_after true = (lit< tt, tt)
low_after false = tt

low_array_end : (lines : Bool) → AreLow (array_end lines)
low_array_end true = (lit< tt, (lit< tt, tt))
low_array_end false = (lit< tt, tt)

low_before_member : (is_first : Bool) → AreLow (before_member is_first)
low_before_member true = (lit< tt, tt)
low_before_member false = (lit< tt, (lit< tt, tt))

low_table_end : (is_first : Bool) → AreLow (table_end is_first)
low_table_end true = (lit< tt, tt)
low_table_end false = (lit< tt, (lit< tt, tt))

mutual
  low_value : (pretty : Bool) (d : Data) (text : List ℕ) → IsPlain d → IsValueText pretty d text → AreLow text
  low_value pretty (string s) text h is = subst AreLow (sym is) (low_string s h)
  low_value pretty (integer z) text h is = subst AreLow (sym is.0) (low_number z is.1)
  low_value pretty (float x) text h is = absurd h
  low_value pretty (boolean b) text h is =
      subst AreLow (sym is) (low_if b (codes "true") (codes "false") (lit< tt, (lit< tt, (lit< tt, (lit< tt, tt)))) (lit< tt, (lit< tt, (lit< tt, (lit< tt, (lit< tt, tt))))))
  low_value pretty (datetime dt) text h is = absurd h
  low_value pretty (array ds) text h is = subst AreLow (sym is.1) (lit< tt, low_items pretty (breaks_lines pretty ds) true ds is.0 h is.2)
  low_value pretty (table ms) text h is = subst AreLow (sym is.1) (lit< tt, low_members pretty true ms is.0 h is.2)

  low_items : (pretty lines is_first : Bool) (ds : Items) (text : List ℕ) → ItemsArePlain ds → IsItemsText pretty lines is_first ds text → AreLow text
  low_items pretty lines is_first no_items text h is = subst AreLow (sym is) (low_array_end lines)
  low_items pretty lines is_first (item d ds) text h is =
      subst AreLow (sym is.2)
      (low_both (before_item lines is_first) (is.0 ++ (after_item lines ++ is.1)) (low_before lines is_first)
      (low_both is.0 (after_item lines ++ is.1) (low_value pretty d is.0 h.0 is.3)
      (low_both (after_item lines) is.1 (low_after lines) (low_items pretty lines false ds is.1 h.1 is.4))))

  low_members : (pretty is_first : Bool) (ms : Members) (text : List ℕ) → MembersArePlain ms → IsMembersText pretty is_first ms text → AreLow text
  low_members pretty is_first no_members text h is = subst AreLow (sym is) (low_table_end is_first)
  low_members pretty is_first (member k d ms) text h is =
      subst AreLow (sym is.2)
      (low_both (before_member is_first) (key_text k ++ (codes " = " ++ (is.0 ++ is.1))) (low_before_member is_first)
      (low_both (key_text k) (codes " = " ++ (is.0 ++ is.1)) (low_key k h.0)
      (lit< tt, (lit< tt, (lit< tt, low_both is.0 is.1 (low_value pretty d is.0 h.1 is.3) (low_members pretty false ms is.1 h.2 is.4))))))

-- ---- lines

-- the same of what a line says
abbrev SaysPlain : Definition → Type 0
SaysPlain (key_value d) = IsPlain d
SaysPlain std_table = Unit {0}
SaysPlain array_table = Unit {0}

abbrev LinesArePlain : List Expression → Type 0
LinesArePlain [] = Unit {0}
LinesArePlain (x ∷ xs) = IsLowKey x.0 × SaysPlain x.1 × LinesArePlain xs

low_gap : (started : Bool) → AreLow (gap started)
low_gap true = (lit< tt, tt)
low_gap false = tt

low_header : (started is_array : Bool) (key : Key) → IsLowKey key → AreLow (gap started ++ (header_open is_array ++ (dotted_text key ++ header_close is_array)))
low_header started true key h =
    low_both (gap started) (codes "[[" ++ (dotted_text key ++ codes "]]\n")) (low_gap started)
    (lit< tt, (lit< tt, (low_both (dotted_text key) (codes "]]\n") (low_dotted key h) (lit< tt, (lit< tt, (lit< tt, tt))))))
low_header started false key h =
    low_both (gap started) (codes "[" ++ (dotted_text key ++ codes "]\n")) (low_gap started)
    (lit< tt, (low_both (dotted_text key) (codes "]\n") (low_dotted key h) (lit< tt, (lit< tt, tt))))

low_line : (pretty started : Bool) (key : Key) (x : Definition) (text : List ℕ) → IsLowKey key → SaysPlain x → IsLineText pretty started key x text → AreLow text
low_line pretty started key (key_value d) text low h is =
    subst AreLow (sym is.1)
    (low_both (dotted_text key) (codes " = " ++ (is.0 ++ 10 ∷ [])) (low_dotted key low)
    (lit< tt, (lit< tt, (lit< tt, low_both is.0 (10 ∷ []) (low_value pretty d is.0 h is.2) (lit< tt, tt)))))
low_line pretty started key std_table text low h is = subst AreLow (sym is) (low_header started false key low)
low_line pretty started key array_table text low h is = subst AreLow (sym is) (low_header started true key low)

low_lines : (pretty started : Bool) (xs : List Expression) (text : List ℕ) → LinesArePlain xs → IsLinesText pretty started xs text → AreLow text
low_lines pretty started [] text h is = subst AreLow (sym is) tt
low_lines pretty started (x ∷ xs) text h is =
    subst AreLow (sym is.2) (low_both is.0 is.1 (low_line pretty started x.0 x.1 is.0 h.0 h.1 is.3) (low_lines pretty true xs is.1 h.2 is.4))

-- ---- the lines of a plain table are plain

joined : (xs ys : List Expression) → LinesArePlain xs → LinesArePlain ys → LinesArePlain (xs ++ ys)
joined [] ys h k = k
joined (x ∷ xs) ys h k = (h.0, h.1, joined xs ys h.2 k)

lines_if : (b : Bool) (xs ys : List Expression) → LinesArePlain xs → LinesArePlain ys → LinesArePlain (if b then xs else ys)
lines_if true xs ys h k = h
lines_if false xs ys h k = k

plain_pairs : (ms : Members) → MembersArePlain ms → LinesArePlain (pairs ms)
plain_pairs no_members h = tt
plain_pairs (member k d ms) h =
    let more = plain_pairs ms h.2 in
    lines_if (is_section d) (pairs ms) ((([], k), key_value d) ∷ pairs ms) more ((tt, h.0), h.1, more)

plain_header : (key : Key) (ms : Members) → IsLowKey key → LinesArePlain (header_of key ms)
plain_header key ms low = lines_if (needs_header ms) ((key, std_table) ∷ []) [] (low, tt, tt) tt

mutual
  plain_sections : (path : List (List ℕ)) (ms : Members) → AllByRecursion AreLow path → MembersArePlain ms → LinesArePlain (sections path ms)
  plain_sections path no_members low h = tt
  plain_sections path (member k d ms) low h =
      joined (section (path, k) d) (sections path ms) (plain_section (path, k) d (low, h.0) h.1) (plain_sections path ms low h.2)

  plain_section : (key : Key) (d : Data) → IsLowKey key → IsPlain d → LinesArePlain (section key d)
  plain_section key (string s) low h = tt
  plain_section key (integer z) low h = tt
  plain_section key (float x) low h = tt
  plain_section key (boolean b) low h = tt
  plain_section key (datetime dt) low h = tt
  plain_section key (array ds) low h = lines_if (are_tables ds) (elements key ds) [] (plain_elements key ds low h) tt
  plain_section key (table ms) low h =
      let path = key.0 ++ key.1 ∷ [] in
      joined (header_of key ms) (pairs ms ++ sections path ms) (plain_header key ms low)
      (joined (pairs ms) (sections path ms) (plain_pairs ms h) (plain_sections path ms (under_path key.0 key.1 low.0 low.1) h))

  plain_elements : (key : Key) (ds : Items) → IsLowKey key → ItemsArePlain ds → LinesArePlain (elements key ds)
  plain_elements key no_items low h = tt
  plain_elements key (item (string s) ds) low h = plain_elements key ds low h.1
  plain_elements key (item (integer z) ds) low h = plain_elements key ds low h.1
  plain_elements key (item (float x) ds) low h = plain_elements key ds low h.1
  plain_elements key (item (boolean b) ds) low h = plain_elements key ds low h.1
  plain_elements key (item (datetime dt) ds) low h = plain_elements key ds low h.1
  plain_elements key (item (array es) ds) low h = plain_elements key ds low h.1
  plain_elements key (item (table ms) ds) low h =
      let path = key.0 ++ key.1 ∷ [] in
      let inside = joined (pairs ms) (sections path ms) (plain_pairs ms h.0) (plain_sections path ms (under_path key.0 key.1 low.0 low.1) h.0) in
      (low, tt, joined (pairs ms ++ sections path ms) (elements key ds) inside (plain_elements key ds low h.1))

-- the text of a plain table is of octets below 128
pub utf8_document : (pretty : Bool) (ms : Members) (text : List ℕ) → MembersArePlain ms → IsDocumentText pretty ms text → IsUtf8 text
utf8_document pretty ms text h is =
    let lines = joined (pairs ms) (sections [] ms) (plain_pairs ms h) (plain_sections [] ms tt h) in
    IsUtf8-from_ascii text (IsAscii-from_all text (low_lines pretty false (expressions ms) text lines is))
