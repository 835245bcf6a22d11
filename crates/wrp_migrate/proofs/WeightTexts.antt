-- A text has at least half the octets that the table that it writes weighs.
use Rattle.std.proofs.Common.{◌≡◌, ◌≤◌, ◌<◌, ◌+◌, ◌*◌, ◌==◌, ◌&&◌, ◌||◌, cond, ℕ, zero, suc, true, false, Bool, List, [], ◌∷◌, length, drop, Some, None, option_map, option_and_then, is_some, unwrap_or, refl, sym, ap, ◌∙◌, subst, inl, inr, arith, eqb-true}
use Rattle.std.proofs.lemmas.Bool.{cases_Bool, and_parts}
use Rattle.std.proofs.lemmas.Bool.Decides.{nat_tests}
use Rattle.std.proofs.lemmas.Option.{none-some, same_Some}
use Rattle.std.specs.Prelude.{slice_index}
use Rattle.toml.specs.Data.{Data, string, array, table, Items, no_items, Members, push_item}
use Rattle.toml.specs.Parse.{after_byte, after_element, key_equals, keyval, items, members, scalar_data, atom, val, header_key, expression, ends_line, line, lines, skip_bom, parse_document}
use Rattle.toml.specs.Tables.{Nodes, no_nodes, close, key_value, std_table, array_table, Document, Expression, put, define}
use Rattle.toml_parser.specs.Lexical.{Read, first, skip_ws, skip_from, skip_turn, skip_blank, is_ws}
use Rattle.toml_parser.specs.Numbers.{unquoted}
use Rattle.toml_parser.proofs.LexicalLemmas.{skip_ws_none}
use Rattle.toml_parser.specs.Strings.{Key, key, key_after, quoted, simple_key, starts_string}
use Rattle.toml_parser.specs.declared.scalar.Scalar.{Scalar}
use Rattle.toml_parser.specs.declared.scalar.Scalar.TheVariants.{Boolean, Integer, Float, Datetime}
use Rattle.wrp_migrate.proofs.Weight.{brace_weight, key_weight, weight, items_weight, members_weight}
use Rattle.wrp_migrate.proofs.WeightEdits.{define_adds, line_weight, nodes_weight, push_weight, put_adds}
use Rattle.wrp_migrate.proofs.WeightIntegers.{IsShort, unquoted_short}
use Rattle.wrp_migrate.proofs.WeightStrings.{byte_there, chained, drop_le, key_fits, mapped, quoted_fits, skip_from_le, skip_ws_le}

-- ---- what is between values

after_byte_fits : (byte : ℕ) (text rest : List ℕ) → 0 < byte → after_byte byte text ≡ Some rest → length rest + 1 ≡ length text
after_byte_fits byte text rest some e =
    elim (cases_Bool (first text == byte)) [
      | inl is ↦
          let left : length (drop 1 text) ≡ length rest = ap length (same_Some (drop 1 text) rest (rw is at e)) in
          let one = byte_there byte text some is in
          omega (arith, left, one)
      | inr other ↦ absurd (none-some rest (rw other at e))
    ]

-- the octet that ends an array or an inline table, if it comes next
abbrev end_weight : ℕ → List ℕ → ℕ
end_weight closing text = if_next (first (skip_blank text) == closing)
  where
    if_next : Bool → ℕ
    if_next b = cond b 2 0

abbrev IsClosing : ℕ → Type 0
IsClosing closing = (0 < closing) × ((next : ℕ) → skip_turn true false closing next ≡ None)

blank_stays : (closing : ℕ) (text : List ℕ) → IsClosing closing → (first text == closing) ≡ true → skip_blank text ≡ text
unfolding skip_from
blank_stays closing [] stop is = refl
blank_stays closing (c ∷ cs) stop is =
    let same : c ≡ closing = eqb-true c closing is in
    let stops : skip_turn true false c (first cs) ≡ None = ap (λ b. skip_turn true false b (first cs)) same ∙ stop.1 (first cs) in
    rw stops refl

-- a comma, or the end
after_element_fits : (closing : ℕ) (text rest : List ℕ) → IsClosing closing → after_element closing text ≡ Some rest
    → 2 * length rest + 2 ≤ 2 * length text + end_weight closing rest
unfolding after_element
after_element_fits closing text rest stop e =
    let start = skip_blank text in
    let less = skip_from_le true false text in
    elim (cases_Bool (first start == 44)) [
      | inl comma ↦
          let left : length (drop 1 start) ≡ length rest = ap length (same_Some (drop 1 start) rest (rw comma at e)) in
          let one = byte_there 44 start (omega arith) comma in
          omega (arith, left, one, less)
      | inr other ↦ elim (cases_Bool (first start == closing)) [
        | inl ends ↦
            let is : start ≡ rest = same_Some start rest (rw (other, ends) at e) in
            let stays : skip_blank start ≡ start = blank_stays closing start stop ends in
            let next : end_weight closing start ≡ 2 = rw (stays, ends) refl in
            let there : end_weight closing rest ≡ 2 = ap (end_weight closing) (sym is) ∙ next in
            let left = ap length is in
            omega (arith, there, left, less)
        | inr none ↦ absurd (none-some rest (rw (other, none) at e))
      ]
    ]

-- ---- values

-- a reader of values takes at least half the weight of the value, and of what ends it but that octet
abbrev ValueFits : Data → List ℕ → List ℕ → Type 0
ValueFits d rest text = (brace_weight d + weight d) + 2 * length rest ≤ 2 * length text + 2

abbrev Fits : (List ℕ → Read Data) → Type 0
Fits value = (text : List ℕ) (d : Data) (rest : List ℕ) → value text ≡ Some (d, rest) → ValueFits d rest text

is_bracket : IsClosing 93
is_bracket = (omega arith, λ next. refl)

is_brace : IsClosing 125
is_brace = (omega arith, λ next. refl)

items_fit : (value : List ℕ → Read Data) (n : ℕ) (found : Items) (text : List ℕ) (ds : Items) (rest : List ℕ) → Fits value
    → items value n found text ≡ Some (ds, rest) → (items_weight ds + 2 * length rest) + end_weight 93 text ≤ items_weight found + 2 * length text
unfolding items
items_fit value zero found text ds rest fits e = absurd (none-some (ds, rest) e)
items_fit value (suc n) found text ds rest fits e =
    let start = skip_blank text in
    let less = skip_from_le true false text in
    elim (cases_Bool (first start == 93)) [
      | inl ends ↦
          let same = same_Some (found, drop 1 start) (ds, rest) (rw ends at e) in
          let is : items_weight found ≡ items_weight ds = ap (λ p. items_weight p.0) same in
          let left : length (drop 1 start) ≡ length rest = ap (λ p. length p.1) same in
          let one = byte_there 93 start (omega arith) ends in
          let there : end_weight 93 text ≡ 2 = rw ends refl in
          omega (arith, is, left, one, less, there)
      | inr more ↦
          let first_value = chained (λ v. option_and_then (items value n (push_item found v.0)) (after_element 93 v.1)) (value start) (ds, rest)
          (rw more at e) in
          let v = first_value.0 in
          let next = chained (items value n (push_item found v.0)) (after_element 93 v.1) (ds, rest) first_value.2 in
          let on = items_fit value n (push_item found v.0) next.0 ds rest fits next.2 in
          let own = fits start v.0 v.1 first_value.1 in
          let between = after_element_fits 93 v.1 next.0 is_bracket next.1 in
          let pushed = push_weight found v.0 in
          let none : end_weight 93 text ≡ 0 = rw more refl in
          omega (arith, on, own, between, pushed, none, less)
    ]

key_equals_fits : (text : List ℕ) (k : Key) (rest : List ℕ) → key_equals text ≡ Some (k, rest) → (length k.1 + 1) + length rest ≤ length text
unfolding key_equals
key_equals_fits text k rest e =
    let found = chained (λ k. option_map (λ rest. (k.0, skip_ws rest)) (after_byte 61 k.1)) (key text) (k, rest) e in
    let own = key_fits text found.0.0 found.0.1 found.1 in
    let behind = mapped {B = Key × List ℕ} (λ rest. (found.0.0, skip_ws rest)) (after_byte 61 found.0.1) (k, rest) found.2 in
    let one = after_byte_fits 61 found.0.1 behind.0 (omega arith) behind.1 in
    let less = skip_ws_le behind.0 in
    let size : length found.0.0.1 ≡ length k.1 = ap (λ p. length p.0.1) behind.2 in
    let left : length (skip_ws behind.0) ≡ length rest = ap (λ p. length p.1) behind.2 in
    omega (arith, own, one, less, size, left)

key_weight_le : (k : List ℕ) (d : Data) → key_weight k d ≤ 2 * length k + 2
key_weight_le k (table ms) = omega arith
key_weight_le k _ = omega arith

keyval_fits : (value : List ℕ → Read Data) (text : List ℕ) (k : Key) (d : Data) (rest : List ℕ) → Fits value → keyval value text ≡ Some ((k, d), rest)
    → (key_weight k.1 d + weight d) + 2 * length rest ≤ 2 * length text + 2
keyval_fits value text k d rest fits e =
    let found = chained (λ k. option_map (λ p. ((k.0, p.0), p.1)) (value k.1)) (key_equals text) ((k, d), rest) e in
    let own = key_equals_fits text found.0.0 found.0.1 found.1 in
    let behind = mapped {B = (Key × Data) × List ℕ} (λ p. ((found.0.0, p.0), p.1)) (value found.0.1) ((k, d), rest) found.2 in
    let inside = fits found.0.1 behind.0.0 behind.0.1 behind.1 in
    let size : length found.0.0.1 ≡ length k.1 = ap (λ p. length p.0.0.1) behind.2 in
    let is : weight behind.0.0 ≡ weight d = ap (λ p. weight p.0.1) behind.2 in
    let left : length behind.0.1 ≡ length rest = ap (λ p. length p.1) behind.2 in
    let least = key_weight_le k.1 d in
    omega (arith, own, inside, size, is, left, least)

members_fit : (value : List ℕ → Read Data) (n : ℕ) (found : Nodes) (text : List ℕ) (ms : Members) (rest : List ℕ) → Fits value
    → members value n found text ≡ Some (ms, rest) → (members_weight ms + 2 * length rest) + end_weight 125 text ≤ nodes_weight found + 2 * length text
unfolding members
members_fit value zero found text ms rest fits e = absurd (none-some (ms, rest) e)
members_fit value (suc n) found text ms rest fits e =
    let start = skip_blank text in
    let less = skip_from_le true false text in
    elim (cases_Bool (first start == 125)) [
      | inl ends ↦
          let same = same_Some (close found, drop 1 start) (ms, rest) (rw ends at e) in
          let is : nodes_weight found ≡ members_weight ms = ap (λ p. members_weight p.0) same in
          let left : length (drop 1 start) ≡ length rest = ap (λ p. length p.1) same in
          let one = byte_there 125 start (omega arith) ends in
          let there : end_weight 125 text ≡ 2 = rw ends refl in
          omega (arith, is, left, one, less, there)
      | inr more ↦
          let pair = chained (λ e. option_and_then (λ more. option_and_then (members value n more) (after_element 125 e.1)) (put e.0.0 e.0.1 found))
          (keyval value start) (ms, rest) (rw more at e) in
          let read = pair.0 in
          let placed = chained (λ more. option_and_then (members value n more) (after_element 125 read.1)) (put read.0.0 read.0.1 found) (ms, rest) pair.2 in
          let next = chained (members value n placed.0) (after_element 125 read.1) (ms, rest) placed.2 in
          let on = members_fit value n placed.0 next.0 ms rest fits next.2 in
          let own = keyval_fits value start read.0.0 read.0.1 read.1 fits pair.1 in
          let between = after_element_fits 125 read.1 next.0 is_brace next.1 in
          let added = put_adds read.0.0.0 read.0.0.1 read.0.1 found placed.0 placed.1 in
          let none : end_weight 125 text ≡ 0 = rw more refl in
          omega (arith, on, own, between, added, none, less)
    ]

scalar_fits : (s : Scalar) (octets : ℕ) (rest text : List ℕ) → octets + length rest ≡ length text → IsShort octets s → ValueFits (scalar_data s) rest text
scalar_fits (Integer z) octets rest text all short = omega (arith, all, short)
scalar_fits (Boolean b) octets rest text all short = omega (arith, all)
scalar_fits (Float x) octets rest text all short = omega (arith, all)
scalar_fits (Datetime d) octets rest text all short = omega (arith, all)

value_is : (p q : Data × List ℕ) (text : List ℕ) → p ≡ q → ValueFits p.0 p.1 text → ValueFits q.0 q.1 text
value_is p q text is fits = subst (λ (r : Data × List ℕ). ValueFits r.0 r.1 text) is fits

atom_fits : Fits atom
unfolding atom
atom_fits text d rest e =
    elim (cases_Bool (starts_string text)) [
      | inl starts ↦
          let found = mapped (λ p. (string p.0, p.1)) (quoted text) (d, rest) (rw starts at e) in
          let own = quoted_fits text found.0.0 found.0.1 starts found.1 in
          value_is (string found.0.0, found.0.1) (d, rest) text found.2 (omega (arith, own))
      | inr other ↦
          let found = mapped (λ p. (scalar_data p.0, p.1)) (unquoted text) (d, rest) (rw other at e) in
          let own = unquoted_short text found.0.0 found.0.1 found.1 in
          value_is (scalar_data found.0.0, found.0.1) (d, rest) text found.2 (scalar_fits found.0.0 own.0 found.0.1 text own.1 own.2)
    ]

val_fits : (depth : ℕ) → Fits (val depth)
unfolding val
val_fits zero text d rest e = atom_fits text d rest e
val_fits (suc depth) text d rest e =
    elim (cases_Bool (first text == 91)) [
      | inl opens ↦
          let found = mapped (λ p. (array p.0, p.1)) (items (val depth) (length text) no_items (drop 1 text)) (d, rest) (rw opens at e) in
          let inside = items_fit (val depth) (length text) no_items (drop 1 text) found.0.0 found.0.1 (val_fits depth) found.1 in
          let one = byte_there 91 text (omega arith) opens in
          value_is (array found.0.0, found.0.1) (d, rest) text found.2 (omega (arith, inside, one))
      | inr other ↦ elim (cases_Bool (first text == 123)) [
        | inl opens ↦
            let found = mapped (λ p. (table p.0, p.1)) (members (val depth) (length text) no_nodes (drop 1 text)) (d, rest) (rw (other, opens) at e) in
            let inside = members_fit (val depth) (length text) no_nodes (drop 1 text) found.0.0 found.0.1 (val_fits depth) found.1 in
            let one = byte_there 123 text (omega arith) opens in
            value_is (table found.0.0, found.0.1) (d, rest) text found.2 (omega (arith, inside, one))
        | inr plain ↦ atom_fits text d rest (rw (other, plain) at e)
      ]
    ]

-- ---- lines

header_key_fits : (text : List ℕ) (k : Key) (rest : List ℕ) → header_key text ≡ Some (k, rest) → (length k.1 + 1) + length rest ≤ length text
unfolding header_key
header_key_fits text k rest e =
    let found = chained (λ k. option_map (λ rest. (k.0, rest)) (after_byte 93 k.1)) (key (skip_ws text)) (k, rest) e in
    let own = key_fits (skip_ws text) found.0.0 found.0.1 found.1 in
    let less = skip_ws_le text in
    let behind = mapped {B = Key × List ℕ} (λ rest. (found.0.0, rest)) (after_byte 93 found.0.1) (k, rest) found.2 in
    let one = after_byte_fits 93 found.0.1 behind.0 (omega arith) behind.1 in
    let size : length found.0.0.1 ≡ length k.1 = ap (λ p. length p.0.1) behind.2 in
    let left : length behind.0 ≡ length rest = ap (λ p. length p.1) behind.2 in
    omega (arith, own, one, less, size, left)

abbrev LineFits : Expression → List ℕ → List ℕ → Type 0
LineFits e rest text = line_weight e + 2 * length rest ≤ 2 * length text + 2

line_is : (p q : Expression × List ℕ) (text : List ℕ) → p ≡ q → LineFits p.0 p.1 text → LineFits q.0 q.1 text
line_is p q text is fits = subst (λ (r : Expression × List ℕ). LineFits r.0 r.1 text) is fits

two_there : (text : List ℕ) → 0 < first text → 0 < slice_index text 1 → length (drop 2 text) + 2 ≡ length text
two_there [] one two = absurd (omega (arith, one))
two_there (a ∷ []) one two = absurd (omega (arith, two))
two_there (a ∷ b ∷ cs) one two = omega arith

pub expression_fits : (text : List ℕ) (e : Expression) (rest : List ℕ) → expression text ≡ Some (e, rest) → LineFits e rest text
unfolding expression
expression_fits text e rest is =
    elim (cases_Bool (first text == 91 && slice_index text 1 == 91)) [
      | inl both ↦
          let parts = and_parts (first text == 91) (slice_index text 1 == 91) both in
          let one = eqb-true (first text) 91 parts.0 in
          let two = eqb-true (slice_index text 1) 91 parts.1 in
          let there = two_there text (omega (arith, one)) (omega (arith, two)) in
          let found = chained (λ k. option_map (λ rest. ((k.0, array_table), rest)) (after_byte 93 k.1)) (header_key (drop 2 text)) (e, rest) (rw both at is) in
          let own = header_key_fits (drop 2 text) found.0.0 found.0.1 found.1 in
          let behind = mapped {B = Expression × List ℕ} (λ rest. ((found.0.0, array_table), rest)) (after_byte 93 found.0.1) (e, rest) found.2 in
          let last = after_byte_fits 93 found.0.1 behind.0 (omega arith) behind.1 in
          line_is ((found.0.0, array_table), behind.0) (e, rest) text behind.2 (omega (arith, own, last, there))
      | inr other ↦ elim (cases_Bool (first text == 91)) [
        | inl opens ↦
            let found = mapped {B = Expression × List ℕ} (λ p. ((p.0, std_table), p.1)) (header_key (drop 1 text)) (e, rest) (rw (other, opens) at is) in
            let own = header_key_fits (drop 1 text) found.0.0 found.0.1 found.1 in
            let less = drop_le 1 text in
            line_is ((found.0.0, std_table), found.0.1) (e, rest) text found.2 (omega (arith, own, less))
        | inr pair ↦
            let found = mapped {B = Expression × List ℕ} (λ p. ((p.0.0, key_value p.0.1), p.1)) (keyval (val 80) text) (e, rest) (rw (other, pair) at is) in
            let own = keyval_fits (val 80) text found.0.0.0 found.0.0.1 found.0.1 (val_fits 80) found.1 in
            line_is ((found.0.0.0, key_value found.0.0.1), found.0.1) (e, rest) text found.2 own
      ]
    ]

-- what stops the blanks is no space, no line feed and no `#`
turn_space : (c next : ℕ) → is_some (skip_turn true false c next) ≡ false → is_ws c ≡ false
turn_space c next h = grind (arith, nat_tests, h)

turn_line : (c next : ℕ) → is_some (skip_turn true false c next) ≡ false → (c == 10) ≡ false
turn_line c next h = grind (arith, nat_tests, h)

turn_hash : (c next : ℕ) → is_some (skip_turn true false c next) ≡ false → (c == 35) ≡ false
turn_hash c next h = grind (arith, nat_tests, h)

last_of_four : (a b c d : Bool) → a ≡ false → b ≡ false → c ≡ false → (((a || b) || c) || d) ≡ true → d ≡ true
last_of_four false false false d no_a no_b no_c h = h
last_of_four true b c d no_a no_b no_c h = absurd cc
last_of_four false true c d no_a no_b no_c h = absurd cc
last_of_four false false true d no_a no_b no_c h = absurd cc

-- no line begins with a carriage return
no_line : (cs : List ℕ) → line (13 ∷ cs) ≡ None
unfolding line expression key_equals key_after simple_key
no_line cs = refl

-- between two lines there is an octet
line_break : (rest : List ℕ) (e : Expression × List ℕ) → ends_line (skip_ws rest) ≡ true → (length (skip_blank rest) == 0) ≡ false
    → line (skip_blank rest) ≡ Some e → length (skip_blank rest) + 1 ≤ length rest
unfolding skip_from
line_break [] e ends some is = absurd cc
line_break (c ∷ cs) e ends some is =
    elim (cases_Bool (is_some (skip_turn true false c (first cs)))) [
      | inl more ↦
          let less = skip_from_le true (unwrap_or (skip_turn true false c (first cs)) false) cs in
          rw more (omega (arith, less))
      | inr stops ↦
          let same : skip_ws (c ∷ cs) ≡ c ∷ cs = skip_ws_none (c ∷ cs) (turn_space c (first cs) stops) in
          let here : ends_line (c ∷ cs) ≡ true = subst (λ (t : List ℕ). ends_line t ≡ true) same ends in
          let long : (length (c ∷ cs) == 0) ≡ false = grind (arith, nat_tests) in
          let return : (c == 13) ≡ true =
          last_of_four (length (c ∷ cs) == 0) (c == 35) (c == 10) (c == 13) long (turn_hash c (first cs) stops) (turn_line c (first cs) stops) here in
          let stays : skip_blank (c ∷ cs) ≡ c ∷ cs = rw stops refl in
          let begins : c ∷ cs ≡ 13 ∷ cs = ap (λ b. b ∷ cs) (eqb-true c 13 return) in
          absurd (none-some e (sym (no_line cs) ∙ sym (ap line (stays ∙ begins)) ∙ is))
    ]

line_fits : (text : List ℕ) (e : Expression × List ℕ) → line text ≡ Some e → LineFits e.0 e.1 text × (ends_line (skip_ws e.1) ≡ true)
unfolding line
line_fits text e is =
    let found = chained (λ e. cond (ends_line (skip_ws e.1)) (Some e) None) (expression text) e is in
    elim (cases_Bool (ends_line (skip_ws found.0.1))) [
      | inl ends ↦
          let same : found.0 ≡ e = same_Some found.0 e (rw ends at found.2) in
          let own : LineFits found.0.0 found.0.1 text = expression_fits text found.0.0 found.0.1 found.1 in
          subst (λ (r : Expression × List ℕ). LineFits r.0 r.1 text × (ends_line (skip_ws r.1) ≡ true)) same (own, ends)
      | inr other ↦ absurd (none-some e (rw other at found.2))
    ]

next_line : (n : ℕ) (doc : Document) (text : List ℕ) (last : Document) → lines n doc text ≡ Some last → (length (skip_blank text) == 0) ≡ false
    → (e : Expression × List ℕ) × (line (skip_blank text) ≡ Some e)
unfolding lines
next_line zero doc text last is some = absurd (none-some last is)
next_line (suc n) doc text last is some =
    let found = chained (λ e. option_and_then (λ next. lines n next e.1) (define doc e.0)) (line (skip_blank text)) last (rw some at is) in
    (found.0, found.1)

-- what is left after the lines so far, and the end of its last line
abbrev rest_weight : List ℕ → ℕ
rest_weight start = cond (length start == 0) 0 (2 * length start + 2)

lines_fit : (n : ℕ) (doc : Document) (text : List ℕ) (last : Document) → lines n doc text ≡ Some last
    → nodes_weight last.0 ≤ nodes_weight doc.0 + rest_weight (skip_blank text)
unfolding lines
lines_fit zero doc text last is = absurd (none-some last is)
lines_fit (suc n) doc text last is =
    let start = skip_blank text in
    elim (cases_Bool (length start == 0)) [
      | inl none ↦
          let same : nodes_weight doc.0 ≡ nodes_weight last.0 = ap (λ d. nodes_weight d.0) (same_Some doc last (rw none at is)) in
          rw none (omega (arith, same))
      | inr some ↦
          let found = chained (λ e. option_and_then (λ next. lines n next e.1) (define doc e.0)) (line start) last (rw some at is) in
          let e = found.0 in
          let made = chained (λ next. lines n next e.1) (define doc e.0) last found.2 in
          let on = lines_fit n made.0 e.1 last made.2 in
          let own = line_fits start e found.1 in
          let fits = own.0 in
          let added = define_adds doc e.0 made.0 made.1 in
          let next : rest_weight (skip_blank e.1) ≤ 2 * length e.1 = behind n made.0 e.1 last made.2 own.1 in
          rw some (omega (arith, on, fits, added, next))
    ]
  where
    behind : (m : ℕ) (next : Document) (rest : List ℕ) (last : Document) → lines m next rest ≡ Some last → ends_line (skip_ws rest) ≡ true
        → rest_weight (skip_blank rest) ≤ 2 * length rest
    behind m next rest last is ends =
        elim (cases_Bool (length (skip_blank rest) == 0)) [
          | inl none ↦ rw none (omega arith)
          | inr some ↦
              let found = next_line m next rest last is some in
              let one = line_break rest found.0 ends some found.1 in
              rw some (omega (arith, one))
        ]

skip_bom_le : (text : List ℕ) → length (skip_bom text) ≤ length text
unfolding skip_bom
skip_bom_le text =
    let less = drop_le 3 text in
    elim (cases_Bool ((first text == 0xEF && slice_index text 1 == 0xBB) && slice_index text 2 == 0xBF)) [
      | inl mark ↦ rw mark less
      | inr none ↦ rw none (omega arith)
    ]

rest_weight_le : (start : List ℕ) → rest_weight start ≤ 2 * length start + 2
rest_weight_le start = elim (cases_Bool (length start == 0)) [ inl none ↦ rw none (omega arith) | inr some ↦ rw some (omega arith) ]

pub weight_le : (octets : List ℕ) (doc : Members) → parse_document octets ≡ Some doc → members_weight doc ≤ 2 * length octets + 2
unfolding parse_document
weight_le octets doc is =
    let found = mapped (λ d. close d.0) (lines (suc (length octets)) (no_nodes, []) (skip_bom octets)) doc is in
    let fits = lines_fit (suc (length octets)) (no_nodes, []) (skip_bom octets) found.0 found.1 in
    let most = rest_weight_le (skip_blank (skip_bom octets)) in
    let less = skip_from_le true false (skip_bom octets) in
    let without = skip_bom_le octets in
    let same = ap members_weight found.2 in
    omega (arith, fits, most, less, without, same)
