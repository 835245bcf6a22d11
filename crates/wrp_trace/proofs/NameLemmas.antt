-- Octets that are a name are a text.
use Rattle.std.proofs.Common.{◌≡◌, ℕ, List, [], ◌∷◌, Bool, true, false, None, Some, refl, ◌&&◌, not, suc, zero, ◌<◌, lit<}
use Rattle.std.specs.Prelude.{◌==◌, nat_lt, if◌then◌else◌}
use Rattle.std.specs.List.{list_all}
use Rattle.std.specs.Str.{IsUtf8, IsAscii}
use Rattle.std.proofs.lemmas.Bool.{and_parts, ltb-true}
use Rattle.std.proofs.lemmas.Str.{IsUtf8-from_ascii}
use Rattle.wrp_caldb.specs.Name.{is_name}
use Rattle.wrp_trace.proofs.Texts.{IsText, is_text_octet, name_text}

small : (c : ℕ) → is_text_octet c ≡ true → c < 128
small c is =
    let a = and_parts (not (c == 44)) (not (c == 34) && (not (c == 13) && (not (c == 10) && nat_lt c 128))) is in
    let b = and_parts (not (c == 34)) (not (c == 13) && (not (c == 10) && nat_lt c 128)) a.1 in
    let d = and_parts (not (c == 13)) (not (c == 10) && nat_lt c 128) b.1 in
    let e = and_parts (not (c == 10)) (nat_lt c 128) d.1 in
    ltb-true c 128 e.1

ascii : (text : List ℕ) → IsText text → IsAscii text
ascii [] is i = lit< tt
ascii (c ∷ cs) is zero = small c (and_parts (is_text_octet c) (list_all is_text_octet cs) is).0
ascii (c ∷ cs) is (suc i) = ascii cs (and_parts (is_text_octet c) (list_all is_text_octet cs) is).1 i

cases : (text : List ℕ) (b : Bool) → is_name text ≡ b → (IsUtf8 text → ⊥) → (if b then Some text else None) ≡ None
cases text false e never = refl
cases text true e never = absurd (never (IsUtf8-from_ascii text (ascii text (name_text text e))))

-- octets that are not a text are not a name
pub no_utf8_no_name : (text : List ℕ) → (IsUtf8 text → ⊥) → (if is_name text then Some text else None) ≡ None
no_utf8_no_name text never = cases text (is_name text) refl never
