-- Texts that are the same, and the end that a text names.
use Rattle.std.proofs.Common.{◌≡◌, ◌≢◌, ◌<◌, ◌≤◌, ◌+◌, ◌-◌, ◌&&◌, ◌==◌, ◌++◌, ℕ, List, [], ◌∷◌, Bool, true, false, Option, None, Some, cond, length, get_or, refl, sym, ap, ap₂, ◌∙◌, arith}
use Rattle.std.proofs.lemmas.Bool.{and_parts, false≢true, eqb-true}
use Rattle.std.proofs.lemmas.Bool.Decides.{nat_tests}
use Rattle.std.proofs.lemmas.List.Sums.{split_at_first, passes_at_first}
use Rattle.std.specs.Prelude.{nat_lt, option_and_then}
use Rattle.std.specs.List.{position_or_len, before_first, after_first}
use Rattle.toml.specs.Data.{Data, as_table}
use Rattle.std.proofs.lemmas.Option.{same_Some}
use Rattle.wrp_base.specs.Ranges.{IsAmong}
use Rattle.wrp_caldb.specs.Name.{same_name}
use Rattle.wrp_caldb.specs.Repeats.{are_same_texts, name_in}
use Rattle.wrp_network_text.specs.Ends.{is_named, named, is_between, port_of, is_colon, both, end_in}
use Rattle.wrp_config.proofs.Lists.{found_place, same_refl, same_is}

-- texts that are not the same are different
pub differ : (s t : Option (List ℕ)) (a b : List ℕ) → s ≡ Some a → t ≡ Some b → are_same_texts s t ≡ false → a ≢ b
differ s t a b sa tb e same =
    let told : same_name a b ≡ false = rw (sa, tb) at e in
    false≢true (sym told ∙ ap (same_name a) (sym same) ∙ same_refl a)

-- a text that is the same as a name is that name
pub same_text : (o : Option (List ℕ)) (a : List ℕ) → are_same_texts o (Some a) ≡ true → o ≡ Some a
same_text None a e = cc e
same_text (Some b) a e = ap Some (same_is b a e)

-- what a choice gives
pub chosen : {X : Type 0} (b : Bool) (o : Option X) (x : X) → cond b o None ≡ Some x → (b ≡ true) × (o ≡ Some x)
chosen true o x e = (refl, e)
chosen false o x e = cc e

between : (least greatest n : ℕ) → is_between least greatest n ≡ true → (least ≤ n) × (n ≤ greatest)
between least greatest n e = (grind (arith, nat_tests, e), grind (arith, nat_tests, e))

-- the octets of a port
pub data PortText (xs : List ℕ) (p : ℕ) : Type 0 where
  one : 1 ≤ p → p ≤ 9 → xs ≡ (p + 48) ∷ [] → PortText xs p
  two : 10 ≤ p → p ≤ 18 → xs ≡ 49 ∷ (p + 38) ∷ [] → PortText xs p

pub port_text : (xs : List ℕ) (p : ℕ) → port_of xs ≡ Some p → PortText xs p
port_text [] p e = cc e
port_text (d ∷ []) p e =
    let parts = chosen (is_between 49 57 d) (Some (d - 48)) p e in
    let range = between 49 57 d parts.0 in
    let is : d - 48 ≡ p = same_Some (d - 48) p parts.1 in
    let back : d ≡ p + 48 = omega (arith, is, range.0) in
    one (omega (arith, is, range.0)) (omega (arith, is, range.1)) (ap (λ c. c ∷ []) back)
port_text (c ∷ d ∷ []) p e =
    let parts = chosen ((c == 49) && is_between 48 56 d) (Some (d - 38)) p e in
    let tests = and_parts (c == 49) (is_between 48 56 d) parts.0 in
    let range = between 48 56 d tests.1 in
    let is : d - 38 ≡ p = same_Some (d - 38) p parts.1 in
    let back : d ≡ p + 38 = omega (arith, is, range.0) in
    two (omega (arith, is, range.0)) (omega (arith, is, range.1))
    (ap₂ (λ x y. x ∷ y ∷ []) (eqb-true c 49 tests.0) back)
port_text (c ∷ d ∷ x ∷ xs) p e = cc e

pub port_range : (xs : List ℕ) (p : ℕ) → port_of xs ≡ Some p → IsAmong 1 18 p
port_range xs p e = elim (port_text xs p e) [
  | one low high is ↦ (low, omega (arith, high))
  | two low high is ↦ (omega (arith, low), high)
]

-- one port has one text
pub port_once : (xs ys : List ℕ) (p : ℕ) → port_of xs ≡ Some p → port_of ys ≡ Some p → xs ≡ ys
port_once xs ys p ex ey = elim (port_text xs p ex) [
  | one low high is ↦ elim (port_text ys p ey) [
    | one low' high' is' ↦ is ∙ sym is'
    | two low' high' is' ↦ absurd (omega (arith, high, low'))
  ]
  | two low high is ↦ elim (port_text ys p ey) [
    | one low' high' is' ↦ absurd (omega (arith, low, high'))
    | two low' high' is' ↦ is ∙ sym is'
  ]
]

-- the end that a text names
pub record IsEnd (nodes : List Data) (text : List ℕ) (end : ℕ × ℕ) : Type 0 where
  pub colon : position_or_len is_colon text < length text
  pub node : named (before_first is_colon text) nodes ≡ Some end.0
  pub port : port_of (after_first is_colon text) ≡ Some end.1

both_parts : (n p : Option ℕ) (e : ℕ × ℕ) → both n p ≡ Some e → (n ≡ Some e.0) × (p ≡ Some e.1)
both_parts None p e is = cc is
both_parts (Some n) None e is = cc is
both_parts (Some n) (Some p) e is =
    let same : (n, p) ≡ e = same_Some (n, p) e is in (ap (λ x. Some x.0) same, ap (λ x. Some x.1) same)

pub end_is : (nodes : List Data) (text : List ℕ) (e : ℕ × ℕ) → end_in nodes text ≡ Some e → IsEnd nodes text e
end_is nodes text e is =
    let parts = chosen (nat_lt (position_or_len is_colon text) (length text))
    (both (named (before_first is_colon text) nodes) (port_of (after_first is_colon text))) e is in
    let each = both_parts (named (before_first is_colon text) nodes) (port_of (after_first is_colon text)) e parts.1 in
    record { colon = grind (arith, nat_tests, parts.0); node = each.0; port = each.1 }

-- the text of an end
joined : (nodes : List Data) (text : List ℕ) (e : ℕ × ℕ) → IsEnd nodes text e
    → text ≡ before_first is_colon text ++ (58 ∷ after_first is_colon text)
joined nodes text e is =
    let at = passes_at_first is_colon text 0 is.colon in
    let colon : get_or text (position_or_len is_colon text) 0 ≡ 58 = eqb-true (get_or text (position_or_len is_colon text) 0) 58 at in
    split_at_first is_colon text 0 is.colon
    ∙ ap (λ c. before_first is_colon text ++ (c ∷ after_first is_colon text)) colon

-- one node has one name
named_once : (nodes : List Data) (a b : List ℕ) (n : ℕ) → named a nodes ≡ Some n → named b nodes ≡ Some n → a ≡ b
named_once nodes a b n ea eb =
    let fa = found_place (is_named a) nodes n ea in
    let fb = found_place (is_named b) nodes n eb in
    let same : fa.x ≡ fb.x = same_Some fa.x fb.x (sym fa.at ∙ fb.at) in
    let na = same_text (option_and_then name_in (as_table fa.x)) a fa.passes in
    let nb = same_text (option_and_then name_in (as_table fb.x)) b fb.passes in
    same_Some a b (sym na ∙ ap (λ d. option_and_then name_in (as_table d)) same ∙ nb)

-- one end has one text
pub end_once : (nodes : List Data) (s t : List ℕ) (e : ℕ × ℕ) → IsEnd nodes s e → IsEnd nodes t e → s ≡ t
end_once nodes s t e is it =
    let node = named_once nodes (before_first is_colon s) (before_first is_colon t) e.0 is.node it.node in
    let port = port_once (after_first is_colon s) (after_first is_colon t) e.1 is.port it.port in
    joined nodes s e is ∙ ap₂ (λ x y. x ++ (58 ∷ y)) node port ∙ sym (joined nodes t e it)
