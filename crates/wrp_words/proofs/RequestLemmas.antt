-- What words of each form ask for; and words of no form ask for nothing.
use Rattle.std.proofs.Common.{◌≡◌, ◌∙◌, refl, sym, ap, ap₂, subst, ℕ, ◌==◌, ◌&&◌, not, Bool, true, false, if◌then◌else◌, Option, None, Some, List, [], ◌∷◌, ◌++◌, bytes_eq, codes, ne_eqb}
use Rattle.std.specs.List.{AllByRecursion}
use Rattle.std.specs.Prelude.{option_and_then}
use Rattle.std.proofs.lemmas.Bool.{eq-eqb, eqb-true}
use Rattle.std.proofs.lemmas.Option.{same_Some}
use Rattle.std.proofs.lemmas.Slice.Eq.{bytes_eq-Decides}
use Rattle.wrp_commands.specs.declared.alone.Alone.{Alone}
use Rattle.wrp_commands.specs.declared.alone.Alone.TheVariants.{Migrate, Inspect, L1Sync, Calibrate, Plain}
use Rattle.wrp_commands.specs.Request.{Request, Audit, OnNetwork, StandAlone}
use Rattle.wrp_words.specs.declared.command_line.Form.{Form}
use Rattle.wrp_words.specs.declared.command_line.Form.TheVariants as forms
use Rattle.wrp_words.specs.Alone.{IsAlone}
use Rattle.wrp_words.specs.CommandLine.{HasForm, HasOption, IsCommandWith, IsDashed, IsForm}
use Rattle.wrp_words.specs.Requests.{is_dashed, request_behind, request_in, row_named, text_after, value_given}
use Rattle.wrp_words.specs.Rows.{Row, May, Must, bare_row, emission, looping, replay, rows, simulation}

-- Texts

if_so : {A : Type 0} (b : Bool) (x y : A) → b ≡ true → (if b then x else y) ≡ x
if_so true x y is = refl
if_so false x y is = absurd (cc)

after_front : (front rest : List ℕ) → text_after front (front ++ rest) ≡ Some rest
after_front [] rest = refl
after_front (x ∷ front) rest = if_so (x == x) (text_after front (front ++ rest)) None (eq-eqb x x refl) ∙ after_front front rest

front_of : (front text rest : List ℕ) → text_after front text ≡ Some rest → text ≡ front ++ rest
front_of [] text rest is = same_Some text rest is
front_of (x ∷ front) [] rest is = absurd (cc)
front_of (x ∷ front) (y ∷ text) rest is = go (x == y) refl is (λ later. front_of front text rest later)
  where
    go : (same : Bool) → (x == y) ≡ same → (if same then text_after front text else None) ≡ Some rest → (text_after front text ≡ Some rest → text ≡ front ++ rest)
        → y ∷ text ≡ x ∷ (front ++ rest)
    go true same is later = ap₂ (λ (z : ℕ) (zs : List ℕ). z ∷ zs) (sym (eqb-true x y same)) (later is)
    go false same is later = absurd (cc)

plain_text : (text : List ℕ) → (IsDashed text → ⊥) → is_dashed text ≡ false
plain_text [] plain = refl
plain_text (x ∷ text) plain = ne_eqb x 45 (λ e. plain (text, ap (λ (y : ℕ). y ∷ text) e))

dashed_text : (text : List ℕ) → IsDashed text → is_dashed text ≡ true
dashed_text text (rest, is) = ap is_dashed is

-- The value of an option

given_so : (option : List ℕ) (words : List (List ℕ)) (value : List ℕ) → HasOption option words value → value_given option words ≡ Some value
given_so option [] value has = absurd has
given_so option (word ∷ []) value has = ap (text_after (option ++ codes "=")) has ∙ after_front (option ++ codes "=") value
given_so option (given ∷ next ∷ []) value has =
    let same : bytes_eq given option ≡ true = (bytes_eq-Decides given option).1 has.0 in
    let plain : is_dashed next ≡ false = ap is_dashed has.1 ∙ plain_text value has.2 in
    if_so (bytes_eq given option && not (is_dashed next)) (Some next) None (ap₂ (λ (a b : Bool). a && not b) same plain) ∙ ap Some has.1
given_so option (given ∷ next ∷ more ∷ words) value has = absurd has

value_has : (option : List ℕ) (words : List (List ℕ)) (value : List ℕ) → value_given option words ≡ Some value → HasOption option words value
value_has option [] value is = absurd (cc)
value_has option (word ∷ []) value is = front_of (option ++ codes "=") word value is
value_has option (given ∷ next ∷ []) value is = go (bytes_eq given option) (is_dashed next) refl refl is
  where
    go : (same dashed : Bool) → bytes_eq given option ≡ same → is_dashed next ≡ dashed → (if same && not dashed then Some next else None) ≡ Some value
        → HasOption option (given ∷ next ∷ []) value
    go true false same plain is =
        let value_is : next ≡ value = same_Some next value is in (
          (bytes_eq-Decides given option).0 same,
          value_is,
          λ dashed. let bad : false ≡ true = sym plain ∙ ap is_dashed value_is ∙ dashed_text value dashed in absurd (cc),
        )
    go true true same plain is = absurd (cc)
    go false dashed same plain is = absurd (cc)
value_has option (given ∷ next ∷ more ∷ words) value is = absurd (cc)

-- Commands

-- a command whose option has to be given
pub must_ask : (name option text : List ℕ) (asks : List ℕ → Option Request) (words : List (List ℕ)) (value : List ℕ)
    → row_named name rows ≡ Some (record { name = name; behind = Must option text asks }) → IsCommandWith name (codes "--" ++ option) words value → request_in words ≡ asks value
unfolding request_in
must_ask name option text asks [] value row is = absurd is
must_ask name option text asks (first ∷ rest) value row is =
    ap (λ (word : List ℕ). option_and_then (λ (r : Row). request_behind r.behind rest) (row_named word rows)) is.0
    ∙ ap (option_and_then (λ (r : Row). request_behind r.behind rest)) row
    ∙ ap (option_and_then asks) (given_so (codes "--" ++ option) rest value is.1)

-- one whose option may be left out
pub may_ask : (bare : Request) (name option text : List ℕ) (asks : List ℕ → Option Request) (words : List (List ℕ)) (value : List ℕ)
    → row_named name rows ≡ Some (record { name = name; behind = May bare option text asks }) → IsCommandWith name (codes "--" ++ option) words value → request_in words ≡ asks value
unfolding request_in
may_ask bare name option text asks [] value row is = absurd is
may_ask bare name option text asks (first ∷ []) value row is = absurd is.1
may_ask bare name option text asks (first ∷ word ∷ rest) value row is =
    ap (λ (own : List ℕ). option_and_then (λ (r : Row). request_behind r.behind (word ∷ rest)) (row_named own rows)) is.0
    ∙ ap (option_and_then (λ (r : Row). request_behind r.behind (word ∷ rest))) row
    ∙ ap (option_and_then asks) (given_so (codes "--" ++ option) (word ∷ rest) value is.1)

pub audit_asks : (words : List (List ℕ)) → words ≡ codes "audit" ∷ [] → request_in words ≡ Some (OnNetwork Audit)
unfolding request_in
audit_asks words is = ap request_in is

pub alone_asks : (words : List (List ℕ)) (alone : Alone) → IsAlone words alone → request_in words ≡ Some (StandAlone alone)
unfolding request_in
alone_asks words Migrate is = ap request_in is
alone_asks words Inspect is = ap request_in is
alone_asks words L1Sync is = ap request_in is
alone_asks words Calibrate is = ap request_in is
alone_asks words Plain is = ap request_in is

-- Words of no form

abbrev HasSome : List (List ℕ) → Type 0
HasSome words = (form : Form) × HasForm words form

-- if words after the name of a row ask for something, they have a form with the name in front
abbrev IsSound : Row → Type 0
IsSound row = (rest : List (List ℕ)) (request : Request) → request_behind row.behind rest ≡ Some request → HasSome (row.name ∷ rest)

with_value : (form : Form) (name option : List ℕ) (asks : List ℕ → Option Request) (rest : List (List ℕ)) (request : Request)
    → ((value : List ℕ) → IsCommandWith name (codes "--" ++ option) (name ∷ rest) value → IsForm form (name ∷ rest) value)
    → (given : Option (List ℕ)) → value_given (codes "--" ++ option) rest ≡ given → option_and_then asks given ≡ Some request → HasSome (name ∷ rest)
with_value form name option asks rest request is None given asked = absurd (cc)
with_value form name option asks rest request is (Some value) given asked = (form, (value, is value (refl, value_has (codes "--" ++ option) rest value given)))

must_sound : (form : Form) (name option text : List ℕ) (asks : List ℕ → Option Request)
    → ((rest : List (List ℕ)) (value : List ℕ) → IsCommandWith name (codes "--" ++ option) (name ∷ rest) value → IsForm form (name ∷ rest) value)
    → IsSound (record { name = name; behind = Must option text asks })
must_sound form name option text asks is rest request asked =
    with_value form name option asks rest request (is rest) (value_given (codes "--" ++ option) rest) refl asked

may_sound : (bare form : Form) (request : Request) (name option text : List ℕ) (asks : List ℕ → Option Request) → HasForm (name ∷ []) bare
    → ((rest : List (List ℕ)) (value : List ℕ) → IsCommandWith name (codes "--" ++ option) (name ∷ rest) value → IsForm form (name ∷ rest) value)
    → IsSound (record { name = name; behind = May request option text asks })
may_sound bare form own name option text asks alone is [] request asked = (bare, alone)
may_sound bare form own name option text asks alone is (word ∷ rest) request asked =
    with_value form name option asks (word ∷ rest) request (is (word ∷ rest)) (value_given (codes "--" ++ option) (word ∷ rest)) refl asked

bare_sound : (alone : Alone) → IsSound (bare_row alone)
bare_sound alone [] request asked = (forms.Alone alone, ([], (refl, refl)))
bare_sound alone (word ∷ rest) request asked = absurd (cc)

rows_sound : AllByRecursion IsSound rows
rows_sound = (
  may_sound forms.Audit forms.Emit (OnNetwork Audit) (codes "audit") (codes "emit") (codes "NODE") emission ([], (refl, refl)) (λ rest value is. is),
  (
    must_sound forms.Replay (codes "replay") (codes "node") (codes "NODE") replay (λ rest value is. is),
    (
      must_sound forms.Simulate (codes "simulate") (codes "seed") (codes "N") simulation (λ rest value is. is),
      (
        must_sound forms.Loop (codes "loop") (codes "seed") (codes "N") looping (λ rest value is. is),
        (bare_sound Migrate, (bare_sound Inspect, (bare_sound L1Sync, (bare_sound Calibrate, (bare_sound Plain, tt))))),
      ),
    ),
  ),
)

row_sound : (table : List Row) → AllByRecursion IsSound table → (first : List ℕ) (rest : List (List ℕ)) (request : Request)
    → option_and_then (λ (r : Row). request_behind r.behind rest) (row_named first table) ≡ Some request → HasSome (first ∷ rest)
row_sound [] all first rest request asked = absurd (cc)
row_sound (row ∷ more) all first rest request asked = go (bytes_eq row.name first) refl asked (λ later. row_sound more all.1 first rest request later)
  where
    go : (same : Bool) → bytes_eq row.name first ≡ same → option_and_then (λ (r : Row). request_behind r.behind rest) (if same then Some row else row_named first more) ≡ Some request
        → (option_and_then (λ (r : Row). request_behind r.behind rest) (row_named first more) ≡ Some request → HasSome (first ∷ rest)) → HasSome (first ∷ rest)
    go true same asked later = subst (λ (name : List ℕ). HasSome (name ∷ rest)) ((bytes_eq-Decides row.name first).0 same) (all.0 rest request asked)
    go false same asked later = later asked

has_form : (words : List (List ℕ)) (request : Request) → request_in words ≡ Some request → HasSome words
unfolding request_in
has_form [] request asked = absurd (cc)
has_form (first ∷ rest) request asked = row_sound rows rows_sound first rest request asked

pub asks_nothing : (words : List (List ℕ)) → ((form : Form) (value : List ℕ) → IsForm form words value → ⊥) → request_in words ≡ None
asks_nothing words never = go (request_in words) refl
  where
    go : (found : Option Request) → request_in words ≡ found → request_in words ≡ None
    go None is = is
    go (Some request) is = let has = has_form words request is in absurd (never has.0 has.1.0 has.1.1)
