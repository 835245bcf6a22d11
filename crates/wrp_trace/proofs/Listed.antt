-- A module that is listed for a port is printed with a name that finds it again.
use Rattle.std.proofs.Common.{◌≡◌, ℕ, zero, suc, ◌&&◌, List, [], ◌∷◌, Bool, true, false, Option, None, Some, cond, refl, sym, ap, subst, ◌∙◌}
use Rattle.std.specs.Prelude.{◌==◌, not, slice_get, unwrap_or, option_map, option_and_then, codes}
use Rattle.std.specs.List.{find}
use Rattle.std.proofs.lemmas.Bool.{and_parts, and_from, eq-eqb, eqb-true, false≢true, not-true}
use Rattle.std.proofs.lemmas.Slice.Eq.{bytes_eq-Decides}
use Rattle.wrp_base.specs.declared.link.Module.{Module}
use Rattle.wrp_caldb.specs.Database.{Database, ModuleAt, delays_at, module_at}
use Rattle.wrp_caldb.specs.Name.{same_name, is_name, is_module_name}
use Rattle.wrp_config.specs.Accepted.{IsSoundDatabase}
use Rattle.wrp_config.specs.Names.{pair_at}
use Rattle.wrp_trace.specs.InputAt.{IsListed}
use Rattle.wrp_trace.specs.LineSetting.{LineSetting, module_of, named_at, same_module, has_values, name_of}

-- what is found passes the test, and is in the list
pub record IsFound {X : Type 0} (p : X → Bool) (xs : List X) (x : X) : Type 0 where
  pub passes : p x ≡ true
  pub place : ℕ
  pub stands : slice_get xs place ≡ Some x

found_in : {X : Type 0} (p : X → Bool) (y : X) (ys : List X) (x : X) (b : Bool) → p y ≡ b
    → ((z : X) → find p ys ≡ Some z → IsFound p ys z)
    → cond b (Some y) (find p ys) ≡ Some x → IsFound p (y ∷ ys) x
found_in p y ys x true is more e =
    let same : y ≡ x = ap (λ o. unwrap_or o x) e in
    record { passes = subst (λ z. p z ≡ true) same is; place = 0; stands = e }
found_in p y ys x false is more e =
    let rest = more x e in
    record { passes = rest.passes; place = suc rest.place; stands = rest.stands }

pub first_found : {X : Type 0} (p : X → Bool) (xs : List X) (x : X) → find p xs ≡ Some x → IsFound p xs x
first_found p [] x e = cc e
first_found p (y ∷ ys) x e = found_in p y ys x (p y) refl (first_found p ys) e

-- if one passes the test, one is found
finds_in : {X : Type 0} (p : X → Bool) (y : X) (ys : List X) (b : Bool) → p y ≡ b
    → (p y ≡ false → (z : X) × (find p ys ≡ Some z)) → (z : X) × (cond b (Some y) (find p ys) ≡ Some z)
finds_in p y ys true is more = (y, refl)
finds_in p y ys false is more = more is

pub finds : {X : Type 0} (p : X → Bool) (xs : List X) (k : ℕ) (x : X) → slice_get xs k ≡ Some x → p x ≡ true
    → (z : X) × (find p xs ≡ Some z)
finds p [] k x e is = cc e
finds p (y ∷ ys) zero x e is =
    let same : y ≡ x = ap (λ o. unwrap_or o x) e in
    finds_in p y ys (p y) refl (λ no. absurd (false≢true (sym no ∙ ap p same ∙ is)))
finds p (y ∷ ys) (suc k) x e is = finds_in p y ys (p y) refl (λ no. finds p ys k x e is)

-- Modules

-- modules with equal values are the same
one_module : (a b : Module) → same_module a b ≡ true → a ≡ b
one_module a b same =
    let tx = and_parts (a.tx == b.tx) ((a.rx == b.rx) && ((a.transition == b.transition) && (a.err == b.err))) same in
    let rx = and_parts (a.rx == b.rx) ((a.transition == b.transition) && (a.err == b.err)) tx.1 in
    let rest = and_parts (a.transition == b.transition) (a.err == b.err) rx.1 in
    let e1 = eqb-true a.tx b.tx tx.0 in
    let e2 = eqb-true a.rx b.rx rx.0 in
    let e3 = eqb-true a.transition b.transition rest.0 in
    let e4 = eqb-true a.err b.err rest.1 in
    λ i. record { tx = e1 i; rx = e2 i; transition = e3 i; err = e4 i }

same_itself : (a : Module) → same_module a a ≡ true
same_itself a =
    and_from (a.tx == a.tx) _ (eq-eqb a.tx a.tx refl)
    (and_from (a.rx == a.rx) _ (eq-eqb a.rx a.rx refl)
    (and_from (a.transition == a.transition) (a.err == a.err) (eq-eqb a.transition a.transition refl) (eq-eqb a.err a.err refl)))

values_are : (values : Module) (entry : Option Module) → has_values values entry ≡ true → entry ≡ Some values
values_are values None is = cc is
values_are values (Some entry) is = ap (λ m. Some m) (one_module entry values is)

-- a name with an entry is the name of a listed module
pub record IsNamed (db : Database) (name : List ℕ) : Type 0 where
  pub listed : ModuleAt
  pub place : ℕ
  pub stands : slice_get db.modules place ≡ Some listed
  pub same : listed.name ≡ name

named_in : (db : Database) (name : List ℕ) (tx rx : ℕ) (values : Module) (o : Option ModuleAt)
    → find (λ m. same_name m.name name) db.modules ≡ o
    → option_and_then (λ m. delays_at m.entries tx rx) o ≡ Some values → IsNamed db name
named_in db name tx rx values None e is = cc is
named_in db name tx rx values (Some m) e is =
    let it = first_found (λ n. same_name n.name name) db.modules m e in
    record { listed = m; place = it.place; stands = it.stands; same = (bytes_eq-Decides m.name name).0 it.passes }

named_at_pair : (db : Database) (name : List ℕ) (values : Module) (pair : Option (ℕ × ℕ))
    → option_and_then (λ p. module_at db name p.0 p.1) pair ≡ Some values → IsNamed db name
named_at_pair db name values None is = cc is
named_at_pair db name values (Some p) is =
    named_in db name p.0 p.1 values (find (λ m. same_name m.name name) db.modules) refl is

named : (site : LineSetting) (port : ℕ) (name : List ℕ) (values : Module) → module_of site port name ≡ Some values → IsNamed site.db name
named site port name values is = named_at_pair site.db name values (pair_at site.cfg site.node port) is

-- the name with which values are printed at a port: one that may be listed, and has these values
-- there
pub record IsPrintedName (site : LineSetting) (port : ℕ) (values : Module) (name : List ℕ) : Type 0 where
  pub printed : name_of site port values ≡ Some name
  pub valid : is_module_name name ≡ true
  pub values_there : module_of site port name ≡ Some values

pub printed_name : (site : LineSetting) (port : ℕ) (values : Module) → IsSoundDatabase site.db → IsListed site port (Some values)
    → (name : List ℕ) × IsPrintedName site port values name
printed_name site port values sound (name, there) =
    let test : ModuleAt → Bool = λ m. has_values values (module_of site port m.name) in
    let it = named site port name values there in
    let passes : test it.listed ≡ true =
    ap (λ n. has_values values (module_of site port n)) it.same ∙ ap (has_values values) there ∙ same_itself values in
    let first = finds test site.db.modules it.place it.listed it.stands passes in
    let is = first_found test site.db.modules first.0 first.1 in (
      first.0.name,
      record {
        printed = ap (option_map (λ m. m.name)) first.1;
        valid = (sound.modules is.place first.0 is.stands).name;
        values_there = values_are values (module_of site port first.0.name) is.passes;
      },
    )

-- a name that may be listed is not `unlisted`
pub not_unlisted : (name : List ℕ) → is_module_name name ≡ true → same_name name (codes "unlisted") ≡ false
not_unlisted name valid =
    not-true (same_name name (codes "unlisted")) (and_parts (is_name name) (not (same_name name (codes "unlisted"))) valid).1

-- the values that a printed name finds
pub name_finds : (site : LineSetting) (port : ℕ) (values : Module) (name : List ℕ) → IsPrintedName site port values name
    → named_at site port name ≡ Some (Some values)
name_finds site port values name is = rw (not_unlisted name is.valid, is.values_there) refl

-- a name that a module may have is a name
pub plain_name : (name : List ℕ) → is_module_name name ≡ true → is_name name ≡ true
plain_name name valid = (and_parts (is_name name) (not (same_name name (codes "unlisted"))) valid).0
