-- The first listed module, in file order, whose name has certain values has them by its own entries, because it is
-- the first one with its name.
use Rattle.std.proofs.Common.{◌≡◌, ◌∙◌, ◌⊎◌, ◌&&◌, inl, inr, ℕ, List, [], ◌∷◌, Bool, true, false, Option, None, Some, refl, ap, subst, sym}
use Rattle.std.specs.Prelude.{option_and_then, if◌then◌else◌}
use Rattle.std.specs.List.{find}
use Rattle.std.proofs.lemmas.Bool.{and_from, false≢true}
use Rattle.std.proofs.lemmas.Slice.Eq.{bytes_eq-Decides}
use Rattle.wrp_base.specs.declared.link.Module.{Module}
use Rattle.wrp_caldb.specs.Database.{Database, ModuleAt, delays_at, module_at}
use Rattle.wrp_caldb.specs.Name.{same_name}

-- a name finds among these modules what it finds among all, or what it finds fails the test
abbrev Follow : Database → (tx rx : ℕ) → (test : Option Module → Bool) → List ModuleAt → Type 0
Follow db tx rx test rest =
    (name : List ℕ) →
    (find (λ m. same_name m.name name) db.modules ≡ find (λ m. same_name m.name name) rest)
    ⊎ (test (module_at db name tx rx) ≡ false)

-- if what the first module's name finds passes the test, the name finds this module
own_passes : (db : Database) (tx rx : ℕ) (test : Option Module → Bool) (m : ModuleAt) (rest : List ModuleAt) → Follow db tx rx test (m ∷ rest)
    → test (module_at db m.name tx rx) ≡ true → test (delays_at m.entries tx rx) ≡ true
own_passes db tx rx test m rest follow is = elim (follow m.name) [
  | inl e ↦
      let finds : find (λ n. same_name n.name m.name) db.modules ≡ Some m =
      e ∙ ap (λ (b : Bool). if b then Some m else find (λ n. same_name n.name m.name) rest) ((bytes_eq-Decides m.name m.name).1 refl) in
      sym (ap (λ (o : Option ModuleAt). test (option_and_then (λ n. delays_at n.entries tx rx) o)) finds) ∙ is
  | inr fails ↦ absurd (false≢true (sym fails ∙ is))
]

-- if it fails the test, the others follow
others_follow : (db : Database) (tx rx : ℕ) (test : Option Module → Bool) (m : ModuleAt) (rest : List ModuleAt) → Follow db tx rx test (m ∷ rest)
    → test (module_at db m.name tx rx) ≡ false → Follow db tx rx test rest
others_follow db tx rx test m rest follow fails = λ name. elim (follow name) [
  | inl e ↦
      elim (same_name m.name name) as (λ b. same_name m.name name ≡ b →
      (find (λ n. same_name n.name name) db.modules ≡ find (λ n. same_name n.name name) rest) ⊎ (test (module_at db name tx rx) ≡ false)) [
        | true ↦ λ same. inr (subst (λ (n : List ℕ). test (module_at db n tx rx) ≡ false) ((bytes_eq-Decides m.name name).0 same) fails)
        | false ↦ λ other. inl (e ∙ ap (λ (b : Bool). if b then Some m else find (λ n. same_name n.name name) rest) other)
      ] refl
  | inr not_this ↦ inr not_this
]

and_no : (a b : Bool) → b ≡ false → (a && b) ≡ false
and_no true b fails = fails
and_no false b fails = refl

first_among : (db : Database) (tx rx : ℕ) (test : Option Module → Bool) (rest : List ModuleAt) → Follow db tx rx test rest
    → find (λ m. test (delays_at m.entries tx rx) && test (module_at db m.name tx rx)) rest ≡ find (λ m. test (module_at db m.name tx rx)) rest
first_among db tx rx test [] follow = refl
first_among db tx rx test (m ∷ rest) follow =
    elim (test (module_at db m.name tx rx)) as (λ b. test (module_at db m.name tx rx) ≡ b →
    find (λ m. test (delays_at m.entries tx rx) && test (module_at db m.name tx rx)) (m ∷ rest) ≡ find (λ m. test (module_at db m.name tx rx)) (m ∷ rest)) [
      | true ↦ λ is.
          ap (λ (b : Bool). if b then Some m else find (λ m. test (delays_at m.entries tx rx) && test (module_at db m.name tx rx)) rest)
          (and_from (test (delays_at m.entries tx rx)) (test (module_at db m.name tx rx)) (own_passes db tx rx test m rest follow is) is)
          ∙ sym (ap (λ (b : Bool). if b then Some m else find (λ m. test (module_at db m.name tx rx)) rest) is)
      | false ↦ λ fails.
          ap (λ (b : Bool). if b then Some m else find (λ m. test (delays_at m.entries tx rx) && test (module_at db m.name tx rx)) rest)
          (and_no (test (delays_at m.entries tx rx)) (test (module_at db m.name tx rx)) fails)
          ∙ first_among db tx rx test rest (others_follow db tx rx test m rest follow fails)
          ∙ sym (ap (λ (b : Bool). if b then Some m else find (λ m. test (module_at db m.name tx rx)) rest) fails)
    ] refl

first_is_own : (db : Database) (tx rx : ℕ) (test : Option Module → Bool)
    → find (λ m. test (delays_at m.entries tx rx) && test (module_at db m.name tx rx)) db.modules ≡ find (λ m. test (module_at db m.name tx rx)) db.modules
first_is_own db tx rx test = first_among db tx rx test db.modules (λ name. inl refl)

-- so this holds for a pair of wavelengths that is known
pub found_by_entries : (db : Database) (test : Option Module → Bool) (tx rx : ℕ) (pair : Option (ℕ × ℕ)) → pair ≡ Some (tx, rx)
    → find (λ m. test (delays_at m.entries tx rx) && test (module_at db m.name tx rx)) db.modules
    ≡ find (λ m. test (option_and_then (λ p. module_at db m.name p.0 p.1) pair)) db.modules
found_by_entries db test tx rx pair is =
    first_is_own db tx rx test ∙ ap (λ (o : Option (ℕ × ℕ)). find (λ m. test (option_and_then (λ p. module_at db m.name p.0 p.1) o)) db.modules) (sym is)

-- and if there is no pair, none is found
none_in : (modules : List ModuleAt) (b : Bool) → b ≡ false → find (λ m. b) modules ≡ None
none_in [] b fails = refl
none_in (m ∷ rest) b fails = ap (λ (passes : Bool). if passes then Some m else find (λ n. b) rest) fails ∙ none_in rest b fails

pub none_without_pair : (db : Database) (test : Option Module → Bool) (pair : Option (ℕ × ℕ)) → pair ≡ None → test None ≡ false
    → find (λ m. test (option_and_then (λ p. module_at db m.name p.0 p.1) pair)) db.modules ≡ None
none_without_pair db test pair is fails =
    ap (λ (o : Option (ℕ × ℕ)). find (λ m. test (option_and_then (λ p. module_at db m.name p.0 p.1) o)) db.modules) is ∙ none_in db.modules (test None) fails
