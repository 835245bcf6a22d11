-- What is found in a sound database is in its ranges.
use Rattle.std.proofs.Common.{◌≡◌, ◌≤◌, ◌^◌, ◌++◌, ◌⊎◌, ◌&&◌, ◌==◌, ℕ, zero, suc, List, [], ◌∷◌, Bool, Option, None, Some, map, unsigned_abs, refl, subst, inl, inr, arith}
use Rattle.std.specs.Prelude.{option_map, slice_get, IfSome}
use Rattle.std.specs.Option.{option_or}
use Rattle.std.specs.List.{find, flat_map}
use Rattle.std.proofs.lemmas.Option.{same_Some}
use Rattle.wrp_base.specs.declared.link.Fibre.{Fibre}
use Rattle.wrp_base.specs.declared.link.Module.{Module}
use Rattle.wrp_base.specs.Ranges.{IsAmong}
use Rattle.wrp_base.proofs.Lists.{found_at}
use Rattle.wrp_caldb.specs.Database.{Database, ModuleAt, FibreAt, TableAt, entry_at, delays_at, fibre_named, fibre_at, table_at}
use Rattle.wrp_caldb.specs.Name.{same_name}
use Rattle.wrp_caldb.specs.declared.database.Entry.{Entry}
use Rattle.wrp_config.specs.Accepted.{HasDelayRanges, IsSoundModule, IsSoundTable, IsSoundFibre, IsSoundDatabase, greatest, error_of, error_at_ends, law_error, all_delays}
use Rattle.wrp_config.proofs.Lists.{made_of, greatest_most}

-- Fibres

-- the fibre of a name is one of the list
fibre_sound : (db : Database) → IsSoundDatabase db → (name : List ℕ) (f : FibreAt) → fibre_named db name ≡ Some f → IsSoundFibre f
fibre_sound db sound name f e =
    let at = found_at (λ (g : FibreAt). same_name g.name name) db.fibres f e in
    sound.fibres at.0 f at.1

-- what is found of a fibre
pub record IsFoundFibre (db : Database) (name : List ℕ) (f : Fibre) : Type 0 where
  pub kappa : unsigned_abs f.kappa ≤ 2 ^ 38
  pub err : IsAmong 1 1_000_000_000 f.err
  pub law : IsAmong 1 1_000_000_001 (law_error (table_at db name))

law_small : (kappa : _) (o : Option TableAt) → IfSome o (IsSoundTable kappa) → IsAmong 1 1_000_000_001 (law_error o)
law_small kappa None sound = (omega arith, omega arith)
law_small kappa (Some table) sound = let small = sound.err in (omega arith, omega (arith, small))

found_fibre : (db : Database) → IsSoundDatabase db → (name : List ℕ) (f : Fibre) (o : Option FibreAt) → fibre_named db name ≡ o
    → option_map (λ g. g.fibre) o ≡ Some f → IsFoundFibre db name f
found_fibre db sound name f None e is = cc is
found_fibre db sound name f (Some g) e is =
    let own = fibre_sound db sound name g e in
    let same : g.fibre ≡ f = same_Some g.fibre f is in
    record {
      kappa = subst (λ (x : Fibre). unsigned_abs x.kappa ≤ 2 ^ 38) same own.kappa;
      err = subst (λ (x : Fibre). IsAmong 1 1_000_000_000 x.err) same (own.least_err, own.err);
      law = rw e (law_small g.fibre.kappa g.table own.table);
    }

pub fibre_found : (db : Database) → IsSoundDatabase db → (name : List ℕ) (f : Fibre) → fibre_at db name ≡ Some f → IsFoundFibre db name f
fibre_found db sound name f is = found_fibre db sound name f (fibre_named db name) refl is

-- Modules

entry_small : (entries : List Entry) → ((k : ℕ) (entry : Entry) → slice_get entries k ≡ Some entry → HasDelayRanges entry.delays)
    → (p : Entry → Bool) (o : Option Entry) → find p entries ≡ o → error_of (option_map (λ e. e.delays) o) ≤ 1_000_000_000
entry_small entries fit p None e = omega arith
entry_small entries fit p (Some entry) e = let at = found_at p entries entry e in (fit at.0 entry at.1).err

or_small : (a b : Option Module) → error_of a ≤ 1_000_000_000 → error_of b ≤ 1_000_000_000 → error_of (option_or a b) ≤ 1_000_000_000
or_small None b ha hb = hb
or_small (Some delays) b ha hb = ha

delays_small : (m : ModuleAt) → IsSoundModule m → (tx rx : ℕ) → error_of (delays_at m.entries tx rx) ≤ 1_000_000_000
delays_small m sound tx rx =
    let own = λ (p : Entry → Bool). entry_small m.entries sound.entries p (find p m.entries) refl in
    or_small (entry_at tx rx m.entries) (entry_at 0 0 m.entries)
    (own (λ e. (e.tx_nm == tx) && (e.rx_nm == rx))) (own (λ e. (e.tx_nm == 0) && (e.rx_nm == 0)))

-- the error of a link's modules
pub link_error : (db : Database) → IsSoundDatabase db → (down up : ℕ) → greatest (map (error_at_ends down up) db.modules) ≤ 1_000_000_000
link_error db sound down up =
    greatest_most (error_at_ends down up) db.modules 1_000_000_000 (λ i m e.
    let own = sound.modules i m e in
    let a = delays_small m own down up in
    let b = delays_small m own up down in
    omega (arith, a, b))

-- All entries

append_at : {X : Type 0} (xs ys : List X) (i : ℕ) (y : X) → slice_get (xs ++ ys) i ≡ Some y
    → ((j : ℕ) × (slice_get xs j ≡ Some y)) ⊎ ((j : ℕ) × (slice_get ys j ≡ Some y))
append_at [] ys i y e = inr (i, e)
append_at (x ∷ xs) ys zero y e = inl (0, e)
append_at (x ∷ xs) ys (suc i) y e = elim (append_at xs ys i y e) [
  | inl at ↦ inl (suc at.0, at.1)
  | inr at ↦ inr at
]

entry_fits : (ms : List ModuleAt) → ((k : ℕ) (m : ModuleAt) → slice_get ms k ≡ Some m → IsSoundModule m)
    → (i : ℕ) (entry : Entry) → slice_get (flat_map (λ m. m.entries) ms) i ≡ Some entry → HasDelayRanges entry.delays
entry_fits [] sound i entry e = cc e
entry_fits (m ∷ ms) sound i entry e = elim (append_at m.entries (flat_map (λ n. n.entries) ms) i entry e) [
  | inl at ↦ (sound 0 m refl).entries at.0 entry at.1
  | inr at ↦ entry_fits ms (λ k. sound (suc k)) at.0 entry at.1
]

pub delays_fit : (db : Database) → IsSoundDatabase db → (i : ℕ) (delays : Module) → slice_get (all_delays db) i ≡ Some delays → HasDelayRanges delays
delays_fit db sound i delays e =
    let made = made_of (λ (entry : Entry). entry.delays) (flat_map (λ m. m.entries) db.modules) i delays e in
    rw made.is (entry_fits db.modules sound.modules i made.x made.at)
