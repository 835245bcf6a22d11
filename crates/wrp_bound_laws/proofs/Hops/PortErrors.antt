-- The error of a listed module at an end of a link is at most the error of the link's database.
use Rattle.std.proofs.Common.{◌≡◌, ◌∙◌, refl, ap, sym, subst, ℕ, zero, suc, ◌≤◌, max, fold, List, [], ◌∷◌, map, Option, None, Some, slice_get, arith}
use Rattle.std.specs.List.{find}
use Rattle.std.specs.Prelude.{option_and_then}
use Rattle.std.proofs.lemmas.Option.{none-some, same_Some}
use Rattle.wrp_base.specs.declared.link.Module.{Module}
use Rattle.wrp_base.specs.declared.link.Role.{Role}
use Rattle.wrp_base.specs.declared.link.Role.TheVariants.{Master, Slave}
use Rattle.wrp_network.specs.declared.network.LinkCfg.{LinkCfg}
use Rattle.wrp_base.specs.Link.{other_of}
use Rattle.wrp_base.proofs.Lists.{found_at}
use Rattle.wrp_caldb.specs.Database.{Database, ModuleAt, delays_at, module_at}
use Rattle.wrp_caldb.specs.Name.{same_name}
use Rattle.wrp_config.specs.Accepted.{FitsDatabase, error_at_ends, error_of, greatest}
use Rattle.wrp_course.specs.Runs.{IsNetwork}
use Rattle.wrp_course.specs.Setting.{Setting, entry_at, link_of, sends_nm}

-- The greatest of some numbers

first_at_most : (a b c : ℕ) → max a b ≤ c → a ≤ c
first_at_most a b c h = omega (arith, h)

other_at_most : (a b c : ℕ) → max a b ≤ c → b ≤ c
other_at_most a b c h = omega (arith, h)

at_least_first : (xs : List ℕ) (a : ℕ) → a ≤ fold max a xs
at_least_first [] a = omega arith
at_least_first (x ∷ xs) a = first_at_most a x (fold max (max a x) xs) (at_least_first xs (max a x))

at_most_greatest : {X : Type 0} (f : X → ℕ) (xs : List X) (a i : ℕ) (x : X) → slice_get xs i ≡ Some x → f x ≤ fold max a (map f xs)
at_most_greatest f [] a i x e = absurd (none-some x e)
at_most_greatest f (y ∷ xs) a zero x e =
    subst (λ z. f z ≤ fold max (max a (f y)) (map f xs)) (same_Some y x e)
    (other_at_most a (f y) (fold max (max a (f y)) (map f xs)) (at_least_first (map f xs) (max a (f y))))
at_most_greatest f (y ∷ xs) a (suc i) x e = at_most_greatest f xs (max a (f y)) i x e

-- A listed module

-- the numbers are the numbers of a module of the database for this pair of wavelengths
record IsListed (db : Database) (tx rx : ℕ) (entry : Module) : Type 0 where
  which : ModuleAt
  place : ℕ
  there : slice_get db.modules place ≡ Some which
  delays : delays_at which.entries tx rx ≡ Some entry

listed : (db : Database) (name : List ℕ) (tx rx : ℕ) (entry : Module) (o : Option ModuleAt) → find (λ m. same_name m.name name) db.modules ≡ o →
    option_and_then (λ (m : ModuleAt). delays_at m.entries tx rx) o ≡ Some entry → IsListed db tx rx entry
listed db name tx rx entry None e is = absurd (none-some entry is)
listed db name tx rx entry (Some m) e is =
    let at : (i : ℕ) × (slice_get db.modules i ≡ Some m) = found_at (λ (x : ModuleAt). same_name x.name name) db.modules m e in
    record { which = m; place = at.0; there = at.1; delays = is }

error_down : (db : Database) (down up : ℕ) (entry : Module) → IsListed db down up entry → entry.err ≤ greatest (map (error_at_ends down up) db.modules)
error_down db down up entry m =
    let most : error_at_ends down up m.which ≤ greatest (map (error_at_ends down up) db.modules) =
    at_most_greatest (error_at_ends down up) db.modules 0 m.place m.which m.there in
    subst (λ n. n ≤ greatest (map (error_at_ends down up) db.modules)) (ap error_of m.delays)
    (first_at_most (error_of (delays_at m.which.entries down up)) (error_of (delays_at m.which.entries up down)) (greatest (map (error_at_ends down up) db.modules)) most)

error_up : (db : Database) (down up : ℕ) (entry : Module) → IsListed db up down entry → entry.err ≤ greatest (map (error_at_ends down up) db.modules)
error_up db down up entry m =
    let most : error_at_ends down up m.which ≤ greatest (map (error_at_ends down up) db.modules) =
    at_most_greatest (error_at_ends down up) db.modules 0 m.place m.which m.there in
    subst (λ n. n ≤ greatest (map (error_at_ends down up) db.modules)) (ap error_of m.delays)
    (other_at_most (error_of (delays_at m.which.entries down up)) (error_of (delays_at m.which.entries up down)) (greatest (map (error_at_ends down up) db.modules)) most)

-- At an end of a link

error_at : (db : Database) (link : LinkCfg) (r : Role) (entry : Module) → FitsDatabase db link → IsListed db (sends_nm r link) (sends_nm (other_of r) link) entry → entry.err ≤ link.e_db
error_at db link Master entry fits m = subst (λ n. entry.err ≤ n) (sym fits.e_db) (error_down db link.down_nm link.up_nm entry m)
error_at db link Slave entry fits m = subst (λ n. entry.err ≤ n) (sym fits.e_db) (error_up db link.down_nm link.up_nm entry m)

pub entry_error : (s : Setting) → IsNetwork s → (k : ℕ) (r : Role) (link : LinkCfg) (name : List ℕ) (entry : Module) → link_of s k ≡ Some link → entry_at s k r name ≡ Some entry → entry.err ≤ link.e_db
entry_error s net k r link name entry is e =
    let found : module_at s.db name (sends_nm r link) (sends_nm (other_of r) link) ≡ Some entry =
    sym (ap (option_and_then (λ (x : LinkCfg). module_at s.db name (sends_nm r x) (sends_nm (other_of r) x))) is) ∙ e in
    error_at s.db link r entry (net.accepted.links k link is)
    (listed s.db name (sends_nm r link) (sends_nm (other_of r) link) entry (find (λ m. same_name m.name name) s.db.modules) refl found)
