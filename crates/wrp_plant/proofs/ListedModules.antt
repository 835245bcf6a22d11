-- What the network says about a module.
use Rattle.std.proofs.Common.{◌≡◌, ◌∙◌, refl, ap, ap₂, sym, ℕ, suc, ◌<◌, ◌==◌, ◌&&◌, Bool, true, false, cond, List, [], ◌∷◌, Option, None, Some, IfSome, option_map, option_and_then, slice_get, arith}
use Rattle.std.specs.List.{find}
use Rattle.wrp_base.specs.declared.link.Module.{Module}
use Rattle.wrp_base.specs.declared.link.Role.{Role}
use Rattle.wrp_network.specs.declared.network.LinkCfg.{LinkCfg}
use Rattle.wrp_base.specs.Clock.{steps_of_period}
use Rattle.wrp_base.specs.Link.{other_of}
use Rattle.wrp_base.proofs.Options.{either_holds}
use Rattle.wrp_caldb.specs.declared.database.Entry.{Entry}
use Rattle.wrp_caldb.specs.Database.{Database, ModuleAt, delays_at, entry_at as entry_in, module_at}
use Rattle.wrp_caldb.specs.Name.{same_name}
use Rattle.wrp_config.specs.Accepted.{IsSoundDatabase}
use Rattle.wrp_course.specs.Setting.{Setting, entry_at, link_of, sends_nm}

-- what was found is one of those that were searched
pub found_case : {A : Type 0} (P : A → Type 0) (b : Bool) (x : A) (o : Option A) → P x → IfSome o P → IfSome (cond b (Some x) o) P
found_case P true x o p q = p
found_case P false x o p q = q

found_holds : {A : Type 0} (P : A → Type 0) (test : A → Bool) (xs : List A) → ((k : ℕ) (x : A) → slice_get xs k ≡ Some x → P x) → IfSome (find test xs) P
found_holds P test [] h = tt
found_holds P test (x ∷ xs) h = found_case P (test x) x (find test xs) (h 0 x refl) (found_holds P test xs (λ k y e. h (suc k) y e))

pub mapped_holds : {A B : Type 0} (f : A → B) (P : B → Type 0) (o : Option A) → IfSome o (λ x. P (f x)) → IfSome (option_map f o) P
mapped_holds f P None h = tt
mapped_holds f P (Some x) h = h

pub then_holds : {A B : Type 0} (f : A → Option B) (P : B → Type 0) (o : Option A) → IfSome o (λ x. IfSome (f x) P) → IfSome (option_and_then f o) P
then_holds f P None h = tt
then_holds f P (Some x) h = h

-- the transition tag of a listed module is within the period
abbrev HasTag : Module → Type 0
HasTag m = m.transition < steps_of_period

entry_has : (tx rx : ℕ) (entries : List Entry) → ((k : ℕ) (entry : Entry) → slice_get entries k ≡ Some entry → HasTag entry.delays) → IfSome (entry_in tx rx entries) HasTag
entry_has tx rx entries h =
    mapped_holds (λ (e : Entry). e.delays) HasTag (find (λ e. (e.tx_nm == tx) && (e.rx_nm == rx)) entries)
    (found_holds (λ (e : Entry). HasTag e.delays) (λ e. (e.tx_nm == tx) && (e.rx_nm == rx)) entries h)

pub module_has : (db : Database) (name : List ℕ) (tx rx : ℕ) → IsSoundDatabase db → IfSome (module_at db name tx rx) HasTag
module_has db name tx rx h =
    then_holds (λ (m : ModuleAt). delays_at m.entries tx rx) HasTag (find (λ m. same_name m.name name) db.modules)
    (found_holds (λ (m : ModuleAt). IfSome (delays_at m.entries tx rx) HasTag) (λ m. same_name m.name name) db.modules
    (λ k m e.
    let each : (j : ℕ) (entry : Entry) → slice_get m.entries j ≡ Some entry → HasTag entry.delays =
    (λ j entry f. let most = ((h.modules k m e).entries j entry f).transition in omega (arith, most)) in
    either_holds HasTag (entry_in tx rx m.entries) (entry_in 0 0 m.entries) (entry_has tx rx m.entries each) (entry_has 0 0 m.entries each)))

-- what the network says about it at an end of a link
pub entry_told : (s : Setting) (k : ℕ) (r : Role) (name : List ℕ) (db : Database) (link : LinkCfg) (tx rx : ℕ) (o : Option Module) → o ≡ module_at db name tx rx →
    tx ≡ sends_nm r link → rx ≡ sends_nm (other_of r) link → db ≡ s.db → link_of s k ≡ Some link → o ≡ entry_at s k r name
entry_told s k r name db link tx rx o e t x d l =
    e ∙ ap₂ (λ a b. module_at db name a b) t x ∙ ap (λ (b : Database). module_at b name (sends_nm r link) (sends_nm (other_of r) link)) d
    ∙ sym (ap (λ p. option_and_then (λ (z : LinkCfg). module_at s.db name (sends_nm r z) (sends_nm (other_of r) z)) p) l)
