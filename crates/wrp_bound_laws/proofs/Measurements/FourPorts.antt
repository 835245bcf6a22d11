-- A node has one slave port.
use Rattle.std.proofs.Common.{◌≡◌, ◌∙◌, refl, ap, sym, ℕ, suc, ◌≤◌, ◌==◌, Bool, true, false, if◌then◌else◌, List, [], ◌∷◌, length, Option, None, Some, option_map, arith}
use Rattle.std.proofs.lemmas.Bool.{eqb-true}
use Rattle.std.specs.List.{filter, find}
use Rattle.std.proofs.lemmas.Option.{none-some, same_Some}
use Rattle.wrp_network.specs.declared.configuration.NetCfg.{NetCfg}
use Rattle.wrp_base.specs.declared.link.Role.{Role}
use Rattle.wrp_base.specs.declared.link.Role.TheVariants.{Master, Slave}
use Rattle.wrp_network.specs.Network.{IsTree}
use Rattle.wrp_base.proofs.Booleans.{not_both}
use Rattle.wrp_data.specs.declared.datasets.PortDs.{PortDs}
use Rattle.wrp_node.specs.NodeAt.{is_slave, port_of, port_or_none, slave_in}
use Rattle.wrp_node.specs.Set.{ports_of, set_of}
use Rattle.wrp_node.proofs.OwnPorts.{one_slave}

more_than_none : (n : ℕ) → suc n ≤ 0 → ⊥
more_than_none n h = omega (arith, h)

one_less : (n : ℕ) → suc n ≤ 1 → n ≤ 0
one_less n h = omega (arith, h)

-- if none passes, none that is found does
no_pass_where : {A : Type 0} (t u : A → Bool) (x y : A) (xs : List A) (c d : Bool) → t x ≡ c → length (if c then x ∷ filter t xs else filter t xs) ≤ 0 → (if d then Some x else find u xs) ≡ Some y → t y ≡ true →
    (length (filter t xs) ≤ 0 → find u xs ≡ Some y → ⊥) → ⊥
no_pass_where t u x y xs true d is few e p rest = more_than_none (length (filter t xs)) few
no_pass_where t u x y xs false true is few e p rest = not_both (t x) (ap t (same_Some x y e) ∙ p) is
no_pass_where t u x y xs false false is few e p rest = rest few e

no_pass : {A : Type 0} (t u : A → Bool) (y : A) (xs : List A) → length (filter t xs) ≤ 0 → find u xs ≡ Some y → t y ≡ true → ⊥
no_pass t u y [] few e p = none-some y e
no_pass t u y (x ∷ xs) few e p = no_pass_where t u x y xs (t x) (u x) refl few e p (λ less f. no_pass t u y xs less f p)

-- if at most one passes, one that passes is the first that does
only_pass_where : {A : Type 0} (t u : A → Bool) (x y z : A) (xs : List A) (c d : Bool) → t x ≡ c → length (if c then x ∷ filter t xs else filter t xs) ≤ 1 → (if c then Some x else find t xs) ≡ Some y → (if d then Some x else find u xs) ≡ Some z → t z ≡ true →
    (length (filter t xs) ≤ 1 → find t xs ≡ Some y → find u xs ≡ Some z → y ≡ z) → y ≡ z
only_pass_where t u x y z xs true true is few e f p rest = same_Some y z (sym e ∙ f)
only_pass_where t u x y z xs true false is few e f p rest = absurd (no_pass t u z xs (one_less (length (filter t xs)) few) f p)
only_pass_where t u x y z xs false true is few e f p rest = absurd (not_both (t x) (ap t (same_Some x z f) ∙ p) is)
only_pass_where t u x y z xs false false is few e f p rest = rest few e f

only_pass : {A : Type 0} (t u : A → Bool) (y z : A) (xs : List A) → length (filter t xs) ≤ 1 → find t xs ≡ Some y → find u xs ≡ Some z → t z ≡ true → y ≡ z
only_pass t u y z [] few e f p = absurd (none-some y e)
only_pass t u y z (x ∷ xs) few e f p = only_pass_where t u x y z xs (t x) (u x) refl few e f p (λ less g h. only_pass t u y z xs less g h p)

-- what is found passes
found_where : {A : Type 0} (u : A → Bool) (x z : A) (xs : List A) (d : Bool) → u x ≡ d → (if d then Some x else find u xs) ≡ Some z → (find u xs ≡ Some z → u z ≡ true) → u z ≡ true
found_where u x z xs true is e rest = ap u (sym (same_Some x z e)) ∙ is
found_where u x z xs false is e rest = rest e

found_passes : {A : Type 0} (u : A → Bool) (z : A) (xs : List A) → find u xs ≡ Some z → u z ≡ true
found_passes u z [] e = absurd (none-some z e)
found_passes u z (x ∷ xs) e = found_where u x z xs (u x) refl e (found_passes u z xs)

slave_is : (role : Role) → role ≡ Slave → is_slave role ≡ true
slave_is role e = ap is_slave e

master_not : Master ≡ Slave → ⊥
master_not e = cc

slave_number : (o : Option PortDs) (p : ℕ) → option_map (λ (ds : PortDs). ds.own.port) o ≡ Some p → (ds : PortDs) × (o ≡ Some ds) × (ds.own.port ≡ p)
slave_number None p e = absurd (none-some p e)
slave_number (Some ds) p e = (ds, refl, same_Some ds.own.port p e)

slave_found : (o : Option PortDs) → (port_or_none o).role ≡ Slave → (ds : PortDs) × (o ≡ Some ds) × (ds.role ≡ Slave)
slave_found None e = absurd (master_not e)
slave_found (Some ds) e = (ds, refl, e)

pub slave_alone : (net : NetCfg) (n p q : ℕ) → IsTree net → slave_in (ports_of net n) ≡ Some p → (port_of (set_of net n) q).role ≡ Slave → q ≡ p
slave_alone net n p q tree slave role =
    let ports : List PortDs = ports_of net n in
    let first : (ds : PortDs) × (find (λ ds. is_slave ds.role) ports ≡ Some ds) × (ds.own.port ≡ p) = slave_number (find (λ ds. is_slave ds.role) ports) p slave in
    let here : (ds : PortDs) × (find (λ ds. ds.own.port == q) ports ≡ Some ds) × (ds.role ≡ Slave) = slave_found (find (λ ds. ds.own.port == q) ports) role in
    let same : first.0 ≡ here.0 =
    only_pass (λ (ds : PortDs). is_slave ds.role) (λ (ds : PortDs). ds.own.port == q) first.0 here.0 ports (one_slave net n tree) first.1 here.1 (slave_is here.0.role here.2) in
    sym (eqb-true here.0.own.port q (found_passes (λ (ds : PortDs). ds.own.port == q) here.0 ports here.1)) ∙ sym (ap (λ (ds : PortDs). ds.own.port) same) ∙ first.2
