-- The port at an end of a link is among the ports of the node there, and has its number alone.
use Rattle.std.proofs.Common.{◌≡◌, ap, subst, ℕ, zero, suc, ◌==◌, Bool, true, false, if◌then◌else◌, List, [], ◌∷◌, ◌++◌, Some, slice_get, arith}
use Rattle.std.specs.List.{AllByRecursion, find, flat_map}
use Rattle.wrp_network.specs.declared.configuration.NetCfg.{NetCfg}
use Rattle.wrp_network.specs.declared.network.LinkCfg.{LinkCfg}
use Rattle.wrp_network.specs.Network.{NamesNoPortTwice}
use Rattle.wrp_base.proofs.Naturals.{eq_self}
use Rattle.wrp_data.specs.declared.datasets.PortDs.{PortDs}
use Rattle.wrp_node.specs.NodeAt.{port_or_none, port_of}
use Rattle.wrp_node.specs.Set.{master_at, slave_at, ports_at, ports_of, set_of}
use Rattle.wrp_node.specs.SetLaws.{EndsAreSet}
use Rattle.wrp_node.proofs.Lists.{all_of}
use Rattle.wrp_node.proofs.NewNode.{all_found}
use Rattle.wrp_node.proofs.OwnPorts.{different_numbers}

-- ---- what holds of each element of a list holds of each element of its parts

all_parts : {X : Type 0} (P : X → Type 0) (xs ys : List X) → AllByRecursion P (xs ++ ys) → AllByRecursion P xs × AllByRecursion P ys
all_parts P [] ys h = (tt, h)
all_parts P (x ∷ xs) ys h = let rest : AllByRecursion P xs × AllByRecursion P ys = all_parts P xs ys h.1 in ((h.0, rest.0), rest.1)

all_at : {X Y : Type 0} (P : Y → Type 0) (f : X → List Y) (xs : List X) (i : ℕ) (x : X) → slice_get xs i ≡ Some x → AllByRecursion P (flat_map f xs) → AllByRecursion P (f x)
all_at P f [] i x at h = absurd (cc)
all_at P f (y ∷ ys) zero x at h = let same : y ≡ x = cc in subst (λ z. AllByRecursion P (f z)) same (all_parts P (f y) (flat_map f ys) h).0
all_at P f (y ∷ ys) (suc i) x at h = all_at P f ys i x at (all_parts P (f y) (flat_map f ys) h).1

first_of : {X : Type 0} (P : X → Type 0) (x : X) (b : Bool) → b ≡ true → AllByRecursion P (if b then x ∷ [] else []) → P x
first_of P x true e h = h.0
first_of P x false e h = absurd (grind arith)

-- ---- each port is the port of its number

abbrev IsFound : NetCfg → ℕ → PortDs → Type 0
IsFound net n ds = port_of (set_of net n) ds.own.port ≡ ds

all_are_found : (net : NetCfg) (n : ℕ) → NamesNoPortTwice net → AllByRecursion (IsFound net n) (ports_of net n)
all_are_found net n once =
    all_of (λ y. find (λ o. o.own.port == y.own.port) (ports_of net n) ≡ Some y) (IsFound net n) (ports_of net n)
    (λ y e. ap port_or_none e) (all_found (ports_of net n) (different_numbers net n once))

abbrev at_upper : NetCfg → ℕ → LinkCfg → List PortDs
at_upper net n link = if link.upper == n then master_at net link ∷ [] else []

abbrev at_lower : NetCfg → ℕ → LinkCfg → List PortDs
at_lower net n link = if link.lower == n then slave_at net link ∷ [] else []

found_at_ends : (net : NetCfg) (n l : ℕ) (link : LinkCfg) → NamesNoPortTwice net → slice_get net.links.items l ≡ Some link →
    AllByRecursion (IsFound net n) (at_upper net n link) × AllByRecursion (IsFound net n) (at_lower net n link)
found_at_ends net n l link once at =
    all_parts (IsFound net n) (at_upper net n link) (at_lower net n link)
    (all_at (IsFound net n) (ports_at net n) net.links.items l link at (all_are_found net n once))

pub ends_are_set : EndsAreSet
ends_are_set net l link once at = (
  first_of (IsFound net link.upper) (master_at net link) (link.upper == link.upper) (eq_self link.upper) (found_at_ends net link.upper l link once at).0,
  first_of (IsFound net link.lower) (slave_at net link) (link.lower == link.lower) (eq_self link.lower) (found_at_ends net link.lower l link once at).1,
)
