-- What the ports of a node send is spelled by its octets; and which numbers its ports have.
use Rattle.std.proofs.Common.{◌≡◌, ◌∙◌, refl, ap, subst, ℕ, ◌==◌, ◌||◌, Bool, true, List, [], ◌∷◌, map}
use Rattle.std.specs.List.{AllByRecursion, list_any}
use Rattle.wrp_data.specs.declared.datasets.PortDs.{PortDs}
use Rattle.wrp_node.specs.declared.parts.Parts.{Parts}
use Rattle.wrp_node.specs.declared.place.PortPlace.{PortPlace}
use Rattle.wrp_node.specs.NodeAt.{NodeSetting, NodeAt, numbers_of}
use Rattle.wrp_node.specs.Parts.{PlaceIn, PartsIn, is_among}
use Rattle.wrp_node.specs.Sends.{is_own_port}
use Rattle.wrp_node.specs.Spelled.{AreSpelled, AllSpelled}
use Rattle.wrp_node.specs.Telling.{Step}
use Rattle.wrp_node.proofs.Finding.{Found, found}
use Rattle.wrp_node.proofs.OwnPorts.{has_number, has_ordered}

-- ---- the numbers of a node's ports

has_mapped : (p : ℕ) (ports : List PortDs) → has_number p ports ≡ list_any (λ (ds : PortDs). ds.own.port == p) ports
has_mapped p [] = refl
has_mapped p (ds ∷ ports) = ap (λ (c : Bool). (ds.own.port == p) || c) (has_mapped p ports)

-- a number among those of the ports, in their order, is the number of one of the node's ports
pub number_is_port : (fixed : NodeSetting) (p : ℕ) → list_any (λ (q : ℕ). q == p) (numbers_of fixed.set) ≡ is_own_port fixed p
number_is_port fixed p = has_ordered p fixed.set.ports.items ∙ has_mapped p fixed.set.ports.items

pub among_is_port : (fixed : NodeSetting) (places : List PortPlace) (p : ℕ) → map (λ (place : PortPlace). place.number) places ≡ numbers_of fixed.set →
    is_among p places ≡ is_own_port fixed p
among_is_port fixed places p e = ap (list_any (λ (q : ℕ). q == p)) e ∙ number_is_port fixed p

-- ---- what they send

both_all : {A : Type 0} (P Q : A → Type 0) (xs : List A) → AllByRecursion P xs → AllByRecursion Q xs → AllByRecursion (λ (x : A). P x × Q x) xs
both_all P Q [] h k = tt
both_all P Q (x ∷ xs) h k = ((h.0, k.0), both_all P Q xs h.1 k.1)

pub spelled_at : (fixed : NodeSetting) (before : NodeAt) (s : Step) (parts : Parts) (p : ℕ) → PartsIn fixed before s parts → AllSpelled parts.ports →
    is_own_port fixed p ≡ true → AreSpelled (s.sends p)
spelled_at fixed before s parts p h k e =
    let P : PortPlace → Type 0 = PlaceIn fixed before s in
    let Q : PortPlace → Type 0 = λ (place : PortPlace). AreSpelled place.sends.items in
    let f : Found (λ (place : PortPlace). P place × Q place) p parts.ports =
    found (λ (place : PortPlace). P place × Q place) p parts.ports (both_all P Q parts.ports h.places k) (among_is_port fixed parts.ports p h.numbers ∙ e) in
    subst AreSpelled (f.holds.0.sends ∙ ap s.sends f.number) f.holds.1
