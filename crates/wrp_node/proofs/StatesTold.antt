-- The link states of a node's ports, found by their numbers.
use Rattle.std.proofs.Common.{◌≡◌, ◌∙◌, refl, ap, ℕ, ◌==◌, Bool, true, false, List, [], ◌∷◌, map, Option, None, Some}
use Rattle.wrp_base.specs.declared.link.LinkState.{LinkState}
use Rattle.wrp_base.specs.declared.link.LinkState.TheVariants.{Idle}
use Rattle.wrp_node.specs.declared.parts.Parts.{Parts}
use Rattle.wrp_node.specs.declared.place.PortPlace.{PortPlace}
use Rattle.wrp_node.specs.declared.ports.states.PortState.{PortState}
use Rattle.wrp_node.specs.NodeAt.{NodeSetting, NodeAt}
use Rattle.wrp_node.specs.Parts.{PlaceStands, PartsAt, is_among}
use Rattle.wrp_node.specs.Place.{place_of}
use Rattle.wrp_node.specs.States.{port_state, state_in, state_at}
use Rattle.wrp_node.proofs.Finding.{Found, found}
use Rattle.wrp_node.proofs.Giving.{line_is}
use Rattle.wrp_port.specs.declared.line.Rest.{Rest}

abbrev state_of : Option PortPlace → LinkState
state_of None = Idle
state_of (Some place) = place.port.line.link.state

found_where : (p : ℕ) (x : PortPlace) (xs : List PortPlace) (b : Bool) → (x.number == p) ≡ b → state_in p (map port_state xs) ≡ state_of (place_of p xs) →
    state_in p (map port_state (x ∷ xs)) ≡ state_of (place_of p (x ∷ xs))
found_where p x xs true e h = rw e refl
found_where p x xs false e h = rw e h

state_found : (p : ℕ) (places : List PortPlace) → state_in p (map port_state places) ≡ state_of (place_of p places)
state_found p [] = refl
state_found p (x ∷ xs) = found_where p x xs (x.number == p) refl (state_found p xs)

pub state_told : (fixed : NodeSetting) (n : NodeAt) (parts : Parts) (p : ℕ) → PartsAt fixed n parts → is_among p parts.ports ≡ true →
    state_in p (map port_state parts.ports) ≡ state_at p fixed n
state_told fixed n parts p h e =
    let f : Found (PlaceStands fixed n) p parts.ports = found (PlaceStands fixed n) p parts.ports h.places e in
    state_found p parts.ports
    ∙ ap state_of f.is
    ∙ ap (λ (l : Rest). l.link.state) (line_is fixed n f.place f.holds)
    ∙ ap (λ (q : ℕ). state_at q fixed n) f.number

-- the rows of these ports have their numbers
pub row_numbers : (places : List PortPlace) → map (λ (row : PortState). row.port) (map port_state places) ≡ map (λ (place : PortPlace). place.number) places
row_numbers [] = refl
row_numbers (x ∷ xs) = ap (λ (ns : List ℕ). x.number ∷ ns) (row_numbers xs)
