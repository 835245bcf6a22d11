-- The inputs of a link that is cut or joined, and of a node that goes down or comes up: the code lists all of them.
use Rattle.std.proofs.Common.{◌≡◌, ◌∙◌, refl, ap, sym, subst, ℕ, zero, suc, ℤ, ◌+◌, ◌*◌, Bool, if◌then◌else◌, List, [], ◌∷◌, ◌++◌, append_assoc, arith}
use Rattle.std.specs.List.{flat_map}
use Rattle.arrayvec.specs.ArrayVec.{ArrayVec}
use Rattle.wrp_base.specs.declared.link.Role.{Role}
use Rattle.wrp_base.specs.declared.link.Role.TheVariants.{Master}
use Rattle.wrp_network.specs.Network.{HasRanges, NamesNoPortTwice}
use Rattle.wrp_node.specs.declared.interface.Input.TheVariants.{Reset}
use Rattle.wrp_node.specs.declared.interface.NodeSet.{NodeSet}
use Rattle.wrp_node.specs.NodeAt.{numbers_of}
use Rattle.wrp_node.specs.Set.{set_of}
use Rattle.wrp_course.specs.declared.event.Event.TheVariants.{Cut, Down, Join, Up}
use Rattle.wrp_course.specs.declared.event.Swap.{Swap}
use Rattle.wrp_course.specs.declared.node_out.NodeOut.{NodeOut}
use Rattle.wrp_course.specs.declared.place.Place.{Place}
use Rattle.wrp_plant.specs.declared.plant.Plant.{Plant}
use Rattle.wrp_course.specs.Given.{Given, at_ports, comes_from, given_plain, goes_from, if_carried}
use Rattle.wrp_changes.specs.Giving.{Adds, Gives, at_numbers, up_of}
use Rattle.wrp_plant.specs.Plant.{FitsPlant, PlantIs}
use Rattle.wrp_course.specs.Setting.{Setting, from_on, link_of, place_of}
use Rattle.wrp_course.specs.WorldAt.{WorldAt, ends_are_up, has_carrier}
use Rattle.wrp_changes.proofs.Carriers.{joined_carrier}
use Rattle.wrp_changes.proofs.Listing.{adds_then, gives_added, no_more}
use Rattle.wrp_course.proofs.PortNumbers.{all_numbers, ascends, not_placed}

-- One port after another

upto_more : {A : Type 0} (f : ℕ → List A) (i first : ℕ) → flat_map f (from_on i first) ++ f (first + i) ≡ flat_map f (from_on (suc i) first)
upto_more f zero first = let same : first + 0 ≡ first = omega arith in ap f same ∙ no_more (f first)
upto_more f (suc i) first =
    let same : first + suc i ≡ first + 1 + i = omega arith in
    append_assoc (f first) (flat_map f (from_on i (first + 1))) (f (first + suc i))
    ∙ ap (λ l. f first ++ l) (ap (λ k. flat_map f (from_on i (first + 1)) ++ f k) same ∙ upto_more f i (first + 1))

-- in another world that depends on the state, such as the world after a node came up
pub ports_more : (plant : Plant) (v : Setting → WorldAt → WorldAt) (gives : Setting → WorldAt → ℕ → Role → List Given) (n i p : ℕ) (xs ys zs : List NodeOut) → p ≡ i + 1 →
    Adds plant (2 * i) (λ s w. at_numbers s (v s w) (gives s w) n (from_on i 1)) xs ys →
    Adds plant 2 (λ s w. if_carried s (v s w) (gives s w) (place_of s n p)) ys zs →
    Adds plant (2 * (i + 1)) (λ s w. at_numbers s (v s w) (gives s w) n (from_on (i + 1) 1)) xs zs
ports_more plant v gives n i p xs ys zs e before now =
    let same : p ≡ 1 + i = omega (arith, e) in
    let next : i + 1 ≡ suc i = omega arith in
    adds_then plant (2 * i) 2 (2 * (i + 1)) _ _ _ xs ys zs (omega arith)
    (λ s w h.
    ap (λ k. at_numbers s (v s w) (gives s w) n (from_on i 1) ++ if_carried s (v s w) (gives s w) (place_of s n k)) same
    ∙ upto_more (λ q. if_carried s (v s w) (gives s w) (place_of s n q)) i 1
    ∙ ap (λ k. at_numbers s (v s w) (gives s w) n (from_on k 1)) (sym next))
    before now

-- All ports

ports_given : (s : Setting) (v : WorldAt) (gives : ℕ → Role → List Given) (n : ℕ) → s.set n ≡ set_of s.cfg n → HasRanges s.cfg → NamesNoPortTwice s.cfg →
    at_numbers s v gives n (from_on 18 1) ≡ at_ports s v gives n
ports_given s v gives n e ranges once =
    all_numbers (λ p. if_carried s v gives (place_of s n p)) 18 1 19 (numbers_of (set_of s.cfg n)) refl (ascends s.cfg n ranges once)
    (λ p low none. ap (if_carried s v gives) (not_placed s.cfg n p none))
    ∙ ap (λ (set : NodeSet). flat_map (λ p. if_carried s v gives (place_of s n p)) (numbers_of set)) (sym e)

pub all_ports : (s : Setting) (w v : WorldAt) (plant : Plant) (gives : ℕ → Role → List Given) (n : ℕ) → FitsPlant plant → PlantIs s w plant → s.set n ≡ set_of s.cfg n →
    at_numbers s v gives n (from_on 18 1) ≡ at_ports s v gives n
all_ports s w v plant gives n f h e =
    ports_given s v gives n e (subst HasRanges h.cfg f.accepted.ranges) (subst NamesNoPortTwice h.cfg f.accepted.ports)

-- The events

pub cut_gives : (plant : Plant) (k : ℕ) (place : Place) (xs ys : List NodeOut) → place ≡ record { link = k; role = Master } → xs ≡ [] →
    Adds plant 2 (λ s w. if has_carrier s w place.link then goes_from s place.link place.role else []) xs ys → Gives plant (Cut k) ys
cut_gives plant k place xs ys at empty h =
    gives_added plant (Cut k) 2 _ xs ys empty (omega arith) refl
    (λ s w says set is. ap (λ (p : Place). if has_carrier s w p.link then goes_from s p.link p.role else []) at) h

pub join_gives : (plant : Plant) (k : ℕ) (ms sm : ℤ) (xs ys : List NodeOut) → xs ≡ [] →
    Adds plant 2 (λ s w. if ends_are_up w.clock (link_of s k) then comes_from s w k Master else []) xs ys → Gives plant (Join k ms sm) ys
join_gives plant k ms sm xs ys empty h =
    gives_added plant (Join k ms sm) 2 _ xs ys empty (omega arith) refl
    (λ s w says set is. ap (λ (b : Bool). if b then comes_from s w k Master else []) (joined_carrier s w k ms sm)) h

pub down_gives : (plant : Plant) (n : ℕ) (xs ys : List NodeOut) → FitsPlant plant → xs ≡ [] →
    Adds plant 36 (λ s w. at_numbers s w (goes_from s) n (from_on 18 1)) xs ys → Gives plant (Down n) ys
down_gives plant n xs ys f empty h =
    gives_added plant (Down n) 36 _ xs ys empty (omega arith) refl (λ s w says set is. all_ports s w w plant (goes_from s) n f is (set n)) h

pub up_gives : (plant : Plant) (n : ℕ) (off : ℤ) (swaps : ArrayVec Swap) (xs ys zs : List NodeOut) → FitsPlant plant → xs ≡ [] →
    Adds plant 1 (λ s w. given_plain n Reset ∷ []) xs ys →
    Adds plant 36 (λ s w. at_numbers s (up_of s w n off swaps) (comes_from s (up_of s w n off swaps)) n (from_on 18 1)) ys zs → Gives plant (Up n off swaps) zs
up_gives plant n off swaps xs ys zs f empty one all =
    gives_added plant (Up n off swaps) 37 (λ s w. given_plain n Reset ∷ at_numbers s (up_of s w n off swaps) (comes_from s (up_of s w n off swaps)) n (from_on 18 1)) xs zs empty (omega arith) refl
    (λ s w says set is. ap (λ l. given_plain n Reset ∷ l) (all_ports s w (up_of s w n off swaps) plant (comes_from s (up_of s w n off swaps)) n f is (set n)))
    (adds_then plant 1 36 37 _ _ _ xs ys zs (omega arith) (λ s w is. refl) one all)
