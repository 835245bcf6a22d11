-- Inputs that are not given to the ports of a link leave both its ports as they are.
use Rattle.std.proofs.Common.{◌≡◌, inl, inr, ◌∙◌, refl, ap, sym, ℕ, ℤ, Bool, true, false, if◌then◌else◌, List, [], ◌∷◌, ◌++◌, flat_map, Option, None, Some, Result}
use Rattle.std.proofs.lemmas.Bool.{and_parts}
use Rattle.std.proofs.lemmas.Bool.Decides.{eqb_tells}
use Rattle.std.proofs.lemmas.Option.{same_Some}
use Rattle.std.specs.List.{AllByRecursion}
use Rattle.std.specs.Option.{option_map_or}
use Rattle.wrp_base.specs.declared.link.Module.{Module}
use Rattle.wrp_base.specs.declared.link.Role.{Role}
use Rattle.wrp_base.specs.declared.link.Role.TheVariants.{Master, Slave}
use Rattle.wrp_base.specs.declared.message.PtpMsg.{PtpMsg}
use Rattle.wrp_network.specs.declared.network.LinkCfg.{LinkCfg}
use Rattle.wrp_network.specs.Network.{End}
use Rattle.wrp_base.specs.Link.{other_of}
use Rattle.wrp_frame.specs.declared.fault.FrameFault.{FrameFault}
use Rattle.wrp_node.specs.declared.interface.Input.{Input}
use Rattle.wrp_node.specs.declared.interface.Input.TheVariants.{Tick, Sample, Frame, Sent, Carrier, Reset}
use Rattle.wrp_node.specs.LinkNews.{Nothing, news_at}
use Rattle.wrp_node.specs.NodeAt.{NodeAt, NodeSetting}
use Rattle.wrp_node.proofs.Sends.{not_equal}
use Rattle.wrp_course.specs.declared.clocks.ClockState.{ClockState}
use Rattle.wrp_course.specs.declared.place.Place.{Place}
use Rattle.wrp_course.specs.declared.event.Event.{Event}
use Rattle.wrp_course.specs.Given.{Given, comes_at, comes_from, given_by, given_plain, gives, gives_all, goes_at, goes_from, if_carried, world_step}
use Rattle.wrp_course.specs.LinkEnds.{link_sent, port_at}
use Rattle.wrp_course.specs.Moved.{moved}
use Rattle.wrp_course.specs.Runs.{IsNetwork}
use Rattle.wrp_course.specs.Setting.{Setting, end_at, end_of, link_of, node_setting_of, place_of}
use Rattle.wrp_course.specs.WorldAt.{WorldAt, ends_are_up, has_carrier}
use Rattle.wrp_course.proofs.RunCarriers.{end_alike}
use Rattle.wrp_course.proofs.RunGiven.{end_is}
use Rattle.wrp_course.proofs.RunNetwork.{LinkEnd, are_apart, end_with, place_end}
use Rattle.wrp_course.proofs.RunFrames.{moved_marks, moved_sent}
use Rattle.wrp_course.proofs.RunMoves.{moved_ticked, ticked_after}
use Rattle.wrp_course.proofs.RunPorts.{port_by_news, port_given, port_is, port_other}
use Rattle.wrp_comes_up_laws.proofs.Grounds.{Laws}

-- One input

-- an input that has no effect on the link of the port of this number
abbrev pub PassesPort : ℕ → Input → Type 0
PassesPort p (Frame q octets raw sample) = p ≡ q → ⊥
PassesPort p (Carrier q up own_module) = p ≡ q → ⊥
PassesPort p (Sample number base bits) = Unit {0}
PassesPort p (Sent q seq delay stamp) = Unit {0}
PassesPort p _ = ⊥

-- an input that has no effect on the links of both ports of a link
abbrev pub IsElsewhere : LinkCfg → Given → Type 0
IsElsewhere link g = (r : Role) → (end_of r link).node ≡ g.to → PassesPort (end_of r link).port g.input

no_news : (fixed : NodeSetting) (n : NodeAt) (says : Result PtpMsg FrameFault) (input : Input) (p : ℕ) → PassesPort p input →
    news_at fixed n input says p ≡ Nothing
no_news fixed n says (Frame q octets raw sample) p h = rw (not_equal p q h) refl
no_news fixed n says (Carrier q true own_module) p h = rw (not_equal p q h) refl
no_news fixed n says (Carrier q false own_module) p h = rw (not_equal p q h) refl
no_news fixed n says (Sample number base bits) p h = refl
no_news fixed n says (Sent q seq delay stamp) p h = refl
no_news fixed n says Tick p h = absurd h
no_news fixed n says Reset p h = absurd h

-- the port at an end of a link, if the input has no effect on it
pub one_nothing :
    Laws → (s : Setting) (y : ℤ) (v : WorldAt) (g : Given) (k : ℕ) (link : LinkCfg) (r : Role) → link_of s k ≡ Some link →
    ((end_of r link).node ≡ g.to → news_at (node_setting_of s g.to) (v.node g.to) g.input g.says (end_of r link).port ≡ Nothing) →
    port_at s (gives s y v g) k r (end_of r link) ≡ port_at s v k r (end_of r link)
one_nothing laws s y v g k link r is h =
    elim (eqb_tells (end_of r link).node g.to) [
      | inl x ↦
          port_given laws.links laws.signals s y v g k r (end_of r link) (end_is s k r link is) x.1
          ∙ ap (port_by_news v.time (port_at s v k r (end_of r link)) g.at) (h x.1)
      | inr x ↦ port_other s y v g k r (end_of r link) (end_is s k r link is) x.1
    ]

one_elsewhere :
    Laws → (s : Setting) (y : ℤ) (v : WorldAt) (g : Given) (k : ℕ) (link : LinkCfg) (r : Role) →
    link_of s k ≡ Some link → IsElsewhere link g → port_at s (gives s y v g) k r (end_of r link) ≡ port_at s v k r (end_of r link)
one_elsewhere laws s y v g k link r is h =
    one_nothing laws s y v g k link r is (λ e. no_news (node_setting_of s g.to) (v.node g.to) g.says g.input (end_of r link).port (h r e))

pub all_elsewhere :
    Laws → (s : Setting) (y : ℤ) (gs : List Given) (v : WorldAt) (k : ℕ) (link : LinkCfg) (r : Role) →
    link_of s k ≡ Some link → AllByRecursion (IsElsewhere link) gs →
    port_at s (gives_all s y v gs) k r (end_of r link) ≡ port_at s v k r (end_of r link)
all_elsewhere laws s y [] v k link r is h = refl
all_elsewhere laws s y (g ∷ gs) v k link r is h =
    all_elsewhere laws s y gs (gives s y v g) k link r is h.1 ∙ one_elsewhere laws s y v g k link r is h.0

-- Lists of inputs

pub append_elsewhere : (link : LinkCfg) (xs ys : List Given) → AllByRecursion (IsElsewhere link) xs → AllByRecursion (IsElsewhere link) ys →
    AllByRecursion (IsElsewhere link) (xs ++ ys)
append_elsewhere link [] ys h k = k
append_elsewhere link (x ∷ xs) ys h k = (h.0, append_elsewhere link xs ys h.1 k)

-- an end of another link is no port of this one
pub ends_differ :
    (s : Setting) → IsNetwork s → (k l : ℕ) (link : LinkCfg) (r q : Role) (end : End) → link_of s k ≡ Some link → end_at s l q ≡ Some end → (l ≡ k → ⊥) →
    (end_of r link).node ≡ end.node → (end_of r link).port ≡ end.port → ⊥
ends_differ s net k l link r q end is there out n p =
    out (sym (are_apart s net k l r q end (end_is s k r link is ∙ ap Some (end_alike (end_of r link) end n p)) there).0)

goes_elsewhere :
    (s : Setting) → IsNetwork s → (k l : ℕ) (link : LinkCfg) (q : Role) (o : Option End) → link_of s k ≡ Some link → end_at s l q ≡ o → (l ≡ k → ⊥) →
    AllByRecursion (IsElsewhere link) (option_map_or (λ (end : End). given_plain end.node (Carrier end.port false None) ∷ []) o [])
goes_elsewhere s net k l link q None is there out = tt
goes_elsewhere s net k l link q (Some end) is there out = (λ r n p. ends_differ s net k l link r q end is there out n p, tt)

comes_elsewhere :
    (s : Setting) → IsNetwork s → (k l : ℕ) (link : LinkCfg) (q : Role) (m : Option Module) (o : Option End) → link_of s k ≡ Some link →
    end_at s l q ≡ o → (l ≡ k → ⊥) →
    AllByRecursion (IsElsewhere link) (option_map_or (λ (end : End). given_plain end.node (Carrier end.port true m) ∷ []) o [])
comes_elsewhere s net k l link q m None is there out = tt
comes_elsewhere s net k l link q m (Some end) is there out = (λ r n p. ends_differ s net k l link r q end is there out n p, tt)

-- what gives inputs to the ends of a link gives them to no other
abbrev pub GivesItsEnds : Setting → (ℕ → Role → List Given) → Type 0
GivesItsEnds s f =
    (k l : ℕ) (link : LinkCfg) (q : Role) → link_of s k ≡ Some link → (l ≡ k → ⊥) → AllByRecursion (IsElsewhere link) (f l q)

pub going : (s : Setting) → IsNetwork s → GivesItsEnds s (goes_from s)
going s net k l link q is out =
    append_elsewhere link (goes_at s l q) (goes_at s l (other_of q))
    (goes_elsewhere s net k l link q (end_at s l q) is refl out) (goes_elsewhere s net k l link (other_of q) (end_at s l (other_of q)) is refl out)

pub coming : (s : Setting) → IsNetwork s → (w : WorldAt) → GivesItsEnds s (comes_from s w)
coming s net w k l link q is out =
    append_elsewhere link (comes_at s w l q) (comes_at s w l (other_of q))
    (comes_elsewhere s net k l link q _ (end_at s l q) is refl out) (comes_elsewhere s net k l link (other_of q) _ (end_at s l (other_of q)) is refl out)

pub if_elsewhere : (link : LinkCfg) (b : Bool) (gs : List Given) → AllByRecursion (IsElsewhere link) gs →
    AllByRecursion (IsElsewhere link) (if b then gs else [])
if_elsewhere link true gs h = h
if_elsewhere link false gs h = tt

-- At the ports of a node

-- a node that has no port of a link
abbrev pub IsNoEnd : LinkCfg → ℕ → Type 0
IsNoEnd link n = (r : Role) → (end_of r link).node ≡ n → ⊥

pub carried_elsewhere :
    (s : Setting) (f : ℕ → Role → List Given) → GivesItsEnds s f → (w : WorldAt) (k : ℕ) (link : LinkCfg) (o : Option Place) → link_of s k ≡ Some link →
    ((place : Place) → o ≡ Some place → place.link ≡ k → ⊥) → AllByRecursion (IsElsewhere link) (if_carried s w f o)
carried_elsewhere s f gives w k link None is out = tt
carried_elsewhere s f gives w k link (Some place) is out =
    if_elsewhere link (has_carrier s w place.link) (f place.link place.role) (gives k place.link link place.role is (out place refl))

-- at the end of a link is one end
same_end : (s : Setting) (k : ℕ) (r : Role) (link : LinkCfg) (end : End) → link_of s k ≡ Some link → end_at s k r ≡ Some end → end_of r link ≡ end
same_end s k r link end is at = same_Some (end_of r link) end (sym (end_is s k r link is) ∙ at)

-- a port of a node that has none of a link is at another link
other_place : (s : Setting) (n p k : ℕ) (link : LinkCfg) (place : Place) → link_of s k ≡ Some link → IsNoEnd link n → place_of s n p ≡ Some place →
    place.link ≡ k → ⊥
other_place s n p k link place is out at e =
    let it : LinkEnd s place.link place.role (end_with n p) = place_end s n p place at in
    out place.role
    (ap (λ (x : End). x.node)
    (same_end s k place.role link (end_with n p) is
    (ap (λ i. end_at s i place.role) (sym e) ∙ end_is s place.link place.role it.link it.there ∙ ap Some it.end_is)))

pub ports_elsewhere :
    (s : Setting) (f : ℕ → Role → List Given) → GivesItsEnds s f → (w : WorldAt) (n k : ℕ) (link : LinkCfg) (ps : List ℕ) → link_of s k ≡ Some link →
    IsNoEnd link n →
    AllByRecursion (IsElsewhere link) (flat_map (λ p. if_carried s w f (place_of s n p)) ps)
ports_elsewhere s f gives w n k link [] is out = tt
ports_elsewhere s f gives w n k link (p ∷ ps) is out =
    append_elsewhere link (if_carried s w f (place_of s n p)) (flat_map (λ q. if_carried s w f (place_of s n q)) ps)
    (carried_elsewhere s f gives w k link (place_of s n p) is (λ place at e. other_place s n p k link place is out at e))
    (ports_elsewhere s f gives w n k link ps is out)

both_up : (clock : ℕ → ClockState) (link : LinkCfg) (r : Role) → ends_are_up clock (Some link) ≡ true → (clock (end_of r link).node).up ≡ true
both_up clock link Master e = (and_parts (clock link.upper).up (clock link.lower).up e).0
both_up clock link Slave e = (and_parts (clock link.upper).up (clock link.lower).up e).1

-- both nodes of a link that has its carrier are up
pub node_up : (s : Setting) (w : WorldAt) (k : ℕ) (r : Role) (link : LinkCfg) → link_of s k ≡ Some link → has_carrier s w k ≡ true →
    (w.clock (end_of r link).node).up ≡ true
node_up s w k r link is c =
    both_up w.clock link r (ap (ends_are_up w.clock) (sym is) ∙ (and_parts (w.fibre k).joined (ends_are_up w.clock (link_of s k)) c).1)

-- What an event changes by itself

pub moved_port :
    (s : Setting) (w : WorldAt) (e : Event) (k : ℕ) (r : Role) (link : LinkCfg) →
    ticked_after w e (end_of r link).node ≡ (w.clock (end_of r link).node).ticked →
    port_at s (moved s w e) k r (end_of r link) ≡ port_at s w k r (end_of r link)
moved_port s w e k r link h =
    port_is (port_at s (moved s w e) k r (end_of r link)) (port_at s w k r (end_of r link))
    refl (moved_ticked s w e (end_of r link).node ∙ h) (moved_marks s w e k r) (ap link_sent (moved_sent s w e k r))

-- a port at an end of a link, over an event that has no effect on it
pub same_port :
    Laws → (s : Setting) (says : Result PtpMsg FrameFault) (y : ℤ) (w : WorldAt) (e : Event) (k : ℕ) (link : LinkCfg) (r : Role) → link_of s k ≡ Some link →
    ticked_after w e (end_of r link).node ≡ (w.clock (end_of r link).node).ticked → AllByRecursion (IsElsewhere link) (given_by s w (moved s w e) says e) →
    port_at s (world_step s says y w e) k r (end_of r link) ≡ port_at s w k r (end_of r link)
same_port laws s says y w e k link r is h all =
    all_elsewhere laws s y (given_by s w (moved s w e) says e) (moved s w e) k link r is all ∙ moved_port s w e k r link h
