-- Carriers come at both ends of a link, one after the other: as one change of that link, and none of any other.
use Rattle.std.proofs.Common.{◌≡◌, inl, inr, ◌∙◌, refl, ap, sym, ℕ, ℤ, pos, true, if◌then◌else◌, Option, Some}
use Rattle.std.proofs.lemmas.Bool.Decides.{eqb_tells}
use Rattle.wrp_base.specs.declared.link.Module.{Module}
use Rattle.wrp_base.specs.declared.link.Role.{Role}
use Rattle.wrp_base.specs.declared.link.Role.TheVariants.{Master, Slave}
use Rattle.wrp_network.specs.declared.network.LinkCfg.{LinkCfg}
use Rattle.wrp_network.specs.Network.{End}
use Rattle.wrp_base.specs.Link.{other_of}
use Rattle.wrp_base.proofs.Naturals.{eq_self}
use Rattle.wrp_bounds.specs.Times.{shortest_tick, frame_life}
use Rattle.wrp_handshake_laws.specs.Ends.{after_input}
use Rattle.wrp_link.specs.declared.interface.LinkIn.TheVariants as link_in
use Rattle.wrp_node.specs.declared.interface.Input.TheVariants.{Carrier}
use Rattle.wrp_node.specs.LinkNews.{Nothing, Given as Handed, StepGivesLinks}
use Rattle.wrp_node.specs.Sends.{SignalsAreOfLink}
use Rattle.wrp_node.proofs.Sends.{not_equal}
use Rattle.wrp_course.specs.Given.{Given, given_plain, gives}
use Rattle.wrp_course.specs.LinkEnds.{ends_at, port_at}
use Rattle.wrp_course.specs.Setting.{Setting, end_at, end_of, link_of}
use Rattle.wrp_course.specs.WorldAt.{WorldAt}
use Rattle.wrp_course.proofs.RunGiven.{LinkCan, carriers_come, end_is, of_both, with_ports}
use Rattle.wrp_course.proofs.RunPorts.{port_by_news, port_given, port_other}

abbrev pub comes_to : End → Option Module → Given
comes_to end m = given_plain end.node (Carrier end.port true m)

pub end_alike : (a b : End) → a.node ≡ b.node → a.port ≡ b.port → a ≡ b
end_alike a b n p = λ i. record { node = n i; port = p i }

-- the port that it comes to
pub lit_here : StepGivesLinks → SignalsAreOfLink → (s : Setting) (y : ℤ) (v : WorldAt) (end : End) (m : Option Module) (k : ℕ) (r : Role) → end_at s k r ≡ Some end →
    port_at s (gives s y v (comes_to end m)) k r end ≡ after_input v.time (port_at s v k r end) (link_in.CarrierUp m) (pos 0)
lit_here links signals s y v end m k r is =
    port_given links signals s y v (comes_to end m) k r end is refl
    ∙ ap (λ b. port_by_news v.time (port_at s v k r end) (pos 0) (if b then Handed (link_in.CarrierUp m) else Nothing)) (eq_self end.port)

-- any other
lit_other : StepGivesLinks → SignalsAreOfLink → (s : Setting) (y : ℤ) (v : WorldAt) (end other : End) (m : Option Module) (k : ℕ) (r : Role) → end_at s k r ≡ Some other → (other ≡ end → ⊥) →
    port_at s (gives s y v (comes_to end m)) k r other ≡ port_at s v k r other
lit_other links signals s y v end other m k r is out =
    elim (eqb_tells other.node end.node) [
      | inl x ↦
          port_given links signals s y v (comes_to end m) k r other is x.1
          ∙ ap (λ b. port_by_news v.time (port_at s v k r other) (pos 0) (if b then Handed (link_in.CarrierUp m) else Nothing))
          (not_equal other.port end.port (λ e. out (end_alike other end x.1 e)))
      | inr x ↦ port_other s y v (comes_to end m) k r other is x.1
    ]

nodes_apart : (link : LinkCfg) → (link.upper ≡ link.lower → ⊥) → end_of Master link ≡ end_of Slave link → ⊥
nodes_apart link two e = two (ap (λ (x : End). x.node) e)

abbrev pub both_come : Setting → ℤ → WorldAt → End → Option Module → End → Option Module → WorldAt
both_come s y v a m b n = gives s y (gives s y v (comes_to a m)) (comes_to b n)

-- the modules at both ends, of which the first is the module at the end of this role
abbrev pub both_in : Role → Option Module → Option Module → Role → Option Module
both_in Master m n = of_both m n
both_in Slave m n = of_both n m

-- the link itself
pub pair_lights : StepGivesLinks → SignalsAreOfLink → (s : Setting) (placed : Role → Option Module) (y : ℤ) (v : WorldAt) (k : ℕ) (link : LinkCfg) (r : Role) (m n : Option Module) → link_of s k ≡ Some link →
    (link.upper ≡ link.lower → ⊥) → LinkCan s placed v k link → LinkCan s (both_in r m n) (both_come s y v (end_of r link) m (end_of (other_of r) link) n) k link
pair_lights links signals s placed y v k link Master m n is two can =
    let up : end_at s k Master ≡ Some (end_of Master link) = end_is s k Master link is in
    let low : end_at s k Slave ≡ Some (end_of Slave link) = end_is s k Slave link is in
    let first : WorldAt = gives s y v (comes_to (end_of Master link) m) in
    with_ports s (of_both m n) (gives s y first (comes_to (end_of Slave link) n)) k link v.time _ _ refl
    (lit_other links signals s y first (end_of Slave link) (end_of Master link) n k Master up (nodes_apart link two)
    ∙ lit_here links signals s y v (end_of Master link) m k Master up)
    (lit_here links signals s y first (end_of Slave link) n k Slave low
    ∙ ap (λ q. after_input v.time q (link_in.CarrierUp n) (pos 0)) (lit_other links signals s y v (end_of Master link) (end_of Slave link) m k Slave low (λ e. nodes_apart link two (sym e))))
    (carriers_come (frame_life s.cfg) (shortest_tick s.cfg) placed (ends_at s v k link) m n can)
pair_lights links signals s placed y v k link Slave m n is two can =
    let up : end_at s k Master ≡ Some (end_of Master link) = end_is s k Master link is in
    let low : end_at s k Slave ≡ Some (end_of Slave link) = end_is s k Slave link is in
    let first : WorldAt = gives s y v (comes_to (end_of Slave link) m) in
    with_ports s (of_both n m) (gives s y first (comes_to (end_of Master link) n)) k link v.time _ _ refl
    (lit_here links signals s y first (end_of Master link) n k Master up
    ∙ ap (λ q. after_input v.time q (link_in.CarrierUp n) (pos 0)) (lit_other links signals s y v (end_of Slave link) (end_of Master link) m k Master up (nodes_apart link two)))
    (lit_other links signals s y first (end_of Master link) (end_of Slave link) n k Slave low (λ e. nodes_apart link two (sym e))
    ∙ lit_here links signals s y v (end_of Slave link) m k Slave low)
    (carriers_come (frame_life s.cfg) (shortest_tick s.cfg) placed (ends_at s v k link) n m can)

-- ends of different links are different ports
abbrev pub AreApart : Setting → Type 0
AreApart s = (k l : ℕ) (r q : Role) (end : End) → end_at s k r ≡ Some end → end_at s l q ≡ Some end → (k ≡ l) × (r ≡ q)

-- the ports of any other link
pub pair_away : StepGivesLinks → SignalsAreOfLink → (s : Setting) (y : ℤ) (v : WorldAt) (k l : ℕ) (link other : LinkCfg) (r : Role) (m n : Option Module) → AreApart s →
    link_of s k ≡ Some link → link_of s l ≡ Some other → (k ≡ l → ⊥) → (q : Role) →
    port_at s (both_come s y v (end_of r other) m (end_of (other_of r) other) n) k q (end_of q link) ≡ port_at s v k q (end_of q link)
pair_away links signals s y v k l link other r m n apart is there out q =
    let first : WorldAt = gives s y v (comes_to (end_of r other) m) in
    let differ : (t : Role) → end_of q link ≡ end_of t other → ⊥ =
    λ t e. out (apart k l q t (end_of t other) (end_is s k q link is ∙ ap Some e) (end_is s l t other there)).0 in
    lit_other links signals s y first (end_of (other_of r) other) (end_of q link) n k q (end_is s k q link is) (differ (other_of r))
    ∙ lit_other links signals s y v (end_of r other) (end_of q link) m k q (end_is s k q link is) (differ r)

-- any other link
pub pair_passes : StepGivesLinks → SignalsAreOfLink → (s : Setting) (placed : Role → Option Module) (y : ℤ) (v : WorldAt) (k l : ℕ) (link other : LinkCfg) (r : Role) (m n : Option Module) → AreApart s →
    link_of s k ≡ Some link → link_of s l ≡ Some other → (k ≡ l → ⊥) → LinkCan s placed v k link →
    LinkCan s placed (both_come s y v (end_of r other) m (end_of (other_of r) other) n) k link
pair_passes links signals s placed y v k l link other r m n apart is there out can =
    with_ports s placed (both_come s y v (end_of r other) m (end_of (other_of r) other) n) k link v.time _ _ refl
    (pair_away links signals s y v k l link other r m n apart is there out Master)
    (pair_away links signals s y v k l link other r m n apart is there out Slave)
    can
