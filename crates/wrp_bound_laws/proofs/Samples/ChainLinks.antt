-- In a chain of a node's servo its slave's link is in WR_LINK_ON.
use Rattle.std.proofs.Common.{◌≡◌, ◌∙◌, refl, ap, sym, subst, ℕ, Bool, true, false, if◌then◌else◌, is_some, List, [], ◌∷◌, Option, None, Some}
use Rattle.std.proofs.lemmas.Bool.{false≢true}
use Rattle.wrp_base.specs.declared.link.LinkState.{LinkState}
use Rattle.wrp_base.specs.declared.link.LinkState.TheVariants.{Idle, Present, SLock, MLock, Locked, Calibration, Calibrated, RespCalib, LinkOn}
use Rattle.wrp_base.specs.declared.link.LinkWord.TheVariants.{Down}
use Rattle.wrp_base.specs.declared.link.Role.{Role}
use Rattle.wrp_base.specs.declared.link.Role.TheVariants.{Master, Slave}
use Rattle.wrp_network.specs.declared.network.LinkCfg.{LinkCfg}
use Rattle.wrp_link.specs.declared.interface.LinkSet.{LinkSet}
use Rattle.wrp_link.specs.LinkAt.{LinkAt, new_link}
use Rattle.wrp_link.specs.Table.{word_in}
use Rattle.wrp_node.specs.Laws.{IsSettled, StepSettles}
use Rattle.wrp_node.specs.NodeAt.{NodeSetting, NodeAt, deltas_at, deltas_in, link_at, port_of, setting_of, servo_setting_of, slave_of}
use Rattle.wrp_node.specs.NodeRun.{new_node}
use Rattle.wrp_node.specs.NodeStep.{node_step}
use Rattle.wrp_node.specs.Telling.{is_changed}
use Rattle.wrp_port.specs.Hearing.{is_open, is_open_word}
use Rattle.wrp_port.specs.PortAt.{deltas_in as port_deltas_in, deltas_of as port_deltas}
use Rattle.wrp_servo.specs.Call.{CallLink}
use Rattle.wrp_servo.specs.Laws.{ChainHasSignals}
use Rattle.wrp_servo.specs.Told.{link_told as link_known}
use Rattle.wrp_course.specs.Run.{Happened, world_after}
use Rattle.wrp_course.specs.Runs.{IsNetwork}
use Rattle.wrp_course.specs.Setting.{Setting, node_setting_of, link_of}
use Rattle.wrp_bound_laws.specs.Rates.{HasChain}
use Rattle.wrp_bound_laws.proofs.Samples.ChainSources.{any_to, none_told, not_changed}
use Rattle.wrp_bound_laws.proofs.Nodes.Inputs.{node_kept}
use Rattle.wrp_bound_laws.proofs.Runs.LinksAbove.{above_is}
use Rattle.wrp_bound_laws.proofs.Sources.Parents.{has_slave}

pub settled_link : (fixed : NodeSetting) (n : NodeAt) → is_some (slave_of fixed.set) ≡ true → IsSettled fixed n → is_some (link_known n.calls) ≡ is_some (deltas_in fixed.set n)
settled_link fixed n servo h =
    not_changed (is_some (link_known n.calls)) (is_some (deltas_in fixed.set n))
    (none_told (is_some (slave_of fixed.set)) (is_changed (is_some (link_known n.calls)) (is_some (deltas_in fixed.set n))) (CallLink (deltas_in fixed.set n)) servo h.link)

pub new_deltas : (role r : Role) (x : LinkSet) → port_deltas role (new_link r x) ≡ None
new_deltas Master r x = refl
new_deltas Slave r x = refl

-- the servo knows the deltas if and only if the port does
pub knows_link : StepSettles → (s : Setting) (events : List Happened) (n p : ℕ) → slave_of (s.set n) ≡ Some p → is_some (link_known ((world_after s events).node n).calls) ≡ is_some (deltas_in (s.set n) ((world_after s events).node n))
knows_link settles s [] n p slave =
    sym (ap (λ (o : Option ℕ). is_some (deltas_at (s.set n) new_node o)) slave ∙ ap is_some (new_deltas (port_of (s.set n) p).role (setting_of (s.set n) p).ds.role (setting_of (s.set n) p).link))
knows_link settles s (h ∷ before) n p slave =
    node_kept (λ (m : NodeAt). is_some (link_known m.calls) ≡ is_some (deltas_in (s.set n) m)) (λ _. Unit {0}) s h.says h.answer (world_after s before) h.event n
    (λ t m q old. settled_link (node_setting_of s n) (node_step (node_setting_of s n) t m).node (ap is_some slave) (settles (node_setting_of s n) t m))
    (any_to n h.event) (knows_link settles s before n p slave)

on_state : (role : Role) (l : LinkAt) (state : LinkState) → is_some (port_deltas_in role state l) ≡ true → state ≡ LinkOn
on_state Slave l LinkOn h = refl
on_state Slave l Idle h = absurd (false≢true h)
on_state Slave l Present h = absurd (false≢true h)
on_state Slave l SLock h = absurd (false≢true h)
on_state Slave l MLock h = absurd (false≢true h)
on_state Slave l Locked h = absurd (false≢true h)
on_state Slave l Calibration h = absurd (false≢true h)
on_state Slave l Calibrated h = absurd (false≢true h)
on_state Slave l RespCalib h = absurd (false≢true h)
on_state Master l state h = absurd (false≢true h)

-- such a link is open if it has its carrier
pub on_open : (l : LinkAt) (c : Bool) → l.carrier ≡ c → c ≡ true → l.state ≡ LinkOn → is_open l ≡ true
on_open l true lit e on = subst (λ b. is_open_word (if b then word_in l.state l.quiet else Down) ≡ true) (sym lit) (subst (λ t. is_open_word (word_in t l.quiet) ≡ true) (sym on) refl)
on_open l false lit e on = absurd (false≢true e)

pub chain_on : StepSettles → ChainHasSignals → (s : Setting) (events : List Happened) (k : ℕ) (link : LinkCfg) → IsNetwork s → link_of s k ≡ Some link → HasChain s link.lower events →
    (link_at (s.set link.lower) ((world_after s events).node link.lower) link.lower_port).state ≡ LinkOn
chain_on settles signals s events k link net is chain =
    let n : ℕ = link.lower in
    let node : NodeAt = (world_after s events).node n in
    let slave : slave_of (s.set n) ≡ Some link.lower_port = has_slave s net n link (above_is s net k link is) in
    let l : LinkAt = link_at (s.set n) node link.lower_port in
    let on : is_some (deltas_in (s.set n) node) ≡ true = sym (knows_link settles s events n link.lower_port slave) ∙ (signals (servo_setting_of (node_setting_of s n)) node.calls chain).link in
    on_state (port_of (s.set n) link.lower_port).role l l.state (sym (ap (λ (o : Option ℕ). is_some (deltas_at (s.set n) node o)) slave) ∙ on)
