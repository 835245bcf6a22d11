-- At the start a link is joined, or a node comes up.
use Rattle.std.proofs.Common.{◌≡◌, ◌∙◌, ◌-◌, ap, ap₂, sym, subst, nat_lt, true, false, ℕ, Bool, if◌then◌else◌, length, None, Some, arith}
use Rattle.wrp_network.specs.declared.configuration.NetCfg.{NetCfg}
use Rattle.wrp_network.specs.Network.{node_count}
use Rattle.wrp_base.proofs.Naturals.{lt_true}
use Rattle.wrp_config.specs.declared.network.Network.{Network}
use Rattle.wrp_course.specs.EventAt.{link_count}
use Rattle.wrp_sim.specs.Rules.{begins, comes, join_event, one_begun, up_event, with_tick}
use Rattle.wrp_sim.specs.Sim.{Gave}
use Rattle.wrp_sim.proofs.RuleCases.{ge_false, joins_first, joined_all}
use Rattle.wrp_sim.proofs.Turns.{came, gives_same}
use Rattle.wrp_sim.proofs.sim.state.State.begin.Goals as goal

pub returns-then-begun-links-clause-follows : goal.returns-then-begun-links-clause-follows
returns-then-begun-links-clause-follows g c s w at h i =
    let count : c.len-links.result ≡ link_count s.cfg =
    c.len-links.ensures.value ∙ ap (λ (x : Network). length x.cfg.links.items) c.net.ensures ∙ ap (λ (x : NetCfg). length x.links.items) h.plant.cfg in
    let less : nat_lt at.begun (link_count s.cfg) ≡ true = lt_true at.begun (link_count s.cfg) (omega (arith, c.if-begun-links.true, count, i.begun)) in
    gives_same at (comes (join_event c.args.self.now.scene s at.begun) (one_begun at)) (begins c.args.self.now.scene s w at) (Some c.join_first.new.event) c.join_first.new.self
    (sym (joins_first c.args.self.now.scene s w at less))
    (came at (one_begun at) (join_event c.args.self.now.scene s c.args.self.now.begun) (join_event c.args.self.now.scene s at.begun) c.join_first.new.event c.join_first.new.self
    (ap (join_event c.args.self.now.scene s) i.begun) (c.join_first.ensures.follows s w at h i))

pub returns-then-begun-links-2-clause-follows : goal.returns-then-begun-links-2-clause-follows
returns-then-begun-links-2-clause-follows g c s w at h i =
    let count : c.len-links.result ≡ link_count s.cfg =
    c.len-links.ensures.value ∙ ap (λ (x : Network). length x.cfg.links.items) c.net.ensures ∙ ap (λ (x : NetCfg). length x.links.items) h.plant.cfg in
    let nodes : c.len-nodes.result ≡ node_count s.cfg =
    c.len-nodes.ensures.value ∙ ap (λ (x : Network). length x.cfg.nodes.items) c.net-2.ensures ∙ ap (λ (x : NetCfg). length x.nodes.items) h.plant.cfg in
    let node : ℕ = at.begun - link_count s.cfg in
    let same : (c.args.self.now.begun - c.len-links.result) ≡ node = ap₂ (λ (a b : ℕ). a - b) i.begun count in
    let more : nat_lt at.begun (link_count s.cfg) ≡ false = ge_false at.begun (link_count s.cfg) (omega (arith, c.if-begun-links.false, count, i.begun)) in
    let less : nat_lt node (node_count s.cfg) ≡ true = lt_true node (node_count s.cfg) (omega (arith, c.if-begun-links-2.true, nodes, same)) in
    let given : begins c.args.self.now.scene s w at ≡ comes (up_event c.args.self.now.scene node) (with_tick s w.time node (one_begun at)) =
    joined_all c.args.self.now.scene s w at more
    ∙ ap (λ (b : Bool). if b then comes (up_event c.args.self.now.scene node) (with_tick s w.time node (one_begun at)) else None) less in
    gives_same at (comes (up_event c.args.self.now.scene node) (with_tick s w.time node (one_begun at))) (begins c.args.self.now.scene s w at) (Some c.wake_first.new.event) c.wake_first.new.self
    (sym given)
    (subst (λ n. Gave at (comes (up_event c.args.self.now.scene n) (with_tick s w.time n (one_begun at))) (Some c.wake_first.new.event) c.wake_first.new.self) same
    (c.wake_first.ensures.follows s w at h i))
