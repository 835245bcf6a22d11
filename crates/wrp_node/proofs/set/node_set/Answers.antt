-- What is gathered is what the node is set to, and a node can be set to it.
use Rattle.std.proofs.Common.{◌≡◌, refl, Option, None, Some, lit<, ap, sym, subst, ◌∙◌, ◌≤◌, ℕ, List, length}
use Rattle.std.specs.List.{filter}
use Rattle.std.specs.Option.{is_some, option_map}
use Rattle.wrp_network.specs.declared.network.LinkCfg.{LinkCfg}
use Rattle.wrp_network.specs.Network.{HasDepth, link_above}
use Rattle.wrp_data.specs.declared.datasets.DefaultDs.{DefaultDs}
use Rattle.wrp_data.specs.declared.datasets.PortDs.{PortDs}
use Rattle.wrp_link.specs.declared.interface.LinkSet.{LinkSet}
use Rattle.wrp_node.specs.declared.interface.NodeSet.{NodeSet}
use Rattle.wrp_node.specs.New.{FitsNodeSet}
use Rattle.wrp_node.specs.NodeAt.{is_slave, slave_in}
use Rattle.wrp_node.specs.Set.{identity_of, set_of}
use Rattle.wrp_node.proofs.OwnPorts.{one_slave, slave_is_above}
use Rattle.wrp_node.proofs.Ranges.{read_between, fits_set}
use Rattle.wrp_node.proofs.WayUp.{steps_are_depth, ends_at_grandmaster}
use Rattle.wrp_port.specs.declared.interface.Sched.{Sched}
use Rattle.wrp_servo.specs.declared.interface.ServoSet.{ServoSet}
use Rattle.wrp_node.proofs.set.node_set.Goals as goal

-- settings of which all parts are the same
same_set : (a b : NodeSet) → a.own ≡ b.own → a.ports.items ≡ b.ports.items → a.link ≡ b.link → a.sched ≡ b.sched → a.servo ≡ b.servo → a.ring ≡ b.ring → a.report ≡ b.report → a ≡ b
same_set a b own ports link sched servo ring report =
    ap (λ (x : DefaultDs). record a { own = x }) own
    ∙ ap (λ (x : List PortDs). record a { own = b.own; ports = record { items = x } }) ports
    ∙ ap (λ (x : LinkSet). record a { own = b.own; ports = b.ports; link = x }) link
    ∙ ap (λ (x : Sched). record a { own = b.own; ports = b.ports; link = b.link; sched = x }) sched
    ∙ ap (λ (x : ServoSet). record b { servo = x; ring = a.ring; report = a.report }) servo
    ∙ ap (λ (x : ℕ). record b { ring = x; report = a.report }) ring
    ∙ ap (λ (x : ℕ). record b { report = x }) report

pub returns-clause-value : goal.returns-clause-value
returns-clause-value c =
    let net = c.args.net.now in
    same_set _ (set_of net c.args.n) c.own_of.ensures c.ports_of.ensures c.link_set_of.ensures c.sched_of.ensures c.servo_set_of.ensures
    (c.from.ensures ∙ c.short.ensures ∙ read_between 1 4_096 net.ring c.requires.ranges.ring (lit< tt))
    (c.count.ensures ∙ read_between 1 1_000_000 net.report c.requires.ranges.report (lit< tt))

pub returns-clause-fits : goal.returns-clause-fits
returns-clause-fits c =
    subst (λ (set : NodeSet). FitsNodeSet set) (sym (returns-clause-value c)) (fits_set c.args.net.now c.args.n c.requires.ranges c.requires.ports c.requires.counts)

pub returns-clause-slave : goal.returns-clause-slave
returns-clause-slave c = ap (λ (ports : List PortDs). slave_in ports) c.ports_of.ensures ∙ slave_is_above c.args.net.now c.args.n

some_where_some : (o : Option LinkCfg) → is_some (option_map (λ (l : LinkCfg). l.lower_port) o) ≡ is_some o
some_where_some None = refl
some_where_some (Some link) = refl

pub returns-clause-has_slave : goal.returns-clause-has_slave
returns-clause-has_slave c = ap (λ (o : Option ℕ). is_some o) (returns-clause-slave c) ∙ some_where_some (link_above c.args.net.now c.args.n)

pub returns-clause-one_slave : goal.returns-clause-one_slave
returns-clause-one_slave c =
    subst (λ (ports : List PortDs). length (filter (λ ds. is_slave ds.role) ports) ≤ 1) (sym c.ports_of.ensures) (one_slave c.args.net.now c.args.n c.requires.tree)

pub returns-clause-steps : goal.returns-clause-steps
returns-clause-steps c =
    subst (λ (steps : ℕ). HasDepth c.args.net.now steps c.args.n) (sym (ap (λ own. own.steps) c.own_of.ensures)) (steps_are_depth c.args.net.now c.args.n c.requires.tree c.requires.node)

pub returns-clause-gm : goal.returns-clause-gm
returns-clause-gm c top is =
    ap (λ own. own.gm) c.own_of.ensures ∙ ap (identity_of c.args.net.now) (ends_at_grandmaster c.args.net.now c.args.n top c.requires.tree c.requires.node is)
