-- A new node stands for no inputs.
use Rattle.std.proofs.Common.{◌≡◌, ◌∙◌, refl, ap, sym, subst, ℕ, true, [], Option, IfSome}
use Rattle.wrp_node.specs.New.{node_setting_of}
use Rattle.wrp_node.specs.NodeAt.{in_order, slave_in}
use Rattle.wrp_node.specs.Parts.{is_among}
use Rattle.wrp_node.proofs.NewNode.{has_slave, all_ports, new_places, new_numbers}
use Rattle.wrp_node.proofs.node.Node.new.Goals as goal

pub returns-clause-stands : goal.returns-clause-stands
returns-clause-stands g c =
    let numbers = new_numbers c.args.cfg (in_order c.args.cfg.ports.items) c.in_ok-ports.ports c.in_ok-ports.ensures in
    let slave = c.slave_of.ensures ∙ ap slave_in c.as_slice.ensures.value in
    record {
      said = tt;
      is_at = record {
        parts = record {
          numbers = numbers;
          places = new_places (node_setting_of c.args.cfg c.args.law) (in_order c.args.cfg.ports.items) c.in_ok-ports.ports c.in_ok-ports.ensures (all_ports c.args.cfg c.requires.set.numbers);
          slave = slave;
          clock = refl;
          ticks = refl;
          has_slave = subst (λ (o : Option ℕ). IfSome o (λ p. is_among p c.in_ok-ports.ports ≡ true)) (sym slave) (has_slave c.args.cfg c.in_ok-ports.ports numbers);
        };
        control = c.of.ensures.stands c.args.cfg refl c.requires.law;
        report = refl;
      };
    }

pub returns-clause-valid : goal.returns-clause-valid
returns-clause-valid g c = record {
  law = c.of.ensures.law;
  report = c.requires.set.report;
  fixed = node_setting_of c.args.cfg c.args.law;
  inputs = [];
  stands = returns-clause-stands g c;
}
