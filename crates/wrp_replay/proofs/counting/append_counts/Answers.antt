-- Each port of the node has its lines.
use Rattle.std.proofs.Common.{◌∙◌, ap, refl, sym}
use Rattle.wrp_node.specs.NodeRun.{node_after}
use Rattle.wrp_replay.specs.StandsFor.{line_setting_at}
use Rattle.wrp_replay.proofs.CountLemmas.{all_ports, port_less, no_port_less, no_port}
use Rattle.wrp_replay.proofs.counting.append_counts.Goals.{then-has_port+in_ok-append_port, else-has_port}
use Rattle.wrp_replay.proofs.counting.append_counts.Goals as goal

pub loop-port-init : goal.loop-port-init
loop-port-init g c = λ fixed inputs stands. all_ports _ _ _

pub loop-port-preserved : goal.loop-port-preserved
loop-port-preserved g c = λ fixed inputs stands.
    elim c.if-has_port.branch [
      | then-has_port+in_ok-append_port w ↦
          rw (ap (λ v. v.items) w.text-is)
          (port_less (line_setting_at c.args.replayed) (node_after fixed inputs) c.loop-port.port-index _ c.args.name.now c.loop-port.text.items w.append_port.new.text.items c.args.text.now.items
          c.loop-port-test.true (c.loop-port.invariant fixed inputs stands) refl (sym c.has_port.ensures ∙ w.if-has_port.true) c.requires.name
          (w.in_ok-append_port.ensures fixed inputs stands))
      | else-has_port w ↦
          rw (ap (λ v. v.items) w.text-is)
          (no_port_less (line_setting_at c.args.replayed) (node_after fixed inputs) c.loop-port.port-index _ c.loop-port.text.items c.args.text.now.items
          c.loop-port-test.true (c.loop-port.invariant fixed inputs stands) refl (sym c.has_port.ensures ∙ w.if-has_port.false))
    ]

pub returns : goal.returns
returns g c = λ fixed inputs stands. no_port (line_setting_at c.args.replayed) (node_after fixed inputs) _ _ _ c.loop-port-test.false (c.loop-port.invariant fixed inputs stands)
