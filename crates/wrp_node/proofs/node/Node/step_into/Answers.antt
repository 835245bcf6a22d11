-- The input is taken, the servo is given what changed, and the outputs are the outputs of the run.
use Rattle.std.proofs.Common.{◌∙◌, ap, Bool, ◌∷◌}
use Rattle.wrp_node.specs.Node.{puts_out}
use Rattle.wrp_node.specs.NodeRun.{node_after}
use Rattle.wrp_node.specs.NodeStep.{node_step}
use Rattle.wrp_node.proofs.Nodes.{all_put, all_sound, in_at}
use Rattle.wrp_node.proofs.Stepping.{tick_for, came, state_before, report_kept}
use Rattle.wrp_node.proofs.Spelling.{spelled_at}
use Rattle.wrp_node.proofs.node.Node.step_into.Goals as goal

pub take-requires-clause-ticks : goal.take-requires-clause-ticks
take-requires-clause-ticks g c =
    tick_for c.requires.valid.fixed c.requires.valid.inputs c.args.self.now (record { parts = c.begin.new.self; control = c.self.inside.control; report = c.self.inside.report })
    c.args.x.now c.told_last.ensures c.requires.valid.stands (ap (λ v. v.control) c.self.view_is) c.requires.input

pub put_out-requires-clause-sound : goal.put_out-requires-clause-sound
put_out-requires-clause-sound g c =
    let h = came c.args.x.now c.take.ensures.takes.0 c.take.ensures.takes.1 c.self.view_is c.begin.ensures.begun c.take.ensures.takes.3 c.tell_lease.ensures.lead c.tell_link.ensures.lead
    c.requires.valid.fixed c.requires.valid.inputs c.requires.valid.stands in
    all_sound c.requires.valid.fixed (node_after c.requires.valid.fixed c.requires.valid.inputs)
    (node_step c.requires.valid.fixed (record { input = c.args.x.now; says = c.take.ensures.takes.0; answer = c.take.ensures.takes.1 }) (node_after c.requires.valid.fixed c.requires.valid.inputs))
    c.tell_link.new.self.parts.ports h.parts.places

pub put_out-requires-clause-report : goal.put_out-requires-clause-report
put_out-requires-clause-report g c =
    let h = came c.args.x.now c.take.ensures.takes.0 c.take.ensures.takes.1 c.self.view_is c.begin.ensures.begun c.take.ensures.takes.3 c.tell_lease.ensures.lead c.tell_link.ensures.lead
    c.requires.valid.fixed c.requires.valid.inputs c.requires.valid.stands in
    report_kept c.requires.valid.stands h c.requires.valid.report

pub returns-clause-valid : goal.returns-clause-valid
returns-clause-valid g c =
    let h = came c.args.x.now c.take.ensures.takes.0 c.take.ensures.takes.1 c.self.view_is c.begin.ensures.begun c.take.ensures.takes.3 c.tell_lease.ensures.lead c.tell_link.ensures.lead
    c.requires.valid.fixed c.requires.valid.inputs c.requires.valid.stands in
    record {
      law = c.tell_link.ensures.law;
      report = report_kept c.requires.valid.stands h c.requires.valid.report;
      fixed = c.requires.valid.fixed;
      inputs = record { input = c.args.x.now; says = c.take.ensures.takes.0; answer = c.take.ensures.takes.1 } ∷ c.requires.valid.inputs;
      stands = record {
        said = (c.take.ensures.takes.2, c.requires.valid.stands.said);
        is_at = in_at c.requires.valid.fixed (node_after c.requires.valid.fixed c.requires.valid.inputs)
            (node_step c.requires.valid.fixed (record { input = c.args.x.now; says = c.take.ensures.takes.0; answer = c.take.ensures.takes.1 }) (node_after c.requires.valid.fixed c.requires.valid.inputs))
            c.tell_link.new.self h;
      };
    }

pub returns-clause-took : goal.returns-clause-took
returns-clause-took g c = (
  c.take.ensures.takes.0,
  c.take.ensures.takes.1,
  record {
    said = c.take.ensures.takes.2;
    outputs = λ fixed before st.
        let h = came c.args.x.now c.take.ensures.takes.0 c.take.ensures.takes.1 c.self.view_is c.begin.ensures.begun c.take.ensures.takes.3 c.tell_lease.ensures.lead c.tell_link.ensures.lead fixed before st in
        c.put_out.ensures.items
        ∙ ap (λ (b : Bool). puts_out c.state-before.result b c.tell_link.new.self) c.is_tick.ensures
        ∙ all_put fixed (node_after fixed before)
        (node_step fixed (record { input = c.args.x.now; says = c.take.ensures.takes.0; answer = c.take.ensures.takes.1 }) (node_after fixed before))
        c.tell_link.new.self c.args.x.now c.state-before.result h (c.state-before.ensures ∙ state_before c.self.view_is fixed before st);
    stands = λ fixed before st.
        let h = came c.args.x.now c.take.ensures.takes.0 c.take.ensures.takes.1 c.self.view_is c.begin.ensures.begun c.take.ensures.takes.3 c.tell_lease.ensures.lead c.tell_link.ensures.lead fixed before st in
        record {
          said = (c.take.ensures.takes.2, st.said);
          is_at = in_at fixed (node_after fixed before)
              (node_step fixed (record { input = c.args.x.now; says = c.take.ensures.takes.0; answer = c.take.ensures.takes.1 }) (node_after fixed before)) c.tell_link.new.self h;
        };
    spelled = λ fixed before st p here.
        let h = came c.args.x.now c.take.ensures.takes.0 c.take.ensures.takes.1 c.self.view_is c.begin.ensures.begun c.take.ensures.takes.3 c.tell_lease.ensures.lead c.tell_link.ensures.lead fixed before st in
        spelled_at fixed (node_after fixed before)
        (node_step fixed (record { input = c.args.x.now; says = c.take.ensures.takes.0; answer = c.take.ensures.takes.1 }) (node_after fixed before))
        c.tell_link.new.self.parts p h.parts c.put_out.ensures.spelled here;
  },
)
