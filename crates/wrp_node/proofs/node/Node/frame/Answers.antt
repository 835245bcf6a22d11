-- The octets say a message, or have a first fault.
use Rattle.std.proofs.Common.{subst, ℕ, List, pos, Ok, Err}
use Rattle.wrp_frame.specs.Faults.{IsFirstFault}
use Rattle.wrp_frame.specs.Grammar.{Spells}
use Rattle.wrp_node.specs.NodeStep.{dropped}
use Rattle.wrp_node.specs.Parts.{PartsIn}
use Rattle.wrp_node.specs.Telling.{step_from}
use Rattle.wrp_node.proofs.Nodes.{inside_in}
use Rattle.wrp_node.proofs.node.Node.frame.Goals as goal

pub returns-in-Ok-clause-takes : goal.returns-in-Ok-clause-takes
returns-in-Ok-clause-takes g c = (
  Ok c.in-Ok.message,
  c.message.ensures.takes.0,
  subst (λ (o : List ℕ). Spells o c.in-Ok.message) c.as_slice.ensures.value ((c.decode.ensures.spelled c.in-Ok.message).0 c.in-Ok.is),
  c.message.ensures.takes.1,
)

pub returns-in-Err-clause-takes : goal.returns-in-Err-clause-takes
returns-in-Err-clause-takes g c = (
  Err c.in-Err.fault,
  pos 0,
  subst (λ (o : List ℕ). IsFirstFault c.in-Err.fault o) c.as_slice.ensures.value ((c.decode.ensures.refused c.in-Err.fault).0 c.in-Err.is),
  λ fixed n h.
      let here = inside_in c.self.view_is h in
      record {
        parts = subst (λ (k : ℕ). PartsIn fixed n (dropped c.args.port k n) c.count.new.self) c.number.ensures.value (c.count.ensures fixed n (step_from n) here.parts);
        control = here.control;
        report = here.report;
      },
)
