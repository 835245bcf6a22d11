-- Everything restarts but the counters.
use Rattle.std.proofs.Common.{refl}
use Rattle.wrp_node.specs.NodeStep.{restarted}
use Rattle.wrp_node.specs.Parts.{parts_reset}
use Rattle.wrp_node.specs.Telling.{step_from}
use Rattle.wrp_node.proofs.Giving.{parts_same}
use Rattle.wrp_node.proofs.Nodes.{inside_in}
use Rattle.wrp_node.proofs.node.Node.reset.Goals as goal

pub returns-clause-takes : goal.returns-clause-takes
returns-clause-takes g c fixed n h =
    let here = inside_in c.self.view_is h in
    record {
      parts = parts_same fixed n (parts_reset fixed (step_from n)) (step_from (restarted fixed n)) c.reset.new.self
          (record { told = λ q. refl; counters = λ q. refl; sends = λ q. refl }) refl refl refl (c.reset.ensures fixed n (step_from n) here.parts);
      control = (c.reset-out.ensures.calls fixed n.calls here.control).stands;
      report = here.report;
    }
