-- The state of the port of this number.
use Rattle.std.proofs.Common.{◌∙◌, ap, map}
use Rattle.wrp_node.specs.NodeRun.{node_after}
use Rattle.wrp_node.specs.Parts.{is_among}
use Rattle.wrp_node.specs.States.{state_in}
use Rattle.wrp_node.proofs.Nodes.{inside_at}
use Rattle.wrp_node.proofs.StatesTold.{state_told, row_numbers}
use Rattle.wrp_node.proofs.node.Node.states.Goals as goal

pub returns-clause-states : goal.returns-clause-states
returns-clause-states g c p among fixed inputs h =
    let here = inside_at c.self.view_is h.is_at in
    ap (state_in p) c.states.ensures ∙ state_told fixed (node_after fixed inputs) c.self.inside.parts p here.parts
    (ap (λ v. is_among p v.parts.ports) c.self.view_is ∙ among)

pub returns-clause-ports : goal.returns-clause-ports
returns-clause-ports g c =
    ap (λ rows. map (λ row. row.port) rows) c.states.ensures
    ∙ row_numbers c.self.inside.parts.ports
    ∙ ap (λ v. map (λ place. place.number) v.parts.ports) c.self.view_is
