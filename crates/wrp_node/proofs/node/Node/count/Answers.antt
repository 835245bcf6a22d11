-- The counter of the port of this number.
use Rattle.std.proofs.Common.{◌∙◌, ap}
use Rattle.wrp_node.specs.NodeRun.{node_after}
use Rattle.wrp_node.specs.Parts.{is_among}
use Rattle.wrp_node.proofs.Finding.{times_told}
use Rattle.wrp_node.proofs.Nodes.{inside_at}
use Rattle.wrp_node.proofs.node.Node.count.Goals as goal

pub returns : goal.returns
returns g c fixed inputs h =
    let here = inside_at c.self.view_is h.is_at in
    c.times.ensures ∙ times_told fixed (node_after fixed inputs) c.self.inside.parts c.args.port c.args.reason here.parts
    (ap (λ v. is_among c.args.port v.parts.ports) c.self.view_is ∙ c.requires.port)
