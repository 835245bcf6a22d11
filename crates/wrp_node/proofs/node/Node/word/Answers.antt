-- The word of the port of this number.
use Rattle.std.proofs.Common.{◌∙◌, ap}
use Rattle.wrp_node.specs.NodeRun.{node_after}
use Rattle.wrp_node.specs.Parts.{is_among}
use Rattle.wrp_node.proofs.Finding.{word_told}
use Rattle.wrp_node.proofs.Nodes.{inside_at}
use Rattle.wrp_node.proofs.node.Node.word.Goals as goal

pub returns : goal.returns
returns g c fixed inputs h =
    let here = inside_at c.self.view_is h.is_at in
    c.word.ensures ∙ word_told fixed (node_after fixed inputs) c.self.inside.parts c.args.port here.parts
    (ap (λ v. is_among c.args.port v.parts.ports) c.self.view_is ∙ c.requires)
