use Rattle.std.proofs.Common.{◌∙◌, ap, sym}
use Rattle.wrp_node.specs.NodeAt.{dac_of}
use Rattle.wrp_course.specs.Setting.{node_setting_of}
use Rattle.wrp_world.proofs.world.World.dac.Goals as goal

pub returns : goal.returns
returns g c s w h =
    let node = h.nodes c.args.n c.node.result.now c.node.ensures in
    c.dac.ensures (node_setting_of s c.args.n) (w.inputs c.args.n) node.stands ∙ ap (dac_of (node_setting_of s c.args.n)) (sym node.at)
