-- Every port restarts.
use Rattle.wrp_node.proofs.Telling.{ticks_set}
use Rattle.wrp_node.proofs.parts.Parts.reset.Goals as goal

pub returns : goal.returns
returns c fixed before s h =
    c.give.ensures fixed before (record s { node = record s.node { ticks = 0 } }) (ticks_set fixed before s 0 c.args.self.now h)
