use Rattle.std.proofs.Common.{List}
use Rattle.wrp_node.specs.NodeAt.{NodeSetting, Taken}
use Rattle.wrp_node.specs.NodeRun.{node_after}
use Rattle.wrp_node.specs.StandsFor.{StandsFor}
use Rattle.wrp_replay.specs.StandsFor.{line_setting_at}
use Rattle.wrp_replay.proofs.CountLemmas.{LacksPorts}
use Rattle.wrp_replay.proofs.counting.append_counts.Given as goal

abbrev pub invariant-loop-port : goal.invariant-loop-port
invariant-loop-port g l =
    (fixed : NodeSetting) (inputs : List Taken) → StandsFor (λ f x y. g.F.Fn.post f (x, tt) y) fixed l.node inputs
    → LacksPorts (line_setting_at l.replayed) (node_after fixed inputs) l.port-index l.text.items l.fn.text.items
