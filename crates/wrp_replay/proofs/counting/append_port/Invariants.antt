use Rattle.std.proofs.Common.{List}
use Rattle.wrp_node.specs.NodeAt.{NodeSetting, Taken}
use Rattle.wrp_node.specs.NodeRun.{node_after}
use Rattle.wrp_node.specs.StandsFor.{StandsFor}
use Rattle.wrp_replay.proofs.CountLemmas.{LacksReasons}
use Rattle.wrp_replay.proofs.counting.append_port.Given as goal

abbrev pub invariant-loop-reason : goal.invariant-loop-reason
invariant-loop-reason g l =
    (fixed : NodeSetting) (inputs : List Taken) → StandsFor (λ f x y. g.F.Fn.post f (x, tt) y) fixed l.node inputs
    → LacksReasons l.name l.port ((node_after fixed inputs).counters l.port) l.reason-index l.text.items l.fn.text.items
