-- The frames of the messages so far are there.
use Rattle.std.proofs.Common.{◌≡◌, ◌+◌, ◌++◌, length, take, map}
use Rattle.wrp_node.specs.NodeRun.{frame_out}
use Rattle.wrp_node.specs.Spelled.{AreSpelled}
use Rattle.wrp_node.proofs.place.PortPlace.put_frames.Given as goal

abbrev pub invariant-loop-message : goal.invariant-loop-message
invariant-loop-message l =
    (l.outs.items ≡ l.fn.outs.items ++ map (frame_out l.self.number) (take l.message-index l.self.sends.items))
    × (length l.outs.items ≡ length l.fn.outs.items + l.message-index)
    × AreSpelled (take l.message-index l.self.sends.items)
