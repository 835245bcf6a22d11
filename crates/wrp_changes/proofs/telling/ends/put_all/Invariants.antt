-- The waiting frames, and what the remaining outputs add to them.
use Rattle.std.proofs.Common.{◌≡◌, ◌+◌, ◌++◌, drop, length, map, vec_len, vec_capacity}
use Rattle.wrp_node.specs.Sends.{frames_at}
use Rattle.wrp_changes.specs.PlantTold.{put_at}
use Rattle.wrp_changes.proofs.telling.ends.put_all.Given as goal

abbrev pub invariant-loop-out : goal.invariant-loop-out
invariant-loop-out l =
    (l.waiting.items ++ map (put_at l.fn.now) (frames_at l.fn.port (drop l.out-index l.fn.outs))
    ≡ l.fn.waiting.items ++ map (put_at l.fn.now) (frames_at l.fn.port l.fn.outs))
    × (vec_len l.waiting + length (frames_at l.fn.port (drop l.out-index l.fn.outs)) ≡ vec_len l.fn.waiting + length (frames_at l.fn.port l.fn.outs))
    × (vec_capacity l.waiting ≡ vec_capacity l.fn.waiting)
