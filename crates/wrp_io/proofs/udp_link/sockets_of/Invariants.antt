-- Two sockets a pair.
use Rattle.std.proofs.Common.{◌≡◌, ◌*◌, vec_len}
use Rattle.wrp_io.proofs.udp_link.sockets_of.Given as goal

abbrev pub invariant-loop-pair : goal.invariant-loop-pair
invariant-loop-pair g l = vec_len l.sockets ≡ 2 * l._pair
