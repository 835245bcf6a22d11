-- Where the octets of the header end.
use Rattle.std.proofs.Common.{length, ap, arith}
use Rattle.wrp_pcap.proofs.CaptureGoing.{filled, filled_all}
use Rattle.wrp_pcap.proofs.inspecting.fill_header.Goals as goal

pub returns-in-End-clause-fills : goal.returns-in-End-clause-fills
returns-in-End-clause-fills g c =
    let taken = c.in-End.ensures.taken in
    let size = ap length taken.2 in
    let held = ap length c.held.ensures in
    (filled _ _ _ _ _ c.pieces.invariant.taken taken.0 taken.2, taken.1, omega (arith, size, held, c.if-held-ge-HEADER_LENGTH.false))

pub returns-in-Failed-clause-fills : goal.returns-in-Failed-clause-fills
returns-in-Failed-clause-fills g c =
    let taken = c.in-Failed.ensures.taken in
    let size = ap length taken.1 in
    let held = ap length c.held.ensures in
    (filled _ _ _ _ _ c.pieces.invariant.taken taken.0 taken.1, omega (arith, size, held, c.if-held-ge-HEADER_LENGTH.false))

pub returns-in-Memory-clause-fills : goal.returns-in-Memory-clause-fills
returns-in-Memory-clause-fills g c =
    let taken = c.in-Memory.ensures.taken in
    filled_all _ _ _ _ _ c.pieces.invariant.taken taken.1
