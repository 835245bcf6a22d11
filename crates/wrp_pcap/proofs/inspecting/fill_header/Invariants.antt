-- All that was taken is held.
use Rattle.std.proofs.Common.{◌≡◌, ◌≤◌, ◌+◌, ◌-◌, length}
use Rattle.std.specs.Io.KnownBytes.{Consumes}
use Rattle.wrp_pcap.specs.Inspecting.{piece_limit}
use Rattle.wrp_pcap.proofs.inspecting.fill_header.Given as goal

abbrev pub invariant-pieces : goal.invariant-pieces
invariant-pieces g l =
    record {
      taken : Consumes (g.S.Source.left l.fn.source) (g.S.Source.left l.source) l.pieces;
      few : length l.pieces ≤ 24 + piece_limit;
      kept : g.S.Source.faults l.source ≡ g.S.Source.faults l.fn.source;
    }

abbrev pub decreases-pieces : goal.decreases-pieces
decreases-pieces g l = 24 - length l.pieces
