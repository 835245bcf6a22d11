-- The packets that were passed are taken, and what they write is written or waits.
use Rattle.std.proofs.Common.{◌≡◌, ◌-◌, ◌^◌, List, ℕ}
use Rattle.wrp_pcap.specs.Inspecting.{Goes, IsBehindHeader, weight}
use Rattle.wrp_pcap.proofs.inspecting.inspect_packets.Given as goal

abbrev pub invariant-pieces : goal.invariant-pieces
invariant-pieces g l =
    record {
      goes : (start : List ℕ) → IsBehindHeader l.order start l.fn.pieces
          → Goes l.order start (g.S.Source.left l.fn.source) (g.S.Source.left l.source) (g.K.Sink.held l.fn.sink) (g.K.Sink.held l.sink) l.inspection l.pieces l.waiting.items;
      source : g.S.Source.faults l.source ≡ g.S.Source.faults l.fn.source;
      sink : g.K.Sink.faults l.sink ≡ g.K.Sink.faults l.fn.sink;
    }

abbrev pub decreases-pieces : goal.decreases-pieces
decreases-pieces g l = 2 ^ 52 - weight l.inspection l.pieces
