-- The packets that were passed are taken.
use Rattle.std.proofs.Common.{ℕ, ◌≤◌, List, length}
use Rattle.wrp_pcap.specs.Inspecting.{Reached, weight}
use Rattle.wrp_pcap.proofs.taking.take_held.Given as goal

abbrev pub invariant-packets : goal.invariant-packets
invariant-packets l =
    record {
      stands : (taken out : List ℕ) → Reached l.order taken out l.fn.inspection l.fn.pieces l.fn.waiting.items
          → Reached l.order taken out l.inspection l.pieces l.waiting.items;
      weight : weight l.fn.inspection l.fn.pieces ≤ weight l.inspection l.pieces;
    }

abbrev pub decreases-packets : goal.decreases-packets
decreases-packets l = length l.pieces
