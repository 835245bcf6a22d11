use Rattle.std.proofs.Common.{◌≡◌, ◌-◌, ◌+◌, ◌≤◌, length, true}
use Rattle.std.specs.Io.KnownBytes.{IsAtEnd}
use Rattle.wrp_asked.specs.Input.{network_limit}
use Rattle.wrp_asked.proofs.Networking.{Networked}
use Rattle.wrp_asked.proofs.network_text.take_lines.Given as goal

abbrev pub invariant-lines : goal.invariant-lines
invariant-lines g l =
    record {
      reached : Networked l.reader (g.S.Source.left l.fn.source) (g.S.Source.left l.source) l.text.items;
      at_end : l.reader.ended ≡ true → IsAtEnd (g.S.Source.left l.source);
      kept : g.S.Source.faults l.source ≡ g.S.Source.faults l.fn.source;
      size : length l.text.items ≤ network_limit;
    }

abbrev pub decreases-lines : goal.decreases-lines
decreases-lines g l = network_limit + 1 - length l.text.items
