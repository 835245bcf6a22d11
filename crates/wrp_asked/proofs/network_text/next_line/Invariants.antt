use Rattle.std.proofs.Common.{◌≡◌, ◌-◌, ◌+◌, ◌^◌, ◌<◌, ◌≤◌, true}
use Rattle.std.specs.Io.KnownBytes.{IsAtEnd}
use Rattle.wrp_records.specs.Lines.{HasNoFeed}
use Rattle.wrp_records.specs.Reader.{Takes}
use Rattle.wrp_asked.proofs.Networking.{HasBegun}
use Rattle.wrp_asked.proofs.network_text.next_line.Given as goal

abbrev pub invariant-pieces : goal.invariant-pieces
invariant-pieces g l =
    record {
      taken : Takes (g.S.Source.left l.fn.source) (g.S.Source.left l.source) l.fn.reader.rest l.fn.reader.ended l.reader l.line.items;
      at_end : l.reader.ended ≡ true → IsAtEnd (g.S.Source.left l.source);
      kept : g.S.Source.faults l.source ≡ g.S.Source.faults l.fn.source;
      plain : HasNoFeed l.line.items;
      begun : HasBegun l.left l.most l.line.items l.reader;
      fits : l.most < 2 ^ 32;
      most : l.left ≤ l.most;
    }

abbrev pub decreases-pieces : goal.decreases-pieces
decreases-pieces g l = l.left + 5 - l.most
