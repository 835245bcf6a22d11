use Rattle.std.proofs.Common.{◌≡◌, ◌-◌, ◌+◌, ◌++◌, length, true}
use Rattle.std.specs.Io.KnownBytes.{IsAtEnd}
use Rattle.wrp_records.specs.Lines.{HasNoFeed}
use Rattle.wrp_records.specs.Reader.{Takes}
use Rattle.wrp_records.proofs.reader.Reader.read_on.Given as goal

abbrev pub invariant-pieces : goal.invariant-pieces
invariant-pieces g l =
    record {
      taken : Takes (g.S.Source.left l.fn.source) (g.S.Source.left l.source) (l.fn.line.items ++ l.fn.self.rest) l.fn.self.ended l.self l.line.items;
      at_end : l.self.ended ≡ true → IsAtEnd (g.S.Source.left l.source);
      kept : g.S.Source.faults l.source ≡ g.S.Source.faults l.fn.source;
      plain : HasNoFeed l.line.items;
    }

abbrev pub decreases-pieces : goal.decreases-pieces
decreases-pieces g l = l.most + 1 - (length l.line.items + length l.self.rest)
