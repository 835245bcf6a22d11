-- What the sink took follows what it took before.
use Rattle.std.proofs.Common.{rules}
use Rattle.wrp_records.proofs.Pieces.{written_on}
use Rattle.wrp_records.proofs.writing.write_all.Goals as goal

pub loop-at-preserved : goal.loop-at-preserved
loop-at-preserved g c =
    record {
      within = search rules;
      written = written_on _ _ _ _ _ _ _ c.in-Ok.ensures.bound c.loop-at.invariant.written c.in-Ok.ensures.octets;
      kept = search rules;
    }
