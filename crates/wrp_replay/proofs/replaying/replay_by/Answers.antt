-- The law is the law of the node, and the machine begins with nothing taken; if memory runs out for the node,
-- nothing is written.
use Rattle.std.proofs.Common.{refl}
use Rattle.std.proofs.KnownBytes.{Appends-nil, Consumes-nil}
use Rattle.wrp_trace.specs.LineSetting.{line_setting_of}
use Rattle.wrp_records.proofs.Passed.{passes_nothing}
use Rattle.wrp_replay.specs.Replays.{meaning_of}
use Rattle.wrp_replay.specs.StandsFor.{line_setting_at}
use Rattle.wrp_replay.proofs.GoingOn.{law_if, nothing_accepted}
use Rattle.wrp_replay.proofs.replaying.replay_by.Goals as goal

pub new-requires-clause-law : goal.new-requires-clause-law
new-requires-clause-law g c =
    rw c.kept_if.ensures
    (law_if (line_setting_of c.args.replayed.net.now c.args.replayed.node) c.args.has_law c.args.law c.requires.has_law c.requires.fact c.requires.least c.requires.greatest c.requires.answers)

pub run_lines-requires-clause-fresh : goal.run_lines-requires-clause-fresh
run_lines-requires-clause-fresh g c = (c.in-Ok.ensures.taken, nothing_accepted (line_setting_at c.in-Ok.machine.replayed))

pub returns-in-Err : goal.returns-in-Err
returns-in-Err g c = record {
  passes = passes_nothing (meaning_of (line_setting_at c.args.replayed)) _ _ c.args.reader.now.rest c.args.reader.now.ended (nothing_accepted (line_setting_at c.args.replayed))
      (Consumes-nil _) (Appends-nil _) c.requires.at_end refl refl;
}
