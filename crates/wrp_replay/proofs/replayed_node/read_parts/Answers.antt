-- A plain line says what its parts say, and any other line is refused.
use Rattle.wrp_trace.specs.LineSetting.{line_setting_of}
use Rattle.wrp_replay.proofs.PlainLines.{reads_parts, reads_none}
use Rattle.wrp_replay.proofs.replayed_node.read_parts.Goals as goal

pub returns-in-Some-clause-value : goal.returns-in-Some-clause-value
returns-in-Some-clause-value c =
    reads_parts (line_setting_of c.args.replayed.net.now c.args.replayed.node) c.args.line.now c.in-Some.row.now _ _ _ (rw c.in-Some.is at c.requires) c.read_input_fields.ensures.value

pub returns-in-None-clause-value : goal.returns-in-None-clause-value
returns-in-None-clause-value c =
    reads_none (line_setting_of c.args.replayed.net.now c.args.replayed.node) c.args.line.now _ (rw c.in-None.is at c.requires)
