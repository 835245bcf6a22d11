-- A line says what its parts say.
use Rattle.std.proofs.Common.{◌∙◌, sym}
use Rattle.wrp_scene.specs.ScenarioLines.{scene_of}
use Rattle.wrp_records.proofs.LineParts.{read_none, read_parts}
use Rattle.wrp_scene_records.proofs.scenario.ScenarioLines.read.Goals as goal

pub returns-in-Some-clause-value : goal.returns-in-Some-clause-value
returns-in-Some-clause-value c =
    c.read_fields.ensures.value ∙ sym (read_parts (scene_of c.args.self.now.net.now.cfg c.args.self.now.scene) c.args.line.now c.in-Some.row.now (rw c.in-Some.is at c.requires.split))

pub returns-in-None-clause-value : goal.returns-in-None-clause-value
returns-in-None-clause-value c =
    sym (read_none (scene_of c.args.self.now.net.now.cfg c.args.self.now.scene) c.args.line.now (rw c.in-None.is at c.requires.split))
