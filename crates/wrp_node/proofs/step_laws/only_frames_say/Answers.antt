use Rattle.wrp_node.proofs.StepLaws.{only_frames_say}
use Rattle.wrp_node.proofs.step_laws.only_frames_say.Goals as goal

pub returns : goal.returns
returns c = only_frames_say
