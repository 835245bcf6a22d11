-- Each step of a world adds its event to the run that the world is in.
use Rattle.std.proofs.Common.{refl, ℤ}
use Rattle.wrp_world.specs.InRun.{NewIsInRun, StepAddsToRun}
use Rattle.wrp_course.specs.Run.{world_after}

pub new_is_in_run : {F : Type 0} (post : F → ℤ → ℤ → Type 0) → NewIsInRun post
new_is_in_run post cfg db laws world accepted stands = record {
  run = record { network = record { accepted = accepted; set = λ n. refl }; each = tt; accepted = tt };
  stands = stands;
}

pub step_adds_to_run : {F : Type 0} (post : F → ℤ → ℤ → Type 0) → StepAddsToRun post
step_adds_to_run post s events e says answer old new outs h event steps = record {
  run = record {
    network = h.run.network;
    each = (event, h.run.each);
    accepted = (steps.accepted s (world_after s events) h.stands, h.run.accepted);
  };
  stands = steps.stands s (world_after s events) h.stands;
}
