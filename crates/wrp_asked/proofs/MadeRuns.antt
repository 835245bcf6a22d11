-- The events that a simulation makes are a run of its network.
use Rattle.std.proofs.Common.{ℕ, List}
use Rattle.wrp_network_text.specs.SameAnswer.{ReadingIsAccepted}
use Rattle.wrp_sim.specs.Keeps.{SimRunsAreRuns}
use Rattle.wrp_course.specs.Run.{Happened}
use Rattle.wrp_course.specs.Runs.{IsNetwork, IsRun}
use Rattle.wrp_course.specs.Setting.{Setting}
use Rattle.wrp_commands.specs.Request.{CommandLine}
use Rattle.wrp_asked.specs.Input.{network_text}
use Rattle.wrp_asked.specs.SimHeadline.{Made}
use Rattle.wrp_asked.proofs.HeadlineParts.{network_of}
use Rattle.wrp_simulate.proofs.ScenesFit.{scenario_fits}

pub made_run : SimRunsAreRuns → ReadingIsAccepted → (asked : CommandLine) (input : List ℕ) (s : Setting) (events : List Happened) → Made asked input s events
    → IsRun s events
made_run runs accepted asked input s events made =
    let net : IsNetwork s = network_of accepted (network_text input) s made.asks.2 in
    runs made.scene s made.seed events made.at net (scenario_fits s _ made.scene made.said) made.simulated.run
