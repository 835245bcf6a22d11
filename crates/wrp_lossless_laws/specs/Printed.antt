-- A loop over a link that loses nothing prints the lines of the simulation (this project's profile).
use Rattle.std.specs.Prelude.{◌≡◌, ℕ, List, [], map}
use Rattle.wrp_io.specs.declared.link.LinkCall.{LinkCall}
use Rattle.wrp_course.specs.Setting.{Setting}
use Rattle.wrp_scene.specs.Scenario.{SceneAt}
use Rattle.wrp_scene_records.specs.Scenarios.{IsScenario}
use Rattle.wrp_records.specs.declared.status.Status.{Status}
use Rattle.wrp_records.specs.declared.status.Status.TheVariants.{Done, TooLarge}
use Rattle.wrp_records.specs.Lines.{content_of, lines_of}
use Rattle.wrp_network_world.specs.NetworkSetting.{IsSettingOf}
use Rattle.wrp_commands.specs.Request.{CommandLine}
use Rattle.wrp_asked.specs.Answer.{Answer}
use Rattle.wrp_asked.specs.Input.{behind_separator, network_text}
use Rattle.wrp_asked.specs.Tasks.{IsLooping, IsSimulation}
use Rattle.wrp_lossless_laws.specs.Kinds.{kinds_in}
use Rattle.wrp_lossless_laws.specs.LosesNothing.{LosesNothing}
use Rattle.wrp_lossless_laws.specs.Simulated.{HandsEachOver}

-- if the records of the input say a scenario of the network that its text describes, no frame is lost in it and none comes twice
abbrev pub SaysNoLoss : List ℕ → Type 0
SaysNoLoss input =
    (s : Setting) (scene : SceneAt) → IsSettingOf (network_text input) s →
    IsScenario s (map content_of (behind_separator (lines_of input))) scene → HandsEachOver scene

-- a run to the end of its scenario, or one that something too large stops: the network text, a record, or the number of an event
abbrev pub IsEnd : Status → Type 0
IsEnd Done = Unit {0}
IsEnd TooLarge = Unit {0}
IsEnd _ = ⊥

-- if a loop is expected to end with one of these statuses, so is the simulation of the same input from the same seed, and the lines of
-- the kinds step, link, servo and track are the same in both outputs
abbrev pub LosslessLoopPrintsTheSimulation : Type 0
LosslessLoopPrintsTheSimulation =
    (looping simulating : CommandLine) (seed : ℕ) (input octets : List ℕ) (calls : List LinkCall) (status : Status) →
    IsEnd status → IsLooping looping seed → IsSimulation simulating seed → SaysNoLoss input → LosesNothing calls →
    Answer looping input calls status octets →
    (text : List ℕ) × Answer simulating input [] status text × (kinds_in octets ≡ kinds_in text)
