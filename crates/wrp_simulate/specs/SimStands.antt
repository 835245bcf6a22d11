-- What a simulation stands for as it goes on: the scenario that its lines said, and the run of its events
-- (this project's profile).
use Rattle.std.specs.Prelude.{◌≡◌, ◌<◌, ◌+◌, ◌⊎◌, ℕ, ℤ, if◌then◌else◌, None, Some, Option, List, [], ◌∷◌, ◌++◌, length}
use Rattle.std.specs.Io.KnownBytes.{Appends}
use Rattle.std.specs.List.{flat_map}
use Rattle.wrp_network.specs.Network.{node_count}
use Rattle.wrp_lines.specs.Lines.{output_line_of}
use Rattle.wrp_node.specs.declared.interface.Output.{Output}
use Rattle.wrp_sim.specs.Rules.{Next}
use Rattle.wrp_scene.specs.Scenario.{SceneAt}
use Rattle.wrp_sim.specs.Sim.{FitsSim, SimIs}
use Rattle.wrp_sim.specs.SimAt.{SimAt}
use Rattle.wrp_sim.specs.SimRun.{Gives}
use Rattle.wrp_plant.specs.Plant.{Each}
use Rattle.wrp_course.specs.Run.{Happened, steps_at, world_after}
use Rattle.wrp_course.specs.Setting.{Setting, nodes_of}
use Rattle.wrp_world.specs.StandsFor.{IsValid, StandsFor}
use Rattle.wrp_course.specs.WorldAt.{WorldAt}
use Rattle.wrp_records.specs.declared.machine.Refusal.TheVariants as refusal
use Rattle.wrp_records.specs.declared.machine.Taken.TheVariants as taken
use Rattle.wrp_network_world.specs.Bounds.{AreBounds}
use Rattle.wrp_simulate.specs.declared.simulating.Stepped.{Stepped}
use Rattle.wrp_simulate.specs.declared.simulating.Stepped.TheVariants as stepped
use Rattle.wrp_simulate.specs.declared.simulation.Course.{Course}
use Rattle.wrp_simulate.specs.declared.simulation.SimulatedNetwork.{SimulatedNetwork}
use Rattle.wrp_simulate.specs.declared.totals.Total.{Total}
use Rattle.wrp_records.specs.declared.status.Status.{Status}
use Rattle.wrp_records.specs.declared.status.Status.TheVariants.{Done, OutOfMemory}
use Rattle.wrp_network_world.specs.NetworkSetting.{setting_in}
use Rattle.wrp_network_world.specs.LawsFit.{HasLawOf}
use Rattle.wrp_records.specs.Engine.{Finishes}
use Rattle.wrp_scene.specs.EventLimit.{event_limit}
use Rattle.wrp_simulate.specs.Simulates.{IsSimulated}
use Rattle.wrp_simulate.specs.SimText.{count_of, is_printed, printed_lines, sim_lines, sum_by, tracked, worst_of}

-- The run

-- what the track lines at these true offsets show
pub record IsTotal (offs : List ℤ) (total : Total) : Type 0 where
  pub tracks : total.tracks ≡ count_of offs
  pub worst : total.worst ≡ worst_of offs

-- each node has its total of these true offsets, by its number
abbrev pub AreTotals : (ℕ → List ℤ) → List Total → Type 0
AreTotals offs totals = Each (λ n. IsTotal (offs n)) totals

-- the lines that sum up a run to a world, by these true offsets
abbrev pub sums_by : Setting → WorldAt → (ℕ → List ℤ) → List ℕ
sums_by s w offs = flat_map (λ n. sum_by s w n (offs n)) (nodes_of s)

-- the line of an output, if it has one, of the node with this name, at a tick, with its bound and its true
-- offset
abbrev pub printed_by : List ℕ → ℕ → ℤ → ℤ → Output → List ℕ
printed_by name ticks bound off o =
    if is_printed o then output_line_of name ticks o bound (Some off) else []

-- it can take an event: its world was made by calls of the world, the law of each node is the law of
-- the link above it, and the nodes' bounds are at hand
pub record CanRun {F : Type 0} (pre : F → ℤ → Type 0) (post : F → ℤ → ℤ → Type 0)
    (network : SimulatedNetwork F) : Type 0 where
  pub valid : IsValid pre post network.world
  pub laws : HasLawOf post (setting_in network.world.plant.net) network.world
  pub bounds : AreBounds network.world.plant.net.cfg network.bounds.items

-- what makes the events of this network: its scenario belongs to the network, each node has its
-- total, and the events are counted
pub record FitsCourse {F : Type 0} (network : SimulatedNetwork F) (course : Course) : Type 0 where
  pub sim : FitsSim network.world.plant.net.cfg course.sim
  pub totals : length course.totals.items ≡ node_count network.world.plant.net.cfg
  pub count : network.world.plant.events ≡ course.events
  pub below : course.events < event_limit

-- these events came, the newest first
pub record HasRun {F : Type 0} (post : F → ℤ → ℤ → Type 0) (seed : ℕ) (s : Setting) (scene : SceneAt)
    (network : SimulatedNetwork F) (course : Course) (events : List Happened) (at : SimAt) : Type 0 where
  pub is_setting : s ≡ setting_in network.world.plant.net
  pub is_scene : course.sim.scene ≡ scene
  pub simulated : IsSimulated s scene seed events at
  pub stands : StandsFor post s (world_after s events) network.world
  pub sim : SimIs at course.sim
  pub totals : AreTotals (λ n. tracked s n events) course.totals.items
  pub count : course.events ≡ length events

-- some events did
abbrev pub IsInRun : {F : Type 0} → (F → ℤ → ℤ → Type 0) → SimulatedNetwork F → Course → Type 0
IsInRun post network course =
    (seed : ℕ) × (s : Setting) × (scene : SceneAt) × (events : List Happened) × (at : SimAt)
    × HasRun post seed s scene network course events at

-- no event has come yet
abbrev pub Begins : {F : Type 0} → (F → ℤ → ℤ → Type 0) → ℕ → Setting → SceneAt → SimulatedNetwork F
    → Course → Type 0
Begins post seed s scene network course =
    (at : SimAt) × HasRun post seed s scene network course [] at

-- one more came, and what it writes
pub record RunsOn {F : Type 0} (post : F → ℤ → ℤ → Type 0) (seed : ℕ) (s : Setting) (scene : SceneAt)
    (network : SimulatedNetwork F) (course : Course) (events : List Happened) (old new : List ℕ) : Type 0 where
  pub newest : Happened
  pub at : SimAt
  pub run : HasRun post seed s scene network course (newest ∷ events) at
  pub wrote :
      new ≡ old ++ flat_map (printed_lines s (world_after s (newest ∷ events))) (steps_at s events newest)

-- the network is unchanged, and nothing is written
pub record RunStops {F : Type 0} (post : F → ℤ → ℤ → Type 0) (s : Setting) (network : SimulatedNetwork F)
    (course : Course) (events : List Happened) (old new : List ℕ) : Type 0 where
  pub stands : StandsFor post s (world_after s events) network.world
  pub totals : AreTotals (λ n. tracked s n events) course.totals.items
  pub none : new ≡ old

-- what became of a step of a run: an event came, no event comes any more, or the number of the next
-- event is too great
abbrev pub Steps : {F : Type 0} → (F → ℤ → ℤ → Type 0) → ℕ → Setting → SceneAt → SimulatedNetwork F → Course
    → List ℕ → List ℕ → List Happened → SimAt → Stepped → Type 0
Steps post seed s scene network course old new events at stepped.Event =
    RunsOn post seed s scene network course events old new
Steps post seed s scene network course old new events at stepped.Over =
    RunStops post s network course events old new × Gives scene s (world_after s events) at None
Steps post seed s scene network course old new events at stepped.TooLarge =
    RunStops post s network course events old new
    × (comes : Next) × Gives scene s (world_after s events) at (Some comes)
    × (length events + 1 ≡ event_limit)

-- what closes a run to a world is written after what waits, or a part of that is written; or memory runs
-- out
abbrev pub ClosesRun : Setting → WorldAt → (ℕ → List ℤ) → Status → Option (List ℕ) → Option (List ℕ)
    → List ℕ → Type 0
ClosesRun s w offs status before now waiting =
    ((status ≡ OutOfMemory) × (now ≡ before)) ⊎ Finishes Done status before now (waiting ++ sums_by s w offs)

-- a run has come so far: the lines of its first events are written, and the rest of its lines waits
pub record Running {F : Type 0} (post : F → ℤ → ℤ → Type 0) (seed : ℕ) (s : Setting) (scene : SceneAt)
    (network : SimulatedNetwork F) (course : Course) (before now : Option (List ℕ)) (waiting : List ℕ)
    : Type 0 where
  pub events : List Happened
  pub at : SimAt
  pub run : HasRun post seed s scene network course events at
  pub first : List Happened
  pub first_at : SimAt
  pub first_run : IsSimulated s scene seed first first_at
  pub written : List ℕ
  pub wrote : Appends before now written
  pub are_first : written ≡ sim_lines s first
  pub lines : sim_lines s events ≡ written ++ waiting
