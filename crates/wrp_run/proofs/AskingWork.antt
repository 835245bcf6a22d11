-- What the words ask for, and the words of an audit and of a simulation.
use Rattle.std.proofs.Common.{◌≡◌, ◌∙◌, refl, sym, ap, subst, Bool, ℕ, ◌<◌, ◌≤◌, Option, None, Some, option_map, Ok, List, [], length}
use Rattle.wrp_config.specs.declared.network.Network.{Network}
use Rattle.wrp_network.specs.declared.configuration.NetCfg.{NetCfg}
use Rattle.wrp_network.specs.Network.{node_count}
use Rattle.wrp_config.proofs.Bare.{count_bare}
use Rattle.wrp_config.specs.Names.{node_named}
use Rattle.wrp_network_text.specs.Reading.{IsReadingOf}
use Rattle.wrp_config.specs.Same.{IsSameNetwork, bare_cfg}
use Rattle.wrp_course.specs.Setting.{Setting}
use Rattle.wrp_records.specs.declared.status.Status.{Status}
use Rattle.wrp_records.specs.ByLines.{of_lines}
use Rattle.wrp_records.specs.Passages.{Passage, Passes}
use Rattle.wrp_scene.specs.Scenario.{new_scene}
use Rattle.wrp_run.specs.declared.network.Work.{Work}
use Rattle.wrp_run.specs.declared.network.Work.TheVariants as works
use Rattle.wrp_commands.specs.declared.command.Asked.{Asked}
use Rattle.wrp_commands.specs.declared.command.Asked.TheVariants as wanted
use Rattle.wrp_commands.specs.declared.command.Command.{Command}
use Rattle.wrp_commands.specs.declared.command.Command.TheVariants as command
use Rattle.wrp_asked.specs.Answer.{IsNetworked}
use Rattle.wrp_run.specs.Asked.{AsksSo, AsksWork, FitsWork, IsAsked, work_meaning}
use Rattle.wrp_network_world.specs.NetworkSetting.{setting_in}
use Rattle.wrp_commands.specs.Request.{CommandLine, request_of}
use Rattle.wrp_commands.specs.Request as requests
use Rattle.wrp_asked.specs.Input.{network_limit}
use Rattle.wrp_asked.specs.Tasks.{Task, Audit, Emit, Simulate, AsksFor, meaning_at}
use Rattle.wrp_asked.proofs.WordLemmas.{asks_nothing}
use Rattle.wrp_audit.proofs.AuditSteps.{nothing_accepted}
use Rattle.wrp_replay.proofs.BareSetting.{named_bare}

-- what is asked for, by the command that the words are
pub asks_so : (asked : CommandLine) (found : Option Command) → asked.request ≡ option_map request_of found → AsksSo asked found
asks_so asked None never = asks_nothing asked never
asks_so asked (Some (command.OnNetwork what)) is = is
asks_so asked (Some (command.Alone alone)) is = is
asks_so asked (Some (command.Loop seed)) is = is

-- the task of a work that is asked for; its lines mean the same for both
pub record WorkTask (asked : CommandLine) (text : List ℕ) (work : Work) (s : Setting) : Type 0 where
  pub task : Task
  pub asks : AsksFor asked text task
  pub due :
      (source sink : Passage (List ℕ)) (rest : List ℕ) (began ended : Bool) (status : Status)
      → Passes (of_lines (work_meaning work s)) source sink rest began ended [] status
      → Passes (of_lines (meaning_at task)) source sink rest began ended [] status

pub work_task : (asked : CommandLine) (text : List ℕ) (work : Work) (net : Network) → AsksWork asked net work → length text ≤ network_limit
    → IsReadingOf text (Ok net)
    → WorkTask asked text work (setting_in net)
work_task asked text (works.Audit None) net asks within reads =
    record { task = Audit (setting_in net); asks = (within, asks, record { net = net; reads = reads; is = refl }); due = λ source sink rest began ended status at. at }
work_task asked text (works.Audit (Some n)) net asks within reads = record {
  task = Emit asks.0 (setting_in net) n;
  asks = (within, asks.1, (record { net = net; reads = reads; is = refl }, asks.2));
  due = λ source sink rest began ended status at. at;
}
work_task asked text (works.Simulate seed) net asks within reads =
    record { task = Simulate (setting_in net) seed; asks = (within, asks, record { net = net; reads = reads; is = refl }); due = λ source sink rest began ended status at. at }

-- they are a command on a network
pub work_networked : (asked : CommandLine) (net : Network) (work : Work) → AsksWork asked net work → IsNetworked asked
work_networked asked net (works.Audit None) asks = (requests.Audit, asks)
work_networked asked net (works.Audit (Some n)) asks = (requests.Emit asks.0, asks.1)
work_networked asked net (works.Simulate seed) asks = (requests.Simulate seed, asks)

pub asked_networked : (asked : CommandLine) (what : Asked) → IsAsked asked what → IsNetworked asked
asked_networked asked wanted.Audit asks = (requests.Audit, asks)
asked_networked asked (wanted.Emit name) asks = (requests.Emit name.now, asks)
asked_networked asked (wanted.Replay name) asks = (requests.Replay name.now, asks)
asked_networked asked (wanted.Simulate seed) asks = (requests.Simulate seed, asks)

-- a copy of a network is the same network, and is what the text is read as
pub copy_same : (net own : Network) → own ≡ net → IsSameNetwork net own
copy_same net own is = subst (λ (n : Network). IsSameNetwork net n) (sym is) (refl, refl)

pub copy_read : (text : List ℕ) (net own : Network) → own ≡ net → IsReadingOf text (Ok net) → IsReadingOf text (Ok own)
copy_read text net own is reads = subst (λ (n : Network). IsReadingOf text (Ok n)) (sym is) reads

-- of two networks that are the same they ask for the same work

named_same : (a b : NetCfg) (name : List ℕ) → bare_cfg a ≡ bare_cfg b → node_named b name ≡ node_named a name
named_same a b name same = sym (named_bare b name) ∙ ap (λ (c : NetCfg). node_named c name) (sym same) ∙ named_bare a name

pub asks_same : (asked : CommandLine) (net own : Network) (work : Work) → IsSameNetwork net own → AsksWork asked net work → AsksWork asked own work
asks_same asked net own (works.Audit None) same asks = asks
asks_same asked net own (works.Audit (Some n)) same asks = (asks.0, asks.1, named_same net.cfg own.cfg asks.0 same.0 ∙ asks.2)
asks_same asked net own (works.Simulate seed) same asks = asks

pub fits_same : (net own : Network) (work : Work) → IsSameNetwork net own → FitsWork net work → FitsWork own work
fits_same net own (works.Audit None) same fits = tt
fits_same net own (works.Audit (Some n)) same fits =
    let count : node_count net.cfg ≡ node_count own.cfg = sym (count_bare net.cfg) ∙ ap node_count same.0 ∙ count_bare own.cfg in
    subst (λ (k : ℕ). n < k) count fits
fits_same net own (works.Simulate seed) same fits = tt

-- after no record lines nothing is written
pub nothing_done : (work : Work) (s : Setting) → (work_meaning work s).accepts [] []
nothing_done (works.Audit emit) s = nothing_accepted emit s
nothing_done (works.Simulate seed) s = (new_scene s.cfg, refl, refl)
