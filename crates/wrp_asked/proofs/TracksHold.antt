-- What is reported of TRACK is true in every audit and in every simulation, by the law of every run.
use Rattle.std.proofs.Common.{◌<◌, ◌^◌, ℕ, Bool, List, [], ◌∷◌, length, arith}
use Rattle.std.specs.List.{AllByRecursion}
use Rattle.wrp_network_text.specs.SameAnswer.{ReadingIsAccepted}
use Rattle.wrp_node.specs.declared.interface.Output.{Output}
use Rattle.wrp_sim.specs.Keeps.{SimRunsAreRuns}
use Rattle.wrp_trace.specs.Events.{EventsCanCome}
use Rattle.wrp_bound_laws.specs.Bounds.{TrueRun}
use Rattle.wrp_bound_laws.specs.Chains.{AllFit}
use Rattle.wrp_course.specs.EventAt.{FitsEvent}
use Rattle.wrp_course.specs.Run.{Happened, IsAnswered, steps_at, world_after}
use Rattle.wrp_course.specs.Runs.{IsRun}
use Rattle.wrp_course.specs.Setting.{Setting}
use Rattle.wrp_bound_laws.proofs.Runs.Suffixes.{run_before}
use Rattle.wrp_world.specs.EventHolds.{TracksHold, TracksHoldInRuns}
use Rattle.wrp_network_world.specs.NetworkSetting.{IsSettingOf, answers_in, laws_in}
use Rattle.wrp_commands.specs.Request.{CommandLine}
use Rattle.wrp_asked.specs.Headline.{Came}
use Rattle.wrp_asked.specs.Input.{network_text}
use Rattle.wrp_asked.specs.SimHeadline.{Made}
use Rattle.wrp_scene.specs.EventLimit.{event_limit}
use Rattle.wrp_asked.specs.TrackLines.{IsTrueAt, TracksAreWithin}
use Rattle.wrp_asked.proofs.HeadlineParts.{events_said, run_of, setting_asked, writes}
use Rattle.wrp_network_world.proofs.LawsNear.{LawsAreNear, answers_near, laws_near}
use Rattle.wrp_audit.proofs.LinesFit.{line_fits}
use Rattle.wrp_simulate.proofs.MadeFit.{made_fit}
use Rattle.wrp_one_world_laws.proofs.OneWorld.{before_newest}
use Rattle.wrp_asked.proofs.MadeRuns.{made_run}
use Rattle.wrp_asked.proofs.TrackTold.{lines_are_true}

-- A run with the answers of its links' laws

pub record RunsNear (s : Setting) (events : List Happened) : Type 0 where
  pub run : IsRun s events
  pub fit : AllFit events
  pub answered : IsAnswered (answers_in s) s (world_after s events)
  pub near : LawsAreNear s

pub runs_before : (s : Setting) (h : Happened) (before : List Happened) → RunsNear s (h ∷ before) → RunsNear s before
runs_before s h before runs = record {
  run = run_before s h before runs.run;
  fit = runs.fit.1;
  answered = before_newest (laws_in s) s h before runs.answered;
  near = runs.near;
}

pub true_run : (s : Setting) (events : List Happened) → RunsNear s events → TrueRun s events
true_run s events runs = record { run = runs.run; fit = runs.fit; answered = answers_near s (world_after s events) runs.near runs.answered }

-- At each event

true_at : TracksHoldInRuns → (has_line : Output → Bool) (s : Setting) (h : Happened) (before : List Happened) → RunsNear s (h ∷ before)
    → IsTrueAt (writes has_line) s before h
true_at tracks has_line s h before runs =
    let holds : TracksHold s h before = tracks s h before (true_run s (h ∷ before) runs) in
    record {
      nodes = holds.offsets;
      reports = holds.reports;
      lines = lines_are_true has_line s (world_after s (h ∷ before)) (steps_at s before h) runs.run.network.accepted.names holds.reports;
    }

-- whichever outputs have a line
pub tracks_hold : TracksHoldInRuns → (has_line : Output → Bool) (s : Setting) (events : List Happened) → RunsNear s events
    → TracksAreWithin (writes has_line) s events
tracks_hold tracks has_line s [] runs = tt
tracks_hold tracks has_line s (h ∷ before) runs = (true_at tracks has_line s h before runs, tracks_hold tracks has_line s before (runs_before s h before runs))

-- Audits

pub laws_of : ReadingIsAccepted → (text : List ℕ) (s : Setting) → IsSettingOf text s → LawsAreNear s
laws_of accepted text s h = laws_near s h.net.cfg h.net.db (accepted text h.net h.reads) h.is

all_fit : (events : List Happened) → AllByRecursion (λ (h : Happened). FitsEvent h.event) events → AllFit events
all_fit [] h = tt
all_fit (k ∷ events) h = (h.0, all_fit events h.1)

pub audit_runs : EventsCanCome → ReadingIsAccepted → (asked : CommandLine) (input : List ℕ) (s : Setting) (events : List Happened) → Came asked input s events
    → RunsNear s events
audit_runs can accepted asked input s events came = record {
  run = run_of can accepted asked input s events came;
  fit = all_fit events (events_said FitsEvent s (line_fits s.cfg) _ events came.audit.are);
  answered = came.audit.run.answered;
  near = laws_of accepted (network_text input) s (setting_asked asked (network_text input) s came.asks);
}

-- Simulations

pub few_events : (events : List Happened) → length events < event_limit → length events < 2 ^ 32
few_events events few = omega (arith, few)

pub simulation_runs : SimRunsAreRuns → ReadingIsAccepted → (asked : CommandLine) (input : List ℕ) (s : Setting) (events : List Happened)
    → Made asked input s events → RunsNear s events
simulation_runs runs accepted asked input s events made =
    let run : IsRun s events = made_run runs accepted asked input s events made in
    record {
      run = run;
      fit = made_fit made.scene s made.seed events made.at made.simulated.run run.accepted (few_events events made.simulated.count);
      answered = made.simulated.answered;
      near = laws_of accepted (network_text input) s made.asks.2;
    }
