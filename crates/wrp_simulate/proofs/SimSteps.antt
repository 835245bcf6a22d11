-- A simulation as it goes on: each event that comes is accepted, and makes the run longer by one; and what the
-- output is when it ends.
use Rattle.std.proofs.Common.{◌≡◌, ◌⊎◌, ◌∙◌, inl, inr, refl, ap, ap₂, sym, subst, append_assoc, append-nil, ℕ, ℤ, pos, ◌+◌, ◌<◌, Bool, true, false, Option, None, Some, Result, Err, List, [], ◌∷◌, ◌++◌, length, map, flat_map, take, arith}
use Rattle.std.specs.Io.KnownBytes.{Appends}
use Rattle.std.proofs.KnownBytes.{Appends-nil, Appends-trans}
use Rattle.wrp_network.specs.declared.configuration.NetCfg.{NetCfg}
use Rattle.wrp_base.specs.declared.message.PtpMsg.{PtpMsg}
use Rattle.wrp_caldb.specs.Database.{Database}
use Rattle.wrp_config.specs.Accepted.{IsAccepted}
use Rattle.wrp_config.specs.declared.network.Network.{Network}
use Rattle.wrp_frame.specs.declared.fault.FrameFault.{FrameFault}
use Rattle.wrp_frame.specs.declared.fault.FrameFault.TheVariants.{Short}
use Rattle.wrp_sim.specs.declared.sim.state.State.{State}
use Rattle.wrp_sim.specs.Keeps.{SimRunsAreRuns}
use Rattle.wrp_sim.specs.Rules.{Next, rest_of}
use Rattle.wrp_scene.specs.Scenario.{IsSceneOf, SceneAt}
use Rattle.wrp_sim.specs.Sim.{FitsSim, FollowsRules, Gave, GaveNext, SimIs, put}
use Rattle.wrp_sim.specs.SimAt.{SimAt, new_sim}
use Rattle.wrp_sim.specs.SimRun.{Gives, IsSimRun}
use Rattle.wrp_course.specs.declared.event.Event.{Event}
use Rattle.wrp_course.specs.EventAt.{IsEventOf}
use Rattle.wrp_course.specs.Premises.{Accepts}
use Rattle.wrp_course.specs.Run.{Happened, IsAnswered, steps_at, world_after}
use Rattle.wrp_course.specs.Runs.{IsNetwork, IsRun}
use Rattle.wrp_course.specs.Setting.{Setting}
use Rattle.wrp_world.specs.StandsFor.{IsValid, StandsFor, WorldOf}
use Rattle.wrp_world.specs.Step.{MayCome, step_seen}
use Rattle.wrp_world.specs.Take.{CanHappen, Taken}
use Rattle.wrp_course.specs.WorldAt.{WorldAt, new_world}
use Rattle.wrp_sim.proofs.Turns.{no_rule, put_none, put_one}
use Rattle.wrp_simulate.specs.declared.simulation.Course.{Course}
use Rattle.wrp_simulate.specs.declared.simulation.SimulatedNetwork.{SimulatedNetwork}
use Rattle.wrp_records.specs.declared.status.Status.{Status}
use Rattle.wrp_records.specs.declared.status.Status.TheVariants.{Done, WriteFault, TooLarge, OutOfMemory}
use Rattle.wrp_records.specs.LineMeaning.{LineMeaning}
use Rattle.wrp_records.specs.LinesAfter.{Closed}
use Rattle.wrp_network_world.specs.NetworkSetting.{answers_in, setting_in}
use Rattle.wrp_simulate.specs.SimStands.{AreTotals, Begins, CanRun, ClosesRun, FitsCourse, HasRun, Running, RunsOn}
use Rattle.wrp_scene_records.specs.ScenarioStands.{ClosesLarge}
use Rattle.wrp_simulate.specs.SimText.{offsets_in, printed_lines, sum_lines, tracked}
use Rattle.wrp_scene.specs.EventLimit.{event_limit}
use Rattle.wrp_scene_records.specs.Scenarios.{IsScenario}
use Rattle.wrp_simulate.specs.Simulates.{simulation_of}
use Rattle.wrp_records.specs.Stream.{large_line}
use Rattle.wrp_records.specs.Taking.{AppendsPart}
use Rattle.wrp_network_world.proofs.WorldRuns.{answered, made_after}
use Rattle.wrp_scene_records.proofs.Finishing.{finishes_after}

-- The event that comes

-- the network of a run is one that its reader accepts
pub network_of : {F : Type 0} {pre : F → ℤ → Type 0} {post : F → ℤ → ℤ → Type 0} (s : Setting) (w : WorldAt) (world : WorldOf F) → IsValid pre post world
    → StandsFor post s w world → IsNetwork s
network_of s w world valid stands = record {
  accepted =
      subst (λ (d : Database). IsAccepted s.cfg d) stands.plant.db
      (subst (λ (c : NetCfg). IsAccepted c world.plant.net.db) stands.plant.cfg valid.plant.accepted);
  set = stands.set;
}

-- what the simulator answered
pub record NextComes (s : Setting) (scene : SceneAt) (seed : ℕ) (events : List Happened) (at : SimAt) (event : Event) (sim : State) : Type 0 where
  pub next : Next
  pub gives : Gives scene s (world_after s events) at (Some next)
  pub is : event ≡ next.event
  pub stands : SimIs next.at sim
  pub can : IsEventOf s.cfg event
  pub accepted : (says : Result PtpMsg FrameFault) → Accepts s (world_after s events) says event

run_with : (s : Setting) (scene : SceneAt) (seed : ℕ) (events : List Happened) (at : SimAt) (next : Next) (says : Result PtpMsg FrameFault) (answer : ℤ)
    → IsSimRun scene s seed events at
    → Gives scene s (world_after s events) at (Some next) → IsSimRun scene s seed (record { event = next.event; says = says; answer = answer } ∷ events) next.at
run_with s scene seed events at next says answer run gives = (at, run, gives)

comes_by : SimRunsAreRuns
    → (s : Setting) (scene : SceneAt) (seed : ℕ) (events : List Happened) (at : SimAt) (event : Event) (sim : State) (stays : SimAt) (next : Option Next)
    → IsNetwork s → IsSceneOf s.cfg scene
    → IsSimRun scene s seed events at → Gives scene s (world_after s events) at next → Gave stays next (Some event) sim
    → NextComes s scene seed events at event sim
comes_by keeps s scene seed events at event sim stays None net fits run gives gave = absurd gave
comes_by keeps s scene seed events at event sim stays (Some next) net fits run gives gave =
    let whole : (says : Result PtpMsg FrameFault) → IsRun s (record { event = next.event; says = says; answer = pos 0 } ∷ events) =
    λ says. keeps scene s seed (record { event = next.event; says = says; answer = pos 0 } ∷ events) next.at net fits (run_with s scene seed events at next says (pos 0) run gives) in
    record {
      next = next;
      gives = gives;
      is = gave.0;
      stands = gave.1;
      can = subst (IsEventOf s.cfg) (sym gave.0) (whole (Err Short)).each.0;
      accepted = λ says. subst (λ (e : Event). Accepts s (world_after s events) says e) (sym gave.0) (whole says).accepted.0;
    }

-- the scenario of a run belongs to its network
scene_of : {F : Type 0} {post : F → ℤ → ℤ → Type 0} (seed : ℕ) (s : Setting) (scene : SceneAt) (network : SimulatedNetwork F) (course : Course)
    (events : List Happened) (at : SimAt)
    → HasRun post seed s scene network course events at → FitsSim network.world.plant.net.cfg course.sim → IsSceneOf s.cfg scene
scene_of seed s scene network course events at h fits =
    subst (IsSceneOf s.cfg) h.is_scene (subst (λ (c : NetCfg). IsSceneOf c course.sim.scene) h.stands.plant.cfg fits.scene)

-- what the simulator answered, by the scenario
gave_of : {F : Type 0} {post : F → ℤ → ℤ → Type 0} (seed : ℕ) (s : Setting) (scene : SceneAt) (network : SimulatedNetwork F) (course : Course)
    (events : List Happened) (at : SimAt) (sim : State) (event : Option Event)
    → HasRun post seed s scene network course events at → FollowsRules post network.world course.sim sim event
    → (next : Option Next) × Gives scene s (world_after s events) at next × Gave (rest_of s (world_after s events) at) next event sim
gave_of seed s scene network course events at sim event h follows =
    let g : GaveNext s (world_after s events) at course.sim sim event = follows s (world_after s events) at h.stands h.sim in
    (g.next, subst (λ (k : SceneAt). Gives k s (world_after s events) at g.next) h.is_scene g.gives, g.gave)

-- an event was put into its place, or none
pub one_put : {F : Type 0} {post : F → ℤ → ℤ → Type 0} (world : WorldOf F) (old new : State) (b : Bool) (event : Event)
    → FollowsRules post world old new (put b event) → b ≡ true → FollowsRules post world old new (Some event)
one_put {post = post} world old new b event h is = subst (FollowsRules post world old new) (put_one b event is) h

pub none_put : {F : Type 0} {post : F → ℤ → ℤ → Type 0} (world : WorldOf F) (old new : State) (b : Bool) (event : Event)
    → FollowsRules post world old new (put b event) → b ≡ false → FollowsRules post world old new None
none_put {post = post} world old new b event h is = subst (FollowsRules post world old new) (put_none b event is) h

pub event_comes : {F : Type 0} {pre : F → ℤ → Type 0} {post : F → ℤ → ℤ → Type 0} → SimRunsAreRuns
    → (seed : ℕ) (s : Setting) (scene : SceneAt) (network : SimulatedNetwork F) (course : Course) (events : List Happened) (at : SimAt) (sim : State) (event : Event)
    → HasRun post seed s scene network course events at → CanRun pre post network → FitsCourse network course
    → FollowsRules post network.world course.sim sim (Some event) → NextComes s scene seed events at event sim
event_comes {pre = pre} {post = post} keeps seed s scene network course events at sim event h can fits follows =
    let gave = gave_of seed s scene network course events at sim (Some event) h follows in
    comes_by keeps s scene seed events at event sim (rest_of s (world_after s events) at) gave.0
    (network_of {pre = pre} {post = post} s (world_after s events) network.world can.valid h.stands)
    (scene_of seed s scene network course events at h fits.sim) h.simulated.run gave.1 gave.2

pub none_comes : {F : Type 0} {post : F → ℤ → ℤ → Type 0} (seed : ℕ) (s : Setting) (scene : SceneAt) (network : SimulatedNetwork F) (course : Course)
    (events : List Happened) (at : SimAt) (sim : State)
    → HasRun post seed s scene network course events at → FollowsRules post network.world course.sim sim None → Gives scene s (world_after s events) at None
none_comes seed s scene network course events at sim h follows =
    let gave = gave_of seed s scene network course events at sim None h follows in
    subst (Gives scene s (world_after s events) at) (no_rule (rest_of s (world_after s events) at) gave.0 sim gave.2) gave.1

pub some_comes : (s : Setting) (scene : SceneAt) (seed : ℕ) (events : List Happened) (at : SimAt) (event : Event) (sim : State)
    → NextComes s scene seed events at event sim
    → (comes : Next) × Gives scene s (world_after s events) at (Some comes)
some_comes s scene seed events at event sim c = (c.next, c.gives)

-- and the world can take it
pub can_happen : {F : Type 0} {post : F → ℤ → ℤ → Type 0} (seed : ℕ) (s : Setting) (scene : SceneAt) (network : SimulatedNetwork F) (course : Course)
    (events : List Happened) (at : SimAt) (sim : State) (event : Event)
    → HasRun post seed s scene network course events at → NextComes s scene seed events at event sim → CanHappen post network.world event
can_happen seed s scene network course events at sim event h c = record {
  setting = s;
  state = world_after s events;
  stands = h.stands;
  accepted = λ says said. c.accepted says;
}

pub may_come : {F : Type 0} {post : F → ℤ → ℤ → Type 0} (seed : ℕ) (s : Setting) (scene : SceneAt) (network : SimulatedNetwork F) (course : Course)
    (events : List Happened) (at : SimAt) (sim : State) (event : Event)
    → HasRun post seed s scene network course events at → FitsCourse network course → NextComes s scene seed events at event sim → MayCome network.world event
may_come seed s scene network course events at sim event h fits c =
    let same = fits.count in
    let below = fits.below in
    record { event = subst (λ (k : NetCfg). IsEventOf k event) (sym h.stands.plant.cfg) c.can; room = omega (arith, same, below) }

-- the run with it
pub goes_on : {F : Type 0} {pre : F → ℤ → Type 0} {post : F → ℤ → ℤ → Type 0} (seed : ℕ) (s : Setting) (scene : SceneAt) (old new : SimulatedNetwork F)
    (course next : Course) (events : List Happened) (at : SimAt) (event : Event) (before text : List ℕ)
    → HasRun post seed s scene old course events at → NextComes s scene seed events at event next.sim → next.sim.scene ≡ course.sim.scene → CanRun pre post new
    → new.world.plant.net ≡ old.world.plant.net
    → Taken post event old.world new.world new.outs.items
    → ((t : Setting) (w : WorldAt) → StandsFor post t w new.world → text ≡ before ++ flat_map (printed_lines t w) (map step_seen new.outs.items))
    → ((t : Setting) (w : WorldAt) → StandsFor post t w new.world → (offs : ℕ → List ℤ) → AreTotals offs course.totals.items → AreTotals (λ n. offsets_in w n (map step_seen new.outs.items) ++ offs n) next.totals.items)
    → next.events ≡ course.events + 1 → course.events + 1 < event_limit → RunsOn post seed s scene new next events before text
goes_on {F} {pre} {post} seed s scene old new course next events at event before text h c scenes can net stepped wrote totals count below =
    let k : Network = new.world.plant.net in
    let newest : Happened = record { event = event; says = stepped.0; answer = stepped.1 } in
    let w : WorldAt = world_after s (newest ∷ events) in
    let stands : StandsFor post s w new.world = stepped.2.stands s (world_after s events) h.stands (c.accepted stepped.0) in
    let seen : map step_seen new.outs.items ≡ steps_at s events newest = stepped.2.seen s (world_after s events) h.stands (c.accepted stepped.0) in
    let setting : s ≡ setting_in k = h.is_setting ∙ ap setting_in (sym net) in
    let numbered = h.count in
    record {
      newest = newest;
      at = c.next.at;
      run = record {
        is_setting = setting;
        is_scene = scenes ∙ h.is_scene;
        simulated = record {
          run = (at, h.simulated.run, subst (λ (e : Event). Gives scene s (world_after s events) at (Some (record { event = e; at = c.next.at }))) (sym c.is) c.gives);
          said = (stepped.2.said, h.simulated.said);
          answered = subst (λ (t : Setting). IsAnswered (answers_in t) t (world_after t (newest ∷ events))) (sym setting)
              (answered {post = post} k (world_after (setting_in k) (newest ∷ events)) new.world can.valid.plant.accepted.tree can.valid.node_count
              (subst (λ (t : Setting). StandsFor post t (world_after t (newest ∷ events)) new.world) setting stands) can.laws (made_after (setting_in k) (newest ∷ events)));
          count = omega (arith, numbered, below);
        };
        stands = stands;
        sim = c.stands;
        totals =
            subst (λ steps. AreTotals (λ n. offsets_in w n steps ++ tracked s n events) next.totals.items) seen
            (totals s w stands (λ n. tracked s n events) h.totals);
        count = omega (arith, numbered, count);
      };
      wrote = wrote s w stands ∙ ap (λ steps. before ++ flat_map (printed_lines s w) steps) seen;
    }

-- How far it is written

pub begins_running : {F : Type 0} {post : F → ℤ → ℤ → Type 0} (seed : ℕ) (s : Setting) (scene : SceneAt) (network : SimulatedNetwork F) (course : Course)
    (held : Option (List ℕ)) (waiting : List ℕ)
    → Begins post seed s scene network course → waiting ≡ [] → Running post seed s scene network course held held waiting
begins_running seed s scene network course held waiting begins none = record {
  events = [];
  at = begins.0;
  run = begins.1;
  first = [];
  first_at = begins.0;
  first_run = begins.1.simulated;
  written = [];
  wrote = Appends-nil held;
  are_first = refl;
  lines = sym none;
}

pub runs_on : {F : Type 0} {post : F → ℤ → ℤ → Type 0} (seed : ℕ) (s : Setting) (scene : SceneAt) (old new : SimulatedNetwork F) (course next : Course)
    (before now : Option (List ℕ)) (waiting text : List ℕ)
    → (so_far : Running post seed s scene old course before now waiting) → RunsOn post seed s scene new next so_far.events waiting text
    → Running post seed s scene new next before now text
runs_on seed s scene old new course next before now waiting text so_far on = record {
  events = on.newest ∷ so_far.events;
  at = on.at;
  run = on.run;
  first = so_far.first;
  first_at = so_far.first_at;
  first_run = so_far.first_run;
  written = so_far.written;
  wrote = so_far.wrote;
  are_first = so_far.are_first;
  lines =
      ap (λ (l : List ℕ). l ++ flat_map (printed_lines s (world_after s (on.newest ∷ so_far.events))) (steps_at s so_far.events on.newest)) so_far.lines
      ∙ append_assoc so_far.written waiting (flat_map (printed_lines s (world_after s (on.newest ∷ so_far.events))) (steps_at s so_far.events on.newest))
      ∙ ap (λ (l : List ℕ). so_far.written ++ l) (sym on.wrote);
}

pub writes_on : {F : Type 0} {post : F → ℤ → ℤ → Type 0} (seed : ℕ) (s : Setting) (scene : SceneAt) (network : SimulatedNetwork F) (course : Course)
    (before mid now : Option (List ℕ)) (waiting left : List ℕ)
    → Running post seed s scene network course before mid waiting → ((left ≡ waiting) × (now ≡ mid)) ⊎ ((left ≡ []) × Appends mid now waiting)
    → Running post seed s scene network course before now left
writes_on {post = post} seed s scene network course before mid now waiting left so_far (inl none) =
    subst (λ (k : Option (List ℕ)). Running post seed s scene network course before k left) (sym none.1)
    (subst (Running post seed s scene network course before mid) (sym none.0) so_far)
writes_on seed s scene network course before mid now waiting left so_far (inr all) = record {
  events = so_far.events;
  at = so_far.at;
  run = so_far.run;
  first = so_far.events;
  first_at = so_far.at;
  first_run = so_far.run.simulated;
  written = so_far.written ++ waiting;
  wrote = Appends-trans before mid now so_far.written waiting so_far.wrote all.1;
  are_first = sym so_far.lines;
  lines = so_far.lines ∙ sym (append-nil (so_far.written ++ waiting)) ∙ ap (λ (l : List ℕ). (so_far.written ++ waiting) ++ l) (sym all.0);
}

-- Ends

-- what closes the lines with a wider condition also closes the lines with a narrower one
pub closed_by : (L : LineMeaning) (T U : List (List ℕ) → Type 0) (status : Status) (before now : Option (List ℕ))
    → ((lines : List (List ℕ)) → T lines → U lines) → Closed U L status before now → Closed T L status before now
closed_by L T U status before now means (inl memory) = inl memory
closed_by L T U status before now means (inr how) = inr (how.0, how.1, λ lines says. how.2 lines (means lines says), how.3)

-- if memory runs out, the lines of the first events are written
pub without_memory : {F : Type 0} {post : F → ℤ → ℤ → Type 0} (seed : ℕ) (s : Setting) (scene : SceneAt) (network : SimulatedNetwork F) (course : Course)
    (before now : Option (List ℕ)) (waiting : List ℕ)
    → Running post seed s scene network course before now waiting → Closed (λ lines. IsScenario s lines scene) (simulation_of s seed) OutOfMemory before now
without_memory seed s scene network course before now waiting r = inr (
  OutOfMemory,
  r.written,
  λ lines said. (record { scene = scene; said = said; events = r.first; at = r.first_at; simulated = r.first_run }, r.are_first),
  inl (refl, r.wrote),
)

-- if the sink failed, a part of the lines of the events so far is written
pub unwritten : {F : Type 0} {post : F → ℤ → ℤ → Type 0} (seed : ℕ) (s : Setting) (scene : SceneAt) (network : SimulatedNetwork F) (course : Course)
    (before mid now : Option (List ℕ)) (waiting : List ℕ)
    → Running post seed s scene network course before mid waiting → AppendsPart mid now waiting
    → Closed (λ lines. IsScenario s lines scene) (simulation_of s seed) WriteFault before now
unwritten seed s scene network course before mid now waiting r part = inr (
  OutOfMemory,
  r.written ++ waiting,
  λ lines said. (record { scene = scene; said = said; events = r.events; at = r.at; simulated = r.run.simulated }, sym r.lines),
  finishes_after OutOfMemory WriteFault before mid now r.written waiting r.wrote (inr (refl, part)),
)

-- if no event comes any more, the lines that sum up are also written
pub over_closed : {F : Type 0} {post : F → ℤ → ℤ → Type 0} (seed : ℕ) (s : Setting) (scene : SceneAt) (network : SimulatedNetwork F) (course : Course)
    (before mid now : Option (List ℕ)) (waiting : List ℕ) (status : Status)
    → (r : Running post seed s scene network course before mid waiting) → Gives scene s (world_after s r.events) r.at None
    → ClosesRun s (world_after s r.events) (λ n. tracked s n r.events) status mid now waiting
    → Closed (λ lines. IsScenario s lines scene) (simulation_of s seed) status before now
over_closed {post = post} seed s scene network course before mid now waiting status r over (inl memory) =
    subst (λ (given : Status). Closed (λ lines. IsScenario s lines scene) (simulation_of s seed) given before now) (sym memory.0)
    (without_memory seed s scene network course before now waiting (subst (λ (k : Option (List ℕ)). Running post seed s scene network course before k waiting) (sym memory.1) r))
over_closed seed s scene network course before mid now waiting status r over (inr ends) = inr (
  Done,
  r.written ++ (waiting ++ sum_lines s r.events),
  λ lines said. (
    record { scene = scene; said = said; events = r.events; at = r.at; simulated = r.run.simulated },
    over,
    sym (append_assoc r.written waiting (sum_lines s r.events)) ∙ ap (λ (l : List ℕ). l ++ sum_lines s r.events) (sym r.lines),
  ),
  finishes_after Done status before mid now r.written (waiting ++ sum_lines s r.events) r.wrote ends,
)

-- if an event has too great a number, the line that names it is also written
pub large_closed : {F : Type 0} {post : F → ℤ → ℤ → Type 0} (seed : ℕ) (s : Setting) (scene : SceneAt) (network : SimulatedNetwork F) (course : Course)
    (before mid now : Option (List ℕ)) (waiting : List ℕ) (status : Status)
    → (r : Running post seed s scene network course before mid waiting) → (comes : Next) → Gives scene s (world_after s r.events) r.at (Some comes)
    → length r.events + 1 ≡ event_limit
    → ClosesLarge status mid now waiting
    → Closed (λ lines. IsScenario s lines scene) (simulation_of s seed) status before now
large_closed {post = post} seed s scene network course before mid now waiting status r comes gives number (inl memory) =
    subst (λ (given : Status). Closed (λ lines. IsScenario s lines scene) (simulation_of s seed) given before now) (sym memory.0)
    (without_memory seed s scene network course before now waiting (subst (λ (k : Option (List ℕ)). Running post seed s scene network course before k waiting) (sym memory.1) r))
large_closed seed s scene network course before mid now waiting status r comes gives number (inr ends) = inr (
  TooLarge,
  r.written ++ (waiting ++ large_line event_limit),
  λ lines said. (
    record { scene = scene; said = said; events = r.events; at = r.at; simulated = r.run.simulated },
    record { next = comes; comes = gives; number = number },
    sym (append_assoc r.written waiting (large_line event_limit))
        ∙ ap₂ (λ (l : List ℕ) (n : ℕ). l ++ large_line n) (sym r.lines) (sym number),
  ),
  finishes_after TooLarge status before mid now r.written (waiting ++ large_line event_limit) r.wrote ends,
)

-- memory runs out before the first event
pub nothing_run : (s : Setting) (scene : SceneAt) (seed : ℕ) (held : Option (List ℕ))
    → Closed (λ lines. IsScenario s lines scene) (simulation_of s seed) OutOfMemory held held
nothing_run s scene seed held = inr (
  OutOfMemory,
  [],
  λ lines said. (
    record {
      scene = scene;
      said = said;
      events = [];
      at = new_sim scene seed;
      simulated = record { run = refl; said = tt; answered = λ n. tt; count = omega arith };
    },
    refl,
  ),
  inl (refl, Appends-nil held),
)

-- with a network and a simulator that are new
pub first_run : {F : Type 0} {post : F → ℤ → ℤ → Type 0} (seed : ℕ) (scene : SceneAt) (network : SimulatedNetwork F) (course : Course)
    → StandsFor post (setting_in network.world.plant.net) (new_world (setting_in network.world.plant.net)) network.world
    → course.sim.scene ≡ scene → SimIs (new_sim scene seed) course.sim → AreTotals (λ n. []) course.totals.items → course.events ≡ 0
    → Begins post seed (setting_in network.world.plant.net) scene network course
first_run seed scene network course stands same sim totals none = (
  new_sim scene seed,
  record {
    is_setting = refl;
    is_scene = same;
    simulated = record { run = refl; said = tt; answered = λ n. tt; count = omega arith };
    stands = stands;
    sim = sim;
    totals = totals;
    count = none;
  },
)
