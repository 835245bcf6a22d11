-- The events that the first lines of an audit's records say are a run of their network; and each event of a run carries the
-- parts of the aim.
use Rattle.std.proofs.Common.{◌≡◌, inl, inr, refl, sym, subst, ℕ, Bool, Ok, List, [], ◌∷◌, ◌++◌, map, reverse, flat_map}
use Rattle.std.proofs.lemmas.List.{reverse-append}
use Rattle.std.specs.List.{AllByRecursion}
use Rattle.wrp_network.specs.declared.configuration.NetCfg.{NetCfg}
use Rattle.wrp_base.proofs.Lists.{all_weaker}
use Rattle.wrp_network_text.specs.SameAnswer.{ReadingIsAccepted}
use Rattle.wrp_node.specs.declared.interface.Input.{Input}
use Rattle.wrp_node.specs.declared.interface.Input.TheVariants.{Tick, Sample, Frame, Sent, Carrier, Reset}
use Rattle.wrp_node.specs.declared.interface.Output.{Output}
use Rattle.wrp_trace.specs.Events.{EventsCanCome, event_read}
use Rattle.wrp_course.specs.Dropped.{DropsLeaveACount, LeavesACount, given_at}
use Rattle.wrp_course.specs.declared.event.Event.{Event}
use Rattle.wrp_course.specs.EventAt.{IsEventOf}
use Rattle.wrp_bound_laws.proofs.Runs.Suffixes.{run_before}
use Rattle.wrp_course.specs.Given.{Given}
use Rattle.wrp_course.specs.Run.{Happened, steps_at, world_after}
use Rattle.wrp_course.specs.Runs.{AllEvents, IsNetwork, IsRun}
use Rattle.wrp_course.specs.Setting.{Setting}
use Rattle.wrp_world.specs.EventHolds.{LinksHold, LinksHoldInRuns}
use Rattle.wrp_audit.specs.Audited.{AreEvents}
use Rattle.wrp_network_world.specs.NetworkSetting.{IsSettingOf}
use Rattle.wrp_commands.specs.Request.{CommandLine}
use Rattle.wrp_asked.specs.EventLines.{AtEachEvent, Writing}
use Rattle.wrp_asked.specs.Headline.{AsksEventsOf, CarriesParts, Came, DropsCountAt, IsEarnedAt, OnlyCounts, OnlyCountsIf}
use Rattle.wrp_asked.specs.HopByHop.{HopByHop}
use Rattle.wrp_asked.specs.Input.{network_text}
use Rattle.wrp_asked.specs.TrackLines.{TracksAreWithin}
use Rattle.wrp_asked.proofs.EventLines.{lines_by, no_lines}
use Rattle.wrp_asked.proofs.LinkOnLines.{lines_are_earned}

-- A run

-- what holds of each event that a line says holds of these, which lines say
all_said : (cfg : NetCfg) (P : Event → Type 0) → ((line : List ℕ) (e : Event) → event_read cfg line ≡ Ok e → P e)
    → (lines : List (List ℕ)) (events : List Happened) →
    map (event_read cfg) lines ≡ map (λ (h : Happened). Ok h.event) events → AllByRecursion (λ (h : Happened). P h.event) events
all_said cfg P said [] [] e = tt
all_said cfg P said [] (h ∷ events) e = absurd (cc)
all_said cfg P said (line ∷ lines) [] e = absurd (cc)
all_said cfg P said (line ∷ lines) (h ∷ events) e =
    let head : event_read cfg line ≡ Ok h.event = cc in
    let rest : map (event_read cfg) lines ≡ map (λ (k : Happened). Ok k.event) events = cc in
    (said line h.event head, all_said cfg P said lines events rest)

-- the same of them the other way round
all_but_last : {A : Type 0} (P : A → Type 0) (xs : List A) (x : A) → AllByRecursion P (xs ++ x ∷ []) → P x × AllByRecursion P xs
all_but_last P [] x h = (h.0, tt)
all_but_last P (y ∷ xs) x h =
    let rest : P x × AllByRecursion P xs = all_but_last P xs x h.1 in
    (rest.0, (h.0, rest.1))

turned : {A : Type 0} (P : A → Type 0) (xs : List A) → AllByRecursion P (reverse xs) → AllByRecursion P xs
turned P [] h = tt
turned P (x ∷ xs) h =
    let both : P x × AllByRecursion P (reverse xs) = all_but_last P (reverse xs) x (subst (AllByRecursion P) (reverse-append (x ∷ []) xs) h) in
    (both.0, turned P xs both.1)

pub events_said : (P : Event → Type 0) (s : Setting) → ((line : List ℕ) (e : Event) → event_read s.cfg line ≡ Ok e → P e)
    → (lines : List (List ℕ)) (events : List Happened) → AreEvents s lines events →
    AllByRecursion (λ (h : Happened). P h.event) events
events_said P s said lines events are = turned (λ (h : Happened). P h.event) events (all_said s.cfg P said lines (reverse events) are)

all_events : (cfg : NetCfg) (events : List Happened) → AllByRecursion (λ (h : Happened). IsEventOf cfg h.event) events → AllEvents cfg events
all_events cfg [] h = tt
all_events cfg (k ∷ events) h = (h.0, all_events cfg events h.1)

pub network_of : ReadingIsAccepted → (text : List ℕ) (s : Setting) → IsSettingOf text s → IsNetwork s
network_of accepted text s h =
    subst IsNetwork (sym h.is)
    (record { accepted = accepted text h.net h.reads; set = λ n. refl })

-- the text describes the network of the events that are asked for
pub setting_asked : (asked : CommandLine) (text : List ℕ) (s : Setting) → AsksEventsOf asked text s → IsSettingOf text s
setting_asked asked text s asks = elim asks [ inl audit ↦ audit.2 | inr emission ↦ emission.2.2.0 ]

pub run_of : EventsCanCome → ReadingIsAccepted → (asked : CommandLine) (input : List ℕ) (s : Setting) (events : List Happened) → Came asked input s events
    → IsRun s events
run_of can accepted asked input s events came = record {
  network = network_of accepted (network_text input) s (setting_asked asked (network_text input) s came.asks);
  each = all_events s.cfg events (events_said (IsEventOf s.cfg) s (can s.cfg) _ events came.audit.are);
  accepted = came.audit.run.accepted;
}

at_each : (s : Setting) (P : List Happened → Happened → Type 0) → ((h : Happened) (before : List Happened) → IsRun s (h ∷ before) → P before h)
    → (events : List Happened) → IsRun s events → AtEachEvent P events
at_each s P f [] run = tt
at_each s P f (h ∷ before) run = (f h before run, at_each s P f before (run_before s h before run))

-- Dropped frames

-- what is written of an event, if some outputs have a line
abbrev pub writes : (Output → Bool) → Writing
writes has_line s before h = flat_map (lines_by has_line s (world_after s (h ∷ before))) (steps_at s before h)

only_counts : (has_line : Output → Bool) (s : Setting) (before : List Happened) (h : Happened) (n p reason : ℕ) → LeavesACount s before h n p reason
    → OnlyCounts (writes has_line) s before h n p reason
only_counts has_line s before h n p reason leaves = record {
  unwritten = no_lines has_line s (world_after s (h ∷ before)) (steps_at s before h) leaves.silent;
  leaves = leaves;
}

counts_if : (has_line : Output → Bool) (s : Setting) (before : List Happened) (h : Happened) (g : Given) (input : Input)
    → DropsLeaveACount s before h g.to g input → OnlyCountsIf (writes has_line) s before h g input
counts_if has_line s before h g (Frame p octets raw sample) f = λ reason why. only_counts has_line s before h g.to p reason (f reason why)
counts_if has_line s before h g Tick f = tt
counts_if has_line s before h g (Sample number base bits) f = tt
counts_if has_line s before h g (Sent p seq delay stamp) f = tt
counts_if has_line s before h g (Carrier p up own_module) f = tt
counts_if has_line s before h g Reset f = tt

all_count : (has_line : Output → Bool) (s : Setting) (before : List Happened) (h : Happened) (gs : List Given)
    → AllByRecursion (λ (g : Given). DropsLeaveACount s before h g.to g g.input) gs →
    AllByRecursion (λ (g : Given). OnlyCountsIf (writes has_line) s before h g g.input) gs
all_count has_line s before h gs f =
    all_weaker (λ (g : Given). DropsLeaveACount s before h g.to g g.input) (λ (g : Given). OnlyCountsIf (writes has_line) s before h g g.input)
    (λ g k. counts_if has_line s before h g g.input k) gs f

-- Lines

earned_at : (has_line : Output → Bool) (s : Setting) (h : Happened) (before : List Happened) → LinksHold s h before → IsRun s (h ∷ before)
    → IsEarnedAt (writes has_line) s before h
earned_at has_line s h before holds run = record {
  ports = holds.handshakes;
  lines = lines_are_earned has_line s (world_after s (h ∷ before)) (steps_at s before h) run.network.accepted.names holds.reports;
}

-- All parts

-- whichever outputs have a line
pub parts_of : (has_line : Output → Bool) → LinksHoldInRuns → (s : Setting) (events : List Happened) → IsRun s events
    → TracksAreWithin (writes has_line) s events → HopByHop s events →
    CarriesParts (writes has_line) s events
parts_of has_line links s events run tracks hops = record {
  tracks = tracks;
  hops = hops;
  link_on = at_each s (IsEarnedAt (writes has_line) s) (λ h before r. earned_at has_line s h before (links s h before r) r) events run;
  drops =
      at_each s (DropsCountAt (writes has_line) s) (λ h before r. all_count has_line s before h (given_at s before h) (links s h before r).drops) events run;
}
