-- A report of TRACK is put out at a tick, by a node that is in TRACK after it.
use Rattle.std.proofs.Common.{◌≡◌, ◌∙◌, refl, sym, subst, ℕ, ◌%◌, ◌==◌, ◌&&◌, ℤ, unsigned_abs, Bool, true, false, if◌then◌else◌, List, [], ◌∷◌, ◌++◌, map, flat_map, Option, None, Some, Result}
use Rattle.std.specs.List.{AllByRecursion}
use Rattle.wrp_base.specs.declared.link.LinkWord.{LinkWord}
use Rattle.wrp_base.specs.declared.link.ServoState.{ServoState}
use Rattle.wrp_base.specs.declared.link.ServoState.TheVariants.{Track}
use Rattle.wrp_base.specs.declared.message.PtpMsg.{PtpMsg}
use Rattle.wrp_network.specs.declared.network.LinkCfg.{LinkCfg}
use Rattle.wrp_network.specs.Network.{link_above}
use Rattle.wrp_base.proofs.Booleans.{and_first}
use Rattle.wrp_bounds.specs.Bounds.{numbers_of}
use Rattle.wrp_bounds.specs.declared.numbers.HopNumbers.{HopNumbers}
use Rattle.wrp_frame.specs.declared.fault.FrameFault.{FrameFault}
use Rattle.wrp_link.specs.Table.{word_of}
use Rattle.wrp_node.specs.declared.interface.Input.{Input}
use Rattle.wrp_node.specs.declared.interface.Input.TheVariants.{Tick as TickInput, Sample as SampleInput, Frame, Sent, Carrier, Reset}
use Rattle.wrp_node.specs.declared.interface.Output.{Output}
use Rattle.wrp_node.specs.declared.interface.Output.TheVariants as output
use Rattle.wrp_node.specs.declared.interface.Report.TheVariants as report
use Rattle.wrp_node.specs.NodeAt.{NodeSetting, NodeAt, est_of, link_at, numbers_of as ports_of, state_of}
use Rattle.wrp_node.specs.NodeRun.{dac_out, est_out, outputs_of, rank_of, port_out, servo_out, step_out, track_out, word_out, frame_out}
use Rattle.wrp_node.specs.Telling.{Step}
use Rattle.wrp_port.specs.Outputs.{is_word}
use Rattle.wrp_servo.specs.Laws.{TrackHasChain}
use Rattle.wrp_servo.specs.Table.{is_track}
use Rattle.wrp_course.specs.declared.event.Event.{Event}
use Rattle.wrp_course.specs.declared.event.Event.TheVariants.{Tick}
use Rattle.wrp_course.specs.Given.{Given, event_steps, given_by, given_plain, gives, step_of, steps_of, world_step}
use Rattle.wrp_course.specs.Moved.{moved}
use Rattle.wrp_course.specs.Run.{Happened, world_after}
use Rattle.wrp_course.specs.Runs.{IsNetwork}
use Rattle.wrp_course.specs.Setting.{Setting, node_setting_of}
use Rattle.wrp_course.specs.WorldAt.{WorldAt}
use Rattle.wrp_course.proofs.RunGifts.{AllGiven}
use Rattle.wrp_bound_laws.specs.Bounds.{EstimatesAreNear, IsTrueOutput, IsTrueReport, IsTrueStep, OffsetsKeepBounds, TrackReportsAreTrue, TrueRun}
use Rattle.wrp_bound_laws.specs.Leases.{ChainHasSource}
use Rattle.wrp_bound_laws.proofs.Sources.HeldCalls.{state_of_track}
use Rattle.wrp_bound_laws.proofs.Hops.HopsUp.{inside_below, top_state, track_up}
use Rattle.wrp_bound_laws.proofs.Nodes.Inputs.{IsNoTick, IsNoTickOf, To, gives_to, no_tick_to}
use Rattle.wrp_bound_laws.proofs.Sources.Parents.{ticked_node}
use Rattle.wrp_bound_laws.proofs.Hops.TrackedHops.{has_hop, new_state}

-- Outputs that are no report of TRACK

abbrev AllTrue : Setting → WorldAt → ℕ → List Output → Type 0
AllTrue s w n outs = AllByRecursion (IsTrueOutput s w n) outs

all_both : (s : Setting) (w : WorldAt) (n : ℕ) (xs ys : List Output) → AllTrue s w n xs → AllTrue s w n ys → AllTrue s w n (xs ++ ys)
all_both s w n [] ys h i = i
all_both s w n (x ∷ xs) ys h i = (h.0, all_both s w n xs ys h.1 i)

step_true : (s : Setting) (w : WorldAt) (n : ℕ) (b : Bool) (cycles : ℤ) → AllTrue s w n (if b then [] else output.Step cycles ∷ [])
step_true s w n true cycles = tt
step_true s w n false cycles = (tt, tt)

dac_true : (s : Setting) (w : WorldAt) (n : ℕ) (o : Option ℕ) → AllTrue s w n (dac_out o)
dac_true s w n None = tt
dac_true s w n (Some value) = (tt, tt)

servo_true : (s : Setting) (w : WorldAt) (n : ℕ) (b : Bool) (state : ServoState) → AllTrue s w n (if b then [] else output.Report (report.Servo state) ∷ [])
servo_true s w n true state = tt
servo_true s w n false state = (tt, tt)

word_true : (s : Setting) (w : WorldAt) (n p : ℕ) (b : Bool) (word : LinkWord) → AllTrue s w n (if b then [] else output.Report (report.Link p word) ∷ [])
word_true s w n p true word = tt
word_true s w n p false word = (tt, tt)

frames_true : (s : Setting) (w : WorldAt) (n p : ℕ) (messages : List PtpMsg) → AllTrue s w n (map (frame_out p) messages)
frames_true s w n p [] = tt
frames_true s w n p (m ∷ messages) = (tt, frames_true s w n p messages)

port_true : (s : Setting) (w : WorldAt) (n : ℕ) (fixed : NodeSetting) (before : NodeAt) (step : Step) (p : ℕ) → AllTrue s w n (port_out fixed before step p)
port_true s w n fixed before step p =
    let old : LinkWord = word_of (link_at fixed.set before p) in
    let new : LinkWord = word_of (link_at fixed.set step.node p) in
    all_both s w n (word_out p old new) (map (frame_out p) (step.sends p)) (word_true s w n p (is_word old new) new) (frames_true s w n p (step.sends p))

ports_true : (s : Setting) (w : WorldAt) (n : ℕ) (fixed : NodeSetting) (before : NodeAt) (step : Step) (ports : List ℕ) → AllTrue s w n (flat_map (port_out fixed before step) ports)
ports_true s w n fixed before step [] = tt
ports_true s w n fixed before step (p ∷ ports) =
    all_both s w n (port_out fixed before step p) (flat_map (port_out fixed before step) ports) (port_true s w n fixed before step p) (ports_true s w n fixed before step ports)

-- all outputs are true if its report of TRACK is
outs_true : (s : Setting) (w : WorldAt) (n : ℕ) (fixed : NodeSetting) (input : Input) (before : NodeAt) (step : Step) → AllTrue s w n (track_out fixed input step.node) → AllTrue s w n (outputs_of fixed input before step)
outs_true s w n fixed input before step h =
    let old : ServoState = state_of fixed before in
    let new : ServoState = state_of fixed step.node in
    let ports : List Output = flat_map (port_out fixed before step) (ports_of fixed.set) in
    let told : List Output = track_out fixed input step.node in
    let first : List Output = step_out step.cycles ++ dac_out step.dac in
    let second : List Output = first ++ servo_out old new in
    all_both s w n (second ++ ports) told
    (all_both s w n second ports
    (all_both s w n first (servo_out old new)
    (all_both s w n (step_out step.cycles) (dac_out step.dac) (step_true s w n (unsigned_abs step.cycles == 0) step.cycles) (dac_true s w n step.dac))
    (servo_true s w n (rank_of old == rank_of new) new))
    (ports_true s w n fixed before step (ports_of fixed.set))) h

-- Inputs that are no tick

none_told : (s : Setting) (w : WorldAt) (n : ℕ) (fixed : NodeSetting) (input : Input) (node : NodeAt) → IsNoTick input → AllTrue s w n (track_out fixed input node)
none_told s w n fixed TickInput node h = absurd h
none_told s w n fixed (SampleInput number base bits) node h = tt
none_told s w n fixed (Frame p octets raw sample) node h = tt
none_told s w n fixed (Sent p seq delay stamp) node h = tt
none_told s w n fixed (Carrier p up own_module) node h = tt
none_told s w n fixed Reset node h = tt

steps_true : (s : Setting) (w : WorldAt) (y : ℤ) (gs : List Given) (v : WorldAt) → AllGiven IsNoTick gs → AllByRecursion (IsTrueStep s w) (steps_of s y v gs)
steps_true s w y [] v h = tt
steps_true s w y (g ∷ gs) v h =
    (outs_true s w g.to (node_setting_of s g.to) g.input (v.node g.to) (step_of s y v g) (none_told s w g.to (node_setting_of s g.to) g.input (step_of s y v g).node h.0), steps_true s w y gs (gives s y v g) h.1)

all_given : (Q : Input → Type 0) (gs : List Given) → ((n : ℕ) → To Q n gs) → AllGiven Q gs
all_given Q [] h = tt
all_given Q (g ∷ gs) h = ((h g.to).0 refl, all_given Q gs (λ n. (h n).1))

-- events that are no tick
abbrev IsNoTickEvent : Event → Type 0
IsNoTickEvent (Tick m) = ⊥
IsNoTickEvent _ = Unit {0}

no_tick_of : (n : ℕ) (e : Event) → IsNoTickEvent e → IsNoTickOf n e
no_tick_of n (Tick m) h = absurd h
no_tick_of n e h = tt

event_true : (s : Setting) (says : Result PtpMsg FrameFault) (y : ℤ) (w : WorldAt) (e : Event) → IsNoTickEvent e → AllByRecursion (IsTrueStep s (world_step s says y w e)) (event_steps s says y w e)
event_true s says y w e h =
    let v : WorldAt = moved s w e in
    steps_true s (world_step s says y w e) y (given_by s w v says e) v (all_given IsNoTick (given_by s w v says e) (λ n. gives_to IsNoTick s w v says n e (no_tick_to n e (no_tick_of n e h))))

-- A node in TRACK that reports an estimate

-- the laws that this rests on
pub record ReportLaws : Type 0 where
  pub bounds : OffsetsKeepBounds
  pub estimates : EstimatesAreNear
  pub source : ChainHasSource
  pub chain : TrackHasChain

report_true : ReportLaws → (s : Setting) (events : List Happened) (n : ℕ) (above : Option LinkCfg) (est : ℤ) → TrueRun s events → link_above s.cfg n ≡ above → state_of (node_setting_of s n) ((world_after s events).node n) ≡ Track →
    est_of (node_setting_of s n) ((world_after s events).node n) ≡ Some est → IsTrueReport s (world_after s events) n est
report_true laws s events n None est runs is e told = absurd (new_state (sym (top_state s runs.run.network (world_after s events) n is) ∙ e))
report_true laws s events n (Some link) est runs is e told =
    let net : IsNetwork s = runs.run.network in
    let hop : (hop : HopNumbers) × (numbers_of s.cfg n ≡ Some hop) = has_hop s net n link is in
    record {
      track = e;
      path = (laws.bounds s events n runs (inside_below s net n link is) (track_up laws.source laws.chain s events n link runs.run is e)).track e;
      link = link;
      above = is;
      hop = hop.0;
      numbers = hop.1;
      estimate = laws.estimates s events n link hop.0 est runs is hop.1 e told;
    }

-- A tick

est_true : (s : Setting) (w : WorldAt) (n : ℕ) (b : Bool) (o : Option ℤ) → ((est : ℤ) → b ≡ true → o ≡ Some est → IsTrueReport s w n est) → AllTrue s w n (if b then est_out o else [])
est_true s w n true None h = tt
est_true s w n true (Some est) h = (h est refl refl, tt)
est_true s w n false o h = tt

told_true : ReportLaws → (s : Setting) (h : Happened) (before : List Happened) (n : ℕ) → TrueRun s (h ∷ before) → AllTrue s (world_after s (h ∷ before)) n (track_out (node_setting_of s n) TickInput ((world_after s (h ∷ before)).node n))
told_true laws s h before n runs =
    let w : WorldAt = world_after s (h ∷ before) in
    let fixed : NodeSetting = node_setting_of s n in
    let in_track : Bool = is_track (state_of fixed (w.node n)) in
    let due : Bool = (w.node n).ticks % fixed.set.report == 0 in
    est_true s w n (in_track && due) (est_of fixed (w.node n))
    (λ est b told. report_true laws s (h ∷ before) n (link_above s.cfg n) est runs refl (state_of_track (state_of fixed (w.node n)) (and_first in_track due b)) told)

tick_true : ReportLaws → (s : Setting) (says : Result PtpMsg FrameFault) (y : ℤ) (before : List Happened) (m : ℕ) → TrueRun s (record { event = Tick m; says = says; answer = y } ∷ before) →
    AllByRecursion (IsTrueStep s (world_step s says y (world_after s before) (Tick m))) (event_steps s says y (world_after s before) (Tick m))
tick_true laws s says y before m runs =
    let w : WorldAt = world_after s before in
    let v : WorldAt = moved s w (Tick m) in
    let now : WorldAt = world_step s says y w (Tick m) in
    let g : Given = given_plain m TickInput in
    let told : AllTrue s now m (track_out (node_setting_of s m) TickInput (step_of s y v g).node) =
    subst (λ (node : NodeAt). AllTrue s now m (track_out (node_setting_of s m) TickInput node)) (ticked_node s says y w m m refl).0 (told_true laws s (record { event = Tick m; says = says; answer = y }) before m runs) in
    (outs_true s now m (node_setting_of s m) TickInput (v.node m) (step_of s y v g) told, tt)

reports_by : ReportLaws → (s : Setting) (says : Result PtpMsg FrameFault) (y : ℤ) (before : List Happened) (e : Event) → TrueRun s (record { event = e; says = says; answer = y } ∷ before) →
    AllByRecursion (IsTrueStep s (world_step s says y (world_after s before) e)) (event_steps s says y (world_after s before) e)
reports_by laws s says y before (Tick m) runs = tick_true laws s says y before m runs
reports_by laws s says y before e runs = event_true s says y (world_after s before) e tt

pub track_reports_are_true : ReportLaws → TrackReportsAreTrue
track_reports_are_true laws s h before runs = reports_by laws s h.says h.answer before h.event runs
