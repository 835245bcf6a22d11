-- What happens next in a network that is simulated: the first of nine rules that applies (this project's profile). Times are
-- true times, in tau.
use Rattle.std.specs.Prelude.{ℕ, ℤ, pos, ◌+◌, ◌-◌, ◌^◌, ◌==◌, ◌&&◌, ◌+ℤ◌, ◌-ℤ◌, nat_lt, not, Bool, if◌then◌else◌, List, [], ◌∷◌, ◌++◌, map, filter, find, flat_map, fold, Option, None, Some, option_map, option_and_then}
use Rattle.std.specs.Int.Signed.{le_z, lt_z}
use Rattle.std.specs.Option.{option_map_or}
use Rattle.std.specs.Ordering.{int_eq}
use Rattle.wrp_base.specs.declared.link.Module.{Module}
use Rattle.wrp_base.specs.declared.link.Role.{Role}
use Rattle.wrp_base.specs.declared.link.Role.TheVariants.{Master, Slave}
use Rattle.wrp_network.specs.declared.network.LinkCfg.{LinkCfg}
use Rattle.wrp_base.specs.declared.time.Raw.{Raw}
use Rattle.wrp_network.specs.Network.{End, node_count}
use Rattle.wrp_base.specs.Link.{other_of}
use Rattle.wrp_bounds.specs.Times.{shortest_tick, longest_tick}
use Rattle.wrp_node.specs.NodeAt.{dac_of}
use Rattle.wrp_phase.specs.BeatPattern.{true_step}
use Rattle.wrp_plant.specs.PutOut.{is_now}
use Rattle.wrp_course.specs.declared.event.Event.{Event}
use Rattle.wrp_course.specs.declared.event.Event.TheVariants.{Pass, Tick, Sample, Depart, Arrive, Deliver, Down, Up, Cut, Join}
use Rattle.wrp_course.specs.EventAt.{link_count}
use Rattle.wrp_course.specs.Premises.{rate_of}
use Rattle.wrp_stamp.specs.Merge.{transition_of}
use Rattle.wrp_course.specs.Setting.{Setting, above, end_at, entry_at, node_setting_of, from_on, link_of, links_of, nodes_of, of_node, start_of}
use Rattle.wrp_course.specs.Views.{waiting_of}
use Rattle.wrp_course.specs.WorldAt.{WorldAt, first_name, has_carrier, reading}
use Rattle.wrp_scene.specs.declared.scene.fault.Fault.{Fault}
use Rattle.wrp_scene.specs.declared.scene.fault.FaultKind.{FaultKind}
use Rattle.wrp_scene.specs.declared.scene.fault.FaultKind.TheVariants as kind
use Rattle.wrp_sim.specs.Draws.{drawn_from, next_state}
use Rattle.wrp_sim.specs.Numbers.{base_before, bits_behind, drawn_stamp, drawn_zeros, drift_at, held_to, is_drawn, is_within, own_rate, raw_at, thousands}
use Rattle.wrp_scene.specs.Scenario.{SceneAt, free_of, ms_of, offset_of, sm_of}
use Rattle.wrp_sim.specs.SimAt.{SimAt}

-- the event that comes, and what has then been drawn and done
pub record Next : Type 0 where
  pub event : Event
  pub at : SimAt

-- an event comes that is not a tick
abbrev pub comes : Event → SimAt → Option Next
comes event at = Some (record { event = event; at = record at { ticked = None } })

-- a number was drawn
abbrev pub after_draw : SimAt → SimAt
after_draw at = record at { state = next_state at.state }

-- the next tick time of a node that comes up or ticks now is drawn
abbrev pub drawn_tick : Setting → ℤ → ℕ → ℤ
drawn_tick s now state = now +ℤ drawn_from (pos (shortest_tick s.cfg)) (pos (longest_tick s.cfg)) state

abbrev pub with_tick : Setting → ℤ → ℕ → SimAt → SimAt
with_tick s now n at =
    record at { state = next_state at.state; tick_at = λ m. if m == n then drawn_tick s now at.state else at.tick_at m }

-- a link is joined with the delays of the scenario
abbrev pub join_event : SceneAt → Setting → ℕ → Event
join_event scene s k = Join k (ms_of s.cfg scene k) (sm_of s.cfg scene k)

-- a node comes up with the offset of the scenario, and no module is put in place
abbrev pub up_event : SceneAt → ℕ → Event
up_event scene n = Up n (offset_of scene n) (record { items = [] })

-- Rule 1: at the start every link is joined, and then every node comes up, in file order

abbrev pub one_begun : SimAt → SimAt
one_begun at = record at { begun = at.begun + 1 }

-- a node comes up at the start
abbrev pub wakes : SceneAt → Setting → WorldAt → ℕ → SimAt → Option Next
wakes scene s w n at = if nat_lt n (node_count s.cfg) then comes (up_event scene n) (with_tick s w.time n (one_begun at)) else None

abbrev pub begins : SceneAt → Setting → WorldAt → SimAt → Option Next
begins scene s w at =
    if nat_lt at.begun (link_count s.cfg) then comes (join_event scene s at.begun) (one_begun at)
    else wakes scene s w (at.begun - link_count s.cfg) at

-- Rule 2: a fault whose time has come and that applies; a fault that does not apply in its turn is dropped for
-- good

abbrev pub fault_time : Setting → Fault → ℤ
fault_time s f = start_of s +ℤ f.at

abbrev pub has_come : Setting → WorldAt → Fault → Bool
has_come s w f = le_z (fault_time s f) w.time

abbrev pub applies : WorldAt → FaultKind → Bool
applies w (kind.Down n) = (w.clock n).up
applies w (kind.Up n) = not (w.clock n).up
applies w (kind.Cut k) = (w.fibre k).joined
applies w (kind.Join k) = not (w.fibre k).joined

-- the first, in the order of their lines
abbrev pub next_fault : Setting → WorldAt → List Fault → Option Fault
next_fault s w faults = find (λ f. has_come s w f && applies w f.kind) faults

-- the faults that are left: those whose time has not come, and those that follow the one that applies
abbrev pub faults_left : Setting → WorldAt → List Fault → List Fault
faults_left s w [] = []
faults_left s w (f ∷ faults) =
    if has_come s w f then (if applies w f.kind then faults else faults_left s w faults) else f ∷ faults_left s w faults

abbrev pub rest_of : Setting → WorldAt → SimAt → SimAt
rest_of s w at = record at { faults = faults_left s w at.faults }

abbrev pub fault_of : SceneAt → Setting → WorldAt → SimAt → FaultKind → Option Next
fault_of scene s w at (kind.Down n) = comes (Down n) at
fault_of scene s w at (kind.Up n) = comes (up_event scene n) (with_tick s w.time n at)
fault_of scene s w at (kind.Cut k) = comes (Cut k) at
fault_of scene s w at (kind.Join k) = comes (join_event scene s k) at

abbrev pub fails : SceneAt → Setting → WorldAt → SimAt → Option Next
fails scene s w at = option_and_then (λ f. fault_of scene s w (rest_of s w at) f.kind) (next_fault s w at.faults)

-- Rule 3: after a tick of a node whose slave port has its carrier, its sample

-- the entry of the module that the file names at an end
abbrev pub first_entry : Setting → ℕ → Role → Option Module
first_entry s k r = entry_at s k r (first_name s k r)

-- the one-way delay down: the delay of the scenario's fibre, and the delays of the ports by the
-- entries of their modules
abbrev pub delay_down : SceneAt → Setting → ℕ → ℤ
delay_down scene s k =
    (pos (option_map_or (λ m. m.tx) (first_entry s k Master) 0) +ℤ ms_of s.cfg scene k)
    +ℤ pos (option_map_or (λ m. m.rx) (first_entry s k Slave) 0)

-- the detector's step in which the true phase of the node below a link lies
abbrev pub step_below : SceneAt → Setting → WorldAt → ℕ → LinkCfg → ℕ
step_below scene s w k link =
    true_step s.cfg.clock (((w.clock link.lower).off -ℤ (w.clock link.upper).off) +ℤ delay_down scene s k)

abbrev pub sample_of : SceneAt → Setting → WorldAt → ℕ → ℕ → LinkCfg → ℕ → Event
sample_of scene s w n k link state =
    Sample n (base_before (step_below scene s w k link)) (bits_behind (drawn_zeros (of_node (λ node. node.beat) s n) state))

abbrev pub sample_below : SceneAt → Setting → WorldAt → SimAt → ℕ → ℕ → Option Next
sample_below scene s w at n k =
    if has_carrier s w k
    then option_and_then (λ link. comes (sample_of scene s w n k link at.state) (after_draw at)) (link_of s k)
    else None

abbrev pub samples : SceneAt → Setting → WorldAt → SimAt → Option Next
samples scene s w at =
    option_and_then (λ n. option_and_then (λ k. sample_below scene s w at n k) (above s n)) at.ticked

-- Rule 4: the first port whose oldest waiting frame was put out now, and whose node's clock a stamp can show: that
-- frame departs

abbrev pub is_tellable : Setting → ℤ → Bool
is_tellable s at = is_within s.cfg.clock at

-- ports by nodes in file order, then by their numbers, ascending: these are 1 to 18
abbrev pub ports_of : Setting → List (ℕ × ℕ)
ports_of s = flat_map (λ n. map (λ p. (n, p)) (from_on 18 1)) (nodes_of s)

abbrev pub departs_now : Setting → WorldAt → ℕ × ℕ → Bool
departs_now s w port = is_now w (waiting_of s w port.0 port.1) && is_tellable s (reading w port.0)

abbrev pub stamp_room : Setting → ℕ → ℕ
stamp_room s n = thousands (of_node (λ node. node.e_tx) s n)

abbrev pub departs_from : Setting → WorldAt → SimAt → ℕ × ℕ → Option Next
departs_from s w at port =
    comes (Depart port.0 port.1 (drawn_stamp (stamp_room s port.0) (reading w port.0) at.state)) (after_draw at)

abbrev pub departs : Setting → WorldAt → SimAt → Option Next
departs s w at = option_and_then (departs_from s w at) (find (departs_now s w) (ports_of s))

-- Rule 5: the frame that arrived last is handed over, as often as was drawn at its arrival

abbrev pub delivers : SimAt → Option Next
delivers at =
    if nat_lt 0 at.arrived.times
    then comes (Deliver at.arrived.frame) (record at { arrived = record at.arrived { times = at.arrived.times - 1 } })
    else None

-- Rule 6: the frame that is due first arrives, if it is due now and a stamp can show its receiver's
-- clock

abbrev pub true_raw : Setting → (transition : ℕ) → ℤ → Raw
true_raw s transition at = raw_at s.cfg.clock transition at

-- at an end of a link, with the transition of the module that the file names there
abbrev pub raw_by : Setting → WorldAt → ℕ → Role → End → Option Raw
raw_by s w k r end =
    if is_tellable s (reading w end.node) then Some (true_raw s (transition_of (first_entry s k r)) (reading w end.node))
    else None

abbrev pub raw_to : Setting → WorldAt → ℕ → Role → Option Raw
raw_to s w k r = option_and_then (raw_by s w k r) (end_at s k r)

-- for frame i, at the end that it comes to
abbrev pub raw_of : Setting → WorldAt → ℕ → Option Raw
raw_of s w i = option_and_then (λ f. raw_to s w f.link (other_of f.by)) (w.frame i)

-- two numbers are drawn: whether the frame is lost, and whether it is handed over once more
abbrev pub times_of : (lost repeated : Bool) → ℕ
times_of lost repeated = if lost then 0 else (if repeated then 2 else 1)

abbrev pub drawn_times : SceneAt → ℕ → ℕ
drawn_times scene state = times_of (is_drawn scene.loss state) (is_drawn scene.repeat (next_state state))

abbrev pub after_arrival : SceneAt → ℕ → SimAt → SimAt
after_arrival scene i at =
    record (after_draw (after_draw at)) { arrived = record { frame = i; times = drawn_times scene at.state } }

abbrev pub arrives_by : SceneAt → Setting → WorldAt → SimAt → ℕ → Option Next
arrives_by scene s w at i =
    option_and_then (λ raw. comes (Arrive i raw) (after_arrival scene i at)) (raw_of s w i)

-- for the frame that is due first, with the time at which it is due
abbrev pub arrives : SceneAt → Setting → WorldAt → Option (ℕ × ℤ) → SimAt → Option Next
arrives scene s w due at =
    option_and_then (λ next. if int_eq next.1 w.time then arrives_by scene s w at next.0 else None) due

-- Rule 7: a node ticks if its tick time is now; a node that is down has no tick time

abbrev pub ticks_now : WorldAt → SimAt → ℕ → Bool
ticks_now w at n = (w.clock n).up && int_eq (at.tick_at n) w.time

abbrev pub tick_of : Setting → WorldAt → SimAt → ℕ → Next
tick_of s w at n = record { event = Tick n; at = record (with_tick s w.time n at) { ticked = Some n } }

abbrev pub ticks : Setting → WorldAt → SimAt → Option Next
ticks s w at = option_map (tick_of s w at) (find (ticks_now w at) (nodes_of s))

-- Rule 8: nothing, if the duration has passed

abbrev pub end_time : SceneAt → Setting → ℤ
end_time scene s = start_of s +ℤ scene.duration

abbrev pub is_over : SceneAt → Setting → WorldAt → Bool
is_over scene s w = le_z (end_time scene s) w.time

-- Rule 9: time passes to the next moment; clocks move at their rates, and fibres do not move

abbrev pub tick_times : Setting → WorldAt → SimAt → List ℤ
tick_times s w at = map at.tick_at (filter (λ n. (w.clock n).up) (nodes_of s))

abbrev pub due_times : Option (ℕ × ℤ) → List ℤ
due_times None = []
due_times (Some next) = next.1 ∷ []

-- the moments at which something may happen
abbrev pub moments : SceneAt → Setting → WorldAt → Option (ℕ × ℤ) → SimAt → List ℤ
moments scene s w due at =
    tick_times s w at ++ (due_times due ++ (map (fault_time s) at.faults ++ (end_time scene s ∷ [])))

-- the sooner of two moments, the second of which counts only if it is after now
abbrev pub sooner : (now best moment : ℤ) → ℤ
sooner now best moment = if lt_z now moment && lt_z moment best then moment else best

-- the least of these moments that is after now, and at most 2^62 tau after it
abbrev pub next_moment : ℤ → List ℤ → ℤ
next_moment now times = fold (sooner now) (now +ℤ pos (2 ^ 62)) times

-- the rate at which a clock that is up gains on true time, in 10^-12: its own, but a locked clock
-- keeps its slew, a clock in HOLDOVER keeps its held rate, and the grandmaster's is 0
abbrev pub clock_rate : SceneAt → Setting → WorldAt → ℕ → ℤ
clock_rate scene s w n =
    held_to (rate_of s w n) (own_rate (free_of scene n) (dac_of (node_setting_of s n) (w.node n)) s.cfg.bias)

abbrev pub drift_over : SceneAt → Setting → WorldAt → ℤ → ℕ → ℤ
drift_over scene s w dt n = if (w.clock n).up then drift_at dt (clock_rate scene s w n) else pos 0

abbrev pub pass_of : SceneAt → Setting → WorldAt → ℤ → Event
pass_of scene s w dt =
    Pass dt (record { items = map (drift_over scene s w dt) (nodes_of s) })
    (record { items = map (λ k. (pos 0, pos 0)) (links_of s) })

abbrev pub passes : SceneAt → Setting → WorldAt → Option (ℕ × ℤ) → SimAt → Option Next
passes scene s w due at =
    if is_over scene s w then None
    else comes (pass_of scene s w (next_moment w.time (moments scene s w due at) -ℤ w.time)) at

-- All rules

abbrev pub first_of : List (Option Next) → Option Next
first_of [] = None
first_of (None ∷ rules) = first_of rules
first_of (Some next ∷ rules) = Some next

-- what the rules give after the dropped faults, in a world whose frames are due at these times
abbrev pub later_rules : SceneAt → Setting → WorldAt → Option (ℕ × ℤ) → SimAt → List (Option Next)
later_rules scene s w due at =
    samples scene s w at
    ∷ (departs s w at
    ∷ (delivers at ∷ (arrives scene s w due at ∷ (ticks s w at ∷ (passes scene s w due at ∷ [])))))

abbrev pub rules : SceneAt → Setting → WorldAt → Option (ℕ × ℤ) → SimAt → List (Option Next)
rules scene s w due at = begins scene s w at ∷ (fails scene s w at ∷ later_rules scene s w due (rest_of s w at))

-- the first of the rules that applies; due is the frame that is due first, with that time
abbrev pub next_of : SceneAt → Setting → WorldAt → Option (ℕ × ℤ) → SimAt → Option Next
next_of scene s w due at = first_of (rules scene s w due at)
