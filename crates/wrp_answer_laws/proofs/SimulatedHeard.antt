-- Each frame in the run of a simulator is read as its octets say: the rules give no octets of their own.
use Rattle.std.proofs.Common.{sym, subst, ℕ, ℤ, ◌-◌, Bool, true, false, if◌then◌else◌, nat_lt, List, [], ◌∷◌, Option, None, Some, IfSome, option_map}
use Rattle.std.specs.Prelude.{option_and_then}
use Rattle.std.specs.List.{AllByRecursion, find}
use Rattle.std.specs.Ordering.{int_eq}
use Rattle.wrp_network.specs.declared.configuration.NetCfg.{NetCfg}
use Rattle.wrp_network.specs.Network.{node_count}
use Rattle.wrp_network_text.specs.SameAnswer.{ReadingIsAccepted}
use Rattle.wrp_course.specs.declared.event.Event.{Event}
use Rattle.wrp_course.specs.declared.event.Event.TheVariants.{Pass, Tick, Sample, Depart, Arrive, Deliver, Noise, Down, Up, Cut, Join}
use Rattle.wrp_course.specs.EventAt.{IsEventOf, link_count}
use Rattle.wrp_course.specs.Run.{Happened, world_after}
use Rattle.wrp_course.specs.Runs.{AllEvents, IsRun}
use Rattle.wrp_course.specs.Setting.{Setting, above, link_of, nodes_of}
use Rattle.wrp_course.specs.WorldAt.{WorldAt, has_carrier}
use Rattle.wrp_due_laws.proofs.Heard.{AllHandOn, HandsOn, all_heard}
use Rattle.wrp_scene.specs.declared.scene.fault.FaultKind.{FaultKind}
use Rattle.wrp_scene.specs.declared.scene.fault.FaultKind.TheVariants as kind
use Rattle.wrp_sim.specs.Keeps.{SimRunsAreRuns}
use Rattle.wrp_sim.specs.Rules.{Next, arrives, begins, delivers, departs, departs_from, departs_now, fails, fault_of, first_of, is_over, next_fault, next_of, passes, ports_of, raw_of, rest_of, samples, tick_of, ticks, ticks_now}
use Rattle.wrp_scene.specs.Scenario.{SceneAt}
use Rattle.wrp_sim.specs.SimAt.{SimAt}
use Rattle.wrp_sim.specs.SimRun.{IsSimRun}
use Rattle.wrp_simulate.proofs.ScenesFit.{scenario_fits}
use Rattle.wrp_answer_laws.proofs.AcceptedLines.{of_text}
use Rattle.wrp_answer_laws.proofs.Auditing.{IsOfNetwork}
use Rattle.wrp_answer_laws.specs.Accepted.{SimulatedIsHeard}

-- an event with no octets
abbrev IsOwn : Event → Type 0
IsOwn (Noise n p octets raw) = ⊥
IsOwn _ = Unit {0}

abbrev OwnIf : Option Next → Type 0
OwnIf o = IfSome o (λ (n : Next). IsOwn n.event)

if_own : (b : Bool) (x y : Option Next) → OwnIf x → OwnIf y → OwnIf (if b then x else y)
if_own true x y h k = h
if_own false x y h k = k

then_own : {A : Type 0} (f : A → Option Next) (o : Option A) → ((x : A) → OwnIf (f x)) → OwnIf (option_and_then f o)
then_own f None h = tt
then_own f (Some x) h = h x

map_own : {A : Type 0} (f : A → Next) (o : Option A) → ((x : A) → IsOwn (f x).event) → OwnIf (option_map f o)
map_own f None h = tt
map_own f (Some x) h = h x

first_own : (rules : List (Option Next)) → AllByRecursion OwnIf rules → OwnIf (first_of rules)
first_own [] h = tt
first_own (None ∷ rules) h = first_own rules h.1
first_own (Some n ∷ rules) h = h.0

-- Each rule

begins_own : (scene : SceneAt) (s : Setting) (w : WorldAt) (at : SimAt) → OwnIf (begins scene s w at)
begins_own scene s w at = if_own (nat_lt at.begun (link_count s.cfg)) _ _ tt (if_own (nat_lt (at.begun - link_count s.cfg) (node_count s.cfg)) _ None tt tt)

fault_own : (scene : SceneAt) (s : Setting) (w : WorldAt) (at : SimAt) (k : FaultKind) → OwnIf (fault_of scene s w at k)
fault_own scene s w at (kind.Down n) = tt
fault_own scene s w at (kind.Up n) = tt
fault_own scene s w at (kind.Cut k) = tt
fault_own scene s w at (kind.Join k) = tt

fails_own : (scene : SceneAt) (s : Setting) (w : WorldAt) (at : SimAt) → OwnIf (fails scene s w at)
fails_own scene s w at = then_own _ (next_fault s w at.faults) (λ f. fault_own scene s w (rest_of s w at) f.kind)

samples_own : (scene : SceneAt) (s : Setting) (w : WorldAt) (at : SimAt) → OwnIf (samples scene s w at)
samples_own scene s w at =
    then_own _ at.ticked (λ n. then_own _ (above s n) (λ k. if_own (has_carrier s w k) _ None (then_own _ (link_of s k) (λ link. tt)) tt))

departs_own : (s : Setting) (w : WorldAt) (at : SimAt) → OwnIf (departs s w at)
departs_own s w at = then_own (departs_from s w at) (find (departs_now s w) (ports_of s)) (λ port. tt)

delivers_own : (at : SimAt) → OwnIf (delivers at)
delivers_own at = if_own (nat_lt 0 at.arrived.times) _ None tt tt

arrives_own : (scene : SceneAt) (s : Setting) (w : WorldAt) (due : Option (ℕ × ℤ)) (at : SimAt) → OwnIf (arrives scene s w due at)
arrives_own scene s w due at = then_own _ due (λ next. if_own (int_eq next.1 w.time) _ None (then_own _ (raw_of s w next.0) (λ raw. tt)) tt)

ticks_own : (s : Setting) (w : WorldAt) (at : SimAt) → OwnIf (ticks s w at)
ticks_own s w at = map_own (tick_of s w at) (find (ticks_now w at) (nodes_of s)) (λ n. tt)

passes_own : (scene : SceneAt) (s : Setting) (w : WorldAt) (due : Option (ℕ × ℤ)) (at : SimAt) → OwnIf (passes scene s w due at)
passes_own scene s w due at = if_own (is_over scene s w) None _ tt tt

next_own : (scene : SceneAt) (s : Setting) (w : WorldAt) (due : Option (ℕ × ℤ)) (at : SimAt) → OwnIf (next_of scene s w due at)
next_own scene s w due at =
    let left : SimAt = rest_of s w at in
    first_own (
    begins scene s w at ∷ (fails scene s w at
    ∷ (samples scene s w left ∷ (departs s w left ∷ (delivers left ∷ (arrives scene s w due left ∷ (ticks s w left ∷ (passes scene s w due left ∷ [])))))))
    ) (
      begins_own scene s w at,
      (
        fails_own scene s w at,
        (samples_own scene s w left, (departs_own s w left, (delivers_own left, (arrives_own scene s w due left, (ticks_own s w left, (passes_own scene s w due left, tt)))))),
      ),
    )

-- Runs

hands_on : (cfg : NetCfg) (e : Event) → IsEventOf cfg e → IsOwn e → HandsOn e
hands_on cfg (Depart n p stamp) is own = is.1
hands_on cfg (Arrive i raw) is own = is
hands_on cfg (Noise n p octets raw) is own = absurd own
hands_on cfg (Pass dt drifts fibres) is own = tt
hands_on cfg (Tick n) is own = tt
hands_on cfg (Sample n base bits) is own = tt
hands_on cfg (Deliver i) is own = tt
hands_on cfg (Down n) is own = tt
hands_on cfg (Up n off swaps) is own = tt
hands_on cfg (Cut k) is own = tt
hands_on cfg (Join k ms sm) is own = tt

all_hand_on : (scene : SceneAt) (s : Setting) (seed : ℕ) (events : List Happened) (at : SimAt) → IsSimRun scene s seed events at → AllEvents s.cfg events
    → AllHandOn events
all_hand_on scene s seed [] at run each = tt
all_hand_on scene s seed (h ∷ before) at run each =
    let own : IsOwn h.event = subst OwnIf (sym run.2.next) (next_own scene s (world_after s before) run.2.due run.0) in
    (hands_on s.cfg h.event each.0 own, all_hand_on scene s seed before run.0 run.1 each.1)

pub simulated_is_heard : ReadingIsAccepted → SimRunsAreRuns → SimulatedIsHeard
simulated_is_heard accepted runs text s lines scene seed events at setting said simulated n below =
    let net : IsOfNetwork s = of_text accepted text s setting in
    let run : IsRun s events =
    runs scene s seed events at (record { accepted = net.accepted; set = net.set }) (scenario_fits s lines scene said) simulated.run in
    all_heard s net.accepted net.set events (all_hand_on scene s seed events at simulated.run run.each) simulated.said n
