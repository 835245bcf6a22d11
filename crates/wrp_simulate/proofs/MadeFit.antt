-- The numbers of an event that the simulator's rules make fit the types that hold them.
use Rattle.std.proofs.Common.{◌≡◌, refl, sym, subst, ℕ, zero, suc, ℤ, ◌+◌, ◌-◌, ◌-ℤ◌, ◌<◌, ◌≤◌, ◌^◌, ◌==◌, nat_lt, Bool, true, false, cond, if◌then◌else◌, List, [], ◌∷◌, length, map, find, flat_map, Option, None, Some, IfSome, option_map, option_and_then, Result, arith}
use Rattle.std.specs.List.{AllByRecursion}
use Rattle.std.specs.Ordering.{int_eq}
use Rattle.std.proofs.Math.Pow.{pow_mono}
use Rattle.std.proofs.lemmas.Bool.{eqb-true}
use Rattle.std.proofs.lemmas.Nat.{pow_pos}
use Rattle.wrp_base.specs.declared.message.PtpMsg.{PtpMsg}
use Rattle.wrp_base.specs.declared.time.Raw.{Raw}
use Rattle.wrp_network.specs.Network.{node_count}
use Rattle.wrp_base.proofs.Lists.{all_append}
use Rattle.wrp_base.proofs.Naturals.{below_word}
use Rattle.wrp_frame.specs.declared.fault.FrameFault.{FrameFault}
use Rattle.wrp_scene.specs.declared.scene.fault.Fault.{Fault}
use Rattle.wrp_scene.specs.declared.scene.fault.FaultKind.{FaultKind}
use Rattle.wrp_scene.specs.declared.scene.fault.FaultKind.TheVariants as kind
use Rattle.wrp_sim.specs.Numbers.{bits_behind}
use Rattle.wrp_sim.specs.Rules.{Next, after_arrival, after_draw, arrives, arrives_by, begins, comes, delivers, departs, departs_from, departs_now, fails, fault_of, first_of, is_over, join_event, moments, next_fault, next_moment, next_of, one_begun, pass_of, passes, ports_of, raw_of, rest_of, rules, sample_below, sample_of, samples, tick_of, ticks, ticks_now, up_event, wakes, with_tick}
use Rattle.wrp_scene.specs.Scenario.{SceneAt}
use Rattle.wrp_sim.specs.SimAt.{SimAt}
use Rattle.wrp_sim.specs.SimRun.{GivesEvent, IsSimRun}
use Rattle.wrp_bound_laws.specs.Chains.{AllFit}
use Rattle.wrp_course.specs.Checks.{AllHold}
use Rattle.wrp_course.specs.declared.event.Event.{Event}
use Rattle.wrp_course.specs.declared.event.Event.TheVariants.{Pass, Tick, Sample, Depart, Arrive, Deliver, Noise, Down, Up, Cut, Join}
use Rattle.wrp_course.specs.EventAt.{FitsEvent, link_count}
use Rattle.wrp_course.specs.Given.{Given, given_by, gives, gives_all}
use Rattle.wrp_course.specs.Moved.{arrived, departing, departed_after, frame_after, moved, one_more, removed, waiting_at}
use Rattle.wrp_course.specs.declared.place.Place.{Place}
use Rattle.wrp_course.specs.Premises.{Accepts, arrive_checks, deliver_checks}
use Rattle.wrp_course.specs.Run.{AllAccepted, Happened, world_after}
use Rattle.wrp_course.specs.Setting.{Setting, above, from_on, link_of, nodes_of, place_of}
use Rattle.wrp_course.specs.WorldAt.{FrameAt, Sending, WorldAt, has_carrier, is_on_fibre}

-- What each rule gives

-- except the number of a frame
abbrev pub FitsSave : Event → Type 0
FitsSave (Arrive i raw) = Unit {0}
FitsSave (Deliver i) = Unit {0}
FitsSave e = FitsEvent e

abbrev FitsIf : Option Next → Type 0
FitsIf o = IfSome o (λ (next : Next). FitsSave next.event)

if_fits : (b : Bool) (o p : Option Next) → FitsIf o → FitsIf p → FitsIf (if b then o else p)
if_fits true o p h k = h
if_fits false o p h k = k

then_fits : {A : Type 0} (f : A → Option Next) (o : Option A) → ((x : A) → FitsIf (f x)) → FitsIf (option_and_then f o)
then_fits f None h = tt
then_fits f (Some x) h = h x

map_fits : {A : Type 0} (f : A → Next) (o : Option A) → ((x : A) → FitsSave (f x).event) → FitsIf (option_map f o)
map_fits f None h = tt
map_fits f (Some x) h = h x

no_swaps : 0 ≤ 18
no_swaps = omega arith

wakes_fit : (scene : SceneAt) (s : Setting) (w : WorldAt) (n : ℕ) (at : SimAt) → FitsIf (wakes scene s w n at)
wakes_fit scene s w n at = if_fits (nat_lt n (node_count s.cfg)) (comes (up_event scene n) (with_tick s w.time n (one_begun at))) None no_swaps tt

begins_fit : (scene : SceneAt) (s : Setting) (w : WorldAt) (at : SimAt) → FitsIf (begins scene s w at)
begins_fit scene s w at =
    if_fits (nat_lt at.begun (link_count s.cfg)) (comes (join_event scene s at.begun) (one_begun at)) (wakes scene s w (at.begun - link_count s.cfg) at) tt
    (wakes_fit scene s w (at.begun - link_count s.cfg) at)

fault_fits : (scene : SceneAt) (s : Setting) (w : WorldAt) (at : SimAt) (k : FaultKind) → FitsIf (fault_of scene s w at k)
fault_fits scene s w at (kind.Down n) = tt
fault_fits scene s w at (kind.Up n) = no_swaps
fault_fits scene s w at (kind.Cut k) = tt
fault_fits scene s w at (kind.Join k) = tt

fails_fit : (scene : SceneAt) (s : Setting) (w : WorldAt) (at : SimAt) → FitsIf (fails scene s w at)
fails_fit scene s w at =
    then_fits (λ (f : Fault). fault_of scene s w (rest_of s w at) f.kind) (next_fault s w at.faults) (λ f. fault_fits scene s w (rest_of s w at) f.kind)

bits_small : (zeros : ℕ) → bits_behind zeros < 2 ^ 64
bits_small zeros =
    let within : 64 - zeros ≤ 64 = omega arith in
    let most : 2 ^ (64 - zeros) ≤ 2 ^ 64 = pow_mono within in
    let some : 0 < 2 ^ (64 - zeros) = pow_pos (64 - zeros) in
    omega (arith, most, some)

below_fits : (scene : SceneAt) (s : Setting) (w : WorldAt) (at : SimAt) (n k : ℕ) → FitsIf (sample_below scene s w at n k)
below_fits scene s w at n k =
    if_fits (has_carrier s w k) (option_and_then (λ link. comes (sample_of scene s w n k link at.state) (after_draw at)) (link_of s k)) None
    (then_fits (λ link. comes (sample_of scene s w n k link at.state) (after_draw at)) (link_of s k) (λ link. bits_small _)) tt

samples_fit : (scene : SceneAt) (s : Setting) (w : WorldAt) (at : SimAt) → FitsIf (samples scene s w at)
samples_fit scene s w at =
    then_fits (λ n. option_and_then (λ k. sample_below scene s w at n k) (above s n)) at.ticked
    (λ n. then_fits (λ k. sample_below scene s w at n k) (above s n) (λ k. below_fits scene s w at n k))

-- ports have small numbers

abbrev IsSmall : ℕ × ℕ → Type 0
IsSmall port = port.1 ≤ 18

few_ports : (n count first : ℕ) → first + count ≤ 19 → AllByRecursion IsSmall (map (λ p. (n, p)) (from_on count first))
few_ports n zero first h = tt
few_ports n (suc count) first h = (omega (arith, h), few_ports n count (first + 1) (omega (arith, h)))

all_ports : (nodes : List ℕ) → AllByRecursion IsSmall (flat_map (λ n. map (λ p. (n, p)) (from_on 18 1)) nodes)
all_ports [] = tt
all_ports (n ∷ nodes) =
    all_append IsSmall (map (λ p. (n, p)) (from_on 18 1)) (flat_map (λ m. map (λ p. (m, p)) (from_on 18 1)) nodes) (few_ports n 18 1 (omega arith))
    (all_ports nodes)

found_fits : (s : Setting) (w : WorldAt) (at : SimAt) (p : ℕ × ℕ → Bool) (ports : List (ℕ × ℕ)) → AllByRecursion IsSmall ports
    → FitsIf (option_and_then (departs_from s w at) (find p ports))
found_fits s w at p [] h = tt
found_fits s w at p (port ∷ ports) h =
    elim (p port) as (λ b. FitsIf (option_and_then (departs_from s w at) (cond b (Some port) (find p ports)))) [
      | true ↦ (let small : port.1 ≤ 18 = h.0 in omega (arith, small))
      | false ↦ found_fits s w at p ports h.1
    ]

departs_fit : (s : Setting) (w : WorldAt) (at : SimAt) → FitsIf (departs s w at)
departs_fit s w at = found_fits s w at (departs_now s w) (ports_of s) (all_ports (nodes_of s))

delivers_fit : (at : SimAt) → FitsIf (delivers at)
delivers_fit at =
    if_fits (nat_lt 0 at.arrived.times)
    (comes (Deliver at.arrived.frame) (record at { arrived = record at.arrived { times = at.arrived.times - 1 } })) None tt tt

arrives_fit : (scene : SceneAt) (s : Setting) (w : WorldAt) (due : Option (ℕ × ℤ)) (at : SimAt) → FitsIf (arrives scene s w due at)
arrives_fit scene s w due at =
    then_fits (λ (next : ℕ × ℤ). if int_eq next.1 w.time then arrives_by scene s w at next.0 else None) due
    (λ next. if_fits (int_eq next.1 w.time) (arrives_by scene s w at next.0) None
    (then_fits (λ (raw : Raw). comes (Arrive next.0 raw) (after_arrival scene next.0 at)) (raw_of s w next.0) (λ raw. tt)) tt)

ticks_fit : (s : Setting) (w : WorldAt) (at : SimAt) → FitsIf (ticks s w at)
ticks_fit s w at = map_fits (tick_of s w at) (find (ticks_now w at) (nodes_of s)) (λ n. tt)

passes_fit : (scene : SceneAt) (s : Setting) (w : WorldAt) (due : Option (ℕ × ℤ)) (at : SimAt) → FitsIf (passes scene s w due at)
passes_fit scene s w due at =
    if_fits (is_over scene s w) None (comes (pass_of scene s w (next_moment w.time (moments scene s w due at) -ℤ w.time)) at) tt tt

-- the first of some rules that applies
first_fits : (rules : List (Option Next)) → AllByRecursion FitsIf rules → FitsIf (first_of rules)
first_fits [] h = tt
first_fits (None ∷ rules) h = first_fits rules h.1
first_fits (Some next ∷ rules) h = h.0

next_fits : (scene : SceneAt) (s : Setting) (w : WorldAt) (due : Option (ℕ × ℤ)) (at : SimAt) → FitsIf (next_of scene s w due at)
next_fits scene s w due at =
    let left : SimAt = rest_of s w at in
    first_fits (rules scene s w due at)
    (begins_fit scene s w at, (fails_fit scene s w at, (samples_fit scene s w left, (departs_fit s w left, (delivers_fit left, (arrives_fit scene s w due left, (ticks_fit s w left, (passes_fit scene s w due left, tt))))))))

pub given_fits : (scene : SceneAt) (s : Setting) (w : WorldAt) (old new : SimAt) (e : Event) → GivesEvent scene s w old e new → FitsSave e
given_fits scene s w old new e g = subst FitsIf (sym g.next) (next_fits scene s w g.due old)

-- The numbers of frames

-- at most this many frames departed, and none has a greater number
pub record AreNumbered (n : ℕ) (w : WorldAt) : Type 0 where
  pub departed : w.departed ≤ n
  pub frames : (i : ℕ) → IfSome (w.frame i) (λ (f : FrameAt). i ≤ n)

given_numbered : (s : Setting) (y : ℤ) (n : ℕ) (gs : List Given) (v : WorldAt) → AreNumbered n v → AreNumbered n (gives_all s y v gs)
given_numbered s y n [] v h = h
given_numbered s y n (g ∷ gs) v h = given_numbered s y n gs (gives s y v g) (record { departed = h.departed; frames = h.frames })

later : (n i : ℕ) (o : Option FrameAt) → IfSome o (λ (f : FrameAt). i ≤ n) → IfSome o (λ (f : FrameAt). i ≤ n + 1)
later n i None h = tt
later n i (Some f) h = omega (arith, h)

departing_if : (n i : ℕ) (b : Bool) (f : FrameAt) (o : Option FrameAt) → (b ≡ true → i ≤ n + 1) → IfSome o (λ (g : FrameAt). i ≤ n)
    → IfSome (if b then Some f else o) (λ (g : FrameAt). i ≤ n + 1)
departing_if n i true f o h k = h refl
departing_if n i false f o h k = later n i o k

departing_numbered : (w : WorldAt) (n : ℕ) (place : Option Place) (stamp : ℤ) (queue : List Sending) (i : ℕ) → AreNumbered n w
    → IfSome (departing w place stamp queue i) (λ (f : FrameAt). i ≤ n + 1)
departing_numbered w n None stamp queue i h = later n i (w.frame i) (h.frames i)
departing_numbered w n (Some place) stamp [] i h = later n i (w.frame i) (h.frames i)
departing_numbered w n (Some place) stamp (oldest ∷ rest) i h =
    departing_if n i (i == (w.departed + 1)) _ (w.frame i)
    (λ is. let same : i ≡ w.departed + 1 = eqb-true i (w.departed + 1) is in let few = h.departed in omega (arith, same, few)) (h.frames i)

arrived_numbered : (s : Setting) (w : WorldAt) (n j : ℕ) (raw : Raw) (g : Option FrameAt) (i : ℕ) (o : Option FrameAt) → IfSome o (λ (f : FrameAt). i ≤ n)
    → IfSome (arrived s w j raw g i o) (λ (f : FrameAt). i ≤ n + 1)
arrived_numbered s w n j raw None i o h = later n i o h
arrived_numbered s w n j raw (Some g) i None h = tt
arrived_numbered s w n j raw (Some g) i (Some f) h = omega (arith, h)

removed_numbered : (s : Setting) (e : Event) (n i : ℕ) (o : Option FrameAt) → IfSome o (λ (f : FrameAt). i ≤ n)
    → IfSome (option_map (removed s e) o) (λ (f : FrameAt). i ≤ n + 1)
removed_numbered s e n i None h = tt
removed_numbered s e n i (Some f) h = omega (arith, h)

frame_numbered : (s : Setting) (w : WorldAt) (e : Event) (n i : ℕ) → AreNumbered n w → IfSome (frame_after s w e i) (λ (f : FrameAt). i ≤ n + 1)
frame_numbered s w (Depart m p stamp) n i h = departing_numbered w n (place_of s m p) stamp (waiting_at w (place_of s m p)) i h
frame_numbered s w (Arrive j raw) n i h = arrived_numbered s w n j raw (w.frame j) i (w.frame i) (h.frames i)
frame_numbered s w (Pass dt drifts fibres) n i h = removed_numbered s (Pass dt drifts fibres) n i (w.frame i) (h.frames i)
frame_numbered s w (Tick m) n i h = removed_numbered s (Tick m) n i (w.frame i) (h.frames i)
frame_numbered s w (Sample m base bits) n i h = removed_numbered s (Sample m base bits) n i (w.frame i) (h.frames i)
frame_numbered s w (Deliver j) n i h = removed_numbered s (Deliver j) n i (w.frame i) (h.frames i)
frame_numbered s w (Noise m p octets raw) n i h = removed_numbered s (Noise m p octets raw) n i (w.frame i) (h.frames i)
frame_numbered s w (Down m) n i h = removed_numbered s (Down m) n i (w.frame i) (h.frames i)
frame_numbered s w (Up m off swaps) n i h = removed_numbered s (Up m off swaps) n i (w.frame i) (h.frames i)
frame_numbered s w (Cut l) n i h = removed_numbered s (Cut l) n i (w.frame i) (h.frames i)
frame_numbered s w (Join l ms sm) n i h = removed_numbered s (Join l ms sm) n i (w.frame i) (h.frames i)

one_more_few : (n count : ℕ) (queue : List Sending) → count ≤ n → one_more queue count ≤ n + 1
one_more_few n count [] h = omega (arith, h)
one_more_few n count (first ∷ rest) h = omega (arith, h)

few_more : (n count : ℕ) → count ≤ n → count ≤ n + 1
few_more n count h = omega (arith, h)

departed_numbered : (s : Setting) (w : WorldAt) (e : Event) (n : ℕ) → w.departed ≤ n → departed_after s w e ≤ n + 1
departed_numbered s w (Depart m p stamp) n h = one_more_few n w.departed (waiting_at w (place_of s m p)) h
departed_numbered s w _ n h = few_more n w.departed h

moved_numbered : (s : Setting) (w : WorldAt) (e : Event) (n : ℕ) → AreNumbered n w → AreNumbered (n + 1) (moved s w e)
moved_numbered s w e n h = record { departed = departed_numbered s w e n h.departed; frames = λ i. frame_numbered s w e n i h }

count_more : (h : Happened) (before : List Happened) → length before + 1 ≡ length (h ∷ before)
count_more h before = omega arith

pub numbered : (s : Setting) (events : List Happened) → AreNumbered (length events) (world_after s events)
numbered s [] = record { departed = omega arith; frames = λ i. tt }
numbered s (h ∷ before) =
    let w : WorldAt = world_after s before in
    subst (λ (n : ℕ). AreNumbered n (world_after s (h ∷ before))) (count_more h before)
    (given_numbered s h.answer (length before + 1) (given_by s w (moved s w h.event) h.says h.event) (moved s w h.event) (moved_numbered s w h.event (length before) (numbered s before)))

-- a frame that arrives, or that is handed over, is there
arrives_there : (s : Setting) (w : WorldAt) (i : ℕ) (raw : Raw) (n : ℕ) (b : Bool) (o : Option FrameAt) → AllHold (arrive_checks s w i raw b o)
    → IfSome o (λ (f : FrameAt). i ≤ n) → i ≤ n
arrives_there s w i raw n true (Some f) holds h = h
arrives_there s w i raw n false (Some f) holds h = h
arrives_there s w i raw n true None holds h = absurd (let f : true ≡ false = holds.0 in cc)
arrives_there s w i raw n false None holds h = absurd (let f : true ≡ false = holds.0 in cc)

delivers_there : (s : Setting) (w : WorldAt) (i n : ℕ) (o : Option FrameAt) → AllHold (deliver_checks s w i o) → IfSome o (λ (f : FrameAt). i ≤ n) → i ≤ n
delivers_there s w i n (Some f) holds h = h
delivers_there s w i n None holds h = absurd (let f : true ≡ false = holds.0 in cc)

-- All events

pub event_fits : (s : Setting) (w : WorldAt) (says : Result PtpMsg FrameFault) (e : Event) (n : ℕ) → AreNumbered n w → n < 2 ^ 32 → Accepts s w says e
    → FitsSave e → FitsEvent e
event_fits s w says (Arrive i raw) n h few accepted fits =
    below_word i n (arrives_there s w i raw n (is_on_fibre (w.frame i)) (w.frame i) accepted (h.frames i)) few
event_fits s w says (Deliver i) n h few accepted fits = below_word i n (delivers_there s w i n (w.frame i) accepted (h.frames i)) few
event_fits s w says (Pass dt drifts fibres) n h few accepted fits = fits
event_fits s w says (Tick m) n h few accepted fits = fits
event_fits s w says (Sample m base bits) n h few accepted fits = fits
event_fits s w says (Depart m p stamp) n h few accepted fits = fits
event_fits s w says (Noise m p octets raw) n h few accepted fits = fits
event_fits s w says (Down m) n h few accepted fits = fits
event_fits s w says (Up m off swaps) n h few accepted fits = fits
event_fits s w says (Cut l) n h few accepted fits = fits
event_fits s w says (Join l ms sm) n h few accepted fits = fits

pub fewer : (h : Happened) (before : List Happened) → length (h ∷ before) < 2 ^ 32 → length before < 2 ^ 32
fewer h before few = omega (arith, few)

-- this holds for each event that is made
pub made_fit : (scene : SceneAt) (s : Setting) (seed : ℕ) (events : List Happened) (at : SimAt) → IsSimRun scene s seed events at → AllAccepted s events
    → length events < 2 ^ 32 → AllFit events
made_fit scene s seed [] at run accepted few = tt
made_fit scene s seed (h ∷ before) at run accepted few = (
  event_fits s (world_after s before) h.says h.event (length before) (numbered s before) (fewer h before few) accepted.0 (given_fits scene s (world_after s before) run.0 at h.event run.2),
  made_fit scene s seed before run.0 run.1 accepted.1 (fewer h before few),
)
