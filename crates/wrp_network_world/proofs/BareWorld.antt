-- A world does not depend on what is in the unused room of names.
use Rattle.std.proofs.Common.{◌≡◌, ◌∙◌, refl, ap, ap₂, ℕ, ℤ, pos, not, ◌==◌, ◌+◌, ◌-ℤ◌, Bool, true, false, ◌&&◌, ◌||◌, if◌then◌else◌, List, [], ◌∷◌, ◌++◌, flat_map, map, Option, None, Some, is_some, option_map, Result, sym, subst}
use Rattle.std.specs.Prelude.{slice_get, option_and_then, nat_lt}
use Rattle.std.specs.Option.{option_map_or}
use Rattle.std.proofs.lemmas.List.{length-map}
use Rattle.std.proofs.lemmas.Option.{slice_get-map}
use Rattle.wrp_network.specs.declared.configuration.NetCfg.{NetCfg}
use Rattle.wrp_base.specs.declared.link.Role.{Role}
use Rattle.wrp_base.specs.declared.link.Role.TheVariants.{Master, Slave}
use Rattle.wrp_base.specs.declared.message.PtpMsg.{PtpMsg}
use Rattle.wrp_network.specs.declared.network.LinkCfg.{LinkCfg}
use Rattle.wrp_network.specs.declared.network.NodeCfg.{NodeCfg}
use Rattle.wrp_base.specs.declared.time.Raw.{Raw}
use Rattle.wrp_network.specs.Network.{End, link_above}
use Rattle.wrp_base.specs.Link.{other_of}
use Rattle.wrp_caldb.specs.Database.{Database, module_at}
use Rattle.wrp_servo.specs.Sampling.{is_holdover}
use Rattle.wrp_config.proofs.Bare.{above_bare}
use Rattle.wrp_config.proofs.Lists.{position-map}
use Rattle.wrp_config.specs.Same.{bare_link, bare_node, bare_cfg}
use Rattle.wrp_config.specs.Names.{is_lower_end, is_upper_end}
use Rattle.wrp_frame.specs.declared.fault.FrameFault.{FrameFault}
use Rattle.wrp_node.specs.declared.interface.Input.TheVariants.{Carrier, Reset}
use Rattle.wrp_node.specs.NodeAt.{locked_of, numbers_of, state_of, servo_setting_of}
use Rattle.wrp_course.specs.Checks.{at_most, only_where, size_of, needs}
use Rattle.wrp_course.specs.declared.clocks.ClockState.{ClockState}
use Rattle.wrp_course.specs.declared.event.Event.{Event}
use Rattle.wrp_course.specs.declared.event.Event.TheVariants.{Pass, Tick, Sample, Depart, Arrive, Deliver, Noise, Down, Up, Cut, Join}
use Rattle.wrp_course.specs.declared.event.Swap.{Swap}
use Rattle.wrp_course.specs.declared.place.Place.{Place}
use Rattle.wrp_course.specs.Given.{Given, NodeStepAt, at_ports, comes_from, delivered, delivered_by, delivered_to, end_given, event_steps, given_by, given_plain, gives, gives_all, goes_from, if_carried, node_step_of, sent_oldest, step_of, steps_of, world_step}
use Rattle.wrp_course.specs.Run.{Happened, steps_at, world_after, IsAnswered}
use Rattle.wrp_course.specs.Moved.{moved, arrived, behind_first, departing, drift_of, is_place, one_more, samples_at, swap_at, with_swap, waiting_at}
use Rattle.wrp_course.specs.Premises.{arrive_checks, beat_by, beat_checks, checks, checks_of, deliver_by, deliver_checks, depart_checks, entry_for, fibre_checks, fibre_kept, fibre_rate, is_forged, module_checks, module_kept, noise_checks, pass_checks, rate_checks, rate_of, raw_checks, received, sample_checks, swap_is_placed, tick_late, too_old, true_at_top}
use Rattle.wrp_stamp.specs.Merge.{transition_of}
use Rattle.wrp_course.specs.Setting.{Setting, above, end_at, end_of, entry_at, node_setting_of, from_on, is_of, is_role, link_of, links_of, nodes_of, of_node, place_among, place_of, sends_nm}
use Rattle.wrp_course.specs.WorldAt.{Arrival, FrameAt, Sending, WorldAt, ends_are_up, first_name, has_carrier, is_on_fibre, named_at, new_end, new_world, phase_of, reading}
use Rattle.wrp_network_world.specs.NetworkSetting.{setting_at, answers_in}
use Rattle.wrp_replay.proofs.BareSetting.{fixed_bare, flat_map_same, set_bare, law_bare}
use Rattle.wrp_node.specs.OneRun.{answers_by}
use Rattle.wrp_servo.specs.Servo.{AllAnswered}
use Rattle.wrp_trace.specs.LineSetting.{line_setting_in}
use Rattle.wrp_network_world.specs.Counts.{all_counts}
use Rattle.wrp_replay.specs.DownLaw.{law_at}
use Rattle.wrp_network_world.proofs.NodeCounts.{counts_bare}

-- a setting whose network's names are without their unused room
abbrev pub bare_setting : Setting → Setting
bare_setting s = record s { cfg = bare_cfg s.cfg }

-- Where things are in the network

pub link_bare : (s : Setting) (k : ℕ) → link_of (bare_setting s) k ≡ option_map bare_link (link_of s k)
link_bare s k = slice_get-map bare_link s.cfg.links.items k

end_over : (r : Role) (o : Option LinkCfg) → option_map (end_of r) (option_map bare_link o) ≡ option_map (end_of r) o
end_over r None = refl
end_over Master (Some link) = refl
end_over Slave (Some link) = refl

pub ends_bare : (s : Setting) → end_at (bare_setting s) ≡ end_at s
ends_bare s = λ i k r. (ap (option_map (end_of r)) (link_bare s k) ∙ end_over r (link_of s k)) i

entry_over : (db : Database) (r : Role) (name : List ℕ) (o : Option LinkCfg) →
    option_and_then (λ (link : LinkCfg). module_at db name (sends_nm r link) (sends_nm (other_of r) link)) (option_map bare_link o)
    ≡ option_and_then (λ (link : LinkCfg). module_at db name (sends_nm r link) (sends_nm (other_of r) link)) o
entry_over db r name None = refl
entry_over db Master name (Some link) = refl
entry_over db Slave name (Some link) = refl

pub entries_bare : (s : Setting) → entry_at (bare_setting s) ≡ entry_at s
entries_bare s = λ i k r name.
    (ap (option_and_then (λ (link : LinkCfg). module_at s.db name (sends_nm r link) (sends_nm (other_of r) link))) (link_bare s k) ∙ entry_over s.db r name (link_of s k)) i

place_over : (n p k : ℕ) (links : List LinkCfg) → place_among n p k (map bare_link links) ≡ place_among n p k links
place_over n p k [] = refl
place_over n p k (link ∷ links) =
    ap
    (λ (rest : Option Place). if is_upper_end n p link then Some (record { link = k; role = Master }) else (if is_lower_end n p link then Some (record { link = k; role = Slave }) else rest))
    (place_over n p (k + 1) links)

pub places_bare : (s : Setting) → place_of (bare_setting s) ≡ place_of s
places_bare s = λ i n p. place_over n p 0 s.cfg.links.items i

pub aboves_bare : (s : Setting) → above (bare_setting s) ≡ above s
aboves_bare s = λ i n. position-map (λ (link : LinkCfg). link.lower == n) bare_link s.cfg.links.items i

pub nodes_bare : (s : Setting) → nodes_of (bare_setting s) ≡ nodes_of s
nodes_bare s = ap (λ (count : ℕ). from_on count 0) (length-map s.cfg.nodes.items bare_node)

pub links_bare : (s : Setting) → links_of (bare_setting s) ≡ links_of s
links_bare s = ap (λ (count : ℕ). from_on count 0) (length-map s.cfg.links.items bare_link)

number_over : (number : NodeCfg → ℕ) → ((node : NodeCfg) → number (bare_node node) ≡ number node) → (o : Option NodeCfg)
    → option_map_or number (option_map bare_node o) 0 ≡ option_map_or number o 0
number_over number same None = refl
number_over number same (Some node) = same node

pub number_bare : (number : NodeCfg → ℕ) → ((node : NodeCfg) → number (bare_node node) ≡ number node) → (s : Setting)
    → of_node number (bare_setting s) ≡ of_node number s
number_bare number same s = λ i n.
    (ap (λ (o : Option NodeCfg). option_map_or number o 0) (slice_get-map bare_node s.cfg.nodes.items n) ∙ number_over number same (slice_get s.cfg.nodes.items n)) i

up_over : (clock : ℕ → ClockState) (o : Option LinkCfg) → ends_are_up clock (option_map bare_link o) ≡ ends_are_up clock o
up_over clock None = refl
up_over clock (Some link) = refl

pub carriers_bare : (s : Setting) → has_carrier (bare_setting s) ≡ has_carrier s
carriers_bare s = λ i w k. (w.fibre k).joined && (ap (ends_are_up w.clock) (link_bare s k) ∙ up_over w.clock (link_of s k)) i

some_over : (o : Option LinkCfg) → is_some (option_map bare_link o) ≡ is_some o
some_over None = refl
some_over (Some link) = refl

-- whether a link is above a node
abbrev has_above : NetCfg → ℕ → Bool
has_above cfg n = is_some (link_above cfg n)

tops_bare : (s : Setting) → has_above (bare_cfg s.cfg) ≡ has_above s.cfg
tops_bare s = λ i n. (ap is_some (above_bare s.cfg n) ∙ some_over (link_above s.cfg n)) i

-- The world before any event

name_over : (r : Role) (o : Option LinkCfg) → option_map_or (named_at r) (option_map bare_link o) [] ≡ option_map_or (named_at r) o []
name_over r None = refl
name_over Master (Some link) = refl
name_over Slave (Some link) = refl

pub names_bare : (s : Setting) → first_name (bare_setting s) ≡ first_name s
names_bare s = λ i k r. (ap (λ (o : Option LinkCfg). option_map_or (named_at r) o []) (link_bare s k) ∙ name_over r (link_of s k)) i

new_bare : (s : Setting) → new_world (bare_setting s) ≡ new_world s
new_bare s = λ i. record (new_world s) { end_at = λ k r. new_end (names_bare s i k r) (entries_bare s i k r (names_bare s i k r)) }

-- An event by itself

samples_bare : (s : Setting) (w : WorldAt) (f : FrameAt) → samples_at (bare_setting s) w f ≡ samples_at s w f
samples_bare s w f = λ i. option_map_or (λ (end : End). (w.clock end.node).samples) (ends_bare s i f.link (other_of f.by)) 0

arrived_bare : (s : Setting) (w : WorldAt) (j : ℕ) (raw : Raw) (g : Option FrameAt) (l : ℕ) (f : Option FrameAt)
    → arrived (bare_setting s) w j raw g l f ≡ arrived s w j raw g l f
arrived_bare s w j raw None l f = refl
arrived_bare s w j raw (Some g) l None = refl
arrived_bare s w j raw (Some g) l (Some f) =
    ap (λ (samples : ℕ). Some (
    if l == j
    then record f { arrival = Some (record { raw = raw; sample = samples; at = w.time; moment = w.count }) }
    else record f { gone = f.gone || (is_on_fibre (Some f) && (nat_lt l j && ((f.link == g.link) && is_role f.by g.by))) }
    )) (samples_bare s w g)

moved_bare : (s : Setting) (w : WorldAt) (e : Event) → moved (bare_setting s) w e ≡ moved s w e
moved_bare s w (Pass dt drifts fibres) = refl
moved_bare s w (Tick n) = refl
moved_bare s w (Sample n base bits) = refl
moved_bare s w (Depart n p stamp) = λ i. record (moved s w (Depart n p stamp)) {
  end_at = λ k r. if is_place (places_bare s i n p) k r then record (w.end_at k r) { waiting = behind_first (w.end_at k r).waiting } else w.end_at k r;
  departed = one_more (waiting_at w (places_bare s i n p)) w.departed;
  frame = departing w (places_bare s i n p) stamp (waiting_at w (places_bare s i n p));
}
moved_bare s w (Arrive j raw) = λ i. record (moved s w (Arrive j raw)) {
  frame = λ l. arrived_bare s w j raw (w.frame j) l (w.frame l) i;
}
moved_bare s w (Deliver j) = refl
moved_bare s w (Noise n p octets raw) = refl
moved_bare s w (Down n) = λ i. record (moved s w (Down n)) {
  end_at = λ k r. if is_of n (ends_bare s i k Master) || is_of n (ends_bare s i k Slave) then record (w.end_at k r) { waiting = [] } else w.end_at k r;
  frame = λ l. option_map (λ (f : FrameAt). record f { gone = f.gone || ((is_of n (ends_bare s i f.link Master) || is_of n (ends_bare s i f.link Slave)) && is_on_fibre (Some f)) }) (w.frame l);
}
moved_bare s w (Up n off swaps) = λ i. record (moved s w (Up n off swaps)) {
  end_at = λ k r.
      if is_of n (ends_bare s i k r)
      then with_swap (swap_at (option_map_or (λ (end : End). end.port) (ends_bare s i k r) 0) swaps.items) (w.end_at k r) else w.end_at k r;
}
moved_bare s w (Cut k) = refl
moved_bare s w (Join k ms sm) = refl

-- What an event gives

goes_bare : (s : Setting) → goes_from (bare_setting s) ≡ goes_from s
goes_bare s = λ i k r.
    option_map_or (λ (end : End). given_plain end.node (Carrier end.port false None) ∷ []) (ends_bare s i k r) []
    ++ option_map_or (λ (end : End). given_plain end.node (Carrier end.port false None) ∷ []) (ends_bare s i k (other_of r)) []

comes_bare : (s : Setting) → comes_from (bare_setting s) ≡ comes_from s
comes_bare s = λ i w k r.
    option_map_or (λ (end : End). given_plain end.node (Carrier end.port true (entries_bare s i k r (w.end_at k r).name)) ∷ []) (ends_bare s i k r) []
    ++ option_map_or (λ (end : End). given_plain end.node (Carrier end.port true (entries_bare s i k (other_of r) (w.end_at k (other_of r)).name)) ∷ []) (ends_bare s i k (other_of r)) []

carried_bare : (s : Setting) (w : WorldAt) (f g : ℕ → Role → List Given) → f ≡ g → (o : Option Place) → if_carried (bare_setting s) w f o ≡ if_carried s w g o
carried_bare s w f g e None = refl
carried_bare s w f g e (Some place) = λ i. if carriers_bare s i w place.link then e i place.link place.role else []

ports_bare : (s : Setting) (w : WorldAt) (f g : ℕ → Role → List Given) → f ≡ g → (n : ℕ) → at_ports (bare_setting s) w f n ≡ at_ports s w g n
ports_bare s w f g e n =
    flat_map_same (λ p. if_carried (bare_setting s) w f (place_of (bare_setting s) n p)) (λ p. if_carried s w g (place_of s n p))
    (λ p. ap (if_carried (bare_setting s) w f) (λ i. places_bare s i n p) ∙ carried_bare s w f g e (place_of s n p)) (numbers_of (s.set n))

delivered_bare : (s : Setting) (f : Option FrameAt) → delivered (bare_setting s) f ≡ delivered s f
delivered_bare s None = refl
delivered_bare s (Some f) = go f.arrival
  where
    go : (o : Option Arrival) → delivered_by (bare_setting s) f o ≡ delivered_by s f o
    go None = refl
    go (Some arrival) = λ i. option_map_or (λ (end : End). delivered_to f arrival end.node end.port) (ends_bare s i f.link (other_of f.by)) []

given_bare : (s : Setting) (w v : WorldAt) (says : Result PtpMsg FrameFault) (e : Event) → given_by (bare_setting s) w v says e ≡ given_by s w v says e
given_bare s w v says (Pass dt drifts fibres) = refl
given_bare s w v says (Tick n) = refl
given_bare s w v says (Sample n base bits) = refl
given_bare s w v says (Depart n p stamp) = λ i. sent_oldest n p stamp (w.clock n).samples (waiting_at w (places_bare s i n p))
given_bare s w v says (Arrive j raw) = refl
given_bare s w v says (Deliver j) = delivered_bare s (w.frame j)
given_bare s w v says (Noise n p octets raw) = refl
given_bare s w v says (Down n) = ports_bare s w (goes_from (bare_setting s)) (goes_from s) (goes_bare s) n
given_bare s w v says (Up n off swaps) =
    ap (λ (gs : List Given). given_plain n Reset ∷ gs) (ports_bare s v (comes_from (bare_setting s) v) (comes_from s v) (λ i. comes_bare s i v) n)
given_bare s w v says (Cut k) = λ i. if carriers_bare s i w k then goes_bare s i k Master else []
given_bare s w v says (Join k ms sm) = λ i. if carriers_bare s i v k then comes_bare s i v k Master else []

-- What the steps make of the world

gives_bare : (s : Setting) (y : ℤ) (v : WorldAt) (g : Given) → gives (bare_setting s) y v g ≡ gives s y v g
gives_bare s y v g = λ i. record (gives s y v g) {
  end_at = λ k r.
      if is_of g.to (ends_bare s i k r)
      then option_map_or (λ (end : End). end_given s v g (step_of s y v g) k r end.port) (ends_bare s i k r) (v.end_at k r)
      else v.end_at k r;
}

all_bare : (s : Setting) (y : ℤ) (v : WorldAt) (gs : List Given) → gives_all (bare_setting s) y v gs ≡ gives_all s y v gs
all_bare s y v [] = refl
all_bare s y v (g ∷ gs) = ap (λ (w : WorldAt). gives_all (bare_setting s) y w gs) (gives_bare s y v g) ∙ all_bare s y (gives s y v g) gs

steps_bare : (s : Setting) (y : ℤ) (v : WorldAt) (gs : List Given) → steps_of (bare_setting s) y v gs ≡ steps_of s y v gs
steps_bare s y v [] = refl
steps_bare s y v (g ∷ gs) =
    ap (λ (steps : List NodeStepAt). node_step_of s y v g ∷ steps)
    (ap (λ (w : WorldAt). steps_of (bare_setting s) y w gs) (gives_bare s y v g) ∙ steps_bare s y (gives s y v g) gs)

pub world_bare : (s : Setting) (says : Result PtpMsg FrameFault) (y : ℤ) (w : WorldAt) (e : Event)
    → world_step (bare_setting s) says y w e ≡ world_step s says y w e
world_bare s says y w e =
    all_bare s y (moved (bare_setting s) w e) (given_by (bare_setting s) w (moved (bare_setting s) w e) says e)
    ∙ ap₂ (λ (v : WorldAt) (gs : List Given). gives_all s y v gs) (moved_bare s w e)
    (given_bare s w (moved (bare_setting s) w e) says e ∙ ap (λ (v : WorldAt). given_by s w v says e) (moved_bare s w e))

pub event_bare : (s : Setting) (says : Result PtpMsg FrameFault) (y : ℤ) (w : WorldAt) (e : Event)
    → event_steps (bare_setting s) says y w e ≡ event_steps s says y w e
event_bare s says y w e =
    steps_bare s y (moved (bare_setting s) w e) (given_by (bare_setting s) w (moved (bare_setting s) w e) says e)
    ∙ ap₂ (λ (v : WorldAt) (gs : List Given). steps_of s y v gs) (moved_bare s w e)
    (given_bare s w (moved (bare_setting s) w e) says e ∙ ap (λ (v : WorldAt). given_by s w v says e) (moved_bare s w e))

pub after_bare : (s : Setting) (events : List Happened) → world_after (bare_setting s) events ≡ world_after s events
after_bare s [] = new_bare s
after_bare s (h ∷ before) =
    ap (λ (w : WorldAt). world_step (bare_setting s) h.says h.answer w h.event) (after_bare s before)
    ∙ world_bare s h.says h.answer (world_after s before) h.event

pub steps_at_bare : (s : Setting) (before : List Happened) (h : Happened) → steps_at (bare_setting s) before h ≡ steps_at s before h
steps_at_bare s before h =
    ap (λ (w : WorldAt). event_steps (bare_setting s) h.says h.answer w h.event) (after_bare s before)
    ∙ event_bare s h.says h.answer (world_after s before) h.event

-- Premises

pub rates_bare : (s : Setting) → rate_of (bare_setting s) ≡ rate_of s
rates_bare s = λ i w n.
    if not (tops_bare s i n) then Some 0
    else (if not (w.clock n).up then None
    else (if locked_of (node_setting_of s n) (w.node n) then Some (number_bare (λ node. node.slew) (λ node. refl) s i n)
    else (if is_holdover (state_of (node_setting_of s n) (w.node n)) then Some (number_bare (λ node. node.held) (λ node. refl) s i n) else None)))

fibre_over : (s : Setting) (v : WorldAt) (k : ℕ) (o : Option LinkCfg) →
    option_map_or (fibre_checks (bare_setting s) v k) (option_map bare_link o) [] ≡ option_map_or (fibre_checks s v k) o []
fibre_over s v k None = refl
fibre_over s v k (Some link) = refl

fibres_bare : (s : Setting) → fibre_kept (bare_setting s) ≡ fibre_kept s
fibres_bare s = λ i v k.
    map (only_where (v.fibre k).joined)
    ((ap (λ (o : Option LinkCfg). option_map_or (fibre_checks (bare_setting s) v k) o []) (link_bare s k) ∙ fibre_over s v k (link_of s k)) i)

top_bare : (s : Setting) (n : ℕ) (off : ℤ) → true_at_top (bare_setting s) n off ≡ true_at_top s n off
top_bare s n off = λ i. only_where (not (tops_bare s i n)) (at_most 3 (size_of off) (pos 0))

entry_for_bare : (s : Setting) (swap : Swap) (o : Option Place) → entry_for (bare_setting s) swap o ≡ entry_for s swap o
entry_for_bare s swap None = refl
entry_for_bare s swap (Some place) = λ i. entries_bare s i place.link place.role swap.name.bytes

modules_bare : (s : Setting) (n : ℕ) → module_kept (bare_setting s) n ≡ module_kept s n
modules_bare s n = λ i swap.
    module_checks swap ((ap (entry_for (bare_setting s) swap) (λ j. places_bare s j n swap.port) ∙ entry_for_bare s swap (place_of s n swap.port)) i)

swaps_bare : (s : Setting) (n : ℕ) → swap_is_placed (bare_setting s) n ≡ swap_is_placed s n
swaps_bare s n = λ i swap. needs (is_some (places_bare s i n swap.port))

pass_bare : (s : Setting) (w v : WorldAt) (dt : ℤ) (drifts : List ℤ) (moves : List (ℤ × ℤ))
    → pass_checks (bare_setting s) w v dt drifts moves ≡ pass_checks s w v dt drifts moves
pass_bare s w v dt drifts moves = λ i.
    map (tick_late s w dt) (nodes_bare s i)
    ++ (flat_map (λ n. rate_checks (drift_of drifts n) dt (rates_bare s i w n)) (nodes_bare s i)
    ++ (flat_map (fibre_rate dt moves) (links_bare s i)
    ++ flat_map (fibres_bare s i v) (links_bare s i)))

beats_over : (s : Setting) (w : WorldAt) (n base bits k : ℕ) (o : Option LinkCfg) →
    option_map_or (beat_checks (bare_setting s) w n base bits k) (option_map bare_link o) [] ≡ option_map_or (beat_checks s w n base bits k) o []
beats_over s w n base bits k None = refl
beats_over s w n base bits k (Some link) = λ i. beat_by s.cfg.clock (number_bare (λ node. node.beat) (λ node. refl) s i n) base bits (phase_of w k link)

sample_bare : (s : Setting) (w : WorldAt) (n base bits : ℕ) (o : Option ℕ) → sample_checks (bare_setting s) w n base bits o ≡ sample_checks s w n base bits o
sample_bare s w n base bits None = refl
sample_bare s w n base bits (Some k) = λ i.
    map (only_where (carriers_bare s i w k))
    ((ap (λ (o : Option LinkCfg). option_map_or (beat_checks (bare_setting s) w n base bits k) o []) (link_bare s k) ∙ beats_over s w n base bits k (link_of s k)) i)
    ++ (needs (carriers_bare s i w k) ∷ [])

depart_bare : (s : Setting) (w : WorldAt) (n : ℕ) (stamp : ℤ) (o : Option Place) (waiting : List Sending)
    → depart_checks (bare_setting s) w n stamp o waiting ≡ depart_checks s w n stamp o waiting
depart_bare s w n stamp None waiting = refl
depart_bare s w n stamp (Some place) [] = refl
depart_bare s w n stamp (Some place) (oldest ∷ rest) = λ i.
    at_most 7 (size_of (stamp -ℤ reading w n)) (pos (number_bare (λ node. node.e_tx) (λ node. refl) s i n))
    ∷ (too_old s.cfg w.time oldest ∷ (needs (carriers_bare s i w place.link) ∷ []))

received_bare : (s : Setting) (w : WorldAt) (f : FrameAt) (raw : Raw) → received (bare_setting s) w f raw ≡ received s w f raw
received_bare s w f raw = λ i.
    option_map_or
    (λ (end : End).
    raw_checks s.cfg.clock (number_bare (λ node. node.e_tag) (λ node. refl) s i end.node)
    (transition_of (entries_bare s i f.link (other_of f.by) (w.end_at f.link (other_of f.by)).name)) (reading w end.node) raw)
    (ends_bare s i f.link (other_of f.by)) []

arrive_bare : (s : Setting) (w : WorldAt) (j : ℕ) (raw : Raw) (b : Bool) (o : Option FrameAt)
    → arrive_checks (bare_setting s) w j raw b o ≡ arrive_checks s w j raw b o
arrive_bare s w j raw true (Some f) =
    λ i. at_most 8 (size_of (w.time -ℤ f.due)) (pos 0) ∷ (received_bare s w f raw i ++ (needs (carriers_bare s i w f.link) ∷ []))
arrive_bare s w j raw true None = refl
arrive_bare s w j raw false o = refl

deliver_bare : (s : Setting) (w : WorldAt) (j : ℕ) (o : Option FrameAt) → deliver_checks (bare_setting s) w j o ≡ deliver_checks s w j o
deliver_bare s w j None = refl
deliver_bare s w j (Some f) = go f.arrival
  where
    go : (a : Option Arrival) → deliver_by (bare_setting s) w j f a ≡ deliver_by s w j f a
    go None = refl
    go (Some arrival) = λ i. too_old s.cfg w.time f.sending ∷ (needs (carriers_bare s i w f.link) ∷ [])

noise_bare : (s : Setting) (w : WorldAt) (n p : ℕ) (says : Result PtpMsg FrameFault) (o : Option Place)
    → noise_checks (bare_setting s) w n p says o ≡ noise_checks s w n p says o
noise_bare s w n p says None = refl
noise_bare s w n p says (Some place) = λ i.
    record { premise = 12; fails = is_forged s n p says; shown = pos 1; bound = pos 0 } ∷ (needs (carriers_bare s i w place.link) ∷ [])

tried_bare : (s : Setting) (w v : WorldAt) (says : Result PtpMsg FrameFault) (e : Event) → checks (bare_setting s) w v says e ≡ checks s w v says e
tried_bare s w v says (Pass dt drifts fibres) = pass_bare s w v dt drifts.items fibres.items
tried_bare s w v says (Tick n) = refl
tried_bare s w v says (Sample n base bits) =
    ap (sample_checks (bare_setting s) w n base bits) (λ i. aboves_bare s i n) ∙ sample_bare s w n base bits (above s n)
tried_bare s w v says (Depart n p stamp) =
    ap (λ (o : Option Place). depart_checks (bare_setting s) w n stamp o (waiting_at w o)) (λ i. places_bare s i n p)
    ∙ depart_bare s w n stamp (place_of s n p) (waiting_at w (place_of s n p))
tried_bare s w v says (Arrive j raw) = arrive_bare s w j raw (is_on_fibre (w.frame j)) (w.frame j)
tried_bare s w v says (Deliver j) = deliver_bare s w j (w.frame j)
tried_bare s w v says (Noise n p octets raw) =
    ap (noise_checks (bare_setting s) w n p says) (λ i. places_bare s i n p) ∙ noise_bare s w n p says (place_of s n p)
tried_bare s w v says (Down n) = refl
tried_bare s w v says (Up n off swaps) = λ i.
    top_bare s n off i
    ∷ (flat_map (fibres_bare s i v) (links_bare s i)
    ++ (flat_map (modules_bare s n i) swaps.items
    ++ (map (swaps_bare s n i) swaps.items ++ (needs (not (w.clock n).up) ∷ []))))
tried_bare s w v says (Cut k) = refl
tried_bare s w v says (Join k ms sm) = λ i. fibres_bare s i v k ++ (needs (not (w.fibre k).joined) ∷ [])

pub checks_bare : (s : Setting) (w : WorldAt) (says : Result PtpMsg FrameFault) (e : Event) → checks_of (bare_setting s) w says e ≡ checks_of s w says e
checks_bare s w says e = tried_bare s w (moved (bare_setting s) w e) says e ∙ ap (λ (v : WorldAt). checks s w v says e) (moved_bare s w e)

-- The setting of a network

pub bare_is : (cfg : NetCfg) (db : Database) → setting_at (bare_cfg cfg) db ≡ bare_setting (setting_at cfg db)
bare_is cfg db = λ i. record {
  cfg = bare_cfg cfg;
  db = db;
  set = λ n. set_bare cfg n i;
  lo = λ n. (fixed_bare (record { cfg = cfg; db = db; node = n }) i).lo;
  hi = λ n. (fixed_bare (record { cfg = cfg; db = db; node = n }) i).hi;
}

-- What is answered in a run, and its counters

pub answered_bare : (s : Setting) (events : List Happened) → IsAnswered (answers_in s) s (world_after s events)
    → IsAnswered (answers_in (bare_setting s)) (bare_setting s) (world_after (bare_setting s) events)
answered_bare s events all n =
    let laws : law_at (line_setting_in s n) ≡ law_at (line_setting_in (bare_setting s) n) = sym (λ i x. law_bare (line_setting_in s n) x i) in
    subst (λ (w : WorldAt). AllAnswered (answers_in (bare_setting s) n) (servo_setting_of (node_setting_of s n)) (w.node n).calls) (sym (after_bare s events))
    (subst (λ (law : ℤ → ℤ). AllAnswered (answers_by law) (servo_setting_of (node_setting_of s n)) ((world_after s events).node n).calls) laws (all n))

pub counts_text : (s : Setting) (events : List Happened)
    → all_counts (bare_setting s) (world_after (bare_setting s) events) ≡ all_counts s (world_after s events)
counts_text s events = λ i. flat_map (λ n. counts_bare (line_setting_in s n) ((after_bare s events i).node n) i) (nodes_bare s i)
