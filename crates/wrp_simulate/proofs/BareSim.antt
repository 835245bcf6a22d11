-- What a simulation does and writes does not depend on the unused room of names.
use Rattle.std.proofs.Common.{◌≡◌, ◌∙◌, refl, ap, ap₂, sym, subst, ℕ, ℤ, pos, ◌+◌, ◌-◌, ◌-ℤ◌, ◌+ℤ◌, ◌&&◌, if◌then◌else◌, Option, None, Some, List, [], ◌∷◌, ◌++◌, length, map, flat_map, option_map}
use Rattle.std.specs.Prelude.{filter, find, nat_lt, option_and_then}
use Rattle.std.specs.Option.{option_map_or}
use Rattle.std.specs.Ordering.{int_eq}
use Rattle.std.proofs.lemmas.List.{length-map}
use Rattle.std.proofs.lemmas.Option.{slice_get-map}
use Rattle.wrp_base.specs.declared.link.Module.{Module}
use Rattle.wrp_base.specs.declared.link.Role.TheVariants.{Master, Slave}
use Rattle.wrp_network.specs.declared.network.LinkCfg.{LinkCfg}
use Rattle.wrp_base.specs.declared.time.Raw.{Raw}
use Rattle.wrp_network.specs.Network.{End, node_count}
use Rattle.wrp_base.specs.Link.{other_of}
use Rattle.wrp_config.specs.Same.{bare_link, bare_node, bare_cfg}
use Rattle.wrp_lines.specs.Lines.{output_line_of, sum_line_of}
use Rattle.wrp_node.specs.NodeAt.{dac_of, state_of}
use Rattle.wrp_phase.specs.BeatPattern.{true_step}
use Rattle.wrp_scene.specs.declared.scene.fault.FaultKind.{FaultKind}
use Rattle.wrp_scene.specs.declared.scene.fault.FaultKind.TheVariants as kind
use Rattle.wrp_sim.specs.Numbers.{base_before, bits_behind, drawn_stamp, drawn_zeros, drift_at, held_to, own_rate, thousands}
use Rattle.wrp_plant.specs.PutOut.{is_now}
use Rattle.wrp_sim.specs.Rules.{Next, after_arrival, after_draw, arrives, begins, comes, delay_down, delivers, departs, due_times, end_time, fails, fault_of, fault_time, first_entry, first_of, is_over, is_tellable, join_event, next_fault, next_moment, next_of, one_begun, passes, raw_to, rest_of, sample_below, sample_of, samples, tick_of, ticks, ticks_now, true_raw, up_event, with_tick}
use Rattle.wrp_scene.specs.Scenario.{SceneAt, delta_ms, delta_sm, free_of, kappa_of, new_scene, sum_of}
use Rattle.wrp_sim.specs.SimAt.{SimAt}
use Rattle.wrp_sim.specs.SimRun.{Gives, IsSimRun}
use Rattle.wrp_course.specs.declared.event.Event.TheVariants.{Pass, Sample, Depart, Arrive, Join}
use Rattle.wrp_course.specs.EventAt.{link_count}
use Rattle.wrp_course.specs.Moved.{waiting_at}
use Rattle.wrp_stamp.specs.Merge.{transition_of}
use Rattle.wrp_course.specs.Run.{Happened, world_after}
use Rattle.wrp_course.specs.Setting.{Setting, node_setting_of, from_on, link_of}
use Rattle.wrp_course.specs.Views.{oldest_of}
use Rattle.wrp_course.specs.WorldAt.{WorldAt, reading}
use Rattle.wrp_records.specs.declared.machine.Refusal.{Refusal}
use Rattle.wrp_records.specs.declared.machine.Refusal.TheVariants as refusals
use Rattle.wrp_records.specs.declared.status.Status.{Status}
use Rattle.wrp_records.specs.declared.status.Status.TheVariants.{TooLarge, OutOfMemory}
use Rattle.wrp_records.specs.RecordsAnswer.{RecordsAnswer}
use Rattle.wrp_simulate.specs.SimText.{count_of, is_printed, node_sum, offsets_in, printed_lines, sim_lines, sum_lines, tracked, worst_of}
use Rattle.wrp_scene_records.specs.Scenarios.{Changes, IsScenario, SimRefuses}
use Rattle.wrp_simulate.specs.Simulates.{SimBreaks, SimCloses, Simulates, simulation_of}
use Rattle.wrp_records.specs.Stream.{large_line}
use Rattle.wrp_network_world.proofs.BareWorld.{aboves_bare, after_bare, bare_setting, carriers_bare, ends_bare, entries_bare, link_bare, names_bare, nodes_bare, number_bare, places_bare, rates_bare, steps_at_bare, answered_bare}
use Rattle.wrp_network_world.proofs.Leads.{due_so}
use Rattle.wrp_simulate.proofs.BareScene.{scene_bare, new_scene_bare}
use Rattle.wrp_replay.proofs.BareSetting.{name_bare, path_bare}

-- Counts, delays and entries

nodes_count : (s : Setting) → node_count (bare_cfg s.cfg) ≡ node_count s.cfg
nodes_count s = length-map s.cfg.nodes.items bare_node

pub links_count : (s : Setting) → link_count (bare_cfg s.cfg) ≡ link_count s.cfg
links_count s = length-map s.cfg.links.items bare_link

kappa_over : (o : Option LinkCfg)
    → option_map_or (λ (link : LinkCfg). link.kappa) (option_map bare_link o) (pos 0) ≡ option_map_or (λ (link : LinkCfg). link.kappa) o (pos 0)
kappa_over None = refl
kappa_over (Some link) = refl

kappas_bare : (s : Setting) → kappa_of (bare_cfg s.cfg) ≡ kappa_of s.cfg
kappas_bare s = λ i k.
    (ap (λ (o : Option LinkCfg). option_map_or (λ (link : LinkCfg). link.kappa) o (pos 0)) (slice_get-map bare_link s.cfg.links.items k) ∙ kappa_over (link_of s k)) i

firsts_bare : (s : Setting) → first_entry (bare_setting s) ≡ first_entry s
firsts_bare s = λ i k r. entries_bare s i k r (names_bare s i k r)

downs_bare : (scene : SceneAt) (s : Setting) → delay_down scene (bare_setting s) ≡ delay_down scene s
downs_bare scene s = λ i k.
    (pos (option_map_or (λ (m : Module). m.tx) (firsts_bare s i k Master) 0) +ℤ delta_ms (kappas_bare s i k) (sum_of scene k))
    +ℤ pos (option_map_or (λ (m : Module). m.rx) (firsts_bare s i k Slave) 0)

joins_bare : (scene : SceneAt) (s : Setting) → join_event scene (bare_setting s) ≡ join_event scene s
joins_bare scene s = λ i k. Join k (delta_ms (kappas_bare s i k) (sum_of scene k)) (delta_sm (kappas_bare s i k) (sum_of scene k))

-- The rules

begins_bare : (scene : SceneAt) (s : Setting) (w : WorldAt) (at : SimAt) → begins scene (bare_setting s) w at ≡ begins scene s w at
begins_bare scene s w at = λ i.
    if nat_lt at.begun (links_count s i) then comes (joins_bare scene s i at.begun) (one_begun at)
    else (if nat_lt (at.begun - links_count s i) (nodes_count s i)
    then comes (up_event scene (at.begun - links_count s i)) (with_tick s w.time (at.begun - links_count s i) (one_begun at))
    else None)

fault_bare : (scene : SceneAt) (s : Setting) (w : WorldAt) (at : SimAt) (k : FaultKind) → fault_of scene (bare_setting s) w at k ≡ fault_of scene s w at k
fault_bare scene s w at (kind.Down n) = refl
fault_bare scene s w at (kind.Up n) = refl
fault_bare scene s w at (kind.Cut k) = refl
fault_bare scene s w at (kind.Join k) = λ i. comes (joins_bare scene s i k) at

fails_bare : (scene : SceneAt) (s : Setting) (w : WorldAt) (at : SimAt) → fails scene (bare_setting s) w at ≡ fails scene s w at
fails_bare scene s w at = λ i. option_and_then (λ f. fault_bare scene s w (rest_of s w at) f.kind i) (next_fault s w at.faults)

sample_over : (scene : SceneAt) (s : Setting) (w : WorldAt) (n k state : ℕ) (at : SimAt) (o : Option LinkCfg) →
    option_and_then (λ (link : LinkCfg). comes (sample_of scene (bare_setting s) w n k link state) at) (option_map bare_link o)
    ≡ option_and_then (λ (link : LinkCfg). comes (sample_of scene s w n k link state) at) o
sample_over scene s w n k state at None = refl
sample_over scene s w n k state at (Some link) = λ i.
    comes
    (Sample n
    (base_before (true_step s.cfg.clock (((w.clock link.lower).off -ℤ (w.clock link.upper).off) +ℤ downs_bare scene s i k)))
    (bits_behind (drawn_zeros (number_bare (λ node. node.beat) (λ node. refl) s i n) state)))
    at

below_bare : (scene : SceneAt) (s : Setting) (w : WorldAt) (at : SimAt) (n k : ℕ) → sample_below scene (bare_setting s) w at n k ≡ sample_below scene s w at n k
below_bare scene s w at n k = λ i.
    if carriers_bare s i w k
    then (ap (option_and_then (λ (link : LinkCfg). comes (sample_of scene (bare_setting s) w n k link at.state) (after_draw at))) (link_bare s k)
    ∙ sample_over scene s w n k at.state (after_draw at) (link_of s k)) i
    else None

samples_bare : (scene : SceneAt) (s : Setting) (w : WorldAt) (at : SimAt) → samples scene (bare_setting s) w at ≡ samples scene s w at
samples_bare scene s w at = λ i.
    option_and_then (λ n. option_and_then (λ k. below_bare scene s w at n k i) (aboves_bare s i n)) at.ticked

departs_bare : (s : Setting) (w : WorldAt) (at : SimAt) → departs (bare_setting s) w at ≡ departs s w at
departs_bare s w at = λ i.
    option_and_then
    (λ (port : ℕ × ℕ).
    comes (Depart port.0 port.1 (drawn_stamp (thousands (number_bare (λ node. node.e_tx) (λ node. refl) s i port.0)) (reading w port.0) at.state)) (after_draw at))
    (find (λ (port : ℕ × ℕ). is_now w (oldest_of (waiting_at w (places_bare s i port.0 port.1))) && is_tellable s (reading w port.0))
    (flat_map (λ n. map (λ p. (n, p)) (from_on 18 1)) (nodes_bare s i)))

raws_bare : (s : Setting) → raw_to (bare_setting s) ≡ raw_to s
raws_bare s = λ i w k r.
    option_and_then
    (λ (end : End). if is_tellable s (reading w end.node) then Some (true_raw s (transition_of (firsts_bare s i k r)) (reading w end.node)) else None)
    (ends_bare s i k r)

arrives_bare : (scene : SceneAt) (s : Setting) (w : WorldAt) (due : Option (ℕ × ℤ)) (at : SimAt)
    → arrives scene (bare_setting s) w due at ≡ arrives scene s w due at
arrives_bare scene s w due at = λ i.
    option_and_then
    (λ (next : ℕ × ℤ).
    if int_eq next.1 w.time
    then option_and_then (λ (raw : Raw). comes (Arrive next.0 raw) (after_arrival scene next.0 at))
    (option_and_then (λ f. raws_bare s i w f.link (other_of f.by)) (w.frame next.0))
    else None)
    due

ticks_bare : (s : Setting) (w : WorldAt) (at : SimAt) → ticks (bare_setting s) w at ≡ ticks s w at
ticks_bare s w at = λ i. option_map (tick_of s w at) (find (ticks_now w at) (nodes_bare s i))

-- how much time passes
abbrev passed : SceneAt → Setting → WorldAt → Option (ℕ × ℤ) → SimAt → List ℕ → ℤ
passed scene s w due at nodes =
    next_moment w.time
    (map at.tick_at (filter (λ n. (w.clock n).up) nodes) ++ (due_times due ++ (map (fault_time s) at.faults ++ (end_time scene s ∷ []))))
    -ℤ w.time

passes_bare : (scene : SceneAt) (s : Setting) (w : WorldAt) (due : Option (ℕ × ℤ)) (at : SimAt)
    → passes scene (bare_setting s) w due at ≡ passes scene s w due at
passes_bare scene s w due at = λ i.
    if is_over scene s w then None
    else comes
    (Pass (passed scene s w due at (nodes_bare s i))
    (record {
      items = map
          (λ n. if (w.clock n).up
          then drift_at (passed scene s w due at (nodes_bare s i))
          (held_to (rates_bare s i w n) (own_rate (free_of scene n) (dac_of (node_setting_of s n) (w.node n)) s.cfg.bias))
          else pos 0)
          (nodes_bare s i);
    })
    (record { items = map (λ k. (pos 0, pos 0)) (from_on (links_count s i) 0) }))
    at

next_bare : (scene : SceneAt) (s : Setting) (w : WorldAt) (due : Option (ℕ × ℤ)) (at : SimAt)
    → next_of scene (bare_setting s) w due at ≡ next_of scene s w due at
next_bare scene s w due at = λ i. first_of (
    begins_bare scene s w at i
    ∷ (fails_bare scene s w at i
    ∷ (samples_bare scene s w (rest_of s w at) i
    ∷ (departs_bare s w (rest_of s w at) i
    ∷ (delivers (rest_of s w at)
    ∷ (arrives_bare scene s w due (rest_of s w at) i ∷ (ticks_bare s w (rest_of s w at) i ∷ (passes_bare scene s w due (rest_of s w at) i ∷ [])))))))
    )

gives_bare : (scene : SceneAt) (s : Setting) (w : WorldAt) (at : SimAt) (next : Option Next) → Gives scene s w at next → Gives scene (bare_setting s) w at next
gives_bare scene s w at next g = record { due = g.due; first = g.first; next = g.next ∙ sym (next_bare scene s w g.due at) }

-- Runs

pub gives_after : (scene : SceneAt) (s : Setting) (events : List Happened) (at : SimAt) (next : Option Next) → Gives scene s (world_after s events) at next →
    Gives scene (bare_setting s) (world_after (bare_setting s) events) at next
gives_after scene s events at next g =
    subst (λ (w : WorldAt). Gives scene (bare_setting s) w at next) (sym (after_bare s events)) (gives_bare scene s (world_after s events) at next g)

run_bare : (scene : SceneAt) (s : Setting) (seed : ℕ) (events : List Happened) (at : SimAt) → IsSimRun scene s seed events at
    → IsSimRun scene (bare_setting s) seed events at
run_bare scene s seed [] at p = p
run_bare scene s seed (h ∷ before) at p =
    (p.0, run_bare scene s seed before p.0 p.1, gives_after scene s before p.0 (Some (record { event = h.event; at = at })) p.2)

changes_bare : (s : Setting) (scene : SceneAt) (lines : List (List ℕ)) (last : SceneAt) → Changes s.cfg scene lines last
    → Changes (bare_cfg s.cfg) scene lines last
changes_bare s scene [] last p = p
changes_bare s scene (line ∷ lines) last p = (p.0, scene_bare s.cfg scene line ∙ p.1, changes_bare s p.0 lines last p.2)

pub said_bare : (s : Setting) (lines : List (List ℕ)) (scene : SceneAt) → IsScenario s lines scene → IsScenario (bare_setting s) lines scene
said_bare s lines scene p =
    subst (λ (first : SceneAt). Changes (bare_cfg s.cfg) first lines scene) (sym (new_scene_bare s.cfg)) (changes_bare s (new_scene s.cfg) lines scene p)

simulates_bare : (s : Setting) (seed : ℕ) (lines : List (List ℕ)) → Simulates s seed lines → Simulates (bare_setting s) seed lines
simulates_bare s seed lines p = record {
  scene = p.scene;
  said = said_bare s lines p.scene p.said;
  events = p.events;
  at = p.at;
  simulated = record {
    run = run_bare p.scene s seed p.events p.at p.simulated.run;
    said = p.simulated.said;
    answered = answered_bare s p.events p.simulated.answered;
    count = p.simulated.count;
  };
}

-- What is written

printed_bare : (s : Setting) → printed_lines (bare_setting s) ≡ printed_lines s
printed_bare s = λ i w step.
    flat_map
    (λ o. if is_printed o
    then output_line_of (name_bare s.cfg step.node i) (w.node step.node).ticks o (pos (path_bare s.cfg step.node i)) (Some (w.clock step.node).off)
    else [])
    step.outs

lines_bare : (s : Setting) (events : List Happened) → sim_lines (bare_setting s) events ≡ sim_lines s events
lines_bare s [] = refl
lines_bare s (h ∷ before) =
    ap₂ (λ (earlier lines : List ℕ). earlier ++ lines) (lines_bare s before)
    (λ i. flat_map (printed_bare s i (after_bare s (h ∷ before) i)) (steps_at_bare s before h i))

tracked_bare : (s : Setting) (n : ℕ) (events : List Happened) → tracked (bare_setting s) n events ≡ tracked s n events
tracked_bare s n [] = refl
tracked_bare s n (h ∷ before) =
    ap₂ (λ (newest earlier : List ℤ). newest ++ earlier)
    (λ i. offsets_in (after_bare s (h ∷ before) i) n (steps_at_bare s before h i)) (tracked_bare s n before)

sum_bare : (s : Setting) (events : List Happened) → node_sum (bare_setting s) events ≡ node_sum s events
sum_bare s events = λ i n.
    sum_line_of (name_bare s.cfg n i) ((after_bare s events i).node n).ticks (count_of (tracked_bare s n events i)) (worst_of (tracked_bare s n events i))
    (pos (path_bare s.cfg n i)) (state_of (node_setting_of s n) ((after_bare s events i).node n))

sums_bare : (s : Setting) (events : List Happened) → sum_lines (bare_setting s) events ≡ sum_lines s events
sums_bare s events = λ i. flat_map (sum_bare s events i) (nodes_bare s i)

-- What is expected

pub refuses_bare : (s : Setting) (lines : List (List ℕ)) (line last : List ℕ) (refusal : Refusal) → SimRefuses s lines line refusal last
    → SimRefuses (bare_setting s) lines line refusal last
refuses_bare s lines line last refusals.BadTrace h = (h.0, said_bare s lines h.0 h.1, h.2, scene_bare s.cfg h.0 line ∙ h.3, h.4)
refuses_bare s lines line last refusals.Broken h = h

breaks_bare : (s : Setting) (seed : ℕ) (lines : List (List ℕ)) (status : Status) (last : List ℕ) → SimBreaks s seed lines status last
    → SimBreaks (bare_setting s) seed lines status last
unfolding simulates_bare
breaks_bare s seed lines TooLarge last h = (
  simulates_bare s seed lines h.0,
  record {
    next = h.1.next;
    comes = gives_after h.0.scene s h.0.events h.0.at (Some h.1.next) h.1.comes;
    number = h.1.number;
  },
  h.2 ∙ ap (λ (l : List ℕ). l ++ large_line (length h.0.events + 1)) (sym (lines_bare s h.0.events)),
)
breaks_bare s seed lines OutOfMemory last h = (simulates_bare s seed lines h.0, h.1 ∙ sym (lines_bare s h.0.events))
breaks_bare s seed lines _ last h = absurd h

closes_bare : (s : Setting) (seed : ℕ) (lines : List (List ℕ)) (last : List ℕ) → SimCloses s seed lines last → SimCloses (bare_setting s) seed lines last
unfolding simulates_bare
closes_bare s seed lines last h = (
  simulates_bare s seed lines h.0,
  gives_after h.0.scene s h.0.events h.0.at None h.1,
  h.2 ∙ ap₂ (λ (lines sums : List ℕ). lines ++ sums) (sym (lines_bare s h.0.events)) (sym (sums_bare s h.0.events)),
)

pub bare_simulation : (s : Setting) (seed : ℕ) (lines : List (List ℕ)) (status : Status) (octets : List ℕ)
    → RecordsAnswer (simulation_of s seed) lines status octets → RecordsAnswer (simulation_of (bare_setting s) seed) lines status octets
bare_simulation s seed = due_so (simulation_of s seed) (simulation_of (bare_setting s) seed) (record {
  accepts = λ lines text h. (h.0, said_bare s lines h.0 h.1, h.2);
  refuses = refuses_bare s;
  closes = closes_bare s seed;
  breaks_off = breaks_bare s seed;
})
