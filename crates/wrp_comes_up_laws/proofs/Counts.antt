-- The ticks of a port's schedule, while the port is open.
use Rattle.std.proofs.Common.{◌≡◌, ◌∙◌, refl, ap, ℕ, ◌+◌, ◌<◌, Bool, true, false, if◌then◌else◌, List, ◌∷◌, Option, None, Some}
use Rattle.wrp_link.specs.declared.interface.LinkIn.{LinkIn}
use Rattle.wrp_link.specs.declared.interface.LinkIn.TheVariants as link_in
use Rattle.wrp_node.specs.NodeAt.{NodeAt, certain_of, locked_of}
use Rattle.wrp_node.specs.NodeStep.{servo_ticked}
use Rattle.wrp_port.specs.declared.interface.PortIn.{PortIn}
use Rattle.wrp_port.specs.declared.interface.PortIn.TheVariants.{Msg, Lease, Tick as PortTick, Sent, Carrier, Sample, Chain, Reset}
use Rattle.wrp_port.specs.declared.setting.Setting.{Setting as PortSetting}
use Rattle.wrp_port.specs.Hearing.{is_open}
use Rattle.wrp_port.specs.History.{link_by, link_inputs, link_of as link_told, ticks_open, ticks_told, to_link, with_input}
use Rattle.wrp_course.specs.declared.event.Event.TheVariants.{Tick}
use Rattle.wrp_course.specs.Given.{world_step}
use Rattle.wrp_course.specs.Run.{Happened, world_after}
use Rattle.wrp_course.specs.Runs.{IsNetwork}
use Rattle.wrp_course.specs.Setting.{Setting, node_setting_of}
use Rattle.wrp_course.specs.WorldAt.{WorldAt}
use Rattle.wrp_bound_laws.proofs.Nodes.Inputs.{IsNoTick, IsNoTickOf, no_tick_to, node_kept}
use Rattle.wrp_bound_laws.proofs.Schedules.ScheduleLinks.{IsNoTickThere, was_open}
use Rattle.wrp_bound_laws.proofs.Schedules.ScheduleSince.{PortOf, set_at, some_quiet, ticked_told, told_in, told_then}
use Rattle.wrp_bound_laws.proofs.Schedules.ScheduleTold.{IsAside, KeptIn, aside_kept, told_before, told_kept}

-- this many ticks since quiet time ended, if the port is open
abbrev pub Counts : PortSetting → ℕ → List PortIn → Type 0
Counts set c told = is_open (link_told set told) ≡ true → ticks_open set told ≡ c

ticks_kept :
    (set : PortSetting) (inputs : List LinkIn) (o : Option LinkIn) (k : ℕ) → is_open (link_by set (with_input o inputs)) ≡ true →
    ticks_told (link_by set inputs) o k ≡ k
ticks_kept set inputs None k e = refl
ticks_kept set inputs (Some input) k e = ap (λ (b : Bool). if b then k else 0) e

-- an input that is no tick leaves them
same_count :
    (set : PortSetting) (c : ℕ) (told : List PortIn) (input : PortIn) → IsNoTickThere input → is_open (link_told set (input ∷ told)) ≡ true →
    ticks_open set told ≡ c → ticks_open set (input ∷ told) ≡ c
same_count set c told (Msg m stamp tick) none e h =
    ticks_kept set (link_inputs set told) (to_link set (link_told set told) (Msg m stamp tick)) (ticks_open set told) e ∙ h
same_count set c told (Carrier true own_module) none e h =
    ticks_kept set (link_inputs set told) (Some (link_in.CarrierUp own_module)) (ticks_open set told) e ∙ h
same_count set c told (Carrier false own_module) none e h = ticks_kept set (link_inputs set told) (Some link_in.CarrierDown) (ticks_open set told) e ∙ h
same_count set c told Lease none e h = h
same_count set c told (Sent delay seq stamp tick) none e h = h
same_count set c told (Sample number phase) none e h = h
same_count set c told (Chain news) none e h = h
same_count set c told Reset none e h = absurd (let f : false ≡ true = e in cc)
same_count set c told (PortTick locked certain) none e h = absurd none

counts_kept : (set : PortSetting) (c : ℕ) → 0 < set.link.quiet → KeptIn IsNoTickThere (Counts set c)
counts_kept set c some told input none h e = same_count set c told input none e (h (was_open set told input some none e))

-- before a tick of an open port
abbrev OpenCount : PortSetting → ℕ → List PortIn → Type 0
OpenCount set c told = (is_open (link_told set told) ≡ true) × (ticks_open set told ≡ c)

aside_count : (set : PortSetting) (c : ℕ) → KeptIn IsAside (OpenCount set c)
aside_count set c told Lease a h = h
aside_count set c told (Sample number phase) a h = h
aside_count set c told (Chain news) a h = h
aside_count set c told (Msg m stamp tick) a h = absurd a
aside_count set c told (PortTick locked certain) a h = absurd a
aside_count set c told (Sent delay seq stamp tick) a h = absurd a
aside_count set c told (Carrier up own_module) a h = absurd a
aside_count set c told Reset a h = absurd a

-- and after that tick
ticks_on : (set : PortSetting) (c : ℕ) (told : List PortIn) (locked certain : Bool) → OpenCount set c told →
    Counts set (c + 1) (PortTick locked certain ∷ told)
ticks_on set c told locked certain h e =
    ap (λ (b : Bool). if b then (if is_open (link_told set told) then ticks_open set told + 1 else 0) else 0) e
    ∙ ap (λ (b : Bool). if b then ticks_open set told + 1 else 0) h.0
    ∙ ap (λ n. n + 1) h.1

-- In a world

-- the ticks of the schedule of a port
abbrev pub CountsAt : Setting → PortOf → ℕ → WorldAt → Type 0
CountsAt s q c w = Counts (set_at s q) c (told_in q w)

abbrev pub OpensAt : Setting → PortOf → WorldAt → Type 0
OpensAt s q w = is_open (link_told (set_at s q) (told_in q w)) ≡ true

-- what it was given before its own tick
pub open_then :
    (s : Setting) (q : PortOf) (c : ℕ) (w : WorldAt) → OpensAt s q w → CountsAt s q c w →
    (is_open (link_told (set_at s q) (told_then s q w)) ≡ true) × (ticks_open (set_at s q) (told_then s q w) ≡ c)
open_then s q c w takes h =
    told_before (OpenCount (set_at s q) c) (aside_count (set_at s q) c) (node_setting_of s q.node) (w.node q.node) q.port (takes, h takes)

pub calm_counts :
    (s : Setting) (q : PortOf) (c : ℕ) (h : Happened) (before : List Happened) → IsNetwork s → IsNoTickOf q.node h.event →
    CountsAt s q c (world_after s before) → CountsAt s q c (world_after s (h ∷ before))
calm_counts s q c h before net none it =
    node_kept (λ (m : NodeAt). Counts (set_at s q) c (m.told q.port)) IsNoTick s h.says h.answer (world_after s before) h.event q.node
    (λ t m free g. told_kept (Counts (set_at s q) c) (counts_kept (set_at s q) c (some_quiet s q net)) (node_setting_of s q.node) t m q.port free g)
    (no_tick_to q.node h.event none) it

pub tick_counts :
    (s : Setting) (q : PortOf) (c : ℕ) (h : Happened) (before : List Happened) → IsNetwork s → OpensAt s q (world_after s before) →
    CountsAt s q c (world_after s before) → CountsAt s q (c + 1) (world_step s h.says h.answer (world_after s before) (Tick q.node))
tick_counts s q c h before net takes it =
    let w : WorldAt = world_after s before in
    let node : NodeAt = (servo_ticked (node_setting_of s q.node) (w.node q.node)).node in
    ticked_told (Counts (set_at s q) (c + 1)) (aside_kept (Counts (set_at s q) (c + 1)) (counts_kept (set_at s q) (c + 1) (some_quiet s q net)))
    s q h.says h.answer w q.node refl
    (ticks_on (set_at s q) c (told_then s q w) (locked_of (node_setting_of s q.node) node) (certain_of (node_setting_of s q.node) node)
    (open_then s q c w takes it))
