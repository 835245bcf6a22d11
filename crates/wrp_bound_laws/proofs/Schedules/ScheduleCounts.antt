-- The counts of a port's schedule while it stays open: its ticks, and the messages of a kind, one for each fixed number
-- of ticks.
use Rattle.std.proofs.Common.{◌≡◌, ◌∙◌, refl, ap, sym, ℕ, ◌+◌, ◌*◌, ◌/◌, ◌%◌, ◌<◌, ◌≤◌, ◌==◌, Bool, true, false, if◌then◌else◌, List, ◌∷◌, Option, None, Some, arith}
use Rattle.std.proofs.Math.Nat.{zero-mod, div-add-mod, mul-le-mul_left, lt_of_mul-lt-mul_left}
use Rattle.std.proofs.lemmas.Bool.{eqb-true, and_parts}
use Rattle.wrp_base.specs.declared.link.Role.{Role}
use Rattle.wrp_base.specs.declared.link.Role.TheVariants.{Master, Slave}
use Rattle.wrp_base.proofs.Naturals.{turn_mod}
use Rattle.wrp_link.specs.declared.interface.LinkIn.{LinkIn}
use Rattle.wrp_link.specs.declared.interface.LinkIn.TheVariants as link
use Rattle.wrp_link.specs.LinkAt.{LinkAt}
use Rattle.wrp_port.specs.declared.interface.PortIn.{PortIn}
use Rattle.wrp_port.specs.declared.interface.PortIn.TheVariants.{Msg, Lease, Tick, Sent, Carrier, Sample, Chain, Reset}
use Rattle.wrp_port.specs.declared.interface.Sched.{Sched}
use Rattle.wrp_port.specs.declared.line.Rest.{Rest}
use Rattle.wrp_port.specs.declared.line.Turns.{Turns}
use Rattle.wrp_port.specs.declared.setting.Setting.{Setting}
use Rattle.wrp_port.specs.Hearing.{is_open}
use Rattle.wrp_port.specs.History.{is_due_in, rest_after, link_by, link_inputs, link_of, one_more_where, sent_each, ticks_open, ticks_told, to_link, with_input}
use Rattle.wrp_port.specs.LineAfter.{first_turns, is_due, next_turns, ticked}
use Rattle.wrp_bound_laws.proofs.Schedules.ScheduleLinks.{IsNoTickThere, was_open}
use Rattle.wrp_bound_laws.proofs.Schedules.ScheduleTold.{IsAside, KeptIn}

-- The kinds that are stamped: a master's Sync and a slave's Delay_Req

-- the number of ticks from one to the next
abbrev pub every_of : Role → Sched → ℕ
every_of Master sched = sched.sync
every_of Slave sched = sched.delay

abbrev pub turn_of : Role → Turns → ℕ
turn_of Master turns = turns.sync
turn_of Slave turns = turns.delay

-- one is due on a line
abbrev pub is_due_on : Role → Rest → Bool
is_due_on r line = is_due line.link (turn_of r line.turns)

abbrev turns_by : Sched → ℕ → Turns
turns_by sched k = record { announce = k % sched.announce; sync = k % sched.sync; delay = k % sched.delay }

turn_ticked : (r : Role) (sched : Sched) (k : ℕ) (now was : Bool) →
    turn_of r (if now then (if was then next_turns sched (turns_by sched k) else first_turns) else first_turns) ≡ (if now then (if was then k + 1 else 0) else 0) % every_of r sched
turn_ticked Master sched k true true = turn_mod sched.sync k
turn_ticked Master sched k true false = sym (zero-mod sched.sync)
turn_ticked Master sched k false was = sym (zero-mod sched.sync)
turn_ticked Slave sched k true true = turn_mod sched.delay k
turn_ticked Slave sched k true false = sym (zero-mod sched.delay)
turn_ticked Slave sched k false was = sym (zero-mod sched.delay)

-- the turn that a tick finds
pub due_in : (r : Role) (set : Setting) (told : List PortIn) (locked certain : Bool) → is_due_on r (ticked set (rest_after set told) locked) ≡ is_due_in set (every_of r set.sched) (Tick locked certain ∷ told)
due_in r set told locked certain =
    let next : LinkAt = link_of set (Tick locked certain ∷ told) in
    ap (is_due next) (turn_ticked r set.sched (ticks_open set told) (is_open next) (is_open (link_of set told)))

-- if one is due the port is open, and the ticks are a multiple
pub due_at : (l : LinkAt) (turn : ℕ) → is_due l turn ≡ true → (is_open l ≡ true) × (turn ≡ 0)
due_at l turn e =
    let it : (is_open l ≡ true) × ((turn == 0) ≡ true) = and_parts (is_open l) (turn == 0) e in
    (it.0, eqb-true turn 0 it.1)

-- Since a message of the kind

-- this many ticks later: at most one message for every `every` ticks
pub record Gone (set : Setting) (every t0 s0 d : ℕ) (told : List PortIn) : Type 0 where
  pub more : ℕ
  pub ticks : ticks_open set told ≡ t0 + d
  pub sent : sent_each every set told ≡ s0 + more
  pub few : more * every ≤ d

-- while the port is open
abbrev pub Goes : Setting → (every t0 s0 d : ℕ) → List PortIn → Type 0
Goes set every t0 s0 d told = is_open (link_of set told) ≡ true → Gone set every t0 s0 d told

-- an input that is no tick changes nothing
same_gone : (set : Setting) (every t0 s0 d : ℕ) (told later : List PortIn) → ticks_open set later ≡ ticks_open set told → sent_each every set later ≡ sent_each every set told → Gone set every t0 s0 d told → Gone set every t0 s0 d later
same_gone set every t0 s0 d told later t s g = record { more = g.more; ticks = t ∙ g.ticks; sent = s ∙ g.sent; few = g.few }

ticks_kept : (set : Setting) (inputs : List LinkIn) (o : Option LinkIn) (k : ℕ) → is_open (link_by set (with_input o inputs)) ≡ true → ticks_told (link_by set inputs) o k ≡ k
ticks_kept set inputs None k e = refl
ticks_kept set inputs (Some input) k e = ap (λ (b : Bool). if b then k else 0) e

gone_on : (set : Setting) (every t0 s0 d : ℕ) (told : List PortIn) (input : PortIn) → IsNoTickThere input → is_open (link_of set (input ∷ told)) ≡ true → Gone set every t0 s0 d told → Gone set every t0 s0 d (input ∷ told)
gone_on set every t0 s0 d told (Msg m stamp tick) none e g =
    same_gone set every t0 s0 d told (Msg m stamp tick ∷ told) (ticks_kept set (link_inputs set told) (to_link set (link_of set told) (Msg m stamp tick)) (ticks_open set told) e) refl g
gone_on set every t0 s0 d told (Carrier true own_module) none e g =
    same_gone set every t0 s0 d told (Carrier true own_module ∷ told) (ticks_kept set (link_inputs set told) (Some (link.CarrierUp own_module)) (ticks_open set told) e) refl g
gone_on set every t0 s0 d told (Carrier false own_module) none e g =
    same_gone set every t0 s0 d told (Carrier false own_module ∷ told) (ticks_kept set (link_inputs set told) (Some link.CarrierDown) (ticks_open set told) e) refl g
gone_on set every t0 s0 d told Lease none e g = same_gone set every t0 s0 d told (Lease ∷ told) refl refl g
gone_on set every t0 s0 d told (Sent delay seq stamp tick) none e g = same_gone set every t0 s0 d told (Sent delay seq stamp tick ∷ told) refl refl g
gone_on set every t0 s0 d told (Sample number phase) none e g = same_gone set every t0 s0 d told (Sample number phase ∷ told) refl refl g
gone_on set every t0 s0 d told (Chain news) none e g = same_gone set every t0 s0 d told (Chain news ∷ told) refl refl g
gone_on set every t0 s0 d told Reset none e g = absurd (let f : false ≡ true = e in cc)
gone_on set every t0 s0 d told (Tick locked certain) none e g = absurd none

pub goes_on : (set : Setting) (every t0 s0 d : ℕ) → 0 < set.link.quiet → KeptIn IsNoTickThere (Goes set every t0 s0 d)
goes_on set every t0 s0 d some told input none h e = gone_on set every t0 s0 d told input none e (h (was_open set told input some none e))

-- A tick

abbrev pub OpenGone : Setting → (every t0 s0 d : ℕ) → List PortIn → Type 0
OpenGone set every t0 s0 d told = (is_open (link_of set told) ≡ true) × Gone set every t0 s0 d told

pub aside_gone : (set : Setting) (every t0 s0 d : ℕ) → KeptIn IsAside (OpenGone set every t0 s0 d)
aside_gone set every t0 s0 d told Lease c h = (h.0, same_gone set every t0 s0 d told (Lease ∷ told) refl refl h.1)
aside_gone set every t0 s0 d told (Sample number phase) c h = (h.0, same_gone set every t0 s0 d told (Sample number phase ∷ told) refl refl h.1)
aside_gone set every t0 s0 d told (Chain news) c h = (h.0, same_gone set every t0 s0 d told (Chain news ∷ told) refl refl h.1)
aside_gone set every t0 s0 d told (Msg m stamp tick) c h = absurd c
aside_gone set every t0 s0 d told (Tick locked certain) c h = absurd c
aside_gone set every t0 s0 d told (Sent delay seq stamp tick) c h = absurd c
aside_gone set every t0 s0 d told (Carrier up own_module) c h = absurd c
aside_gone set every t0 s0 d told Reset c h = absurd c

-- a multiple that lies past this many steps is at least one step further
pub next_multiple : (every t0 d more : ℕ) → t0 % every ≡ 0 → (t0 + (d + 1)) % every ≡ 0 → more * every ≤ d → (more + 1) * every ≤ d + 1
next_multiple every t0 d more e f few =
    let a : ℕ = t0 / every in
    let b : ℕ = (t0 + (d + 1)) / every in
    let first : every * a + t0 % every ≡ t0 = div-add-mod t0 every in
    let last : every * b + (t0 + (d + 1)) % every ≡ t0 + (d + 1) = div-add-mod (t0 + (d + 1)) every in
    let split : every * (more + a) ≡ more * every + every * a = grind (arith) in
    let below : every * (more + a) < every * b = omega (arith, first, last, split, e, f, few) in
    let past : more + a < b = lt_of_mul-lt-mul_left every below in
    let far : every * (more + a + 1) ≤ every * b = mul-le-mul_left every (omega (arith, past)) in
    let parts : every * (more + a + 1) ≡ (more + 1) * every + every * a = grind (arith) in
    omega (arith, first, last, far, parts, e, f)

-- whether or not one is sent
one_sent : (n s0 more : ℕ) → n ≡ s0 + more → n + 1 ≡ s0 + (more + 1)
one_sent n s0 more e = omega (arith, e)

ticks_where : (set : Setting) (every t0 s0 d : ℕ) (told later : List PortIn) (due : Bool) → (due ≡ true → (t0 + (d + 1)) % every ≡ 0) → t0 % every ≡ 0 → ticks_open set later ≡ t0 + (d + 1) →
    sent_each every set later ≡ one_more_where due (sent_each every set told) → Gone set every t0 s0 d told → Gone set every t0 s0 (d + 1) later
ticks_where set every t0 s0 d told later true whole begins t s g = record {
  more = g.more + 1;
  ticks = t;
  sent = s ∙ one_sent (sent_each every set told) s0 g.more g.sent;
  few = next_multiple every t0 d g.more begins (whole refl) g.few;
}
ticks_where set every t0 s0 d told later false whole begins t s g = record { more = g.more; ticks = t; sent = s ∙ g.sent; few = omega (arith, g.few) }

-- one more tick
pub one_tick : (set : Setting) (every t0 s0 d : ℕ) (told : List PortIn) (locked certain : Bool) → OpenGone set every t0 s0 d told → is_open (link_of set (Tick locked certain ∷ told)) ≡ true →
    ticks_open set (Tick locked certain ∷ told) ≡ t0 + (d + 1)
one_tick set every t0 s0 d told locked certain h e =
    let turned : (if is_open (link_of set told) then ticks_open set told + 1 else 0) ≡ ticks_open set told + 1 = ap (λ (b : Bool). if b then ticks_open set told + 1 else 0) h.0 in
    let now : ticks_open set (Tick locked certain ∷ told) ≡ (if is_open (link_of set told) then ticks_open set told + 1 else 0) =
    ap (λ (b : Bool). if b then (if is_open (link_of set told) then ticks_open set told + 1 else 0) else 0) e in
    let was : ticks_open set told ≡ t0 + d = h.1.ticks in
    let more : ticks_open set told + 1 ≡ t0 + (d + 1) = omega (arith, was) in
    now ∙ turned ∙ more

pub ticks_on : (set : Setting) (every t0 s0 d : ℕ) → t0 % every ≡ 0 → (told : List PortIn) (locked certain : Bool) → OpenGone set every t0 s0 d told → Goes set every t0 s0 (d + 1) (Tick locked certain ∷ told)
ticks_on set every t0 s0 d begins told locked certain h e =
    let later : List PortIn = Tick locked certain ∷ told in
    let count : ticks_open set later ≡ t0 + (d + 1) = one_tick set every t0 s0 d told locked certain h e in
    ticks_where set every t0 s0 d told later (is_due_in set every later)
    (λ due. sym (ap (λ n. n % every) count) ∙ (due_at (link_of set later) (ticks_open set later % every) due).1) begins count refl h.1
