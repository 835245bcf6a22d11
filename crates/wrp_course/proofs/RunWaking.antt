-- In which event the carrier of a port came, and how long ago, after every event of every run.
use Rattle.std.proofs.Common.{◌≡◌, inl, inr, ◌∙◌, refl, ap, ap₂, sym, subst, ℕ, ◌==◌, ◌&&◌, ℤ, ◌≤ℤ◌, Bool, true, false, if◌then◌else◌, List, [], ◌∷◌, ◌++◌, Some, Result}
use Rattle.std.proofs.lemmas.Bool.{cases_Bool}
use Rattle.std.proofs.lemmas.Bool.Decides.{eqb_tells}
use Rattle.arrayvec.specs.ArrayVec.{ArrayVec as Items}
use Rattle.wrp_base.specs.declared.link.Role.{Role}
use Rattle.wrp_base.specs.declared.link.Role.TheVariants.{Master, Slave}
use Rattle.wrp_base.specs.declared.message.PtpMsg.{PtpMsg}
use Rattle.wrp_network.specs.declared.network.LinkCfg.{LinkCfg}
use Rattle.wrp_network.specs.Network.{End}
use Rattle.wrp_base.proofs.Booleans.{not_both}
use Rattle.wrp_base.proofs.Integers.{int_le_self, int_le_trans}
use Rattle.wrp_base.proofs.Lists.{head_and_tail}
use Rattle.wrp_bounds.specs.Times.{frame_life, shortest_tick}
use Rattle.wrp_frame.specs.declared.fault.FrameFault.{FrameFault}
use Rattle.wrp_handshake_laws.specs.Laws.{IsLongAgo, QuietTimeOutlivesFrames}
use Rattle.wrp_link.specs.LinkAt.{LinkAt}
use Rattle.wrp_node.specs.declared.interface.Input.TheVariants.{Tick as TickInput}
use Rattle.wrp_node.specs.LinkNews.{StepGivesLinks}
use Rattle.wrp_node.specs.NodeAt.{numbers_of}
use Rattle.wrp_node.specs.Sends.{SignalsAreOfLink}
use Rattle.wrp_node.proofs.Sends.{not_equal}
use Rattle.wrp_course.specs.declared.clocks.ClockState.{ClockState}
use Rattle.wrp_course.specs.declared.event.Event.{Event}
use Rattle.wrp_course.specs.declared.event.Event.TheVariants.{Pass, Tick, Sample, Depart, Arrive, Deliver, Noise, Down, Up, Cut, Join}
use Rattle.wrp_course.specs.declared.event.Swap.{Swap}
use Rattle.wrp_course.specs.EventAt.{IsEventOf}
use Rattle.wrp_course.specs.Given.{comes_from, given_by, given_plain, goes_from, world_step}
use Rattle.wrp_course.specs.LinkEnds.{ends_at, port_at}
use Rattle.wrp_course.specs.Moved.{moved, waiting_at}
use Rattle.wrp_course.specs.PortsWakeLate.{AwakePortsLeftLongAgo, AwakePortsWereLitLongAgo, MayLight, port_after}
use Rattle.wrp_course.specs.Premises.{Accepts}
use Rattle.wrp_course.specs.Run.{AllAccepted, Happened, world_after}
use Rattle.wrp_course.specs.RunLaws.{TicksAreApart, TimeNeverFalls}
use Rattle.wrp_course.specs.Runs.{AllEvents, IsNetwork, IsRun}
use Rattle.wrp_course.specs.SameHandshake.{CarriersAreTheLinks, LinksCanBe}
use Rattle.wrp_course.specs.Setting.{Setting, end_at, end_of, link_of, place_of}
use Rattle.wrp_course.specs.WorldAt.{WorldAt, ends_are_up, has_carrier}
use Rattle.wrp_course.proofs.RunChanges.{cut_carrier, cut_less, join_carrier, was_up}
use Rattle.wrp_course.proofs.RunGifts.{AllGiven, all_if, comes_all, delivered_all, goes_all, ports_all, sent_all}
use Rattle.wrp_course.proofs.RunGiven.{end_is}
use Rattle.wrp_course.proofs.RunHanded.{not_early}
use Rattle.wrp_course.proofs.RunLinks.{IsDark}
use Rattle.wrp_course.proofs.RunMoves.{moved_ticked, ticked_after}
use Rattle.wrp_course.proofs.RunPorts.{link_dark}
use Rattle.wrp_course.proofs.RunQuiet.{EndSince, SinceLit, all_given_since, given_since, later_time, long_since, starts_later}
use Rattle.wrp_course.proofs.RunSettled.{all_given_carrier, passed_carrier, sampled_carrier}
use Rattle.wrp_course.proofs.RunTicks.{NoTick}
use Rattle.wrp_course.proofs.RunTimes.{all_given_time, moved_time}

-- The time of a node's last tick

ticks_past : TimeNeverFalls → TicksAreApart → (s : Setting) (events : List Happened) (n : ℕ) → IsRun s events → ((world_after s events).clock n).ticked ≤ℤ (world_after s events).time
ticks_past rises apart s [] n run = int_le_self (world_after s []).time
ticks_past rises apart s (h ∷ before) n run =
    let older : IsRun s before = record { network = run.network; each = run.each.1; accepted = run.accepted.1 } in
    let now : ℤ = (world_after s (h ∷ before)).time in
    elim (apart s h before n run) [
      | inl same ↦
          subst (λ t. t ≤ℤ now) (sym same)
          (int_le_trans ((world_after s before).clock n).ticked (world_after s before).time now (ticks_past rises apart s before n older) (rises s (h ∷ []) before run))
      | inr new ↦ subst (λ t. t ≤ℤ now) (sym new.0) (int_le_self now)
    ]

tick_where : (b : Bool) (old time : ℤ) → old ≤ℤ time → (old ≤ℤ (if b then time else old)) × ((if b then time else old) ≤ℤ time)
tick_where true old time h = (h, int_le_self time)
tick_where false old time h = (int_le_self old, h)

tick_after : (w : WorldAt) (e : Event) (n : ℕ) → (w.clock n).ticked ≤ℤ w.time → ((w.clock n).ticked ≤ℤ ticked_after w e n) × (ticked_after w e n ≤ℤ w.time)
tick_after w (Up m off swaps) n h = tick_where (n == m) (w.clock n).ticked w.time h
tick_after w _ n h = (int_le_self (w.clock n).ticked, h)

-- A port over an event

moved_since : (s : Setting) (w : WorldAt) (e : Event) (k : ℕ) (r : Role) (end : End) (lit : ℤ) → IsEventOf s.cfg e → EndSince s w k r end lit → EndSince s (moved s w e) k r end lit
moved_since s w e k r end lit event h =
    let after : ((w.clock end.node).ticked ≤ℤ ticked_after w e end.node) × (ticked_after w e end.node ≤ℤ w.time) = tick_after w e end.node h.past in
    subst (λ t. SinceLit (frame_life s.cfg) (shortest_tick s.cfg) (moved s w e).time lit (port_at s w k r end).link t) (sym (moved_ticked s w e end.node))
    (later_time (frame_life s.cfg) (shortest_tick s.cfg) w.time (moved s w e).time lit (port_at s w k r end).link (ticked_after w e end.node)
    (starts_later (frame_life s.cfg) (shortest_tick s.cfg) w.time lit (port_at s w k r end).link (w.clock end.node).ticked (ticked_after w e end.node) h after.0 after.1)
    (moved_time s w e event))

abbrev IsNoTick : Event → Type 0
IsNoTick (Tick n) = ⊥
IsNoTick _ = Unit {0}

no_ticks : (s : Setting) (w v : WorldAt) (says : Result PtpMsg FrameFault) (e : Event) → IsNoTick e → AllGiven NoTick (given_by s w v says e)
no_ticks s w v says (Pass dt drifts fibres) h = tt
no_ticks s w v says (Tick n) h = absurd h
no_ticks s w v says (Sample n base bits) h = (tt, tt)
no_ticks s w v says (Depart n p stamp) h = sent_all NoTick (λ q seq delay t. tt) n p stamp (w.clock n).samples (waiting_at w (place_of s n p))
no_ticks s w v says (Arrive i raw) h = tt
no_ticks s w v says (Deliver i) h = delivered_all NoTick (λ p octets raw sample. tt) s (w.frame i)
no_ticks s w v says (Noise n p octets raw) h = (tt, tt)
no_ticks s w v says (Down n) h = ports_all NoTick s w (goes_from s) n (numbers_of (s.set n)) (goes_all NoTick (λ p. tt) s)
no_ticks s w v says (Up n off swaps) h = (tt, ports_all NoTick s v (comes_from s v) n (numbers_of (s.set n)) (comes_all NoTick (λ p m. tt) s v))
no_ticks s w v says (Cut k) h = all_if NoTick (has_carrier s w k) (goes_from s k Master) (goes_all NoTick (λ p. tt) s k Master)
no_ticks s w v says (Join k ms sm) h = all_if NoTick (has_carrier s v k) (comes_from s v k Master) (comes_all NoTick (λ p m. tt) s v k Master)

step_since : StepGivesLinks → SignalsAreOfLink → (s : Setting) → IsNetwork s → (says : Result PtpMsg FrameFault) (y : ℤ) (w : WorldAt) (e : Event) (k : ℕ) (r : Role) (end : End) (lit : ℤ) → end_at s k r ≡ Some end →
    IsEventOf s.cfg e → Accepts s w says e → EndSince s w k r end lit → EndSince s (world_step s says y w e) k r end lit
step_since links signals s net says y w (Tick n) k r end lit is event a h =
    given_since links signals s net y (moved s w (Tick n)) (given_plain n TickInput) k r end lit is (not_early (w.clock n).up w.time (w.clock n).ticked (shortest_tick s.cfg) a.1.0 a.0)
    (moved_since s w (Tick n) k r end lit event h)
step_since links signals s net says y w e k r end lit is event a h =
    all_given_since links signals s net y (given_by s w (moved s w e) says e) (moved s w e) k r end lit is (no_ticks s w (moved s w e) says e tt) (moved_since s w e k r end lit event h)

all_since : StepGivesLinks → SignalsAreOfLink → (s : Setting) → IsNetwork s → (since older : List Happened) (k : ℕ) (r : Role) (end : End) (lit : ℤ) → end_at s k r ≡ Some end →
    AllEvents s.cfg (since ++ older) → AllAccepted s (since ++ older) → EndSince s (world_after s older) k r end lit → EndSince s (world_after s (since ++ older)) k r end lit
all_since links signals s net [] older k r end lit is each accepted h = h
all_since links signals s net (x ∷ since) older k r end lit is each accepted h =
    step_since links signals s net x.says x.answer (world_after s (since ++ older)) x.event k r end lit is each.0 accepted.0
    (all_since links signals s net since older k r end lit is each.1 accepted.1 h)

-- a port without its carrier
dark_since : (s : Setting) (w : WorldAt) (k : ℕ) (r : Role) (end : End) → (w.clock end.node).ticked ≤ℤ w.time → (port_at s w k r end).link.carrier ≡ false → EndSince s w k r end w.time
dark_since s w k r end past dark =
    let new : IsDark (port_at s w k r end).link = link_dark s w end.node end.port in
    record {
      past = past;
      lit_past = int_le_self w.time;
      calm = λ i c. absurd (not_both (port_at s w k r end).link.carrier c dark);
      awake = λ out. absurd (out (ap (λ (l : LinkAt). l.state) (new dark)));
    }

-- The event in which it came

up_away : (c d : ClockState) (m n : ℕ) → (m ≡ n → ⊥) → (if m == n then c else d).up ≡ d.up
up_away c d m n out = ap (λ b. (if b then c else d).up) (not_equal m n out)

up_elsewhere : (s : Setting) (w : WorldAt) (n : ℕ) (off : ℤ) (swaps : Items Swap) (k : ℕ) (link : LinkCfg) → link_of s k ≡ Some link → (link.upper ≡ n → ⊥) → (link.lower ≡ n → ⊥) →
    has_carrier s (moved s w (Up n off swaps)) k ≡ has_carrier s w k
up_elsewhere s w n off swaps k link is upper lower =
    let came : ClockState = record { up = true; off = off; ticked = w.time; samples = 0 } in
    ap (λ b. (w.fibre k).joined && b)
    (ap (ends_are_up (moved s w (Up n off swaps)).clock) is
    ∙ ap₂ (λ a b. a && b) (up_away came (w.clock link.upper) link.upper n upper) (up_away came (w.clock link.lower) link.lower n lower)
    ∙ sym (ap (ends_are_up w.clock) is))

lights : (s : Setting) (w : WorldAt) (e : Event) (k : ℕ) (link : LinkCfg) → link_of s k ≡ Some link → has_carrier s w k ≡ false → has_carrier s (moved s w e) k ≡ true → MayLight k link e
lights s w (Join l ms sm) k link is dark lit = elim (eqb_tells k l) [
  | inl x ↦ sym x.1
  | inr x ↦ absurd (not_both (has_carrier s w k) (sym (join_carrier s w l ms sm k x.1) ∙ lit) dark)
]
lights s w (Up n off swaps) k link is dark lit = elim (eqb_tells link.upper n) [
  | inl x ↦ inl (sym x.1)
  | inr x ↦ elim (eqb_tells link.lower n) [
    | inl z ↦ inr (sym z.1)
    | inr z ↦ absurd (not_both (has_carrier s w k) (sym (up_elsewhere s w n off swaps k link is x.1 z.1) ∙ lit) dark)
  ]
]
lights s w (Pass dt drifts fibres) k link is dark lit = absurd (not_both (has_carrier s w k) (sym (passed_carrier s w dt drifts fibres k) ∙ lit) dark)
lights s w (Sample n base bits) k link is dark lit = absurd (not_both (has_carrier s w k) (sym (sampled_carrier s w n base bits k) ∙ lit) dark)
lights s w (Down n) k link is dark lit = absurd (not_both (has_carrier s w k) (was_up s w n k lit) dark)
lights s w (Cut l) k link is dark lit =
    absurd (not_both (has_carrier s w k) (cut_less (k == l) (w.fibre k).joined (ends_are_up w.clock (link_of s k)) (sym (cut_carrier s w l k) ∙ lit)) dark)
lights s w (Tick n) k link is dark lit = absurd (not_both (has_carrier s w k) lit dark)
lights s w (Depart n p stamp) k link is dark lit = absurd (not_both (has_carrier s w k) lit dark)
lights s w (Arrive i raw) k link is dark lit = absurd (not_both (has_carrier s w k) lit dark)
lights s w (Deliver i) k link is dark lit = absurd (not_both (has_carrier s w k) lit dark)
lights s w (Noise n p octets raw) k link is dark lit = absurd (not_both (has_carrier s w k) lit dark)

-- no time passes in it
light_time : (s : Setting) (w : WorldAt) (e : Event) (k : ℕ) (link : LinkCfg) → MayLight k link e → (moved s w e).time ≡ w.time
light_time s w (Join l ms sm) k link h = refl
light_time s w (Up n off swaps) k link h = refl
light_time s w _ k link h = absurd h

-- the carrier came in one of these events
record CameBy (s : Setting) (k : ℕ) (r : Role) (link : LinkCfg) (events : List Happened) : Type 0 where
  since : List Happened
  event : Happened
  before : List Happened
  splits : events ≡ since ++ event ∷ before
  by_it : MayLight k link event.event
  dark : (port_after s k r link before).link.carrier ≡ false
  stood : (newer older : List Happened) → since ≡ newer ++ older → (port_after s k r link (older ++ event ∷ before)).link.carrier ≡ true

abbrev IsOn : Setting → ℕ → Role → LinkCfg → List Happened → Type 0
IsOn s k r link events = (port_after s k r link events).link.carrier ≡ true

stood_first : (P : List Happened → Type 0) (rest : List Happened) → P rest → (newer older : List Happened) → [] ≡ newer ++ older → P (older ++ rest)
stood_first P rest p [] older e = subst (λ l. P (l ++ rest)) e p
stood_first P rest p (x ∷ newer) older e = absurd (cc)

stood_more : (P : List Happened → Type 0) (h : Happened) (since rest : List Happened) → P (h ∷ (since ++ rest)) → ((newer older : List Happened) → since ≡ newer ++ older → P (older ++ rest)) →
    (newer older : List Happened) → h ∷ since ≡ newer ++ older → P (older ++ rest)
stood_more P h since rest p f [] older e = subst (λ l. P (l ++ rest)) e p
stood_more P h since rest p f (x ∷ newer) older e = f newer older (head_and_tail h x since (newer ++ older) e).1

came_by : CarriersAreTheLinks → (s : Setting) (events : List Happened) (k : ℕ) (r : Role) (link : LinkCfg) → IsRun s events → link_of s k ≡ Some link → IsOn s k r link events → CameBy s k r link events
came_by carriers s [] k r link run is on = absurd (not_both false (sym (carriers s [] k r link run is) ∙ on) refl)
came_by carriers s (h ∷ before) k r link run is on =
    let w : WorldAt = world_after s before in
    let older : IsRun s before = record { network = run.network; each = run.each.1; accepted = run.accepted.1 } in
    elim (cases_Bool (port_after s k r link before).link.carrier) [
      | inl stood ↦
          let it : CameBy s k r link before = came_by carriers s before k r link older is stood in
          record {
            since = h ∷ it.since;
            event = it.event;
            before = it.before;
            splits = ap (λ l. h ∷ l) it.splits;
            by_it = it.by_it;
            dark = it.dark;
            stood = stood_more (IsOn s k r link) h it.since (it.event ∷ it.before) (subst (λ l. IsOn s k r link (h ∷ l)) it.splits on) it.stood;
          }
      | inr dark ↦
          record {
            since = [];
            event = h;
            before = before;
            splits = refl;
            by_it =
                lights s w h.event k link is (sym (carriers s before k r link older is) ∙ dark)
                (sym (all_given_carrier s h.answer (given_by s w (moved s w h.event) h.says h.event) (moved s w h.event) k) ∙ sym (carriers s (h ∷ before) k r link run is) ∙ on);
            dark = dark;
            stood = stood_first (IsOn s k r link) (h ∷ before) on;
          }
    ]

-- The laws

older_run : (s : Setting) (newer older : List Happened) → IsRun s (newer ++ older) → IsRun s older
older_run s [] older run = run
older_run s (x ∷ newer) older run = older_run s newer older (record { network = run.network; each = run.each.1; accepted = run.accepted.1 })

pub awake_lit_long_ago : StepGivesLinks → SignalsAreOfLink → TimeNeverFalls → TicksAreApart → CarriersAreTheLinks → AwakePortsWereLitLongAgo
awake_lit_long_ago links signals rises apart carriers s events k r link run is awake =
    let end : End = end_of r link in
    let there : end_at s k r ≡ Some end = end_is s k r link is in
    let it : CameBy s k r link events = came_by carriers s events k r link run is awake.lit in
    let whole : IsRun s (it.since ++ it.event ∷ it.before) = subst (IsRun s) it.splits run in
    let lit : IsRun s (it.event ∷ it.before) = older_run s it.since (it.event ∷ it.before) whole in
    let older : IsRun s it.before = record { network = lit.network; each = lit.each.1; accepted = lit.accepted.1 } in
    let w : WorldAt = world_after s it.before in
    let v : WorldAt = moved s w it.event.event in
    let same : w.time ≡ (world_after s (it.event ∷ it.before)).time =
    sym (all_given_time s it.event.answer (given_by s w v it.event.says it.event.event) v ∙ light_time s w it.event.event k link it.by_it) in
    let now : EndSince s (world_after s (it.since ++ it.event ∷ it.before)) k r end w.time =
    all_since links signals s run.network it.since (it.event ∷ it.before) k r end w.time there whole.each whole.accepted
    (step_since links signals s run.network it.event.says it.event.answer w it.event.event k r end w.time there lit.each.0 lit.accepted.0
    (dark_since s w k r end (ticks_past rises apart s it.before end.node older) it.dark)) in
    record {
      since = it.since;
      event = it.event;
      before = it.before;
      splits = it.splits;
      lights = it.by_it;
      dark = it.dark;
      stood = it.stood;
      long =
          subst (λ t. IsLongAgo (frame_life s.cfg) (world_after s events).time t) same
          (long_since s run.network (world_after s events) k r end w.time (subst (λ l. EndSince s (world_after s l) k r end w.time) (sym it.splits) now) awake);
    }

pub awake_left_long_ago : QuietTimeOutlivesFrames → LinksCanBe → AwakePortsLeftLongAgo
awake_left_long_ago quiet can s events k Master link run is awake =
    (quiet (frame_life s.cfg) (shortest_tick s.cfg) (ends_at s (world_after s events) k link) Master (can s events k link run is) awake).1
awake_left_long_ago quiet can s events k Slave link run is awake =
    (quiet (frame_life s.cfg) (shortest_tick s.cfg) (ends_at s (world_after s events) k link) Slave (can s events k link run is) awake).1
