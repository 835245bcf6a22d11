-- The schedule of a port and true time, since a message that is stamped was put out, while the port stays open.
use Rattle.std.proofs.Common.{◌≡◌, inl, inr, refl, sym, subst, ℕ, ◌+◌, ◌*◌, ◌%◌, ◌<◌, ℤ, pos, ◌+ℤ◌, ◌≤ℤ◌, true, unsigned_abs, List, [], ◌∷◌, ◌++◌, Result, arith}
use Rattle.std.proofs.lemmas.Int.{ints}
use Rattle.wrp_base.specs.declared.message.PtpMsg.{PtpMsg}
use Rattle.wrp_bounds.specs.Times.{frame_life, shortest_tick}
use Rattle.wrp_frame.specs.declared.fault.FrameFault.{FrameFault}
use Rattle.wrp_node.specs.declared.interface.Input.TheVariants.{Tick as TickInput}
use Rattle.wrp_node.specs.declared.interface.NodeSet.{NodeSet}
use Rattle.wrp_node.specs.NodeAt.{NodeAt, Taken, certain_of, locked_of, setting_of}
use Rattle.wrp_node.specs.NodeStep.{servo_ticked, tick_of}
use Rattle.wrp_port.specs.declared.interface.PortIn.{PortIn}
use Rattle.wrp_port.specs.declared.setting.Setting.{Setting as PortSetting}
use Rattle.wrp_port.specs.Hearing.{is_open}
use Rattle.wrp_port.specs.History.{link_of as link_told}
use Rattle.wrp_course.specs.declared.event.Event.{Event}
use Rattle.wrp_course.specs.declared.event.Event.TheVariants.{Tick}
use Rattle.wrp_course.specs.Given.{given_plain, taken_of, world_step}
use Rattle.wrp_course.specs.Premises.{Accepts}
use Rattle.wrp_course.specs.Run.{Happened, world_after}
use Rattle.wrp_course.specs.RunLaws.{TicksAreApart}
use Rattle.wrp_course.specs.Runs.{IsNetwork, IsRun}
use Rattle.wrp_course.specs.Setting.{Setting, node_setting_of}
use Rattle.wrp_course.specs.WorldAt.{WorldAt}
use Rattle.wrp_course.proofs.RunHanded.{not_early}
use Rattle.wrp_bound_laws.specs.Moments.{AtEach}
use Rattle.wrp_bound_laws.proofs.Nodes.Inputs.{IsNoTick, IsNoTickOf, no_tick_to, node_kept, tick_or_not}
use Rattle.wrp_bound_laws.proofs.Sources.Parents.{ticked_node}
use Rattle.wrp_bound_laws.proofs.Schedules.OpenPorts.{last_grows}
use Rattle.wrp_bound_laws.proofs.Schedules.ScheduleCounts.{Goes, Gone, OpenGone, aside_gone, goes_on, ticks_on}
use Rattle.wrp_bound_laws.proofs.Schedules.ScheduleLinks.{IsNoTickThere, quiet_some}
use Rattle.wrp_bound_laws.proofs.Schedules.ScheduleTold.{IsAside, KeptIn, aside_kept, told_after, told_before, told_kept}
use Rattle.wrp_bound_laws.proofs.Runs.Suffixes.{at_newest, run_before}

-- The port

-- a port of a node
pub record PortOf : Type 0 where
  pub node : ℕ
  pub port : ℕ

abbrev pub set_at : Setting → PortOf → PortSetting
set_at s q = setting_of (s.set q.node) q.port

abbrev pub told_in : PortOf → WorldAt → List PortIn
told_in q w = (w.node q.node).told q.port

-- it takes messages and keeps its schedule
abbrev pub IsOpen : Setting → PortOf → List Happened → Type 0
IsOpen s q events = is_open (link_told (set_at s q) (told_in q (world_after s events))) ≡ true

pub some_quiet : (s : Setting) (q : PortOf) → IsNetwork s → 0 < (set_at s q).link.quiet
some_quiet s q net =
    subst (λ (x : NodeSet). 0 < (setting_of x q.port).link.quiet) (sym (net.set q.node))
    (quiet_some (unsigned_abs s.cfg.quiet) (frame_life s.cfg) (shortest_tick s.cfg) net.accepted.inequalities.quiet_time)

-- Since a message of a kind that comes once in a fixed number of ticks

-- the ticks and the messages that were counted then, and the true time
pub record Beginning : Type 0 where
  pub every : ℕ
  pub ticks : ℕ
  pub sent : ℕ
  pub at : ℤ

-- this many ticks later: at most one message for every `every` ticks, and no sooner than the ticks take
pub record Later (s : Setting) (q : PortOf) (b : Beginning) (d : ℕ) (w : WorldAt) : Type 0 where
  pub gone : Gone (set_at s q) b.every b.ticks b.sent d (told_in q w)
  pub late : (b.at +ℤ pos (d * shortest_tick s.cfg)) ≤ℤ (w.clock q.node).ticked

pub record Since (s : Setting) (q : PortOf) (b : Beginning) (w : WorldAt) : Type 0 where
  pub passed : ℕ
  pub later : Later s q b passed w

-- Each event

longer : (at was now : ℤ) (n : ℕ) → was ≤ℤ now → (at +ℤ pos n) ≤ℤ was → (at +ℤ pos n) ≤ℤ now
longer at was now n h k = omega (arith, ints, h, k)

tick_longer : (at was now : ℤ) (d dmin : ℕ) → (was +ℤ pos dmin) ≤ℤ now → (at +ℤ pos (d * dmin)) ≤ℤ was → (at +ℤ pos ((d + 1) * dmin)) ≤ℤ now
tick_longer at was now d dmin h k =
    let more : (d + 1) * dmin ≡ d * dmin + dmin = grind (arith) in
    sum at was now (d * dmin) ((d + 1) * dmin) dmin more h k
  where
    sum : (at was now : ℤ) (p q dmin : ℕ) → q ≡ p + dmin → (was +ℤ pos dmin) ≤ℤ now → (at +ℤ pos p) ≤ℤ was → (at +ℤ pos q) ≤ℤ now
    sum at was now p q dmin e h k = omega (arith, ints, e, h, k)

-- an event in which the node does not tick
calm_later : TicksAreApart → (s : Setting) (q : PortOf) (b : Beginning) (d : ℕ) (h : Happened) (before : List Happened) → IsRun s (h ∷ before) → IsNoTickOf q.node h.event → IsOpen s q (h ∷ before) →
    Later s q b d (world_after s before) → Later s q b d (world_after s (h ∷ before))
calm_later apart s q b d h before run none takes it =
    let w : WorldAt = world_after s before in
    let now : WorldAt = world_after s (h ∷ before) in
    let set : PortSetting = set_at s q in
    let kept : KeptIn IsNoTickThere (Goes set b.every b.ticks b.sent d) = goes_on set b.every b.ticks b.sent d (some_quiet s q run.network) in
    record {
      gone =
          node_kept (λ (m : NodeAt). Goes set b.every b.ticks b.sent d (m.told q.port)) IsNoTick s h.says h.answer w h.event q.node
          (λ t m free g. told_kept (Goes set b.every b.ticks b.sent d) kept (node_setting_of s q.node) t m q.port free g)
          (no_tick_to q.node h.event none) (λ e. it.gone) takes;
      late = longer b.at (w.clock q.node).ticked (now.clock q.node).ticked (d * shortest_tick s.cfg) (last_grows apart s h before q.node run) it.late;
    }

-- a tick of the node
abbrev pub tick_taken : ℤ → ℕ → Taken
tick_taken y n = taken_of y (given_plain n TickInput)

-- what the port was given when the lease and the servo had their tick
abbrev pub told_then : Setting → PortOf → WorldAt → List PortIn
told_then s q w = (servo_ticked (node_setting_of s q.node) (w.node q.node)).node.told q.port

-- and its own tick
abbrev pub tick_then : Setting → PortOf → WorldAt → PortIn
tick_then s q w = tick_of (node_setting_of s q.node) (servo_ticked (node_setting_of s q.node) (w.node q.node)).node

pub ticked_told : (Q : List PortIn → Type 0) → KeptIn IsAside Q → (s : Setting) (q : PortOf) (says : Result PtpMsg FrameFault) (y : ℤ) (w : WorldAt) (m : ℕ) → q.node ≡ m →
    Q (tick_then s q w ∷ told_then s q w) → Q (told_in q (world_step s says y w (Tick m)))
ticked_told Q k s q says y w m same h =
    subst (λ (z : NodeAt). Q (z.told q.port)) (sym (ticked_node s says y w q.node m same).0)
    (told_after Q k (node_setting_of s q.node) (tick_taken y m) (w.node q.node) q.port refl h)

pub gone_then : (s : Setting) (q : PortOf) (b : Beginning) (d : ℕ) (w : WorldAt) → is_open (link_told (set_at s q) (told_in q w)) ≡ true → Gone (set_at s q) b.every b.ticks b.sent d (told_in q w) →
    OpenGone (set_at s q) b.every b.ticks b.sent d (told_then s q w)
gone_then s q b d w takes g =
    told_before (OpenGone (set_at s q) b.every b.ticks b.sent d) (aside_gone (set_at s q) b.every b.ticks b.sent d) (node_setting_of s q.node) (w.node q.node) q.port (takes, g)

pub late_then : (s : Setting) (q : PortOf) (b : Beginning) (d m : ℕ) (says : Result PtpMsg FrameFault) (w : WorldAt) → q.node ≡ m → Accepts s w says (Tick m) → Later s q b d w → (b.at +ℤ pos ((d + 1) * shortest_tick s.cfg)) ≤ℤ w.time
late_then s q b d m says w same a it =
    tick_longer b.at (w.clock q.node).ticked w.time d (shortest_tick s.cfg)
    (subst (λ i. ((w.clock i).ticked +ℤ pos (shortest_tick s.cfg)) ≤ℤ w.time) (sym same) (not_early (w.clock m).up w.time (w.clock m).ticked (shortest_tick s.cfg) a.1.0 a.0)) it.late

tick_later : (s : Setting) (q : PortOf) (b : Beginning) (d m : ℕ) (says : Result PtpMsg FrameFault) (y : ℤ) (w : WorldAt) → IsNetwork s → b.ticks % b.every ≡ 0 → q.node ≡ m → Accepts s w says (Tick m) →
    is_open (link_told (set_at s q) (told_in q w)) ≡ true → is_open (link_told (set_at s q) (told_in q (world_step s says y w (Tick m)))) ≡ true → Later s q b d w → Later s q b (d + 1) (world_step s says y w (Tick m))
tick_later s q b d m says y w net begins same a was takes it =
    let set : PortSetting = set_at s q in
    let node : NodeAt = (servo_ticked (node_setting_of s q.node) (w.node q.node)).node in
    let kept : KeptIn IsAside (Goes set b.every b.ticks b.sent (d + 1)) =
    aside_kept (Goes set b.every b.ticks b.sent (d + 1)) (goes_on set b.every b.ticks b.sent (d + 1) (some_quiet s q net)) in
    record {
      gone =
          ticked_told (Goes set b.every b.ticks b.sent (d + 1)) kept s q says y w m same
          (ticks_on set b.every b.ticks b.sent d begins (told_then s q w) (locked_of (node_setting_of s q.node) node) (certain_of (node_setting_of s q.node) node) (gone_then s q b d w was it.gone)) takes;
      late =
          subst (λ t. (b.at +ℤ pos ((d + 1) * shortest_tick s.cfg)) ≤ℤ t) (sym (ticked_node s says y w q.node m same).1)
          (late_then s q b d m says w same a it);
    }

next_since : TicksAreApart → (s : Setting) (q : PortOf) (b : Beginning) (says : Result PtpMsg FrameFault) (y : ℤ) (e : Event) (before : List Happened) → b.ticks % b.every ≡ 0 →
    IsRun s (record { event = e; says = says; answer = y } ∷ before) → IsOpen s q before → IsOpen s q (record { event = e; says = says; answer = y } ∷ before) →
    Since s q b (world_after s before) → Since s q b (world_step s says y (world_after s before) e)
next_since apart s q b says y e before begins run was takes it =
    let w : WorldAt = world_after s before in
    elim (tick_or_not q.node e) [
      | inl tick ↦
          subst (λ x. Since s q b (world_step s says y w x)) (sym tick)
          (record {
            passed = it.passed + 1;
            later =
                tick_later s q b it.passed q.node says y w run.network begins refl (subst (Accepts s w says) tick run.accepted.0) was
                (subst (λ x. IsOpen s q (record { event = x; says = says; answer = y } ∷ before)) tick takes) it.later;
          })
      | inr other ↦ record { passed = it.passed; later = calm_later apart s q b it.passed (record { event = e; says = says; answer = y }) before run other takes it.later }
    ]

-- a part of a run through which it is open
pub since_all : TicksAreApart → (s : Setting) (q : PortOf) (b : Beginning) (newer older : List Happened) → b.ticks % b.every ≡ 0 → IsRun s (newer ++ older) → AtEach (IsOpen s q) newer older →
    Since s q b (world_after s older) → Since s q b (world_after s (newer ++ older))
since_all apart s q b [] older begins run takes it = it
since_all apart s q b (h ∷ newer) older begins run takes it =
    let was : IsRun s (newer ++ older) = run_before s h (newer ++ older) run in
    next_since apart s q b h.says h.answer h.event (newer ++ older) begins run (at_newest (IsOpen s q) newer older takes.1) takes.0
    (since_all apart s q b newer older begins was takes.1 it)
