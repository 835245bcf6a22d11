-- A port that takes messages took them, and its link had its carrier, at all moments since two frame's lives ago.
use Rattle.std.proofs.Common.{◌≡◌, inl, inr, ◌∙◌, refl, sym, subst, ℕ, ◌==◌, ◌*◌, ℤ, pos, ◌+ℤ◌, ◌≤ℤ◌, ◌<ℤ◌, Bool, true, false, if◌then◌else◌, List, [], ◌∷◌, ◌++◌, Some, Result, arith, ◌⊎◌}
use Rattle.std.proofs.lemmas.Int.{ints}
use Rattle.std.proofs.lemmas.Bool.{false≢true}
use Rattle.wrp_base.specs.declared.link.Role.{Role}
use Rattle.wrp_base.specs.declared.message.PtpMsg.{PtpMsg}
use Rattle.wrp_network.specs.declared.network.LinkCfg.{LinkCfg}
use Rattle.wrp_base.proofs.Integers.{int_le_self, int_le_trans}
use Rattle.wrp_base.proofs.Lists.{append_assoc}
use Rattle.wrp_bounds.specs.Times.{frame_life, shortest_tick}
use Rattle.wrp_frame.specs.declared.fault.FrameFault.{FrameFault}
use Rattle.wrp_handshake_laws.specs.Ends.{OutlivesFrames}
use Rattle.wrp_link.specs.declared.interface.LinkIn.{LinkIn}
use Rattle.wrp_link.specs.declared.interface.LinkIn.TheVariants as link_in
use Rattle.wrp_link.specs.LinkAt.{LinkAt, new_link}
use Rattle.wrp_link.specs.Table.{after}
use Rattle.wrp_node.specs.declared.interface.Input.{Input}
use Rattle.wrp_node.specs.declared.interface.Input.TheVariants.{Tick as TickInput, Sample as SampleInput, Frame, Sent, Carrier, Reset}
use Rattle.wrp_node.specs.declared.interface.NodeSet.{NodeSet}
use Rattle.wrp_node.specs.LinkNews.{LinkNews, Nothing, Given as Handed, StepGivesLinks, frame_news, link_after, news_at}
use Rattle.wrp_node.specs.NodeAt.{NodeSetting, NodeAt, Taken, link_at, locked_of, setting_of}
use Rattle.wrp_node.specs.NodeStep.{node_step, servo_ticked}
use Rattle.wrp_node.specs.SetLaws.{EndsAreSet}
use Rattle.wrp_port.specs.declared.interface.PortIn.{PortIn}
use Rattle.wrp_port.specs.declared.setting.Setting.{Setting as PortSetting}
use Rattle.wrp_port.specs.Hearing.{is_open}
use Rattle.wrp_port.specs.History.{link_inputs, link_of as link_told}
use Rattle.wrp_course.specs.declared.event.Event.TheVariants.{Tick}
use Rattle.wrp_course.specs.Given.{given_plain, taken_of, world_step}
use Rattle.wrp_course.specs.Premises.{Accepts}
use Rattle.wrp_course.specs.Run.{Happened, world_after}
use Rattle.wrp_course.specs.RunLaws.{TicksAreApart}
use Rattle.wrp_course.specs.Runs.{IsNetwork, IsRun}
use Rattle.wrp_course.specs.SameHandshake.{CarriersAreTheLinks}
use Rattle.wrp_course.specs.Setting.{Setting, node_setting_of, link_of, end_of}
use Rattle.wrp_course.specs.WorldAt.{WorldAt, has_carrier}
use Rattle.wrp_course.proofs.RunHanded.{not_early}
use Rattle.wrp_course.proofs.RunLinks.{run_set}
use Rattle.wrp_course.proofs.RunPorts.{any_frame}
use Rattle.wrp_course.proofs.RunTimes.{step_time, time_never_falls}
use Rattle.wrp_bound_laws.specs.Leases.{IsCarried}
use Rattle.wrp_bound_laws.specs.Moments.{AtEach}
use Rattle.wrp_bound_laws.specs.SequenceIds.{IsOpenAt}
use Rattle.wrp_bound_laws.proofs.Nodes.Inputs.{IsNoTick, IsNoTickOf, no_tick_to, node_kept, tick_or_not}
use Rattle.wrp_bound_laws.proofs.Motion.OnTime.{ticked_past}
use Rattle.wrp_bound_laws.proofs.Schedules.OpenLinks.{Shut, open_heard}
use Rattle.wrp_bound_laws.proofs.Sources.Parents.{ticked_node}
use Rattle.wrp_bound_laws.proofs.Schedules.Resting.{Rested, heard_rested, open_rested, rested_later, IsCalmIn, tick_rested}
use Rattle.wrp_bound_laws.proofs.Runs.Suffixes.{at_newest, run_before, at_each, older_run}

-- Open still, or rested

-- a link that was open so far, if it may be, or rests since
abbrev Since : (still : Bool) (life dmin : ℕ) (rest time ticked : ℤ) → LinkAt → Type 0
Since still life dmin rest time ticked l = ((still ≡ true) × (is_open l ≡ true)) ⊎ Rested life dmin rest time l ticked

shut_rests : (life dmin : ℕ) (rest time ticked : ℤ) (l : LinkAt) → Shut l → Rested life dmin rest time l ticked
shut_rests life dmin rest time ticked l (inl dark) = inl dark
shut_rests life dmin rest time ticked l (inr (idle, quiet)) = inr (inr (idle, inl quiet))

opened_on : (still : Bool) (life dmin : ℕ) (rest time ticked : ℤ) (l : LinkAt) (input : LinkIn) → still ≡ true → is_open l ≡ true → Since still life dmin rest time ticked (after l input)
opened_on still life dmin rest time ticked l input is e = elim (open_heard l input e) [
  | inl open_now ↦ inl (is, open_now)
  | inr shut ↦ inr (shut_rests life dmin rest time ticked (after l input) shut)
]

calm_on : (still : Bool) (life dmin : ℕ) (rest time ticked : ℤ) (l : LinkAt) (input : LinkIn) → OutlivesFrames life dmin l.set → ticked ≤ℤ time → IsCalmIn input → Since still life dmin rest time ticked l → Since still life dmin rest time ticked (after l input)
calm_on still life dmin rest time ticked l input full tick calm (inl (is, e)) = opened_on still life dmin rest time ticked l input is e
calm_on still life dmin rest time ticked l input full tick calm (inr r) = inr (heard_rested life dmin rest time l ticked input full tick calm r)

tick_on : (still : Bool) (life dmin : ℕ) (rest time ticked : ℤ) (l : LinkAt) (locked : Bool) → rest ≤ℤ time → (ticked +ℤ pos dmin) ≤ℤ time → Since still life dmin rest time ticked l → Since still life dmin rest time time (after l (link_in.Tick locked))
tick_on still life dmin rest time ticked l locked past late (inl (is, e)) = opened_on still life dmin rest time time l (link_in.Tick locked) is e
tick_on still life dmin rest time ticked l locked past late (inr r) = inr (tick_rested life dmin rest time l ticked locked past late r)

since_later : (still : Bool) (life dmin : ℕ) (rest time later : ℤ) (l : LinkAt) (ticked now : ℤ) → time ≤ℤ later → ticked ≤ℤ now → Since still life dmin rest time ticked l → Since still life dmin rest later now l
since_later still life dmin rest time later l ticked now h k (inl e) = inl e
since_later still life dmin rest time later l ticked now h k (inr r) = inr (rested_later life dmin rest time later l ticked now h k r)

-- An input of the node

abbrev NewsOn : (still : Bool) (life dmin : ℕ) → (rest time ticked : ℤ) → PortSetting → LinkAt → LinkNews → Type 0
NewsOn still life dmin rest time ticked set l news = Since still life dmin rest time ticked l → Since still life dmin rest time ticked (link_after set l news)

news_where : (still : Bool) (life dmin : ℕ) (rest time ticked : ℤ) (set : PortSetting) (l : LinkAt) (b : Bool) (news : LinkNews) → NewsOn still life dmin rest time ticked set l news → NewsOn still life dmin rest time ticked set l (if b then news else Nothing)
news_where still life dmin rest time ticked set l true news h = h
news_where still life dmin rest time ticked set l false news h = λ r. r

news_on : (still : Bool) (life dmin : ℕ) (rest time ticked : ℤ) (fixed : NodeSetting) (n : NodeAt) (p : ℕ) (input : Input) (says : Result PtpMsg FrameFault) → IsNoTick input → OutlivesFrames life dmin (link_at fixed.set n p).set → ticked ≤ℤ time →
    NewsOn still life dmin rest time ticked (setting_of fixed.set p) (link_at fixed.set n p) (news_at fixed n input says p)
news_on still life dmin rest time ticked fixed n p TickInput says none full tick = absurd none
news_on still life dmin rest time ticked fixed n p (SampleInput number base bits) says none full tick = λ r. r
news_on still life dmin rest time ticked fixed n p (Frame q octets raw sample) says none full tick =
    let l : LinkAt = link_at fixed.set n p in
    news_where still life dmin rest time ticked (setting_of fixed.set p) l (p == q) (frame_news fixed n q says)
    (any_frame (NewsOn still life dmin rest time ticked (setting_of fixed.set p) l) (λ r. r)
    (λ a r. calm_on still life dmin rest time ticked l (link_in.Announce a) full tick tt r)
    (λ m r. calm_on still life dmin rest time ticked l (link_in.Msg m) full tick tt r) fixed n q says)
news_on still life dmin rest time ticked fixed n p (Sent q seq delay stamp) says none full tick = λ r. r
news_on still life dmin rest time ticked fixed n p (Carrier q true own_module) says none full tick =
    let l : LinkAt = link_at fixed.set n p in
    news_where still life dmin rest time ticked (setting_of fixed.set p) l (p == q) (Handed (link_in.CarrierUp own_module))
    (λ r. calm_on still life dmin rest time ticked l (link_in.CarrierUp own_module) full tick tt r)
news_on still life dmin rest time ticked fixed n p (Carrier q false own_module) says none full tick =
    let l : LinkAt = link_at fixed.set n p in
    news_where still life dmin rest time ticked (setting_of fixed.set p) l (p == q) (Handed link_in.CarrierDown)
    (λ r. calm_on still life dmin rest time ticked l link_in.CarrierDown full tick tt r)
news_on still life dmin rest time ticked fixed n p Reset says none full tick = λ r. inr (inl refl)

-- The port in a world

quiet_is : (s : Setting) (n p : ℕ) → IsNetwork s → (told : List PortIn) → OutlivesFrames (frame_life s.cfg) (shortest_tick s.cfg) (link_told (setting_of (s.set n) p) told).set
quiet_is s n p net told =
    let set : PortSetting = setting_of (s.set n) p in
    subst (OutlivesFrames (frame_life s.cfg) (shortest_tick s.cfg)) (sym (run_set (new_link set.ds.role set.link) (link_inputs set told)))
    (subst (λ (x : NodeSet). OutlivesFrames (frame_life s.cfg) (shortest_tick s.cfg) (setting_of x p).link) (sym (net.set n)) net.accepted.inequalities.quiet_time)

abbrev SinceAt : Setting → (n p : ℕ) (still : Bool) (rest time ticked : ℤ) → NodeAt → Type 0
SinceAt s n p still rest time ticked node = Since still (frame_life s.cfg) (shortest_tick s.cfg) rest time ticked (link_at (s.set n) node p)

step_on : StepGivesLinks → (still : Bool) (s : Setting) → IsNetwork s → (n p : ℕ) (rest time ticked : ℤ) → ticked ≤ℤ time →
    (t : Taken) (node : NodeAt) → IsNoTick t.input → SinceAt s n p still rest time ticked node → SinceAt s n p still rest time ticked (node_step (node_setting_of s n) t node).node
step_on gives_links still s net n p rest time ticked tick t node none r =
    subst (Since still (frame_life s.cfg) (shortest_tick s.cfg) rest time ticked) (sym (gives_links (node_setting_of s n) t node p))
    (news_on still (frame_life s.cfg) (shortest_tick s.cfg) rest time ticked (node_setting_of s n) node p t.input t.says none (quiet_is s n p net (node.told p)) tick r)

-- the last tick does not come earlier
pub last_grows : TicksAreApart → (s : Setting) (h : Happened) (before : List Happened) (n : ℕ) → IsRun s (h ∷ before) → ((world_after s before).clock n).ticked ≤ℤ ((world_after s (h ∷ before)).clock n).ticked
last_grows apart s h before n run =
    let w : WorldAt = world_after s before in
    let now : WorldAt = world_after s (h ∷ before) in
    elim (apart s h before n run) [
      | inl e ↦ subst (λ t. (w.clock n).ticked ≤ℤ t) (sym e) (int_le_self (w.clock n).ticked)
      | inr x ↦
          subst (λ t. (w.clock n).ticked ≤ℤ t) (sym x.0)
          (int_le_trans (w.clock n).ticked w.time now.time (ticked_past apart s before n (run_before s h before run)) (step_time s h.says h.answer w h.event run.each.0))
    ]

-- the laws that this rests on
pub record QuietLaws : Type 0 where
  pub links : StepGivesLinks
  pub ends : EndsAreSet
  pub apart : TicksAreApart
  pub carriers : CarriersAreTheLinks

other_since : QuietLaws → (still : Bool) (s : Setting) (h : Happened) (before : List Happened) (n p : ℕ) (rest : ℤ) → IsRun s (h ∷ before) → IsNoTickOf n h.event →
    SinceAt s n p still rest (world_after s before).time ((world_after s before).clock n).ticked ((world_after s before).node n) →
    SinceAt s n p still rest (world_after s (h ∷ before)).time ((world_after s (h ∷ before)).clock n).ticked ((world_after s (h ∷ before)).node n)
other_since laws still s h before n p rest run none r =
    let w : WorldAt = world_after s before in
    let now : WorldAt = world_after s (h ∷ before) in
    node_kept (SinceAt s n p still rest now.time (now.clock n).ticked) IsNoTick s h.says h.answer w h.event n
    (step_on laws.links still s run.network n p rest now.time (now.clock n).ticked (ticked_past laws.apart s (h ∷ before) n run))
    (no_tick_to n h.event none)
    (since_later still (frame_life s.cfg) (shortest_tick s.cfg) rest w.time now.time (link_at (s.set n) (w.node n) p) (w.clock n).ticked (now.clock n).ticked
    (step_time s h.says h.answer w h.event run.each.0) (last_grows laws.apart s h before n run) r)

tick_since : QuietLaws → (still : Bool) (s : Setting) (says : Result PtpMsg FrameFault) (y : ℤ) (w : WorldAt) (n p : ℕ) (rest : ℤ) → Accepts s w says (Tick n) → rest ≤ℤ w.time →
    SinceAt s n p still rest w.time (w.clock n).ticked (w.node n) →
    SinceAt s n p still rest w.time ((world_step s says y w (Tick n)).clock n).ticked ((world_step s says y w (Tick n)).node n)
tick_since laws still s says y w n p rest a past r =
    let fixed : NodeSetting = node_setting_of s n in
    let l : LinkAt = link_at (s.set n) (w.node n) p in
    let late : ((w.clock n).ticked +ℤ pos (shortest_tick s.cfg)) ≤ℤ w.time = not_early (w.clock n).up w.time (w.clock n).ticked (shortest_tick s.cfg) a.1.0 a.0 in
    let heard_tick : Since still (frame_life s.cfg) (shortest_tick s.cfg) rest w.time w.time (after l (link_in.Tick (locked_of fixed (servo_ticked fixed (w.node n)).node))) =
    tick_on still (frame_life s.cfg) (shortest_tick s.cfg) rest w.time (w.clock n).ticked l (locked_of fixed (servo_ticked fixed (w.node n)).node) past late r in
    let node : _ = ticked_node s says y w n n refl in
    subst (λ t. SinceAt s n p still rest w.time t ((world_step s says y w (Tick n)).node n)) (sym node.1)
    (subst (SinceAt s n p still rest w.time w.time) (sym node.0)
    (subst (Since still (frame_life s.cfg) (shortest_tick s.cfg) rest w.time w.time) (sym (laws.links fixed (taken_of y (given_plain n TickInput)) (w.node n) p)) heard_tick))

event_since : QuietLaws → (still : Bool) (s : Setting) (h : Happened) (before : List Happened) (n p : ℕ) (rest : ℤ) → IsRun s (h ∷ before) →
    rest ≤ℤ (world_after s before).time → SinceAt s n p still rest (world_after s before).time ((world_after s before).clock n).ticked ((world_after s before).node n) →
    SinceAt s n p still rest (world_after s (h ∷ before)).time ((world_after s (h ∷ before)).clock n).ticked ((world_after s (h ∷ before)).node n)
event_since laws still s h before n p rest run past r =
    let w : WorldAt = world_after s before in
    elim (tick_or_not n h.event) [
      | inl tick ↦
          subst (λ e. SinceAt s n p still rest (world_step s h.says h.answer w e).time ((world_step s h.says h.answer w e).clock n).ticked ((world_step s h.says h.answer w e).node n)) (sym tick)
          (tick_since laws still s h.says h.answer w n p rest (subst (Accepts s w h.says) tick run.accepted.0) past r)
      | inr other ↦ other_since laws still s h before n p rest run other r
    ]

-- Since a moment without the carrier

abbrev RestedAt : Setting → (n p : ℕ) → ℤ → List Happened → Type 0
RestedAt s n p rest events =
    Rested (frame_life s.cfg) (shortest_tick s.cfg) rest (world_after s events).time (link_at (s.set n) ((world_after s events).node n) p) ((world_after s events).clock n).ticked

still_rests : QuietLaws → (s : Setting) (h : Happened) (before : List Happened) (n p : ℕ) (rest : ℤ) → IsRun s (h ∷ before) → rest ≤ℤ (world_after s before).time → RestedAt s n p rest before → RestedAt s n p rest (h ∷ before)
still_rests laws s h before n p rest run past r = elim (event_since laws false s h before n p rest run past (inr r)) [
  | inl never ↦ absurd (false≢true never.0)
  | inr still ↦ still
]

rested_since : QuietLaws → (s : Setting) (newer older : List Happened) (n p : ℕ) → IsRun s (newer ++ older) → RestedAt s n p (world_after s older).time older → RestedAt s n p (world_after s older).time (newer ++ older)
rested_since laws s [] older n p run r = r
rested_since laws s (h ∷ newer) older n p run r =
    let was : IsRun s (newer ++ older) = run_before s h (newer ++ older) run in
    still_rests laws s h (newer ++ older) n p (world_after s older).time run (time_never_falls s newer older was) (rested_since laws s newer older n p was r)

rested_long : QuietLaws → (s : Setting) (events : List Happened) (n p : ℕ) (rest : ℤ) → IsRun s events → is_open (link_at (s.set n) ((world_after s events).node n) p) ≡ true → RestedAt s n p rest events → (rest +ℤ pos (2 * frame_life s.cfg)) <ℤ (world_after s events).time
rested_long laws s events n p rest run takes r =
    let w : WorldAt = world_after s events in
    open_rested (frame_life s.cfg) (shortest_tick s.cfg) rest w.time (link_at (s.set n) (w.node n) p) (w.clock n).ticked (quiet_is s n p run.network ((w.node n).told p)) (ticked_past laws.apart s events n run) takes r

dark_long_ago : QuietLaws → (s : Setting) (newer older : List Happened) (k : ℕ) (r : Role) (link : LinkCfg) → IsRun s (newer ++ older) → link_of s k ≡ Some link → has_carrier s (world_after s older) k ≡ false → IsOpenAt s link r (newer ++ older) →
    ((world_after s older).time +ℤ pos (2 * frame_life s.cfg)) <ℤ (world_after s (newer ++ older)).time
dark_long_ago laws s newer older k r link run is dark takes =
    rested_long laws s (newer ++ older) (end_of r link).node (end_of r link).port (world_after s older).time run takes
    (rested_since laws s newer older (end_of r link).node (end_of r link).port run (inl (laws.carriers s older k r link (older_run s newer older run) is ∙ dark)))

-- the link had its carrier at each moment since two lives ago
too_long : (dark now first : ℤ) (life : ℕ) → first ≤ℤ dark → (dark +ℤ pos (2 * life)) <ℤ now → now ≤ℤ (first +ℤ pos (2 * life)) → ⊥
too_long dark now first life h k l = omega (arith, ints, h, k, l)

pub carried_since : QuietLaws → (s : Setting) (newer older : List Happened) (k : ℕ) (r : Role) (link : LinkCfg) → IsRun s (newer ++ older) → link_of s k ≡ Some link → IsOpenAt s link r (newer ++ older) →
    (world_after s (newer ++ older)).time ≤ℤ ((world_after s older).time +ℤ pos (2 * frame_life s.cfg)) → AtEach (IsCarried s k) newer older
carried_since laws s newer older k r link run is now soon =
    at_each (IsCarried s k) newer older
    (λ a b e.
    carried_at a b (subst (λ l. IsRun s (l ++ older)) e run) (subst (λ l. IsOpenAt s link r (l ++ older)) e now)
    (subst (λ l. (world_after s (l ++ older)).time ≤ℤ ((world_after s older).time +ℤ pos (2 * frame_life s.cfg))) e soon) (has_carrier s (world_after s (b ++ older)) k) refl)
  where
    carried_at : (a b : List Happened) → IsRun s ((a ++ b) ++ older) → IsOpenAt s link r ((a ++ b) ++ older) → (world_after s ((a ++ b) ++ older)).time ≤ℤ ((world_after s older).time +ℤ pos (2 * frame_life s.cfg)) →
        (c : Bool) → has_carrier s (world_after s (b ++ older)) k ≡ c → IsCarried s k (b ++ older)
    carried_at a b run_ab takes young true e = e
    carried_at a b run_ab takes young false e =
        let all : IsRun s (a ++ (b ++ older)) = subst (IsRun s) (append_assoc a b older) run_ab in
        absurd (too_long (world_after s (b ++ older)).time (world_after s ((a ++ b) ++ older)).time (world_after s older).time (frame_life s.cfg) (time_never_falls s b older (older_run s a (b ++ older) all))
        (subst (λ l. ((world_after s (b ++ older)).time +ℤ pos (2 * frame_life s.cfg)) <ℤ (world_after s l).time) (sym (append_assoc a b older))
        (dark_long_ago laws s a (b ++ older) k r link all is e (subst (IsOpenAt s link r) (append_assoc a b older) takes))) young)

-- Since an event at which it is open

either_since : QuietLaws → (s : Setting) (newer older : List Happened) (r : Role) (link : LinkCfg) → IsRun s (newer ++ older) → IsOpenAt s link r older →
    AtEach (IsOpenAt s link r) newer older ⊎ RestedAt s (end_of r link).node (end_of r link).port (world_after s older).time (newer ++ older)
either_since laws s [] older r link run e = inl e
either_since laws s (h ∷ newer) older r link run e =
    let before : List Happened = newer ++ older in
    let was : IsRun s before = run_before s h before run in
    let past : (world_after s older).time ≤ℤ (world_after s before).time = time_never_falls s newer older was in
    elim (either_since laws s newer older r link was e) [
      | inl all ↦
          elim (event_since laws true s h before (end_of r link).node (end_of r link).port (world_after s older).time run past (inl (refl, at_newest (IsOpenAt s link r) newer older all))) [
            | inl open_now ↦ inl (open_now.1, all)
            | inr rests ↦ inr rests
          ]
      | inr rests ↦ inr (still_rests laws s h before (end_of r link).node (end_of r link).port (world_after s older).time run past rests)
    ]

too_soon : (rest now : ℤ) (life : ℕ) → (rest +ℤ pos (2 * life)) <ℤ now → now ≤ℤ (rest +ℤ pos (2 * life)) → ⊥
too_soon rest now life h k = omega (arith, ints, h, k)

pub open_since : QuietLaws → (s : Setting) (newer older : List Happened) (r : Role) (link : LinkCfg) → IsRun s (newer ++ older) → IsOpenAt s link r older → IsOpenAt s link r (newer ++ older) →
    (world_after s (newer ++ older)).time ≤ℤ ((world_after s older).time +ℤ pos (2 * frame_life s.cfg)) → AtEach (IsOpenAt s link r) newer older
open_since laws s newer older r link run first now soon = elim (either_since laws s newer older r link run first) [
  | inl all ↦ all
  | inr rests ↦
      absurd (too_soon (world_after s older).time (world_after s (newer ++ older)).time (frame_life s.cfg)
      (rested_long laws s (newer ++ older) (end_of r link).node (end_of r link).port (world_after s older).time run now rests) soon)
]
