-- A node that put out an Announce of a certain time may be followed until the ticks of HOLDOVER have passed, while a
-- link of the node has its carrier.
use Rattle.std.proofs.Common.{◌≡◌, inl, inr, ◌∙◌, refl, ap, sym, subst, ℕ, ◌==◌, ◌*◌, ◌-◌, ◌<◌, ℤ, pos, ◌+ℤ◌, ◌≤ℤ◌, Bool, true, false, if◌then◌else◌, not, unsigned_abs, is_some, List, ◌∷◌, Some, option_map, Result}
use Rattle.std.proofs.lemmas.Bool.Decides.{eqb_tells}
use Rattle.wrp_base.specs.declared.link.ServoState.{ServoState}
use Rattle.wrp_base.specs.declared.link.ServoState.TheVariants.{Uninit, SyncTai, SyncNsec, SyncPhase, WaitStable, Track, Holdover}
use Rattle.wrp_base.specs.declared.message.PtpMsg.{PtpMsg}
use Rattle.wrp_network.specs.declared.network.LinkCfg.{LinkCfg}
use Rattle.wrp_network.specs.Network.{link_above}
use Rattle.wrp_base.proofs.Naturals.{eq_self}
use Rattle.wrp_bounds.specs.Times.{shortest_tick}
use Rattle.wrp_frame.specs.declared.fault.FrameFault.{FrameFault}
use Rattle.wrp_node.specs.declared.interface.Input.TheVariants.{Tick as TickInput}
use Rattle.wrp_node.specs.declared.interface.NodeSet.{NodeSet}
use Rattle.wrp_node.specs.NodeAt.{NodeSetting, NodeAt, Taken, certain_of, servo_at, servo_setting_of, slave_of, state_of}
use Rattle.wrp_node.specs.NodeStep.{node_step, servo_ticked}
use Rattle.wrp_node.proofs.OwnPorts.{slave_is_above}
use Rattle.wrp_servo.specs.Call.{ServoSetting, run}
use Rattle.wrp_servo.specs.Holdover.{HoldoverSince}
use Rattle.wrp_servo.specs.Laws.{TrackSince}
use Rattle.wrp_servo.specs.Sampling.{is_holdover}
use Rattle.wrp_servo.specs.Table.{is_track}
use Rattle.wrp_tracking_laws.specs.Tree.{IsSource}
use Rattle.wrp_course.specs.declared.event.Event.{Event}
use Rattle.wrp_course.specs.declared.event.Event.TheVariants.{Pass, Tick, Sample, Depart, Arrive, Deliver, Noise, Down, Up, Cut, Join}
use Rattle.wrp_bound_laws.proofs.Sources.HeldCalls.{state_of_track}
use Rattle.wrp_course.specs.Given.{Given, clock_told, given_plain, step_of, taken_of, world_step}
use Rattle.wrp_course.specs.Moved.{moved}
use Rattle.wrp_course.specs.Premises.{Accepts}
use Rattle.wrp_course.specs.Run.{Happened, world_after}
use Rattle.wrp_course.specs.Runs.{IsNetwork, IsRun}
use Rattle.wrp_course.specs.Setting.{Setting, node_setting_of}
use Rattle.wrp_course.specs.WorldAt.{WorldAt}
use Rattle.wrp_course.proofs.RunHanded.{not_early}
use Rattle.wrp_course.proofs.RunMoves.{moved_ticked}
use Rattle.wrp_course.proofs.RunTimes.{comes_up_down, not_up}
use Rattle.wrp_bound_laws.specs.Views.{offsets_at}
use Rattle.wrp_bound_laws.proofs.Sources.Announces.{MayAnnounce}
use Rattle.wrp_bound_laws.proofs.Sources.Holding.{Followed, IsCalmCall, IsFollowed, follows_calm, follows_now, follows_still, follows_tick}
use Rattle.wrp_bound_laws.proofs.Nodes.Inputs.{GivesTo, IsNoTickOf, no_tick_last, node_kept}
use Rattle.wrp_bound_laws.proofs.Nodes.StepCalls.{IsCalm, KeptBy, calls_after_ports, calls_kept, calls_ticked}

-- A node below a link has a slave port, and with it a servo

pub has_slave : (s : Setting) → IsNetwork s → (n : ℕ) (link : LinkCfg) → link_above s.cfg n ≡ Some link → slave_of (s.set n) ≡ Some link.lower_port
has_slave s net n link above =
    ap (λ (x : NodeSet). slave_of x) (net.set n) ∙ slave_is_above s.cfg n ∙ ap (option_map (λ (l : LinkCfg). l.lower_port)) above

pub has_servo : (s : Setting) → IsNetwork s → (n : ℕ) (link : LinkCfg) → link_above s.cfg n ≡ Some link → is_some (slave_of (s.set n)) ≡ true
has_servo s net n link above = ap is_some (has_slave s net n link above)

-- The node since a true time

abbrev pub FollowedAt : Setting → ℕ → (at ticked : ℤ) → NodeAt → Type 0
FollowedAt s n at ticked node = Followed (servo_setting_of (node_setting_of s n)) (shortest_tick s.cfg) at ticked node.calls

kept_by : (s : Setting) (n : ℕ) (at ticked : ℤ) → KeptBy IsCalmCall (Followed (servo_setting_of (node_setting_of s n)) (shortest_tick s.cfg) at ticked)
kept_by s n at ticked calls call calm f = follows_calm (servo_setting_of (node_setting_of s n)) (shortest_tick s.cfg) at ticked calls call calm f

calm_step : (s : Setting) (n : ℕ) (at ticked : ℤ) (t : Taken) (m : NodeAt) → IsCalm t.input → FollowedAt s n at ticked m → FollowedAt s n at ticked (node_step (node_setting_of s n) t m).node
calm_step s n at ticked t m calm f = calls_kept (Followed (servo_setting_of (node_setting_of s n)) (shortest_tick s.cfg) at ticked) (kept_by s n at ticked) (node_setting_of s n) t m calm f

-- an event in which the node neither ticks nor starts
abbrev pub IsCalmOf : ℕ → Event → Type 0
IsCalmOf n (Tick m) = n ≡ m → ⊥
IsCalmOf n (Up m off swaps) = n ≡ m → ⊥
IsCalmOf n _ = Unit {0}

pub calm_to : (n : ℕ) (e : Event) → IsCalmOf n e → GivesTo IsCalm n e
calm_to n (Tick m) h = λ is. absurd (h is)
calm_to n (Sample m base bits) h = λ is number. tt
calm_to n (Depart m p stamp) h = λ q seq delay t. tt
calm_to n (Deliver i) h = λ q octets raw sample. tt
calm_to n (Noise m p octets raw) h = λ sample. tt
calm_to n (Down m) h = λ q. tt
calm_to n (Up m off swaps) h = (λ is. absurd (h is), λ q own_module. tt)
calm_to n (Cut k) h = λ q. tt
calm_to n (Join k ms sm) h = λ q own_module. tt
calm_to n (Pass dt drifts fibres) h = tt
calm_to n (Arrive i raw) h = tt

pub ticks_not : (n : ℕ) (e : Event) → IsCalmOf n e → IsNoTickOf n e
ticks_not n (Tick m) h = h
ticks_not n e h = tt

pub calm_last : (s : Setting) (w : WorldAt) (e : Event) (n : ℕ) → IsCalmOf n e → ((moved s w e).clock n).ticked ≡ (w.clock n).ticked
calm_last s w (Up m off swaps) n h = elim (eqb_tells n m) [
  | inl x ↦ absurd (h x.1)
  | inr x ↦ moved_ticked s w (Up m off swaps) n ∙ ap (λ b. if b then w.time else (w.clock n).ticked) x.0
]
calm_last s w (Sample m base bits) n h = moved_ticked s w (Sample m base bits) n
calm_last s w (Down m) n h = moved_ticked s w (Down m) n
calm_last s w e n h = refl

calm_event : (s : Setting) (says : Result PtpMsg FrameFault) (y : ℤ) (w : WorldAt) (e : Event) (n : ℕ) (at : ℤ) → IsCalmOf n e → FollowedAt s n at (w.clock n).ticked (w.node n) →
    FollowedAt s n at ((world_step s says y w e).clock n).ticked ((world_step s says y w e).node n)
calm_event s says y w e n at calm f =
    let last : ((world_step s says y w e).clock n).ticked ≡ (w.clock n).ticked = no_tick_last s says y w e n (ticks_not n e calm) ∙ calm_last s w e n calm in
    subst (λ t. FollowedAt s n at t ((world_step s says y w e).node n)) (sym last)
    (node_kept (FollowedAt s n at (w.clock n).ticked) IsCalm s says y w e n (calm_step s n at (w.clock n).ticked) (calm_to n e calm) f)

-- a tick of the node

pub ticked_node : (s : Setting) (says : Result PtpMsg FrameFault) (y : ℤ) (w : WorldAt) (n m : ℕ) → n ≡ m →
    ((world_step s says y w (Tick m)).node n ≡ (node_step (node_setting_of s n) (taken_of y (given_plain m TickInput)) (w.node n)).node) × (((world_step s says y w (Tick m)).clock n).ticked ≡ w.time)
ticked_node s says y w n m same =
    let v : WorldAt = moved s w (Tick m) in
    let g : Given = given_plain m TickInput in
    let here : (n == m) ≡ true = ap (λ i. i == m) same ∙ eq_self m in (
      ap (λ b. if b then (step_of s y v g).node else w.node n) here ∙ ap (λ i. (node_step (node_setting_of s i) (taken_of y g) (w.node i)).node) (sym same),
      ap (λ b. (if b then clock_told s v g (step_of s y v g).cycles (w.clock n) else w.clock n).ticked) here,
    )

tick_event : (s : Setting) (says : Result PtpMsg FrameFault) (y : ℤ) (w : WorldAt) (n m : ℕ) (at : ℤ) → n ≡ m → is_some (slave_of (s.set n)) ≡ true → Accepts s w says (Tick m) → at ≤ℤ w.time →
    FollowedAt s n at (w.clock n).ticked (w.node n) → FollowedAt s n at ((world_step s says y w (Tick m)).clock n).ticked ((world_step s says y w (Tick m)).node n)
tick_event s says y w n m at same servo a past f =
    let x : ServoSetting = servo_setting_of (node_setting_of s n) in
    let dmin : ℕ = shortest_tick s.cfg in
    let late : ((w.clock n).ticked +ℤ pos dmin) ≤ℤ w.time =
    subst (λ i. ((w.clock i).ticked +ℤ pos dmin) ≤ℤ w.time) (sym same) (not_early (w.clock m).up w.time (w.clock m).ticked dmin a.1.0 a.0) in
    let t : Taken = taken_of y (given_plain m TickInput) in
    let it : FollowedAt s n at w.time (node_step (node_setting_of s n) t (w.node n)).node =
    calls_ticked (Followed x dmin at (w.clock n).ticked) (Followed x dmin at w.time) (kept_by s n at (w.clock n).ticked) (kept_by s n at w.time)
    (λ calls h. follows_tick x dmin at (w.clock n).ticked w.time calls past late h) (node_setting_of s n) t (w.node n) refl servo f in
    let is : _ = ticked_node s says y w n m same in
    subst (λ z. FollowedAt s n at z ((world_step s says y w (Tick m)).node n)) (sym is.1) (subst (FollowedAt s n at w.time) (sym is.0) it)

-- each event that leaves it up

step_follows : (s : Setting) (says : Result PtpMsg FrameFault) (y : ℤ) (w : WorldAt) (e : Event) (n : ℕ) (at : ℤ) → is_some (slave_of (s.set n)) ≡ true → Accepts s w says e → (w.clock n).up ≡ true → at ≤ℤ w.time →
    FollowedAt s n at (w.clock n).ticked (w.node n) → FollowedAt s n at ((world_step s says y w e).clock n).ticked ((world_step s says y w e).node n)
step_follows s says y w (Tick m) n at servo a up past f = elim (eqb_tells n m) [
  | inl x ↦ tick_event s says y w n m at x.1 servo a past f
  | inr x ↦ calm_event s says y w (Tick m) n at x.1 f
]
step_follows s says y w (Up m off swaps) n at servo a up past f =
    calm_event s says y w (Up m off swaps) n at (λ is. not_up (w.clock n).up up (subst (λ i. not (not (w.clock i).up) ≡ false) (sym is) (comes_up_down s w says m off swaps a))) f
step_follows s says y w e n at servo a up past f = calm_event s says y w e n at tt f

pub next_follows : (s : Setting) (h : Happened) (before : List Happened) (n : ℕ) (at : ℤ) → is_some (slave_of (s.set n)) ≡ true → IsRun s (h ∷ before) → ((world_after s before).clock n).up ≡ true → at ≤ℤ (world_after s before).time →
    FollowedAt s n at ((world_after s before).clock n).ticked ((world_after s before).node n) → FollowedAt s n at ((world_after s (h ∷ before)).clock n).ticked ((world_after s (h ∷ before)).node n)
next_follows s h before n at servo run up past f = step_follows s h.says h.answer (world_after s before) h.event n at servo run.accepted.0 up past f

-- The beginning: a tick at which the node is certain of its time

certain_track : (fixed : NodeSetting) (n : NodeAt) (b : Bool) → is_some (slave_of fixed.set) ≡ b → b ≡ true → certain_of fixed n ≡ true → is_track (run (servo_setting_of fixed) n.calls).state ≡ true
certain_track fixed n true e f c = sym (ap (λ (x : Bool). if x then is_track (servo_at fixed n).state else true) e) ∙ c
certain_track fixed n false e f c = absurd (let g : false ≡ true = f in cc)

pub begins : (s : Setting) (says : Result PtpMsg FrameFault) (y : ℤ) (w : WorldAt) (n : ℕ) (at : ℤ) → is_some (slave_of (s.set n)) ≡ true → MayAnnounce (node_setting_of s n) (w.node n) TickInput →
    FollowedAt s n at ((world_step s says y w (Tick n)).clock n).ticked ((world_step s says y w (Tick n)).node n)
begins s says y w n at servo certain =
    let x : ServoSetting = servo_setting_of (node_setting_of s n) in
    let t : Taken = taken_of y (given_plain n TickInput) in
    let mid : NodeAt = (servo_ticked (node_setting_of s n) (w.node n)).node in
    let ticked : ℤ = ((world_step s says y w (Tick n)).clock n).ticked in
    let track : is_track (run x mid.calls).state ≡ true = certain_track (node_setting_of s n) mid (is_some (slave_of (s.set n))) refl servo certain in
    subst (FollowedAt s n at ticked) (sym (ticked_node s says y w n n refl).0)
    (calls_after_ports (Followed x (shortest_tick s.cfg) at ticked) (kept_by s n at ticked) (node_setting_of s n) t (w.node n) refl (follows_now x (shortest_tick s.cfg) at ticked mid.calls track))

-- What follows: it may be followed

pub state_holdover : (state : ServoState) → is_holdover state ≡ true → state ≡ Holdover
state_holdover Holdover e = refl
state_holdover Uninit e = cc
state_holdover SyncTai e = cc
state_holdover SyncNsec e = cc
state_holdover SyncPhase e = cc
state_holdover WaitStable e = cc
state_holdover Track e = cc

pub with_servo : (fixed : NodeSetting) (n : NodeAt) → is_some (slave_of fixed.set) ≡ true → state_of fixed n ≡ (servo_at fixed n).state
with_servo fixed n e = ap (λ (b : Bool). if b then (servo_at fixed n).state else Uninit) e

followed_source : (s : Setting) (w : WorldAt) (n : ℕ) → is_some (slave_of (s.set n)) ≡ true → IsFollowed (servo_setting_of (node_setting_of s n)) (w.node n).calls → IsSource s.cfg (offsets_at s w) n
followed_source s w n servo (inl track) = inr (inl (with_servo (node_setting_of s n) (w.node n) servo ∙ state_of_track (servo_at (node_setting_of s n) (w.node n)).state track))
followed_source s w n servo (inr held) = inr (inr (with_servo (node_setting_of s n) (w.node n) servo ∙ state_holdover (servo_at (node_setting_of s n) (w.node n)).state held))

pub is_source : TrackSince → HoldoverSince → (s : Setting) → IsNetwork s → (w : WorldAt) (n : ℕ) (at : ℤ) → is_some (slave_of (s.set n)) ≡ true → 0 < unsigned_abs s.cfg.holdover →
    FollowedAt s n at (w.clock n).ticked (w.node n) → ((at +ℤ pos ((unsigned_abs s.cfg.holdover - 1) * shortest_tick s.cfg)) ≤ℤ (w.clock n).ticked → ⊥) → IsSource s.cfg (offsets_at s w) n
is_source law held s net w n at servo some f early =
    let set : (servo_setting_of (node_setting_of s n)).set.holdover ≡ unsigned_abs s.cfg.holdover = ap (λ (x : NodeSet). x.servo.holdover) (net.set n) in
    followed_source s w n servo
    (follows_still law held (servo_setting_of (node_setting_of s n)) (shortest_tick s.cfg) at (w.clock n).ticked (w.node n).calls (subst (λ k. 0 < k) (sym set) some) f
    (subst (λ k. (at +ℤ pos ((k - 1) * shortest_tick s.cfg)) ≤ℤ (w.clock n).ticked → ⊥) (sym set) early))
