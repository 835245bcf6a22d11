-- A node in HOLDOVER in a run.
use Rattle.std.proofs.Common.{◌≡◌, ◌⊎◌, inl, inr, ◌∙◌, refl, ap, sym, subst, ℕ, zero, suc, ◌+◌, ◌*◌, ◌<◌, ◌≤◌, ℤ, pos, ◌+ℤ◌, ◌≤ℤ◌, ◌||◌, not, unsigned_abs, Bool, true, false, if◌then◌else◌, is_some, List, [], ◌∷◌, ◌++◌, length, Some, Result, arith}
use Rattle.std.proofs.lemmas.Bool.Decides.{eqb_tells}
use Rattle.std.proofs.lemmas.Int.{ints}
use Rattle.std.proofs.Math.Nat.{mul-le-mul_right}
use Rattle.std.proofs.lemmas.Bool.{cases_Bool, false≢true}
use Rattle.wrp_base.specs.declared.link.ServoState.TheVariants.{Holdover}
use Rattle.wrp_base.specs.declared.message.PtpMsg.{PtpMsg}
use Rattle.wrp_network.specs.declared.network.LinkCfg.{LinkCfg}
use Rattle.wrp_network.specs.Network.{link_above, node_count}
use Rattle.wrp_base.proofs.Naturals.{nat_le_self}
use Rattle.wrp_bounds.specs.Times.{longest_tick, shortest_tick, frame_life}
use Rattle.wrp_frame.specs.declared.fault.FrameFault.{FrameFault}
use Rattle.wrp_node.specs.declared.interface.Input.TheVariants.{Tick as TickInput}
use Rattle.wrp_node.specs.declared.interface.NodeSet.{NodeSet}
use Rattle.wrp_node.specs.NodeAt.{NodeSetting, NodeAt, locked_of, servo_at, servo_setting_of, state_of}
use Rattle.wrp_node.specs.StepLaws.{CommandsAreHeld}
use Rattle.wrp_servo.specs.Call.{Call, CallSample, CallMeasured, CallTick, CallLease, CallLink, CallCarrier, CallReset, ServoSetting, run}
use Rattle.wrp_servo.specs.declared.machine.Core.{Core}
use Rattle.wrp_servo.specs.Laws.{NoStepInTrack}
use Rattle.wrp_servo.specs.Sampling.{is_holdover}
use Rattle.wrp_servo.specs.Table.{is_track}
use Rattle.wrp_handshake_laws.proofs.Times.{passes}
use Rattle.wrp_tracking_laws.specs.History.{EachStep, IsSlow}
use Rattle.wrp_course.specs.declared.event.Event.{Event}
use Rattle.wrp_course.specs.declared.event.Event.TheVariants.{Tick, Up}
use Rattle.wrp_bound_laws.proofs.Samples.FourMoments.{longer}
use Rattle.wrp_course.specs.Given.{given_plain, taken_of}
use Rattle.wrp_course.specs.Premises.{rate_of}
use Rattle.wrp_course.specs.Run.{Happened, world_after, worlds_of}
use Rattle.wrp_course.specs.RunLaws.{TicksAreApart}
use Rattle.wrp_course.specs.Runs.{IsNetwork, IsRun}
use Rattle.wrp_course.specs.Setting.{Setting, node_setting_of, link_of, of_node}
use Rattle.wrp_course.specs.WorldAt.{WorldAt}
use Rattle.wrp_course.proofs.RunTimes.{comes_up_down, not_up}
use Rattle.wrp_bound_laws.specs.Holdovers.{HoldoverIsShort, IsHeld}
use Rattle.wrp_bound_laws.specs.Moments.{AtEach}
use Rattle.wrp_bound_laws.proofs.Samples.ChainMoves.{nothing_later}
use Rattle.wrp_bound_laws.proofs.Sources.HeldCalls.{HoldLaws, IsNoMeasure, IsTicked, OnHold, calm_holds, on_hold, one_hold, ticked_first, ticked_stays}
use Rattle.wrp_bound_laws.proofs.Sources.Holding.{IsCalmCall}
use Rattle.wrp_bound_laws.proofs.Nodes.Inputs.{node_kept}
use Rattle.wrp_bound_laws.proofs.Sources.LeaseSources.{same_last, some_holdover}
use Rattle.wrp_bound_laws.proofs.Runs.LinksAbove.{above_at}
use Rattle.wrp_bound_laws.proofs.Motion.Moving.{clock_slow, kept_by}
use Rattle.wrp_bound_laws.proofs.Motion.NodeSteps.{still_in_track}
use Rattle.wrp_bound_laws.proofs.Motion.OnTime.{on_time, ticked_past}
use Rattle.wrp_bound_laws.proofs.Sources.Parents.{IsCalmOf, calm_to, has_servo, ticked_node, with_servo, state_holdover}
use Rattle.wrp_bound_laws.proofs.Motion.Slow.{as_slow}
use Rattle.wrp_bound_laws.proofs.Nodes.StepCalls.{IsCalm, IsTelling, calls_kept, told_tick}
use Rattle.wrp_bound_laws.proofs.Runs.Suffixes.{run_before}

-- the laws that this rests on
pub record HeldLaws : Type 0 where
  pub holds : HoldLaws
  pub apart : TicksAreApart
  pub commands : CommandsAreHeld
  pub still : NoStepInTrack

abbrev pub core_at : Setting → List Happened → ℕ → Core
core_at s events n = servo_at (node_setting_of s n) ((world_after s events).node n)

-- A network's HOLDOVER has a tick

pub lasts : (s : Setting) → IsNetwork s → (n : ℕ) → 0 < (servo_setting_of (node_setting_of s n)).set.holdover
lasts s net n =
    subst (λ z. 0 < z) (sym (ap (λ (x : NodeSet). x.servo.holdover) (net.set n)))
    (some_holdover (unsigned_abs s.cfg.holdover) ((unsigned_abs s.cfg.lease + 1) * longest_tick s.cfg + frame_life s.cfg) (shortest_tick s.cfg) net.accepted.inequalities.holdover_time)

-- The servo of a node in HOLDOVER

pub held_core : (s : Setting) (events : List Happened) (n : ℕ) (link : LinkCfg) → IsNetwork s → link_above s.cfg n ≡ Some link → IsHeld s n events → is_holdover (core_at s events n).state ≡ true
held_core s events n link net above h = ap is_holdover (sym (with_servo (node_setting_of s n) ((world_after s events).node n) (has_servo s net n link above)) ∙ h.state)

pub core_held : (s : Setting) (events : List Happened) (n : ℕ) (link : LinkCfg) → IsNetwork s → link_above s.cfg n ≡ Some link → ((world_after s events).clock n).up ≡ true → (core_at s events n).state ≡ Holdover → IsHeld s n events
core_held s events n link net above up e = record { up = up; state = with_servo (node_setting_of s n) ((world_after s events).node n) (has_servo s net n link above) ∙ e }

pub since_when : HeldLaws → (s : Setting) (events : List Happened) (n : ℕ) (link : LinkCfg) → IsNetwork s → link_above s.cfg n ≡ Some link → IsHeld s n events → (t : ℕ) × OnHold (core_at s events n) t × (t < unsigned_abs s.cfg.holdover)
since_when laws s events n link net above h =
    let it : (t : ℕ) × OnHold (core_at s events n) t × (t < (servo_setting_of (node_setting_of s n)).set.holdover) =
    on_hold laws.holds (servo_setting_of (node_setting_of s n)) ((world_after s events).node n).calls (lasts s net n) (held_core s events n link net above h) in
    (it.0, it.1, subst (λ z. it.0 < z) (ap (λ (x : NodeSet). x.servo.holdover) (net.set n)) it.2)

-- Events

-- in which it neither ticks nor starts
pub calm_on : HeldLaws → (s : Setting) (h : Happened) (before : List Happened) (n t : ℕ) → IsCalmOf n h.event → OnHold (core_at s before n) t → OnHold (core_at s (h ∷ before) n) t
calm_on laws s h before n t calm hold =
    node_kept (λ (m : NodeAt). OnHold (run (servo_setting_of (node_setting_of s n)) m.calls) t) IsCalm s h.says h.answer (world_after s before) h.event n
    (λ u m q k. calls_kept (λ calls. OnHold (run (servo_setting_of (node_setting_of s n)) calls) t) (λ calls c ok k2. calm_holds (servo_setting_of (node_setting_of s n)) calls c t ok k2) (node_setting_of s n) u m q k)
    (calm_to n h.event calm) hold

telling_calm : (c : Call) → IsTelling c → IsCalmCall c × IsNoMeasure c
telling_calm (CallLease fresh) h = (tt, tt)
telling_calm (CallLink on) h = (tt, tt)
telling_calm (CallSample n base bits) h = absurd h
telling_calm (CallMeasured four answer) h = absurd h
telling_calm CallTick h = absurd h
telling_calm (CallCarrier up) h = absurd h
telling_calm CallReset h = absurd h

-- its tick
pub tick_on : HeldLaws → (s : Setting) (says : Result PtpMsg FrameFault) (y : ℤ) (before : List Happened) (n m t : ℕ) (link : LinkCfg) → IsNetwork s → link_above s.cfg n ≡ Some link → n ≡ m → OnHold (core_at s before n) t →
    IsTicked (core_at s (record { event = Tick m; says = says; answer = y } ∷ before) n) (t + 1)
tick_on laws s says y before n m t link net above same hold =
    let x : ServoSetting = servo_setting_of (node_setting_of s n) in
    let w : WorldAt = world_after s before in
    subst (λ (z : NodeAt). IsTicked (run x z.calls) (t + 1)) (sym (ticked_node s says y w n m same).0)
    (told_tick (λ calls. OnHold (run x calls) t) (λ calls. IsTicked (run x calls) (t + 1)) (λ calls c ok k. calm_holds x calls c t (telling_calm c ok).0 k)
    (λ calls c ok k. ticked_stays laws.holds x (lasts s net n) calls c (t + 1) (telling_calm c ok).1 (telling_calm c ok).0 k)
    (λ calls k. ticked_first laws.holds x calls t k) (node_setting_of s n) (taken_of y (given_plain m TickInput)) (w.node n) refl (has_servo s net n link above) hold)

-- How fast

unlocked_keeps : (below up locked held : Bool) (slew hold : ℕ) → below ≡ true → up ≡ true → locked ≡ false → held ≡ true → kept_by below up locked held slew hold ≡ Some hold
unlocked_keeps true true false true slew hold b u l h = refl
unlocked_keeps true true false false slew hold b u l h = absurd (false≢true h)
unlocked_keeps true true true held slew hold b u l h = absurd (false≢true (sym l))
unlocked_keeps true false locked held slew hold b u l h = absurd (false≢true u)
unlocked_keeps false up locked held slew hold b u l h = absurd (false≢true b)

held_rate : (s : Setting) (events : List Happened) (n t : ℕ) (link : LinkCfg) → IsNetwork s → link_above s.cfg n ≡ Some link → IsHeld s n events → OnHold (core_at s events n) t → rate_of s (world_after s events) n ≡ Some (of_node (λ node. node.held) s n)
held_rate s events n t link net above h hold =
    let w : WorldAt = world_after s events in
    let fixed : NodeSetting = node_setting_of s n in
    let lock : locked_of fixed (w.node n) ≡ false = ap (λ (b : Bool). if b then (servo_at fixed (w.node n)).phase.lock.locked else false) (has_servo s net n link above) ∙ hold.locked in
    unlocked_keeps (is_some (link_above s.cfg n)) (w.clock n).up (locked_of fixed (w.node n)) (is_holdover (state_of fixed (w.node n))) (of_node (λ node. node.slew) s n) (of_node (λ node. node.held) s n) (ap is_some above) h.up lock (ap is_holdover h.state)

pub is_inside : (s : Setting) (n : ℕ) (link : LinkCfg) → IsNetwork s → link_above s.cfg n ≡ Some link → n < node_count s.cfg
is_inside s n link net above =
    let at : (k : ℕ) × (link_of s k ≡ Some link) × (link.lower ≡ n) = above_at s n link above in
    subst (λ i. i < node_count s.cfg) at.2 (net.accepted.tree.ends at.0 link at.1).1

held_slow : HeldLaws → (s : Setting) (h : Happened) (before : List Happened) (n t : ℕ) (link : LinkCfg) → IsRun s (h ∷ before) → link_above s.cfg n ≡ Some link → IsHeld s n before → OnHold (core_at s before n) t →
    IsSlow (λ (w : WorldAt). w.time) (of_node (λ node. node.held) s n) (λ (w : WorldAt). (w.clock n).off) (world_after s before) (world_after s (h ∷ before))
held_slow laws s h before n t link run above held hold =
    let w : WorldAt = world_after s before in
    let rate : ℕ = of_node (λ node. node.held) s n in
    let inside : n < node_count s.cfg = is_inside s n link run.network above in
    as_slow (λ (x : WorldAt). x.time) rate (λ (x : WorldAt). (x.clock n).off) w (world_after s (h ∷ before))
    (clock_slow laws.commands s h.says h.answer before h.event n rate rate (λ _. Unit {0}) run inside held.up (held_rate s before n t link run.network above held hold) (nat_le_self rate)
    (λ u k. still_in_track laws.commands laws.still (node_setting_of s n) u (w.node n) (ap (λ z. is_track z || is_holdover z) hold.state)) tt)

-- Through one more event

held_or_not : (s : Setting) (events : List Happened) (n : ℕ) (link : LinkCfg) → IsNetwork s → link_above s.cfg n ≡ Some link → IsHeld s n events ⊎ (IsHeld s n events → ⊥)
held_or_not s events n link net above = elim (cases_Bool ((world_after s events).clock n).up) [
  | inl up ↦ elim (cases_Bool (is_holdover (core_at s events n).state)) [
    | inl e ↦ inl (core_held s events n link net above up (state_holdover (core_at s events n).state e))
    | inr e ↦ inr (λ h. false≢true (sym e ∙ held_core s events n link net above h))
  ]
  | inr down ↦ inr (λ h. false≢true (sym down ∙ h.up))
]

pub one_turn : (now last at : ℤ) (t dmax : ℕ) → now ≤ℤ (last +ℤ pos dmax) → last ≤ℤ (at +ℤ pos (t * dmax)) → now ≤ℤ (at +ℤ pos ((t + 1) * dmax))
one_turn now last at t dmax h k =
    let more : (t + 1) * dmax ≡ t * dmax + dmax = grind (arith) in
    sum now last at (t * dmax) ((t + 1) * dmax) dmax more h k
  where
    sum : (now last at : ℤ) (p q dmax : ℕ) → q ≡ p + dmax → now ≤ℤ (last +ℤ pos dmax) → last ≤ℤ (at +ℤ pos p) → now ≤ℤ (at +ℤ pos q)
    sum now last at p q dmax e h k = omega (arith, ints)

-- it is still on hold, and its last tick is not too long after that time
abbrev StaysHeld : Setting → Happened → List Happened → ℕ → ℤ → Type 0
StaysHeld s h before n at = (u : ℕ) × OnHold (core_at s (h ∷ before) n) u × (((world_after s (h ∷ before)).clock n).ticked ≤ℤ (at +ℤ pos (u * longest_tick s.cfg)))

calm_stays : HeldLaws → (s : Setting) (h : Happened) (before : List Happened) (n t : ℕ) (at : ℤ) → IsCalmOf n h.event → OnHold (core_at s before n) t → ((world_after s before).clock n).ticked ≤ℤ (at +ℤ pos (t * longest_tick s.cfg)) → StaysHeld s h before n at
calm_stays laws s h before n t at calm hold late =
    (t, calm_on laws s h before n t calm hold, subst (λ z. z ≤ℤ (at +ℤ pos (t * longest_tick s.cfg))) (sym (same_last s h before n calm)) late)

stays : HeldLaws → (s : Setting) (says : Result PtpMsg FrameFault) (y : ℤ) (before : List Happened) (e : Event) (n t : ℕ) (link : LinkCfg) (at : ℤ) → IsRun s (record { event = e; says = says; answer = y } ∷ before) → link_above s.cfg n ≡ Some link →
    IsHeld s n before → is_holdover (core_at s (record { event = e; says = says; answer = y } ∷ before) n).state ≡ true → OnHold (core_at s before n) t → ((world_after s before).clock n).ticked ≤ℤ (at +ℤ pos (t * longest_tick s.cfg)) →
    StaysHeld s (record { event = e; says = says; answer = y }) before n at
stays laws s says y before (Tick m) n t link at run above held now hold late = elim (eqb_tells n m) [
  | inl x ↦
      let w : WorldAt = world_after s before in
      let h : Happened = record { event = Tick m; says = says; answer = y } in
      let ticked : IsTicked (core_at s (h ∷ before) n) (t + 1) = tick_on laws s says y before n m t link run.network above x.1 hold in
      let turned : w.time ≤ℤ (at +ℤ pos ((t + 1) * longest_tick s.cfg)) =
      one_turn w.time (w.clock n).ticked at t (longest_tick s.cfg) (on_time laws.apart s before n (is_inside s n link run.network above) (run_before s h before run) held.up) late in
      (t + 1, ticked.held now, subst (λ z. z ≤ℤ (at +ℤ pos ((t + 1) * longest_tick s.cfg))) (sym (ticked_node s says y w n m x.1).1) turned)
  | inr x ↦ calm_stays laws s (record { event = Tick m; says = says; answer = y }) before n t at x.1 hold late
]
stays laws s says y before (Up m off swaps) n t link at run above held now hold late =
    calm_stays laws s (record { event = Up m off swaps; says = says; answer = y }) before n t at
    (λ same. not_up ((world_after s before).clock n).up held.up (subst (λ i. not (not ((world_after s before).clock i).up) ≡ false) (sym same) (comes_up_down s (world_after s before) says m off swaps run.accepted.0)))
    hold late
stays laws s says y before e n t link at run above held now hold late = calm_stays laws s (record { event = e; says = says; answer = y }) before n t at tt hold late

-- Over a run

one_world : (n : ℕ) → suc zero ≤ suc n
one_world n = omega arith

one_more : (a b : ℕ) → a ≤ suc b → suc a ≤ suc (suc b)
one_more a b h = omega (arith, h)

worlds_count : (s : Setting) (events : List Happened) → length (worlds_of s events) ≤ suc (length events)
worlds_count s [] = one_world zero
worlds_count s (h ∷ before) = one_more (length (worlds_of s before)) (length before) (worlds_count s before)

-- the part of a run in which it is held
pub record KeptSince (s : Setting) (n : ℕ) (events : List Happened) (t : ℕ) : Type 0 where
  pub newer : List Happened
  pub entry : Happened
  pub before : List Happened
  pub splits : events ≡ newer ++ entry ∷ before
  pub begins : IsHeld s n before → ⊥
  pub held : AtEach (IsHeld s n) newer (entry ∷ before)
  pub slow :
      EachStep (IsSlow (λ (w : WorldAt). w.time) (of_node (λ node. node.held) s n) (λ (w : WorldAt). (w.clock n).off)) (length (entry ∷ before))
      (worlds_of s events)
  pub late : ((world_after s events).clock n).ticked ≤ℤ ((world_after s (entry ∷ before)).time +ℤ pos (t * longest_tick s.cfg))

abbrev HeldStep : Setting → ℕ → WorldAt → WorldAt → Type 0
HeldStep s n = IsSlow (λ (w : WorldAt). w.time) (of_node (λ node. node.held) s n) (λ (w : WorldAt). (w.clock n).off)

entered : HeldLaws → (s : Setting) (h : Happened) (before : List Happened) (n t : ℕ) → IsRun s (h ∷ before) → IsHeld s n (h ∷ before) → (IsHeld s n before → ⊥) → KeptSince s n (h ∷ before) t
entered laws s h before n t run held out = record {
  newer = [];
  entry = h;
  before = before;
  splits = refl;
  begins = out;
  held = held;
  slow = nothing_later (HeldStep s n) (length (h ∷ before)) (worlds_of s (h ∷ before)) (worlds_count s (h ∷ before));
  late = passes ((world_after s (h ∷ before)).clock n).ticked (world_after s (h ∷ before)).time (t * longest_tick s.cfg) (ticked_past laws.apart s (h ∷ before) n run);
}

extended : HeldLaws → (s : Setting) (h : Happened) (before : List Happened) (n u t : ℕ) (link : LinkCfg) → IsRun s (h ∷ before) → link_above s.cfg n ≡ Some link → IsHeld s n before → IsHeld s n (h ∷ before) → OnHold (core_at s (h ∷ before) n) t →
    OnHold (core_at s before n) u → KeptSince s n before u → KeptSince s n (h ∷ before) t
extended laws s h before n u t link run above was held hold older k =
    let at : ℤ = (world_after s (k.entry ∷ k.before)).time in
    let x : StaysHeld s h before n at = stays laws s h.says h.answer before h.event n u link at run above was (held_core s (h ∷ before) n link run.network above held) older k.late in
    let same : x.0 ≡ t = one_hold (core_at s (h ∷ before) n) x.0 t x.1 hold in
    record {
      newer = h ∷ k.newer;
      entry = k.entry;
      before = k.before;
      splits = ap (λ l. h ∷ l) k.splits;
      begins = k.begins;
      held = (subst (λ l. IsHeld s n (h ∷ l)) k.splits held, k.held);
      slow = longer s h before (length (k.entry ∷ k.before)) (HeldStep s n) (held_slow laws s h before n u link run above was older) k.slow;
      late = subst (λ z. ((world_after s (h ∷ before)).clock n).ticked ≤ℤ (at +ℤ pos (z * longest_tick s.cfg))) same x.2;
    }

kept_since : HeldLaws → (s : Setting) (events : List Happened) (n t : ℕ) (link : LinkCfg) → IsRun s events → link_above s.cfg n ≡ Some link → IsHeld s n events → OnHold (core_at s events n) t → KeptSince s n events t
kept_since laws s [] n t link run above held hold = absurd (false≢true held.up)
kept_since laws s (h ∷ before) n t link run above held hold = elim (held_or_not s before n link run.network above) [
  | inl was ↦
      let prior : IsRun s before = run_before s h before run in
      let it : (u : ℕ) × OnHold (core_at s before n) u × (u < unsigned_abs s.cfg.holdover) = since_when laws s before n link run.network above was in
      let k : KeptSince s n before it.0 = kept_since laws s before n it.0 link prior above was it.1 in
      extended laws s h before n it.0 t link run above was held hold it.1 k
  | inr out ↦ entered laws s h before n t run held out
]

within : (now last at : ℤ) (t holdover dmax : ℕ) → t < holdover → now ≤ℤ (last +ℤ pos dmax) → last ≤ℤ (at +ℤ pos (t * dmax)) → now ≤ℤ (at +ℤ pos ((holdover + 1) * dmax))
within now last at t holdover dmax few near late =
    let turn : now ≤ℤ (at +ℤ pos ((t + 1) * dmax)) = one_turn now last at t dmax near late in
    let less : (t + 1) * dmax ≤ (holdover + 1) * dmax = mul-le-mul_right dmax (fewer t holdover few) in
    far now at ((t + 1) * dmax) ((holdover + 1) * dmax) turn less
  where
    fewer : (t holdover : ℕ) → t < holdover → t + 1 ≤ holdover + 1
    fewer t holdover h = omega (arith, h)

    far : (now at : ℤ) (p q : ℕ) → now ≤ℤ (at +ℤ pos p) → p ≤ q → now ≤ℤ (at +ℤ pos q)
    far now at p q h k = omega (arith, ints)

pub holdover_is_short : HeldLaws → HoldoverIsShort
holdover_is_short laws s events n link run above held =
    let w : WorldAt = world_after s events in
    let it : (t : ℕ) × OnHold (core_at s events n) t × (t < unsigned_abs s.cfg.holdover) = since_when laws s events n link run.network above held in
    let k : KeptSince s n events it.0 = kept_since laws s events n it.0 link run above held it.1 in
    let near : w.time ≤ℤ ((w.clock n).ticked +ℤ pos (longest_tick s.cfg)) = on_time laws.apart s events n (is_inside s n link run.network above) run held.up in
    record {
      newer = k.newer;
      entry = k.entry;
      before = k.before;
      splits = k.splits;
      begins = k.begins;
      held = k.held;
      slow = k.slow;
      recent = within w.time (w.clock n).ticked (world_after s (k.entry ∷ k.before)).time it.0 (unsigned_abs s.cfg.holdover) (longest_tick s.cfg) it.2 near k.late;
    }
