-- Chains of a servo, call by call: what starts one, and the good tags that it has taken.
use Rattle.std.proofs.Common.{◌≡◌, ◌∙◌, refl, ap, sym, subst, ℕ, ◌+◌, ◌&&◌, ◌||◌, not, cond, nat_lt, Bool, true, false, if◌then◌else◌, is_some, List, [], ◌∷◌, ◌++◌, Option, None, Some}
use Rattle.std.specs.Prelude.{int_le}
use Rattle.std.proofs.lemmas.Bool.{false≢true}
use Rattle.wrp_base.specs.declared.link.ServoState.{ServoState}
use Rattle.wrp_base.specs.declared.link.ServoState.TheVariants.{Uninit, SyncTai, SyncNsec, SyncPhase, WaitStable, Track, Holdover}
use Rattle.wrp_base.proofs.Lists.{head_and_tail}
use Rattle.wrp_node.specs.declared.interface.Input.{Input}
use Rattle.wrp_node.specs.declared.interface.Input.TheVariants.{Tick, Sample, Frame, Sent, Carrier, Reset}
use Rattle.wrp_node.specs.NodeAt.{NodeSetting, NodeAt, Taken, servo_setting_of, slave_of, servo_at}
use Rattle.wrp_node.specs.NodeRun.{node_after}
use Rattle.wrp_node.specs.NodeStep.{node_step, stepped}
use Rattle.wrp_node.specs.Telling.{called}
use Rattle.wrp_node.specs.Unbroken.{ChainIsUnbroken, breaks_chain, leaves_fresh}
use Rattle.wrp_phase.specs.Beat.{deglitched}
use Rattle.wrp_servo.specs.Call.{Call, CallSample, CallMeasured, CallTick, CallLease, CallLink, CallCarrier, CallReset, ServoSetting, run}
use Rattle.wrp_servo.specs.declared.machine.Core.{Core}
use Rattle.wrp_servo.specs.Laws.{ChainSince}
use Rattle.wrp_servo.specs.LookBack.{chain_starts, chain_ends}
use Rattle.wrp_servo.specs.Sampling.{chained, followed, good_tag, heard, hears, is_far, is_holdover, judged, judged_in, lost, stays_near, with_last, with_tag}
use Rattle.wrp_servo.specs.Since.{Since, NoneEnds}
use Rattle.wrp_servo.specs.Table.{ended, ended_in}
use Rattle.wrp_servo.specs.Tags.{heard_tag, is_empty, tags}
use Rattle.wrp_servo.specs.Told.{ticks_since_good}
use Rattle.wrp_node.proofs.Unbroken.{chained_fresh, either_fresh, no_start}
use Rattle.wrp_bound_laws.proofs.Nodes.StepCalls.{Brings, IsTelling, KeptBy, settled_keeps, step_keeps, told_tick}
use Rattle.wrp_bound_laws.proofs.Motion.NodeSteps.{Stands, none_ended}

-- What starts a chain

-- a call that is no sample
abbrev pub IsNoSample : Call → Type 0
IsNoSample (CallSample n base bits) = ⊥
IsNoSample _ = Unit {0}

starts_none : (x : ServoSetting) (calls : List Call) (c : Call) → IsNoSample c → chain_starts x calls c ≡ true → ⊥
starts_none x calls (CallSample n base bits) h e = absurd h
starts_none x calls (CallMeasured f y) h e = no_start (is_some (run x calls).first) e
starts_none x calls CallTick h e = no_start (is_some (run x calls).first) e
starts_none x calls (CallLease fresh) h e = no_start (is_some (run x calls).first) e
starts_none x calls (CallLink on) h e = no_start (is_some (run x calls).first) e
starts_none x calls (CallCarrier up) h e = no_start (is_some (run x calls).first) e
starts_none x calls CallReset h e = no_start (is_some (run x calls).first) e

since_before : ChainSince → (x : ServoSetting) (calls : List Call) (c : Call) (since : List Call) (start : Call) (before : List Call) → IsNoSample c → c ∷ calls ≡ since ++ start ∷ before → chain_starts x before start ≡ true →
    NoneEnds (chain_ends x) since (start ∷ before) → Stands (run x calls)
since_before law x calls c [] start before h e s n =
    let it : (c ≡ start) × (calls ≡ before) = head_and_tail c start calls before e in
    absurd (starts_none x before start (subst IsNoSample it.0 h) s)
since_before law x calls c (d ∷ since) start before h e s n =
    let it : (c ≡ d) × (calls ≡ since ++ start ∷ before) = head_and_tail c d calls (since ++ start ∷ before) e in
    (law x calls).1 (record { since = since; start = start; before = before; splits = it.1; started = s; stays = n.1 })

-- a chain that is there after a call that is no sample was there before it
pub stood_before : ChainSince → (x : ServoSetting) (calls : List Call) (c : Call) → IsNoSample c → Stands (run x (c ∷ calls)) → Stands (run x calls)
stood_before law x calls c h stands =
    let s : Since (chain_starts x) (chain_ends x) (c ∷ calls) = (law x (c ∷ calls)).0 stands in
    since_before law x calls c s.since s.start s.before h s.splits s.started s.stays

-- a sample without a good tag leaves the chain
unheard : (b : Bool) (v : Core) (n : ℕ) (tag : Option ℕ) → cond b tag None ≡ None → (cond b (heard (with_last v n) n tag) v).first ≡ v.first
unheard true v n None e = refl
unheard true v n (Some tag) e = cc
unheard false v n tag e = refl

pub unheard_first : (x : ServoSetting) (calls : List Call) (n base bits : ℕ) → heard_tag x calls n base bits ≡ None → (run x (CallSample n base bits ∷ calls)).first ≡ (run x calls).first
unheard_first x calls n base bits e = unheard (hears (run x calls)) (run x calls) n (good_tag (run x calls).last n base bits) e

-- a good tag is the detector's
tag_told : (a b : Bool) (o : Option ℕ) (tag : ℕ) → cond a (cond b o None) None ≡ Some tag → o ≡ Some tag
tag_told true true o tag e = e
tag_told true false o tag e = cc
tag_told false b o tag e = cc

pub heard_deglitched : (x : ServoSetting) (calls : List Call) (n base bits tag : ℕ) → heard_tag x calls n base bits ≡ Some tag → deglitched base bits ≡ Some tag
heard_deglitched x calls n base bits tag e = tag_told (hears (run x calls)) (nat_lt (run x calls).last n) (deglitched base bits) tag e

-- The loop of a chain has taken a good sample

ended_in_fresh : (v : Core) (s : ServoState) → (ended_in v s).phase.fresh ≡ v.phase.fresh
ended_in_fresh v Track = refl
ended_in_fresh v SyncNsec = refl
ended_in_fresh v SyncPhase = refl
ended_in_fresh v WaitStable = refl
ended_in_fresh v Uninit = refl
ended_in_fresh v SyncTai = refl
ended_in_fresh v Holdover = refl

ended_fresh : (v : Core) → (ended v).phase.fresh ≡ v.phase.fresh
ended_fresh v = either_fresh (is_some v.first) (ended_in v v.state) v v.phase.fresh (ended_in_fresh v v.state) refl

judged_fresh : (v : Core) (s : ServoState) → (judged_in v s).phase.fresh ≡ v.phase.fresh
judged_fresh v SyncPhase = either_fresh (int_le v.phase.s v.phase.goal && int_le v.phase.goal v.phase.s) (record v { state = WaitStable; calm = 0 }) v v.phase.fresh refl refl
judged_fresh v Track = either_fresh (stays_near v) v (ended v) v.phase.fresh refl (ended_fresh v)
judged_fresh v WaitStable = refl
judged_fresh v Uninit = refl
judged_fresh v SyncTai = refl
judged_fresh v SyncNsec = refl
judged_fresh v Holdover = refl

no_first : (v : Core) → v.first ≡ None → Stands v → ⊥
no_first v e h = false≢true (ap is_some (sym e) ∙ h)

ended_where : (b : Bool) (v : Core) → is_some v.first ≡ b → Stands (cond b (ended_in v v.state) v) → ⊥
ended_where true v e h = no_first (ended_in v v.state) (none_ended v v.state) h
ended_where false v e h = false≢true (sym e ∙ h)

good_live : (b : Bool) (w : Core) (n : ℕ) → w.phase.fresh ≡ false → Stands (cond b (lost w) (judged (chained (followed w) n))) → (cond b (lost w) (judged (chained (followed w) n))).phase.fresh ≡ false
good_live true w n h s = absurd (ended_where (is_some w.first) w refl s)
good_live false w n h s =
    let c : Core = chained (followed w) n in
    judged_fresh c c.state ∙ chained_fresh (followed w) n ∙ h

sampled_live : (b : Bool) (v : Core) (n : ℕ) (tag : Option ℕ) → (Stands v → ⊥) → Stands (cond b (heard (with_last v n) n tag) v) → (cond b (heard (with_last v n) n tag) v).phase.fresh ≡ false
sampled_live true v n None out s = absurd (out s)
sampled_live true v n (Some tag) out s = good_live (is_far (with_tag (with_last v n) tag).phase.u) (with_tag (with_last v n) tag) n refl s
sampled_live false v n tag out s = absurd (out s)

none_before : (b a : Bool) → (not b && a) ≡ true → b ≡ true → ⊥
none_before true a e h = false≢true e
none_before false a e h = false≢true h

start_live : (x : ServoSetting) (before : List Call) (start : Call) → chain_starts x before start ≡ true → Stands (run x (start ∷ before)) → (run x (start ∷ before)).phase.fresh ≡ false
start_live x before (CallSample n base bits) e s =
    let v : Core = run x before in
    sampled_live (hears v) v n (good_tag v.last n base bits) (none_before (is_some v.first) _ e) s
start_live x before (CallMeasured f y) e s = absurd (starts_none x before (CallMeasured f y) tt e)
start_live x before CallTick e s = absurd (starts_none x before CallTick tt e)
start_live x before (CallLease fresh) e s = absurd (starts_none x before (CallLease fresh) tt e)
start_live x before (CallLink on) e s = absurd (starts_none x before (CallLink on) tt e)
start_live x before (CallCarrier up) e s = absurd (starts_none x before (CallCarrier up) tt e)
start_live x before CallReset e s = absurd (starts_none x before CallReset tt e)

last_false : (a b : Bool) → (a || b) ≡ false → b ≡ false
last_false true b e = cc
last_false false b e = e

since_live : (x : ServoSetting) (calls since : List Call) (start : Call) (before : List Call) → calls ≡ since ++ start ∷ before → chain_starts x before start ≡ true → NoneEnds (breaks_chain x) since (start ∷ before) → Stands (run x calls) → (run x calls).phase.fresh ≡ false
since_live x calls [] start before e s n stands = subst (λ l. Stands (run x l) → (run x l).phase.fresh ≡ false) (sym e) (start_live x before start s) stands
since_live x calls (d ∷ since) start before e s n stands =
    ap (λ l. (run x l).phase.fresh) e ∙ last_false (chain_ends x (since ++ start ∷ before) d) (leaves_fresh x (since ++ start ∷ before) d) n.0

-- between the inputs of a node
pub chain_live : ChainIsUnbroken → (fixed : NodeSetting) (inputs : List Taken) → Stands (servo_at fixed (node_after fixed inputs)) → (servo_at fixed (node_after fixed inputs)).phase.fresh ≡ false
chain_live law fixed inputs stands =
    let s : Since (chain_starts (servo_setting_of fixed)) (breaks_chain (servo_setting_of fixed)) (node_after fixed inputs).calls = (law fixed inputs).0 stands in
    since_live (servo_setting_of fixed) (node_after fixed inputs).calls s.since s.start s.before s.splits s.started s.stays stands

-- The good tags, call by call

-- they are these, if there are any
abbrev pub TagsAre : ServoSetting → List ℕ → List Call → Type 0
TagsAre x ts calls = is_empty (tags x calls) ≡ false → tags x calls ≡ ts

cleared_where : (b : Bool) (ts all : List ℕ) → (is_empty all ≡ false → all ≡ ts) → is_empty (cond b [] all) ≡ false → cond b [] all ≡ ts
cleared_where true ts all h e = absurd (false≢true (sym e))
cleared_where false ts all h e = h e

kept_where : (b : Bool) (ts all : List ℕ) → (is_empty all ≡ false → all ≡ ts) → is_empty (cond b all []) ≡ false → cond b all [] ≡ ts
kept_where true ts all h e = h e
kept_where false ts all h e = absurd (false≢true (sym e))

tags_kept : (x : ServoSetting) (ts : List ℕ) → KeptBy IsNoSample (TagsAre x ts)
tags_kept x ts calls (CallSample n base bits) c h = absurd c
tags_kept x ts calls (CallMeasured f y) c h = h
tags_kept x ts calls CallTick c h = cleared_where (is_holdover (run x calls).state && not (is_holdover (run x (CallTick ∷ calls)).state)) ts (tags x calls) h
tags_kept x ts calls (CallLease fresh) c h = h
tags_kept x ts calls (CallLink on) c h = h
tags_kept x ts calls (CallCarrier true) c h = kept_where (is_holdover (run x calls).state) ts (tags x calls) h
tags_kept x ts calls (CallCarrier false) c h = h
tags_kept x ts calls CallReset c h = λ e. absurd (false≢true (sym e))

-- Inputs

pub telling_less : (D : Call → Type 0) (P : List Call → Type 0) → ((fresh : Bool) → D (CallLease fresh)) → ((on : _) → D (CallLink on)) → KeptBy D P → KeptBy IsTelling P
telling_less D P f g k calls (CallLease fresh) c h = k calls (CallLease fresh) (f fresh) h
telling_less D P f g k calls (CallLink on) c h = k calls (CallLink on) (g on) h
telling_less D P f g k calls (CallSample n base bits) c h = absurd c
telling_less D P f g k calls (CallMeasured four answer) c h = absurd c
telling_less D P f g k calls CallTick c h = absurd c
telling_less D P f g k calls (CallCarrier up) c h = absurd c
telling_less D P f g k calls CallReset c h = absurd c

-- inputs that are no sample
abbrev pub IsNoSampleInput : Input → Type 0
IsNoSampleInput (Sample number base bits) = ⊥
IsNoSampleInput _ = Unit {0}

brings_none : (input : Input) → IsNoSampleInput input → Brings IsNoSample input
brings_none Tick h = tt
brings_none (Sample number base bits) h = absurd h
brings_none (Frame p octets raw sample) h = λ four answer. tt
brings_none (Sent p seq delay stamp) h = tt
brings_none (Carrier p up own_module) h = tt
brings_none Reset h = tt

pub input_tags : (fixed : NodeSetting) (ts : List ℕ) (t : Taken) (n : NodeAt) → IsNoSampleInput t.input → TagsAre (servo_setting_of fixed) ts n.calls → TagsAre (servo_setting_of fixed) ts (node_step fixed t n).node.calls
input_tags fixed ts t n h k =
    step_keeps IsNoSample (TagsAre (servo_setting_of fixed) ts) (tags_kept (servo_setting_of fixed) ts) (telling_less IsNoSample (TagsAre (servo_setting_of fixed) ts) (λ fresh. tt) (λ on. tt) (tags_kept (servo_setting_of fixed) ts)) fixed t n
    (brings_none t.input h) k

stood_kept : ChainSince → (x : ServoSetting) (calls : List Call) → KeptBy IsNoSample (λ now. Stands (run x now) → Stands (run x calls))
stood_kept law x calls now c h old s = old (stood_before law x now c h s)

pub input_stood : ChainSince → (fixed : NodeSetting) (calls : List Call) (t : Taken) (n : NodeAt) → IsNoSampleInput t.input → (Stands (run (servo_setting_of fixed) n.calls) → Stands (run (servo_setting_of fixed) calls)) →
    Stands (run (servo_setting_of fixed) (node_step fixed t n).node.calls) → Stands (run (servo_setting_of fixed) calls)
input_stood law fixed calls t n h old =
    step_keeps IsNoSample (λ now. Stands (run (servo_setting_of fixed) now) → Stands (run (servo_setting_of fixed) calls)) (stood_kept law (servo_setting_of fixed) calls)
    (telling_less IsNoSample (λ now. Stands (run (servo_setting_of fixed) now) → Stands (run (servo_setting_of fixed) calls)) (λ fresh. tt) (λ on. tt) (stood_kept law (servo_setting_of fixed) calls)) fixed t n
    (brings_none t.input h) old

-- a sample
sampled_calls : (fixed : NodeSetting) (t : Taken) (n : NodeAt) (number base bits : ℕ) → t.input ≡ Sample number base bits → is_some (slave_of fixed.set) ≡ true → (stepped fixed t.input t.says t.answer n).node.calls ≡ CallSample number base bits ∷ n.calls
sampled_calls fixed t n number base bits is servo =
    ap (λ (i : Input). (stepped fixed i t.says t.answer n).node.calls) is
    ∙ ap (λ (b : Bool). called (if b then Some (CallSample number base bits) else None) n.calls) servo

pub sample_keeps : (P : List Call → Type 0) → KeptBy IsTelling P → (fixed : NodeSetting) (t : Taken) (n : NodeAt) (number base bits : ℕ) → t.input ≡ Sample number base bits → is_some (slave_of fixed.set) ≡ true → P (CallSample number base bits ∷ n.calls) →
    P (node_step fixed t n).node.calls
sample_keeps P k fixed t n number base bits is servo h =
    settled_keeps P k fixed (stepped fixed t.input t.says t.answer n) (subst P (sym (sampled_calls fixed t n number base bits is servo)) h)

pub sample_tags : (fixed : NodeSetting) (t : Taken) (n : NodeAt) (number base bits : ℕ) → t.input ≡ Sample number base bits → is_some (slave_of fixed.set) ≡ true →
    TagsAre (servo_setting_of fixed) (tags (servo_setting_of fixed) (CallSample number base bits ∷ n.calls)) (node_step fixed t n).node.calls
sample_tags fixed t n number base bits is servo =
    let x : ServoSetting = servo_setting_of fixed in
    let ts : List ℕ = tags x (CallSample number base bits ∷ n.calls) in
    sample_keeps (TagsAre x ts) (telling_less IsNoSample (TagsAre x ts) (λ fresh. tt) (λ on. tt) (tags_kept x ts)) fixed t n number base bits is servo (λ e. refl)

pub sample_stood : ChainSince → (fixed : NodeSetting) (t : Taken) (n : NodeAt) (number base bits : ℕ) → t.input ≡ Sample number base bits → is_some (slave_of fixed.set) ≡ true → Stands (run (servo_setting_of fixed) (node_step fixed t n).node.calls) →
    Stands (run (servo_setting_of fixed) (CallSample number base bits ∷ n.calls))
sample_stood law fixed t n number base bits is servo =
    let x : ServoSetting = servo_setting_of fixed in
    let calls : List Call = CallSample number base bits ∷ n.calls in
    sample_keeps (λ now. Stands (run x now) → Stands (run x calls)) (telling_less IsNoSample (λ now. Stands (run x now) → Stands (run x calls)) (λ fresh. tt) (λ on. tt) (stood_kept law x calls)) fixed t n number base bits is servo (λ s. s)

-- Ticks since the last good sample

-- a call that is neither a tick nor a sample nor a reset
abbrev IsIdle : Call → Type 0
IsIdle CallTick = ⊥
IsIdle (CallSample n base bits) = ⊥
IsIdle CallReset = ⊥
IsIdle _ = Unit {0}

abbrev pub SinceGood : ServoSetting → ℕ → List Call → Type 0
SinceGood x ticks calls = ticks_since_good x calls ≡ ticks

idle_since : (x : ServoSetting) (ticks : ℕ) → KeptBy IsIdle (SinceGood x ticks)
idle_since x ticks calls (CallMeasured f y) c h = h
idle_since x ticks calls (CallLease fresh) c h = h
idle_since x ticks calls (CallLink on) c h = h
idle_since x ticks calls (CallCarrier up) c h = h
idle_since x ticks calls CallTick c h = absurd c
idle_since x ticks calls (CallSample n base bits) c h = absurd c
idle_since x ticks calls CallReset c h = absurd c

told_since : (x : ServoSetting) (ticks : ℕ) → KeptBy IsTelling (SinceGood x ticks)
told_since x ticks = telling_less IsIdle (SinceGood x ticks) (λ fresh. tt) (λ on. tt) (idle_since x ticks)

-- inputs that are neither
abbrev pub IsIdleInput : Input → Type 0
IsIdleInput Tick = ⊥
IsIdleInput (Sample number base bits) = ⊥
IsIdleInput Reset = ⊥
IsIdleInput _ = Unit {0}

brings_idle : (input : Input) → IsIdleInput input → Brings IsIdle input
brings_idle Tick h = absurd h
brings_idle (Sample number base bits) h = absurd h
brings_idle (Frame p octets raw sample) h = λ four answer. tt
brings_idle (Sent p seq delay stamp) h = tt
brings_idle (Carrier p up own_module) h = tt
brings_idle Reset h = absurd h

pub input_since : (fixed : NodeSetting) (ticks : ℕ) (t : Taken) (n : NodeAt) → IsIdleInput t.input → SinceGood (servo_setting_of fixed) ticks n.calls → SinceGood (servo_setting_of fixed) ticks (node_step fixed t n).node.calls
input_since fixed ticks t n h k = step_keeps IsIdle (SinceGood (servo_setting_of fixed) ticks) (idle_since (servo_setting_of fixed) ticks) (told_since (servo_setting_of fixed) ticks) fixed t n (brings_idle t.input h) k

pub tick_since : (fixed : NodeSetting) (ticks : ℕ) (t : Taken) (n : NodeAt) → t.input ≡ Tick → is_some (slave_of fixed.set) ≡ true → SinceGood (servo_setting_of fixed) ticks n.calls → SinceGood (servo_setting_of fixed) (ticks + 1) (node_step fixed t n).node.calls
tick_since fixed ticks t n is servo k =
    told_tick (SinceGood (servo_setting_of fixed) ticks) (SinceGood (servo_setting_of fixed) (ticks + 1)) (told_since (servo_setting_of fixed) ticks) (told_since (servo_setting_of fixed) (ticks + 1)) (λ calls h. ap (λ z. z + 1) h) fixed t n is servo k

pub sample_since : (fixed : NodeSetting) (t : Taken) (n : NodeAt) (number base bits : ℕ) → t.input ≡ Sample number base bits → is_some (slave_of fixed.set) ≡ true →
    SinceGood (servo_setting_of fixed) (ticks_since_good (servo_setting_of fixed) (CallSample number base bits ∷ n.calls)) (node_step fixed t n).node.calls
sample_since fixed t n number base bits is servo =
    let ticks : ℕ = ticks_since_good (servo_setting_of fixed) (CallSample number base bits ∷ n.calls) in
    sample_keeps (SinceGood (servo_setting_of fixed) ticks) (told_since (servo_setting_of fixed) ticks) fixed t n number base bits is servo refl
