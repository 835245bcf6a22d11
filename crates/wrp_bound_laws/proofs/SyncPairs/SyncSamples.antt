-- The samples of the exchange below a link, while the servo there has a chain, are the chain's good samples.
use Rattle.std.proofs.Common.{◌≡◌, inl, inr, ◌∙◌, refl, ap, sym, subst, ℕ, ◌+◌, ◌==◌, ℤ, not, Bool, true, false, if◌then◌else◌, is_some, List, ◌∷◌, ◌++◌, map, length, Option, None, Some, option_map, option_to_list, Result}
use Rattle.std.proofs.lemmas.Bool.Decides.{eqb_tells}
use Rattle.std.proofs.lemmas.Bool.{false≢true}
use Rattle.wrp_base.specs.declared.link.Role.TheVariants.{Slave}
use Rattle.wrp_base.specs.declared.message.PtpMsg.{PtpMsg}
use Rattle.wrp_network.specs.declared.network.LinkCfg.{LinkCfg}
use Rattle.wrp_base.proofs.Naturals.{eq_self}
use Rattle.wrp_exch.specs.declared.ring.GoodSample.{GoodSample}
use Rattle.wrp_exch.specs.Call.{Call as Piece, CallStart, CallClear, CallSample as SamplePiece, CallSync, CallFollowUp, CallReqOut, CallReqSent, CallResp}
use Rattle.wrp_exch.specs.Samples.{samples}
use Rattle.wrp_frame.specs.declared.fault.FrameFault.{FrameFault}
use Rattle.wrp_node.specs.declared.interface.Input.TheVariants.{Sample as SampleInput}
use Rattle.wrp_node.specs.NodeAt.{NodeSetting, NodeAt, Taken, pieces_at, setting_of, servo_setting_of, slave_of}
use Rattle.wrp_node.specs.NodeStep.{node_step}
use Rattle.wrp_node.specs.SetLaws.{EndsAreSet}
use Rattle.wrp_port.specs.Outputs.{with_call}
use Rattle.wrp_servo.specs.Call.{CallLease, CallLink, CallSample, CallMeasured, CallTick, CallCarrier, CallReset, ServoSetting, run}
use Rattle.wrp_servo.specs.Laws.{PhaseMovesByTags}
use Rattle.wrp_servo.specs.Tags.{heard_tag}
use Rattle.wrp_tracking_laws.specs.Chain.{Good}
use Rattle.wrp_course.specs.declared.event.Event.{Event}
use Rattle.wrp_course.specs.declared.event.Event.TheVariants.{Tick, Sample, Depart, Deliver, Noise, Up}
use Rattle.wrp_bound_laws.proofs.Motion.NodeSteps.{Stands}
use Rattle.wrp_course.specs.Given.{Given, given_plain, step_of, taken_of, world_step}
use Rattle.wrp_course.specs.Moved.{moved, waiting_at}
use Rattle.wrp_course.specs.Run.{Happened, world_after}
use Rattle.wrp_course.specs.Runs.{IsNetwork, IsRun}
use Rattle.wrp_course.specs.Setting.{Setting, node_setting_of, link_of, place_of}
use Rattle.wrp_course.specs.WorldAt.{WorldAt}
use Rattle.wrp_course.proofs.RunTimes.{comes_up_down, not_up}
use Rattle.wrp_bound_laws.specs.Chains.{good_in, phase_in}
use Rattle.wrp_bound_laws.specs.Exchanges.{exchange_at}
use Rattle.wrp_bound_laws.specs.Rates.{HasChain}
use Rattle.wrp_bound_laws.proofs.Samples.LiveChains.{sample_keeps, sample_stood, unheard_first}
use Rattle.wrp_bound_laws.proofs.Runs.PortRoles.{role_is}
use Rattle.wrp_bound_laws.proofs.Samples.SampleEvents.{stood_before}
use Rattle.wrp_bound_laws.proofs.Nodes.StepCalls.{IsTelling, KeptBy}
use Rattle.wrp_bound_laws.proofs.SyncPairs.SyncGiven.{ComesOf, GivenLaws, Grown, carriers_grown, deliver_grown, noise_grown, queue_grown, slave_at, tick_grown}
use Rattle.wrp_bound_laws.proofs.SyncPairs.SyncTold.{Starts, sample_adds, sample_piece, sample_starts, sampled}

-- A sample of the node

abbrev heard_by : Setting → List Happened → ℕ → (base bits : ℕ) → Option ℕ
heard_by s before n base bits = heard_tag (servo_setting_of (node_setting_of s n)) ((world_after s before).node n).calls (((world_after s before).clock n).samples + 1) base bits

-- what the node takes of it
abbrev sample_taken : Setting → ℤ → List Happened → ℕ → (base bits : ℕ) → Taken
sample_taken s y before n base bits = taken_of y (given_plain n (SampleInput (((world_after s before).clock n).samples + 1) base bits))

sample_node : (s : Setting) (says : Result PtpMsg FrameFault) (y : ℤ) (before : List Happened) (n m base bits : ℕ) → n ≡ m →
    (world_step s says y (world_after s before) (Sample m base bits)).node n ≡ (node_step (node_setting_of s n) (sample_taken s y before n base bits) ((world_after s before).node n)).node
sample_node s says y before n m base bits same =
    let w : WorldAt = world_after s before in
    let v : WorldAt = moved s w (Sample m base bits) in
    let g : Given = given_plain m (SampleInput (v.clock m).samples base bits) in
    let here : (n == m) ≡ true = ap (λ i. i == m) same ∙ eq_self m in
    let number : (v.clock m).samples ≡ (w.clock m).samples + 1 = ap (λ b. (if b then record (w.clock m) { samples = (w.clock m).samples + 1 } else w.clock m).samples) (eq_self m) in
    ap (λ b. if b then (step_of s y v g).node else w.node n) here
    ∙ ap (λ k. (node_step (node_setting_of s m) (taken_of y (given_plain m (SampleInput k base bits))) (w.node m)).node) number
    ∙ ap (λ i. (node_step (node_setting_of s i) (taken_of y (given_plain i (SampleInput ((w.clock i).samples + 1) base bits))) (w.node i)).node) (sym same)

-- the phase that the servo has then stays to the end of the event
pub phase_kept : PhaseMovesByTags → (x : ServoSetting) (u : ℤ) → KeptBy IsTelling (λ calls. (run x calls).phase.u ≡ u)
phase_kept law x u calls (CallLease fresh) c h = law x calls (CallLease fresh) refl ∙ h
phase_kept law x u calls (CallLink on) c h = law x calls (CallLink on) refl ∙ h
phase_kept law x u calls (CallSample n base bits) c h = absurd c
phase_kept law x u calls (CallMeasured four answer) c h = absurd c
phase_kept law x u calls CallTick c h = absurd c
phase_kept law x u calls (CallCarrier up) c h = absurd c
phase_kept law x u calls CallReset c h = absurd c

phase_then : PhaseMovesByTags → (s : Setting) (says : Result PtpMsg FrameFault) (y : ℤ) (before : List Happened) (n m base bits : ℕ) → n ≡ m → is_some (slave_of (s.set n)) ≡ true →
    phase_in s (world_step s says y (world_after s before) (Sample m base bits)) n ≡ (sampled (node_setting_of s n) ((world_after s before).node n) (((world_after s before).clock n).samples + 1) base bits).phase.u
phase_then law s says y before n m base bits same servo =
    let w : WorldAt = world_after s before in
    let number : ℕ = (w.clock n).samples + 1 in
    let x : ServoSetting = servo_setting_of (node_setting_of s n) in
    let u : ℤ = (sampled (node_setting_of s n) (w.node n) number base bits).phase.u in
    ap (λ (z : NodeAt). (run x z.calls).phase.u) (sample_node s says y before n m base bits same)
    ∙ sample_keeps (λ calls. (run x calls).phase.u ≡ u) (phase_kept law x u) (node_setting_of s n) (sample_taken s y before n base bits) (w.node n) number base bits refl servo refl

-- the good sample that it is
abbrev good_by : Setting → ℤ → List Happened → ℕ → (u : ℤ) → ℕ → Good
good_by s y before n u tag = record { number = ((world_after s before).clock n).samples + 1; tag = tag; u = u; at = length before + 1 }

pub good_where : (b : Bool) (o : Option Good) → b ≡ true → (if b then o else None) ≡ o
good_where true o e = refl
good_where false o e = absurd (false≢true e)

pub no_good_of : (b : Bool) (o : Option Good) → b ≡ false → (if b then o else None) ≡ None
no_good_of true o e = absurd (false≢true (sym e))
no_good_of false o e = refl

good_then : (s : Setting) (says : Result PtpMsg FrameFault) (y : ℤ) (before : List Happened) (n m base bits : ℕ) (o : Option ℕ) → n ≡ m → heard_by s before n base bits ≡ o →
    good_in s n (record { event = Sample m base bits; says = says; answer = y }) before (Sample m base bits)
    ≡ option_map (good_by s y before n (phase_in s (world_step s says y (world_after s before) (Sample m base bits)) n)) o
good_then s says y before n m base bits o same heard =
    good_where (n == m) (option_map (good_by s y before n (phase_in s (world_step s says y (world_after s before) (Sample m base bits)) n)) (heard_by s before n base bits)) (ap (λ i. i == m) same ∙ eq_self m)
    ∙ ap (option_map (good_by s y before n (phase_in s (world_step s says y (world_after s before) (Sample m base bits)) n))) heard

-- in a chain
sample_comes : PhaseMovesByTags → (s : Setting) (says : Result PtpMsg FrameFault) (y : ℤ) (before : List Happened) (m base bits k : ℕ) (link : LinkCfg) (o : Option ℕ) → link.lower ≡ m → is_some (slave_of (s.set link.lower)) ≡ true → heard_by s before link.lower base bits ≡ o →
    ComesOf s before (record { event = Sample m base bits; says = says; answer = y }) k link
    (option_map (λ (tag : ℕ). SamplePiece (((world_after s before).clock link.lower).samples + 1) (sampled (node_setting_of s link.lower) ((world_after s before).node link.lower) (((world_after s before).clock link.lower).samples + 1) base bits).phase.u) o)
sample_comes law s says y before m base bits k link None same servo heard = good_then s says y before link.lower m base bits None same heard
sample_comes law s says y before m base bits k link (Some tag) same servo heard = record {
  good = good_by s y before link.lower (phase_in s (world_step s says y (world_after s before) (Sample m base bits)) link.lower) tag;
  is = good_then s says y before link.lower m base bits (Some tag) same heard;
  number_is = refl;
  u_is = sym (phase_then law s says y before link.lower m base bits same servo);
}

sample_grown : GivenLaws → (s : Setting) (says : Result PtpMsg FrameFault) (y : ℤ) (before : List Happened) (m base bits k : ℕ) (link : LinkCfg) → IsNetwork s → (setting_of (s.set link.lower) link.lower_port).ds.role ≡ Slave → link_of s k ≡ Some link → link.lower ≡ m → HasChain s link.lower before →
    HasChain s link.lower (record { event = Sample m base bits; says = says; answer = y } ∷ before) → Grown s before (record { event = Sample m base bits; says = says; answer = y }) k link ((world_step s says y (world_after s before) (Sample m base bits)).node link.lower)
sample_grown laws s says y before m base bits k link net role is same was chain =
    let fixed : NodeSetting = node_setting_of s link.lower in
    let w : WorldAt = world_after s before in
    let number : ℕ = (w.clock link.lower).samples + 1 in
    let slave : slave_of (s.set link.lower) ≡ Some link.lower_port = slave_at s net k link is in
    let node : _ = sample_node s says y before link.lower m base bits same in
    let it : _ = sample_adds laws.since fixed (w.node link.lower) link.lower_port number base bits slave role was (subst (λ (z : NodeAt). Stands (run (servo_setting_of fixed) z.calls)) node chain) in
    record {
      piece = sample_piece fixed (w.node link.lower) number base bits;
      adds = ap (λ (z : NodeAt). pieces_at (s.set link.lower) z link.lower_port) node ∙ it.adds;
      comes = sample_comes laws.phase s says y before m base bits k link (heard_by s before link.lower base bits) same (ap is_some slave) refl;
    }

-- Each event of a chain

event_grown : GivenLaws → EndsAreSet → (s : Setting) (says : Result PtpMsg FrameFault) (y : ℤ) (before : List Happened) (e : Event) (k : ℕ) (link : LinkCfg) → IsRun s (record { event = e; says = says; answer = y } ∷ before) → link_of s k ≡ Some link →
    ((world_after s before).clock link.lower).up ≡ true → HasChain s link.lower before → HasChain s link.lower (record { event = e; says = says; answer = y } ∷ before) →
    Grown s before (record { event = e; says = says; answer = y }) k link ((world_step s says y (world_after s before) e).node link.lower)
event_grown laws ends s says y before (Tick m) k link run is up was chain = elim (eqb_tells link.lower m) [
  | inl x ↦ tick_grown laws.since s says y before m k link run.network is x.1 chain
  | inr x ↦ carriers_grown laws.since s (record { event = Tick m; says = says; answer = y }) before k link run.network is x.1 refl chain
]
event_grown laws ends s says y before (Sample m base bits) k link run is up was chain = elim (eqb_tells link.lower m) [
  | inl x ↦ sample_grown laws s says y before m base bits k link run.network (role_is ends s run.network k Slave link is) is x.1 was chain
  | inr x ↦ carriers_grown laws.since s (record { event = Sample m base bits; says = says; answer = y }) before k link run.network is x.1 (no_good_of (link.lower == m) _ x.0) chain
]
event_grown laws ends s says y before (Depart m p stamp) k link run is up was chain =
    let w : WorldAt = world_after s before in
    queue_grown laws.since s (record { event = Depart m p stamp; says = says; answer = y }) before k link (moved s w (Depart m p stamp)) m p stamp (w.clock m).samples (waiting_at w (place_of s m p)) run.network is refl refl chain
event_grown laws ends s says y before (Deliver i) k link run is up was chain =
    deliver_grown laws.since s says y before i k link ((world_after s before).frame i) run.network (role_is ends s run.network k Slave link is) is refl chain
event_grown laws ends s says y before (Noise m p octets raw) k link run is up was chain = noise_grown laws.since s says y before m p octets raw k link run.network is run.accepted.0 chain
event_grown laws ends s says y before (Up m off swaps) k link run is up was chain =
    carriers_grown laws.since s (record { event = Up m off swaps; says = says; answer = y }) before k link run.network is
    (λ same. not_up ((world_after s before).clock link.lower).up up (subst (λ n. not (not ((world_after s before).clock n).up) ≡ false) (sym same) (comes_up_down s (world_after s before) says m off swaps run.accepted.0)))
    refl chain
event_grown laws ends s says y before e k link run is up was chain = carriers_grown laws.since s (record { event = e; says = says; answer = y }) before k link run.network is tt refl chain

pub grown : GivenLaws → EndsAreSet → (s : Setting) (h : Happened) (before : List Happened) (k : ℕ) (link : LinkCfg) → IsRun s (h ∷ before) → link_of s k ≡ Some link → ((world_after s before).clock link.lower).up ≡ true → HasChain s link.lower before → HasChain s link.lower (h ∷ before) →
    Grown s before h k link ((world_after s (h ∷ before)).node link.lower)
grown laws ends s h before k link run is up was chain = event_grown laws ends s h.says h.answer before h.event k link run is up was chain

-- The start of a chain

-- its first good sample, with which the exchange was given the chain
pub record Begun (s : Setting) (start : Happened) (before : List Happened) (link : LinkCfg) : Type 0 where
  pub good : Good
  pub is : good_in s link.lower start before start.event ≡ Some good
  pub number_is : good.number ≡ ((world_after s before).clock link.lower).samples + 1
  pub adds : exchange_at s link (start ∷ before) ≡ SamplePiece good.number good.u ∷ (CallStart good.number ∷ exchange_at s link before)

sample_begun : GivenLaws → (s : Setting) (says : Result PtpMsg FrameFault) (y : ℤ) (before : List Happened) (m base bits k : ℕ) (link : LinkCfg) → IsNetwork s → (setting_of (s.set link.lower) link.lower_port).ds.role ≡ Slave → link_of s k ≡ Some link → link.lower ≡ m → (HasChain s link.lower before → ⊥) →
    HasChain s link.lower (record { event = Sample m base bits; says = says; answer = y } ∷ before) → Begun s (record { event = Sample m base bits; says = says; answer = y }) before link
sample_begun laws s says y before m base bits k link net role is same out chain =
    let fixed : NodeSetting = node_setting_of s link.lower in
    let w : WorldAt = world_after s before in
    let number : ℕ = (w.clock link.lower).samples + 1 in
    let slave : slave_of (s.set link.lower) ≡ Some link.lower_port = slave_at s net k link is in
    let node : _ = sample_node s says y before link.lower m base bits same in
    let there : Stands (run (servo_setting_of fixed) (node_step fixed (sample_taken s y before link.lower base bits) (w.node link.lower)).node.calls) = subst (λ (z : NodeAt). Stands (run (servo_setting_of fixed) z.calls)) node chain in
    let it : Starts fixed (w.node link.lower) (node_step fixed (sample_taken s y before link.lower base bits) (w.node link.lower)) link.lower_port number base bits =
    sample_starts laws.since fixed (w.node link.lower) link.lower_port number base bits slave role out
    (λ none. out (sym (ap is_some (unheard_first (servo_setting_of fixed) (w.node link.lower).calls number base bits none)) ∙ sample_stood laws.since fixed (sample_taken s y before link.lower base bits) (w.node link.lower) number base bits refl (ap is_some slave) there))
    there in
    record {
      good = good_by s y before link.lower (phase_in s (world_step s says y w (Sample m base bits)) link.lower) it.tag;
      is = good_then s says y before link.lower m base bits (Some it.tag) same it.heard;
      number_is = refl;
      adds =
          ap (λ (z : NodeAt). pieces_at (s.set link.lower) z link.lower_port) node ∙ it.adds
          ∙ ap (λ u. SamplePiece number u ∷ (CallStart number ∷ exchange_at s link before)) (sym (phase_then laws.phase s says y before link.lower m base bits same (ap is_some slave)));
    }

event_begun : GivenLaws → EndsAreSet → (s : Setting) (says : Result PtpMsg FrameFault) (y : ℤ) (before : List Happened) (e : Event) (k : ℕ) (link : LinkCfg) → IsRun s (record { event = e; says = says; answer = y } ∷ before) → link_of s k ≡ Some link →
    (HasChain s link.lower before → ⊥) → HasChain s link.lower (record { event = e; says = says; answer = y } ∷ before) → Begun s (record { event = e; says = says; answer = y }) before link
event_begun laws ends s says y before (Sample m base bits) k link run is out chain = elim (eqb_tells link.lower m) [
  | inl x ↦ sample_begun laws s says y before m base bits k link run.network (role_is ends s run.network k Slave link is) is x.1 out chain
  | inr x ↦ absurd (out (stood_before laws.since s (record { event = Sample m base bits; says = says; answer = y }) before link.lower x.1 chain))
]
event_begun laws ends s says y before e k link run is out chain = absurd (out (stood_before laws.since s (record { event = e; says = says; answer = y }) before link.lower tt chain))

pub begun : GivenLaws → EndsAreSet → (s : Setting) (start : Happened) (before : List Happened) (k : ℕ) (link : LinkCfg) → IsRun s (start ∷ before) → link_of s k ≡ Some link → (HasChain s link.lower before → ⊥) → HasChain s link.lower (start ∷ before) → Begun s start before link
begun laws ends s start before k link run is out chain = event_begun laws ends s start.says start.answer before start.event k link run is out chain

-- The samples of the exchange

abbrev pub sample_of : Good → GoodSample
sample_of g = record { number = g.number; phase = g.u }

same_sample : (number : ℕ) (u : ℤ) (g : Good) → number ≡ g.number → u ≡ g.u → record { number = number; phase = u } ≡ sample_of g
same_sample number u g n p = λ i. record { number = n i; phase = p i }

-- as one event adds to them
pub samples_more : (s : Setting) (before : List Happened) (h : Happened) (k : ℕ) (link : LinkCfg) (o : Option Piece) (calls : List Piece) → ComesOf s before h k link o → samples (with_call o calls) ≡ map sample_of (option_to_list (good_in s link.lower h before h.event)) ++ samples calls
samples_more s before h k link None calls c = ap (λ g. map sample_of (option_to_list g) ++ samples calls) (sym c)
samples_more s before h k link (Some (CallStart first)) calls c = absurd c
samples_more s before h k link (Some CallClear) calls c = absurd c
samples_more s before h k link (Some (SamplePiece number u)) calls c =
    ap (λ g. g ∷ samples calls) (same_sample number u c.good c.number_is c.u_is) ∙ ap (λ g. map sample_of (option_to_list g) ++ samples calls) (sym c.is)
samples_more s before h k link (Some (CallSync seq correction t2 tick)) calls c = ap (λ g. map sample_of (option_to_list g) ++ samples calls) (sym c.0)
samples_more s before h k link (Some (CallFollowUp seq precise)) calls c = ap (λ g. map sample_of (option_to_list g) ++ samples calls) (sym c.0)
samples_more s before h k link (Some (CallReqOut seq)) calls c = ap (λ g. map sample_of (option_to_list g) ++ samples calls) (sym c)
samples_more s before h k link (Some (CallReqSent seq t3 tick)) calls c = ap (λ g. map sample_of (option_to_list g) ++ samples calls) (sym c)
samples_more s before h k link (Some (CallResp seq t4)) calls c = ap (λ g. map sample_of (option_to_list g) ++ samples calls) (sym c)

pub goods_more : (o : Option Good) (gs : List Good) (old : List GoodSample) → map sample_of (option_to_list o) ++ (map sample_of gs ++ old) ≡ map sample_of (option_to_list o ++ gs) ++ old
goods_more None gs old = refl
goods_more (Some g) gs old = refl
