-- The measurement that a node holds was computed from the deltas of its link, which are still the deltas of the link.
use Rattle.std.proofs.Common.{◌≡◌, ◌⊎◌, inl, inr, ◌∙◌, refl, ap, sym, subst, ℕ, ℤ, Bool, true, false, if◌then◌else◌, is_some, List, [], ◌∷◌, Option, None, Some}
use Rattle.std.specs.Prelude.{nat_le}
use Rattle.std.proofs.lemmas.Bool.{false≢true}
use Rattle.std.proofs.lemmas.Option.{none-some}
use Rattle.wrp_base.specs.declared.link.Deltas.{Deltas}
use Rattle.wrp_base.specs.declared.link.LinkState.{LinkState}
use Rattle.wrp_base.specs.declared.link.LinkState.TheVariants.{Idle, Present, SLock, MLock, Locked, Calibration, Calibrated, RespCalib, LinkOn}
use Rattle.wrp_base.specs.declared.link.Role.{Role}
use Rattle.wrp_base.specs.declared.link.Role.TheVariants.{Master, Slave}
use Rattle.wrp_base.specs.declared.measurement.Four.{Four}
use Rattle.wrp_base.specs.declared.message.WrMsg.{WrMsg}
use Rattle.wrp_base.specs.declared.message.WrMsg.TheVariants.{Present as SLAVE_PRESENT, Lock as LOCK, Locked as LOCKED, Calibrate as CALIBRATE, Calibrated as CALIBRATED, ModeOn as WR_MODE_ON}
use Rattle.wrp_link.specs.declared.interface.LinkIn.{LinkIn}
use Rattle.wrp_link.specs.declared.interface.LinkIn.TheVariants as link
use Rattle.wrp_link.specs.LinkAt.{LinkAt}
use Rattle.wrp_link.specs.Rows.{Row, CarrierGoes, Counts, Fails, announce_row, message_row, under}
use Rattle.wrp_link.specs.Table.{after, by_row}
use Rattle.wrp_node.specs.LinkNews.{LinkNews, Nothing, Given, Renewed, StepGivesLinks, link_after, news_at}
use Rattle.wrp_node.specs.NodeAt.{NodeSetting, NodeAt, Taken, deltas_at, deltas_in, link_at, port_of, setting_of, servo_setting_of, slave_of}
use Rattle.wrp_node.specs.NodeRun.{node_after}
use Rattle.wrp_node.specs.NodeStep.{node_step, stepped}
use Rattle.wrp_node.specs.Telling.{Step, called, is_changed, link_change, with_lease}
use Rattle.wrp_node.proofs.Links.{tell_link}
use Rattle.wrp_port.specs.declared.setting.Setting.{Setting}
use Rattle.wrp_port.specs.PortAt.{deltas_in as deltas_while, deltas_of}
use Rattle.wrp_servo.specs.Call.{Call, CallSample, CallMeasured, CallTick, CallLease, CallLink, CallCarrier, CallReset, ServoSetting, run}
use Rattle.wrp_servo.specs.declared.machine.Core.{Core}
use Rattle.wrp_servo.specs.declared.machine.Measurement.{Measurement}
use Rattle.wrp_servo.specs.Laws.{ChainHasSignals}
use Rattle.wrp_servo.specs.Measuring.{deltas_in_chain}
use Rattle.wrp_servo.specs.Told.{ToldLast, link_told}
use Rattle.wrp_tracking_laws.specs.ServoGives.{WasMeasured}
use Rattle.wrp_bound_laws.proofs.Measurements.FourCalls.{Brings, kept_before, kept_stands, measured_before}
use Rattle.wrp_bound_laws.proofs.Measurements.FourRises.{free_measures_none}
use Rattle.wrp_bound_laws.proofs.Nodes.FourSteps.{IsFree, IsOnlySlave, KeptByEach, KeptByLink, leased_keeps, step_keeps_each}

-- the laws that this rests on
pub record DeltaLaws : Type 0 where
  pub told : ToldLast
  pub signals : ChainHasSignals
  pub links : StepGivesLinks

-- What the servo was given of the link

-- the measurement that is held was computed from the deltas that the servo was given last
pub record IsReckonedBy (x : ServoSetting) (calls : List Call) (k : Measurement) : Type 0 where
  pub was : WasMeasured x calls k
  pub told : link_told calls ≡ Some was.deltas

abbrev pub Reckons : ServoSetting → List Call → Type 0
Reckons x calls = (k : Measurement) → (run x calls).kept ≡ Some k → IsReckonedBy x calls k

later : (x : ServoSetting) (calls : List Call) (c : Call) (k : Measurement) → link_told (c ∷ calls) ≡ link_told calls → IsReckonedBy x calls k → IsReckonedBy x (c ∷ calls) k
later x calls c k same h = record {
  was = record {
    since = c ∷ h.was.since;
    before = h.was.before;
    deltas = h.was.deltas;
    answer = h.was.answer;
    splits = ap (λ (l : List Call). c ∷ l) h.was.splits;
    in_chain = h.was.in_chain;
    in_range = h.was.in_range;
    delay = h.was.delay;
  };
  told = same ∙ h.told;
}

pub free_told : (c : Call) (calls : List Call) → IsFree c → link_told (c ∷ calls) ≡ link_told calls
free_told (CallSample n base bits) calls free = refl
free_told (CallMeasured f y) calls free = refl
free_told CallTick calls free = refl
free_told (CallLease fresh) calls free = refl
free_told (CallLink on) calls free = absurd free
free_told (CallCarrier up) calls free = refl
free_told CallReset calls free = absurd free

chain_deltas : (v : Core) (first : Option ℕ) (d : Deltas) → v.first ≡ first → deltas_in_chain v ≡ Some d → v.signals.link ≡ Some d
chain_deltas v (Some n) d e h = sym (ap (λ o. deltas_in_chain (record v { first = o })) e) ∙ h
chain_deltas v None d e h = absurd (none-some d (sym (ap (λ o. deltas_in_chain (record v { first = o })) e) ∙ h))

brought : DeltaLaws → (x : ServoSetting) (calls : List Call) (f : Four) (y : ℤ) (k : Measurement) → Brings x calls f y k → IsReckonedBy x (CallMeasured f y ∷ calls) k
brought laws x calls f y k b =
    subst (λ (m : Measurement). IsReckonedBy x (CallMeasured f y ∷ calls) m) (sym b.is)
    (record {
      was = record { since = []; before = calls; deltas = b.deltas; answer = y; splits = refl; in_chain = b.in_chain; in_range = b.in_range; delay = refl };
      told = sym (laws.told x calls).link ∙ chain_deltas (run x calls) (run x calls).first b.deltas refl b.in_chain;
    })

each_reckons : DeltaLaws → (fixed : NodeSetting) (p : ℕ) → KeptByEach fixed p (λ ticks told calls. Reckons (servo_setting_of fixed) calls)
each_reckons laws fixed p =
    let x : ServoSetting = servo_setting_of fixed in
    record {
      port = λ ticks told calls input plain h. h;
      count = λ ticks told calls h. h;
      call = λ ticks told calls c free h k is. later x calls c k (free_told c calls free) (h k (kept_before x calls c k (free_measures_none c free) is));
      measured = λ ticks told calls message stamp four answer by h k is. elim (measured_before x calls four answer k is) [
        | inl old ↦ later x calls (CallMeasured four answer) k refl (h k old)
        | inr new ↦ brought laws x calls four answer k new
      ];
      reset = λ ticks told calls h k is. absurd (none-some k is);
    }

-- while a measurement is held, nothing is reported of the link: it is on, and going off would end the chain
never_off : (told on : Bool) → told ≡ true → on ≡ true → is_changed told on ≡ true → ⊥
never_off true true e f c = false≢true c
never_off true false e f c = false≢true f
never_off false on e f c = false≢true e

link_reckons : DeltaLaws → (fixed : NodeSetting) → KeptByLink fixed (λ ticks told calls. Reckons (servo_setting_of fixed) calls)
link_reckons laws fixed ticks told calls on changed h k is =
    let x : ServoSetting = servo_setting_of fixed in
    let old : IsReckonedBy x calls k = h k (kept_before x calls (CallLink on) k tt is) in
    absurd (never_off (is_some (link_told calls)) (is_some on) (ap is_some old.told) (laws.signals x (CallLink on ∷ calls) (kept_stands x (CallLink on ∷ calls) k is)).link changed)

pub node_reckons : DeltaLaws → (fixed : NodeSetting) (p : ℕ) → slave_of fixed.set ≡ Some p → IsOnlySlave fixed p → (inputs : List Taken) → Reckons (servo_setting_of fixed) (node_after fixed inputs).calls
node_reckons laws fixed p slave only [] = λ k is. absurd (none-some k is)
node_reckons laws fixed p slave only (t ∷ before) =
    step_keeps_each (λ ticks told calls. Reckons (servo_setting_of fixed) calls) fixed p (each_reckons laws fixed p) (link_reckons laws fixed) slave only t (node_after fixed before) (node_reckons laws fixed p slave only before)

-- The link itself

-- once on with these deltas, it is off or on with these
abbrev StaysOn : Deltas → LinkAt → Type 0
StaysOn d l = (deltas_of Slave l ≡ None) ⊎ (deltas_of Slave l ≡ Some d)

abbrev on_link : LinkAt → LinkAt
on_link l = record l { state = LinkOn }

under_stays : (l : LinkAt) (d : Deltas) (b : Bool) (row : Row) → StaysOn d l → StaysOn d (by_row l row) → StaysOn d (by_row l (under b row))
under_stays l d true row h k = k
under_stays l d false row h k = h

message_stays : (l : LinkAt) (d : Deltas) (role : Role) (m : WrMsg) → StaysOn d (on_link l) → StaysOn d (by_row (on_link l) (message_row (on_link l) role m))
message_stays l d Slave m h = h
message_stays l d Master SLAVE_PRESENT h = under_stays (on_link l) d (nat_le l.set.quiet l.on_ticks) Fails h (inl refl)
message_stays l d Master LOCK h = h
message_stays l d Master LOCKED h = h
message_stays l d Master (CALIBRATE a b c) h = h
message_stays l d Master (CALIBRATED tx rx) h = h
message_stays l d Master WR_MODE_ON h = h

announce_stays : (l : LinkAt) (d : Deltas) (role : Role) (suffix : Option ℕ) → StaysOn d (on_link l) → StaysOn d (by_row (on_link l) (announce_row (on_link l) role LinkOn suffix))
announce_stays l d Slave suffix h = h
announce_stays l d Master suffix h = h

input_stays : (l : LinkAt) (d : Deltas) (input : LinkIn) → StaysOn d (on_link l) → StaysOn d (after (on_link l) input)
input_stays l d (link.Msg m) h = under_stays (on_link l) d l.carrier (message_row (on_link l) l.role m) h (message_stays l d l.role m h)
input_stays l d (link.Announce suffix) h = under_stays (on_link l) d l.carrier (announce_row (on_link l) l.role LinkOn suffix) h (announce_stays l d l.role suffix h)
input_stays l d (link.Tick locked) h = under_stays (on_link l) d l.carrier Counts h h
input_stays l d link.CarrierDown h = under_stays (on_link l) d l.carrier CarrierGoes h (inl refl)
input_stays l d (link.CarrierUp own_module) h = inl refl

news_stays : (set : Setting) (l : LinkAt) (d : Deltas) (news : LinkNews) → StaysOn d (on_link l) → StaysOn d (link_after set (on_link l) news)
news_stays set l d Nothing h = h
news_stays set l d (Given input) h = input_stays l d input h
news_stays set l d Renewed h = inl refl

-- a slave port with deltas is on
is_on : (role : Role) (state : LinkState) (l : LinkAt) (d : Deltas) → deltas_while role state l ≡ Some d → (role ≡ Slave) × (state ≡ LinkOn)
is_on Slave LinkOn l d e = (refl, refl)
is_on Slave Idle l d e = absurd (none-some d e)
is_on Slave Present l d e = absurd (none-some d e)
is_on Slave SLock l d e = absurd (none-some d e)
is_on Slave MLock l d e = absurd (none-some d e)
is_on Slave Locked l d e = absurd (none-some d e)
is_on Slave Calibration l d e = absurd (none-some d e)
is_on Slave Calibrated l d e = absurd (none-some d e)
is_on Slave RespCalib l d e = absurd (none-some d e)
is_on Master state l d e = absurd (none-some d e)

as_on : (l : LinkAt) → l.state ≡ LinkOn → l ≡ on_link l
as_on l e = λ i. record l { state = e i }

stays_on : (set : Setting) (role : Role) (l : LinkAt) (d : Deltas) (news : LinkNews) → deltas_of role l ≡ Some d → (deltas_of role (link_after set l news) ≡ None) ⊎ (deltas_of role (link_after set l news) ≡ Some d)
stays_on set role l d news e =
    let it : (role ≡ Slave) × (l.state ≡ LinkOn) = is_on role l.state l d e in
    let is : l ≡ on_link l = as_on l it.1 in
    let now : deltas_of Slave (on_link l) ≡ Some d = subst (λ (z : LinkAt). deltas_of Slave z ≡ Some d) is (subst (λ (r : Role). deltas_of r l ≡ Some d) it.0 e) in
    subst (λ (r : Role). (deltas_of r (link_after set l news) ≡ None) ⊎ (deltas_of r (link_after set l news) ≡ Some d)) (sym it.0)
    (subst (λ (z : LinkAt). StaysOn d (link_after set z news)) (sym is) (news_stays set l d news (inr now)))

-- What the servo was given of the link still holds, after every input

abbrev pub KnowsDeltas : NodeSetting → NodeAt → Type 0
KnowsDeltas fixed n = (d : Deltas) → link_told n.calls ≡ Some d → deltas_in fixed.set n ≡ Some d

-- nothing is reported of it before the end of a step
each_tells : (fixed : NodeSetting) (p : ℕ) (old : List Call) → KeptByEach fixed p (λ ticks told calls. (d : Deltas) → link_told calls ≡ Some d → link_told old ≡ Some d)
each_tells fixed p old = record {
  port = λ ticks told calls input plain h. h;
  count = λ ticks told calls h. h;
  call = λ ticks told calls c free h d is. h d (sym (free_told c calls free) ∙ is);
  measured = λ ticks told calls message stamp four answer by h d is. h d is;
  reset = λ ticks told calls h d is. absurd (none-some d is);
}

told_at_end : (has changes : Bool) (on : Option Deltas) (calls : List Call) (d : Deltas) → has ≡ true → link_told (called (if has then (if changes then Some (CallLink on) else None) else None) calls) ≡ Some d →
    (on ≡ Some d) ⊎ ((link_told calls ≡ Some d) × (changes ≡ false))
told_at_end true true on calls d e is = inl is
told_at_end true false on calls d e is = inr (is, refl)
told_at_end false changes on calls d e is = absurd (false≢true e)

deltas_here : (fixed : NodeSetting) (p : ℕ) (n : NodeAt) → slave_of fixed.set ≡ Some p → deltas_in fixed.set n ≡ deltas_of (port_of fixed.set p).role (link_at fixed.set n p)
deltas_here fixed p n slave = ap (deltas_at fixed.set n) slave

still_some : (told on : Option Deltas) (d : Deltas) → told ≡ Some d → is_changed (is_some told) (is_some on) ≡ false → on ≡ None → ⊥
still_some told on d e c none = absurd (flip (is_some told) (is_some on) (ap is_some e) (ap is_some none) c)
  where
    flip : (a b : Bool) → a ≡ true → b ≡ false → is_changed a b ≡ false → ⊥
    flip true false e f c = false≢true (sym c)
    flip true true e f c = false≢true (sym f)
    flip false b e f c = false≢true e

pub step_knows : DeltaLaws → (fixed : NodeSetting) (p : ℕ) → slave_of fixed.set ≡ Some p → IsOnlySlave fixed p → (t : Taken) (n : NodeAt) → KnowsDeltas fixed n → KnowsDeltas fixed (node_step fixed t n).node
step_knows laws fixed p slave only t n knows d is =
    let s : Step = with_lease fixed (stepped fixed t.input t.says t.answer n) in
    let after : NodeAt = (node_step fixed t n).node in
    let on : Option Deltas = deltas_in fixed.set s.node in
    let same : deltas_in fixed.set after ≡ on =
    deltas_here fixed p after slave ∙ ap (deltas_of (port_of fixed.set p).role) (tell_link fixed (link_change fixed s.node) s p) ∙ sym (deltas_here fixed p s.node slave) in
    elim (told_at_end (is_some (slave_of fixed.set)) (is_changed (is_some (link_told s.node.calls)) (is_some on)) on s.node.calls d (ap is_some slave) is) [
      | inl now ↦ same ∙ now
      | inr old ↦
          let was : link_told n.calls ≡ Some d =
          leased_keeps (λ ticks told calls. (d : Deltas) → link_told calls ≡ Some d → link_told n.calls ≡ Some d) fixed p (each_tells fixed p n.calls) slave only t n (λ d e. e) d old.0 in
          let before : deltas_of (port_of fixed.set p).role (link_at fixed.set n p) ≡ Some d = sym (deltas_here fixed p n slave) ∙ knows d was in
          let link : link_at fixed.set after p ≡ link_after (setting_of fixed.set p) (link_at fixed.set n p) (news_at fixed n t.input t.says p) = laws.links fixed t n p in
          let now : deltas_in fixed.set after ≡ deltas_of (port_of fixed.set p).role (link_after (setting_of fixed.set p) (link_at fixed.set n p) (news_at fixed n t.input t.says p)) =
          deltas_here fixed p after slave ∙ ap (deltas_of (port_of fixed.set p).role) link in
          elim (stays_on (setting_of fixed.set p) (port_of fixed.set p).role (link_at fixed.set n p) d (news_at fixed n t.input t.says p) before) [
            | inl off ↦ absurd (still_some (link_told s.node.calls) on d old.0 old.1 (sym same ∙ now ∙ off))
            | inr stays ↦ now ∙ stays
          ]
    ]

pub node_knows : DeltaLaws → (fixed : NodeSetting) (p : ℕ) → slave_of fixed.set ≡ Some p → IsOnlySlave fixed p → (inputs : List Taken) → KnowsDeltas fixed (node_after fixed inputs)
node_knows laws fixed p slave only [] d is = absurd (none-some d is)
node_knows laws fixed p slave only (t ∷ before) d is = step_knows laws fixed p slave only t (node_after fixed before) (node_knows laws fixed p slave only before) d is
