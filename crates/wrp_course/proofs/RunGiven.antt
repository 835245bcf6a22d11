-- The inputs that nodes are given are changes of each link that may come.
use Rattle.std.proofs.Common.{◌≡◌, ◌⊎◌, inl, inr, ◌∙◌, refl, ap, sym, subst, ℕ, ◌==◌, ℤ, pos, ◌+ℤ◌, ◌≤ℤ◌, Bool, true, false, if◌then◌else◌, ◌∷◌, Option, None, Some, option_map, Result, Ok, Err}
use Rattle.std.proofs.lemmas.Bool.{eqb-true}
use Rattle.std.proofs.lemmas.Bool.Decides.{eqb_tells}
use Rattle.wrp_base.specs.declared.link.LinkState.TheVariants.{Idle}
use Rattle.wrp_base.specs.declared.link.Module.{Module}
use Rattle.wrp_base.specs.declared.link.Role.{Role}
use Rattle.wrp_base.specs.declared.link.Role.TheVariants.{Master, Slave}
use Rattle.wrp_base.specs.declared.message.Body.{Body}
use Rattle.wrp_base.specs.declared.message.Body.TheVariants.{Sync, DelayReq, FollowUp, DelayResp, Announce, Signal}
use Rattle.wrp_base.specs.declared.message.PtpMsg.{PtpMsg}
use Rattle.wrp_network.specs.declared.network.LinkCfg.{LinkCfg}
use Rattle.wrp_network.specs.Network.{End}
use Rattle.wrp_base.specs.Link.{other_of}
use Rattle.wrp_bounds.specs.Times.{shortest_tick, frame_life}
use Rattle.wrp_data.specs.declared.reason.Reason.{Reason}
use Rattle.wrp_frame.specs.declared.fault.FrameFault.{FrameFault}
use Rattle.wrp_handshake_laws.specs.Ends.{Port, BothPorts, Sending as Message, Change, Passes, Hears, Starts, Lights, IsAmong, IsNoCarrier, MayHear, MayCome, CanBe, placed_at, placed_by, changed, after_input, marked, port_by, with_end, end_of as port_of}
use Rattle.wrp_link.specs.declared.interface.LinkIn.TheVariants as link_in
use Rattle.wrp_link.specs.LinkAt.{LinkAt, new_link}
use Rattle.wrp_link.specs.Rows.{CarrierGoes, under}
use Rattle.wrp_node.specs.declared.interface.Input.{Input}
use Rattle.wrp_node.specs.declared.interface.Input.TheVariants.{Tick, Sample, Frame, Sent, Carrier, Reset}
use Rattle.wrp_node.specs.LinkNews.{LinkNews, Nothing, Given as Handed, Renewed, news_of, frame_news, news_at, StepGivesLinks}
use Rattle.wrp_node.specs.NodeAt.{NodeSetting, NodeAt, link_at, setting_of}
use Rattle.wrp_node.specs.Sends.{SignalsAreOfLink}
use Rattle.wrp_port.specs.Hearing.{early_reason, link_input}
use Rattle.wrp_port.specs.History.{input_unless}
use Rattle.wrp_course.specs.Given.{Given, in_body, in_frame, gives}
use Rattle.wrp_course.specs.LinkEnds.{ends_at, link_sent, port_at}
use Rattle.wrp_course.specs.Setting.{Setting, end_at, end_of, node_setting_of, link_of}
use Rattle.wrp_course.specs.WorldAt.{WorldAt}
use Rattle.wrp_course.proofs.RunLinks.{IsDark}
use Rattle.wrp_course.proofs.RunPorts.{link_dark, port_by_news, port_given, port_is, port_other}

-- A link that can be, and one change more

-- a link that can be, at whose ends these modules were in place when the carriers last came
pub record CanHave (life dmin : ℕ) (placed : Role → Option Module) (ends : BothPorts) : Type 0 where
  pub can : CanBe life dmin ends
  pub modules : (r : Role) → placed_at can.changes r ≡ placed r

pub same_can : (life dmin : ℕ) (placed : Role → Option Module) (ends other : BothPorts) → other ≡ ends → CanHave life dmin placed ends → CanHave life dmin placed other
same_can life dmin placed ends other e h = record {
  can = record {
    of_master = h.can.of_master;
    of_slave = h.can.of_slave;
    start = h.can.start;
    changes = h.can.changes;
    master_quiet = h.can.master_quiet;
    slave_quiet = h.can.slave_quiet;
    come = h.can.come;
    is = e ∙ h.can.is;
  };
  modules = h.modules;
}

-- a change with which no carrier comes
abbrev pub LightsNone : Change → Type 0
LightsNone (Lights of_master of_slave) = ⊥
LightsNone _ = Unit {0}

stay_placed : (change : Change) (r : Role) (before : Option Module) → LightsNone change → placed_by change r before ≡ before
stay_placed (Passes dt) r before h = refl
stay_placed (Hears role input at) r before h = refl
stay_placed (Starts role) r before h = refl
stay_placed (Lights of_master of_slave) r before h = absurd h

abbrev with_change : (life dmin : ℕ) (ends : BothPorts) (change : Change) → CanBe life dmin ends → MayCome life dmin ends change → CanBe life dmin (changed ends change)
with_change life dmin ends change can may = record {
  of_master = can.of_master;
  of_slave = can.of_slave;
  start = can.start;
  changes = change ∷ can.changes;
  master_quiet = can.master_quiet;
  slave_quiet = can.slave_quiet;
  come = (subst (λ e. MayCome life dmin e change) can.is may, can.come);
  is = ap (λ e. changed e change) can.is;
}

pub one_more : (life dmin : ℕ) (placed : Role → Option Module) (ends : BothPorts) (change : Change) → LightsNone change → CanHave life dmin placed ends → MayCome life dmin ends change →
    CanHave life dmin placed (changed ends change)
one_more life dmin placed ends change none h may = record {
  can = with_change life dmin ends change h.can may;
  modules = λ r. stay_placed change r (placed_at h.can.changes r) none ∙ h.modules r;
}

-- the modules at the master's and at the slave's end
abbrev pub of_both : Option Module → Option Module → Role → Option Module
of_both m n Master = m
of_both m n Slave = n

now_placed : (m n before : Option Module) (r : Role) → placed_by (Lights m n) r before ≡ of_both m n r
now_placed m n before Master = refl
now_placed m n before Slave = refl

pub carriers_come : (life dmin : ℕ) (placed : Role → Option Module) (ends : BothPorts) (m n : Option Module) → CanHave life dmin placed ends → CanHave life dmin (of_both m n) (changed ends (Lights m n))
carriers_come life dmin placed ends m n h = record {
  can = with_change life dmin ends (Lights m n) h.can tt;
  modules = λ r. now_placed m n (placed_at h.can.changes r) r;
}

-- News that may come

abbrev pub NewsMay : (life dmin : ℕ) → ℤ → Port → Port → ℤ → LinkNews → Type 0
NewsMay life dmin time q peer at Nothing = Unit {0}
NewsMay life dmin time q peer at (Handed input) = IsNoCarrier input × MayHear life dmin time q peer input at
NewsMay life dmin time q peer at Renewed = Unit {0}

-- to begin again is to lose the carrier, or has no effect if there is none

begins_lit : (time : ℤ) (q : Port) (at : ℤ) → q.link.carrier ≡ true → port_by_news time q at Renewed ≡ after_input time q link_in.CarrierDown at
begins_lit time q at e = sym (ap (λ b. port_by time q link_in.CarrierDown at (under b CarrierGoes)) e)

begins_dark : (time : ℤ) (q : Port) (at : ℤ) → IsDark q.link → q.link.carrier ≡ false → port_by_news time q at Renewed ≡ q
begins_dark time q at dark e =
    let new : q.link ≡ new_link q.link.role q.link.set = dark e in
    port_is (port_by_news time q at Renewed) q (sym new) refl (ap (λ (l : LinkAt). marked time l.state Idle None q.marks) new) refl

same_ends : (life dmin : ℕ) (placed : Role → Option Module) (ends : BothPorts) (role : Role) (q : Port) → q ≡ port_of ends role → CanHave life dmin placed ends → CanHave life dmin placed (with_end ends role q)
same_ends life dmin placed ends Master q e h = same_can life dmin placed ends (with_end ends Master q) (ap (with_end ends Master) e) h
same_ends life dmin placed ends Slave q e h = same_can life dmin placed ends (with_end ends Slave q) (ap (with_end ends Slave) e) h

renewed_keeps : (life dmin : ℕ) (placed : Role → Option Module) (ends : BothPorts) (role : Role) (at : ℤ) (b : Bool) → (port_of ends role).link.carrier ≡ b → CanHave life dmin placed ends → IsDark (port_of ends role).link →
    CanHave life dmin placed (with_end ends role (port_by_news ends.time (port_of ends role) at Renewed))
renewed_keeps life dmin placed ends role at true e h dark =
    same_can life dmin placed (with_end ends role (after_input ends.time (port_of ends role) link_in.CarrierDown at)) (with_end ends role (port_by_news ends.time (port_of ends role) at Renewed))
    (ap (with_end ends role) (begins_lit ends.time (port_of ends role) at e))
    (one_more life dmin placed ends (Hears role link_in.CarrierDown at) tt h (tt, tt))
renewed_keeps life dmin placed ends role at false e h dark =
    same_ends life dmin placed ends role (port_by_news ends.time (port_of ends role) at Renewed) (begins_dark ends.time (port_of ends role) at dark e) h

pub news_keep : (life dmin : ℕ) (placed : Role → Option Module) (ends : BothPorts) (role : Role) (at : ℤ) (news : LinkNews) → CanHave life dmin placed ends → IsDark (port_of ends role).link →
    NewsMay life dmin ends.time (port_of ends role) (port_of ends (other_of role)) at news → CanHave life dmin placed (with_end ends role (port_by_news ends.time (port_of ends role) at news))
news_keep life dmin placed ends role at Nothing h dark may = same_ends life dmin placed ends role (port_of ends role) refl h
news_keep life dmin placed ends role at (Handed input) h dark may = one_more life dmin placed ends (Hears role input at) tt h may
news_keep life dmin placed ends role at Renewed h dark may = renewed_keeps life dmin placed ends role at (port_of ends role).link.carrier refl h dark

-- What may be given

-- a message that is handed over was sent by the peer, and is young
abbrev pub IsKnown : Setting → WorldAt → ℕ → Role → Result PtpMsg FrameFault → ℤ → Type 0
IsKnown s v k r says at =
    (m : Message) → in_frame says at ≡ Some m → IsAmong m (link_sent (v.end_at k (other_of r)).sent) × (v.time ≤ℤ (m.1 +ℤ pos (frame_life s.cfg)))

abbrev pub IsFairInput : Setting → WorldAt → Given → Input → Type 0
IsFairInput s v g Tick = ((v.clock g.to).ticked +ℤ pos (shortest_tick s.cfg)) ≤ℤ v.time
IsFairInput s v g (Frame p octets raw sample) =
    (frame_news (node_setting_of s g.to) (v.node g.to) p g.says ≡ Nothing)
    ⊎ ((k : ℕ) (r : Role) (end : End) → end_at s k r ≡ Some end → end.node ≡ g.to → end.port ≡ p → IsKnown s v k r g.says g.at)
IsFairInput s v g (Carrier p true own_module) = ⊥
IsFairInput s v g _ = Unit {0}

abbrev pub IsFair : Setting → WorldAt → Given → Type 0
IsFair s v g = IsFairInput s v g g.input

abbrev Knows : (life : ℕ) → ℤ → Port → Option Message → Type 0
Knows life time peer o = (m : Message) → o ≡ Some m → IsAmong m peer.sent × (time ≤ℤ (m.1 +ℤ pos life))

body_may : (life dmin : ℕ) (time : ℤ) (q peer : Port) (at : ℤ) (role : Role) (body : Body) → Knows life time peer (in_body body at) → NewsMay life dmin time q peer at (news_of (link_input role body))
body_may life dmin time q peer at Slave (Announce origin utc p1 quality p2 gm steps source suffix) h = (tt, tt)
body_may life dmin time q peer at Slave (Signal target (Some message)) h = (tt, h (message, at) refl)
body_may life dmin time q peer at Slave (Signal target None) h = tt
body_may life dmin time q peer at Slave (Sync origin) h = tt
body_may life dmin time q peer at Slave (DelayReq origin) h = tt
body_may life dmin time q peer at Slave (FollowUp precise) h = tt
body_may life dmin time q peer at Slave (DelayResp receive requesting) h = tt
body_may life dmin time q peer at Master (Announce origin utc p1 quality p2 gm steps source suffix) h = tt
body_may life dmin time q peer at Master (Signal target (Some message)) h = (tt, h (message, at) refl)
body_may life dmin time q peer at Master (Signal target None) h = tt
body_may life dmin time q peer at Master (Sync origin) h = tt
body_may life dmin time q peer at Master (DelayReq origin) h = tt
body_may life dmin time q peer at Master (FollowUp precise) h = tt
body_may life dmin time q peer at Master (DelayResp receive requesting) h = tt

unless_may : (life dmin : ℕ) (time : ℤ) (q peer : Port) (at : ℤ) (reason : Option Reason) (role : Role) (body : Body) → Knows life time peer (in_body body at) →
    NewsMay life dmin time q peer at (news_of (input_unless reason (link_input role body)))
unless_may life dmin time q peer at None role body h = body_may life dmin time q peer at role body h
unless_may life dmin time q peer at (Some reason) role body h = tt

frame_may : (life dmin : ℕ) (time : ℤ) (q peer : Port) (at : ℤ) (fixed : NodeSetting) (n : NodeAt) (p : ℕ) (says : Result PtpMsg FrameFault) → Knows life time peer (in_frame says at) →
    NewsMay life dmin time q peer at (frame_news fixed n p says)
frame_may life dmin time q peer at fixed n p (Err fault) h = tt
frame_may life dmin time q peer at fixed n p (Ok m) h =
    unless_may life dmin time q peer at (early_reason (setting_of fixed.set p) (link_at fixed.set n p) m) (setting_of fixed.set p).ds.role m.body h

may_where : (life dmin : ℕ) (time : ℤ) (q peer : Port) (at : ℤ) (b : Bool) (news : LinkNews) → (b ≡ true → NewsMay life dmin time q peer at news) →
    NewsMay life dmin time q peer at (if b then news else Nothing)
may_where life dmin time q peer at true news h = h refl
may_where life dmin time q peer at false news h = tt

input_may : (s : Setting) (v : WorldAt) (g : Given) (input : Input) (k : ℕ) (r : Role) (end : End) (peer : Port) → end_at s k r ≡ Some end → end.node ≡ g.to →
    peer.sent ≡ link_sent (v.end_at k (other_of r)).sent → IsFairInput s v g input →
    NewsMay (frame_life s.cfg) (shortest_tick s.cfg) v.time (port_at s v k r end) peer g.at (news_at (node_setting_of s g.to) (v.node g.to) input g.says end.port)
input_may s v g Tick k r end peer is e sent f = (tt, subst (λ n. ((v.clock n).ticked +ℤ pos (shortest_tick s.cfg)) ≤ℤ v.time) (sym e) f)
input_may s v g (Sample number base bits) k r end peer is e sent f = tt
input_may s v g (Frame x octets raw sample) k r end peer is e sent f =
    may_where (frame_life s.cfg) (shortest_tick s.cfg) v.time (port_at s v k r end) peer g.at (end.port == x) (frame_news (node_setting_of s g.to) (v.node g.to) x g.says)
    (λ b. elim f [
      | inl none ↦ subst (NewsMay (frame_life s.cfg) (shortest_tick s.cfg) v.time (port_at s v k r end) peer g.at) (sym none) tt
      | inr known ↦
          frame_may (frame_life s.cfg) (shortest_tick s.cfg) v.time (port_at s v k r end) peer g.at (node_setting_of s g.to) (v.node g.to) x g.says
          (subst (λ xs. (m : Message) → in_frame g.says g.at ≡ Some m → IsAmong m xs × (v.time ≤ℤ (m.1 +ℤ pos (frame_life s.cfg)))) (sym sent)
          (known k r end is e (eqb-true end.port x b)))
    ])
input_may s v g (Sent x seq delay stamp) k r end peer is e sent f = tt
input_may s v g (Carrier x true own_module) k r end peer is e sent f = absurd f
input_may s v g (Carrier x false own_module) k r end peer is e sent f =
    may_where (frame_life s.cfg) (shortest_tick s.cfg) v.time (port_at s v k r end) peer g.at (end.port == x) (Handed link_in.CarrierDown) (λ b. (tt, tt))
input_may s v g Reset k r end peer is e sent f = tt

-- One input

abbrev pub LinkCan : Setting → (Role → Option Module) → WorldAt → ℕ → LinkCfg → Type 0
LinkCan s placed w k link = CanHave (frame_life s.cfg) (shortest_tick s.cfg) placed (ends_at s w k link)

abbrev pub ends_with : ℤ → Port → Port → BothPorts
ends_with time master slave = record { time = time; master = master; slave = slave }

pub with_ports : (s : Setting) (placed : Role → Option Module) (w : WorldAt) (k : ℕ) (link : LinkCfg) (time : ℤ) (master slave : Port) → w.time ≡ time → port_at s w k Master (end_of Master link) ≡ master →
    port_at s w k Slave (end_of Slave link) ≡ slave → CanHave (frame_life s.cfg) (shortest_tick s.cfg) placed (ends_with time master slave) → LinkCan s placed w k link
with_ports s placed w k link time master slave t a b can =
    same_can (frame_life s.cfg) (shortest_tick s.cfg) placed (ends_with time master slave) (ends_at s w k link)
    (λ i. ends_with (t i) (a i) (b i)) can

pub end_is : (s : Setting) (k : ℕ) (r : Role) (link : LinkCfg) → link_of s k ≡ Some link → end_at s k r ≡ Some (end_of r link)
end_is s k r link is = ap (option_map (end_of r)) is

pub given_keeps : StepGivesLinks → SignalsAreOfLink → (s : Setting) (placed : Role → Option Module) (y : ℤ) (v : WorldAt) (g : Given) (k : ℕ) (link : LinkCfg) → link_of s k ≡ Some link → (link.upper ≡ link.lower → ⊥) →
    IsFair s v g → LinkCan s placed v k link → LinkCan s placed (gives s y v g) k link
given_keeps links signals s placed y v g k link is two f can =
    let up : end_at s k Master ≡ Some (end_of Master link) = end_is s k Master link is in
    let low : end_at s k Slave ≡ Some (end_of Slave link) = end_is s k Slave link is in
    elim (eqb_tells link.upper g.to) [
      | inl x ↦
          with_ports s placed (gives s y v g) k link v.time _ _ refl
          (port_given links signals s y v g k Master (end_of Master link) up x.1)
          (port_other s y v g k Slave (end_of Slave link) low (λ e. two (x.1 ∙ sym e)))
          (news_keep (frame_life s.cfg) (shortest_tick s.cfg) placed (ends_at s v k link) Master g.at (news_at (node_setting_of s g.to) (v.node g.to) g.input g.says link.upper_port) can
          (link_dark s v link.upper link.upper_port)
          (input_may s v g g.input k Master (end_of Master link) (port_at s v k Slave (end_of Slave link)) up x.1 refl f))
      | inr x ↦ elim (eqb_tells link.lower g.to) [
        | inl z ↦
            with_ports s placed (gives s y v g) k link v.time _ _ refl
            (port_other s y v g k Master (end_of Master link) up x.1)
            (port_given links signals s y v g k Slave (end_of Slave link) low z.1)
            (news_keep (frame_life s.cfg) (shortest_tick s.cfg) placed (ends_at s v k link) Slave g.at (news_at (node_setting_of s g.to) (v.node g.to) g.input g.says link.lower_port) can
            (link_dark s v link.lower link.lower_port)
            (input_may s v g g.input k Slave (end_of Slave link) (port_at s v k Master (end_of Master link)) low z.1 refl f))
        | inr z ↦
            with_ports s placed (gives s y v g) k link v.time _ _ refl
            (port_other s y v g k Master (end_of Master link) up x.1) (port_other s y v g k Slave (end_of Slave link) low z.1) can
      ]
    ]
