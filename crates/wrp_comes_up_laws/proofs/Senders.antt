-- Each message that an end of a link ever put out is one of its port: it has the port's domain and identity, and goes to the peer.
use Rattle.std.proofs.Common.{◌≡◌, inl, inr, refl, ap, sym, subst, ℕ, ℤ, Bool, List, [], ◌∷◌, map, Some, Result}
use Rattle.std.specs.List.{AllByRecursion}
use Rattle.wrp_base.specs.declared.link.Role.{Role}
use Rattle.wrp_base.specs.declared.link.Role.TheVariants.{Master, Slave}
use Rattle.wrp_base.specs.declared.message.Body.{Body}
use Rattle.wrp_base.specs.declared.message.Body.TheVariants.{Signal}
use Rattle.wrp_base.specs.declared.message.PtpMsg.{PtpMsg}
use Rattle.wrp_network.specs.declared.network.LinkCfg.{LinkCfg}
use Rattle.wrp_frame.specs.declared.fault.FrameFault.{FrameFault}
use Rattle.wrp_node.specs.declared.interface.Input.{Input}
use Rattle.wrp_node.specs.declared.interface.Input.TheVariants.{Tick, Sample, Frame, Sent, Carrier, Reset}
use Rattle.wrp_node.specs.NodeAt.{NodeSetting, NodeAt, Taken, certain_of, line_at, locked_of, setting_of}
use Rattle.wrp_node.specs.NodeStep.{node_step, servo_ticked, stamp_of}
use Rattle.wrp_port.specs.declared.line.Rest.{Rest}
use Rattle.wrp_port.specs.declared.setting.Setting.{Setting as PortSetting}
use Rattle.wrp_port.specs.LineAfter.{ticked}
use Rattle.wrp_port.specs.Messages.{announce_of, follow_up_of, request_of, response_of, sync_of}
use Rattle.wrp_bound_laws.proofs.Nodes.StepSends.{ScheduledAll, SentBy, step_each}
use Rattle.wrp_bound_laws.proofs.Runs.PortRoles.{set_at}
use Rattle.wrp_course.specs.Given.{Given, given_by, gives, gives_all, sending, step_of, taken_of}
use Rattle.wrp_course.specs.Moved.{moved}
use Rattle.wrp_course.specs.Run.{Happened, world_after}
use Rattle.wrp_course.specs.Runs.{WasPutOut}
use Rattle.wrp_course.specs.Setting.{Setting, end_of, link_of, node_setting_of}
use Rattle.wrp_course.specs.WorldAt.{EndAt, Sending, WorldAt}
use Rattle.wrp_course.proofs.RunFlights.{put_either}
use Rattle.wrp_course.proofs.RunFrames.{moved_sent}
use Rattle.wrp_course.proofs.RunSent.{told_there}

-- a Signaling goes to the peer of a port
abbrev pub IsToPeer : PortSetting → Body → Type 0
IsToPeer set (Signal target message) = target ≡ set.ds.peer
IsToPeer set _ = Unit {0}

-- a message of a port that is set like this
pub record IsOfPort (set : PortSetting) (m : PtpMsg) : Type 0 where
  pub domain : m.head.domain ≡ set.own.domain
  pub source : m.head.source ≡ set.ds.own
  pub target : IsToPeer set m.body

-- What a step sends

abbrev pub AllOfPort : PortSetting → List PtpMsg → Type 0
AllOfPort set ms = AllByRecursion (IsOfPort set) ms

-- a message that is no Signaling
plain : (set : PortSetting) (m : PtpMsg) → m.head.domain ≡ set.own.domain → m.head.source ≡ set.ds.own → IsToPeer set m.body → IsOfPort set m
plain set m d s t = record { domain = d; source = s; target = t }

scheduled_are : (set : PortSetting) (role : Role) (line : Rest) (certain : Bool) → ScheduledAll (IsOfPort set) set role line certain
scheduled_are set Master line certain =
    (λ e. plain set (announce_of set line.link certain line.ids.announce) refl refl tt, λ e. plain set (sync_of set line.ids.sync) refl refl tt)
scheduled_are set Slave line certain = λ e. plain set (request_of set line.ids.request) refl refl tt

sent_by_input : (fixed : NodeSetting) (n : NodeAt) (p : ℕ) (input : Input) (says : Result PtpMsg FrameFault) →
    SentBy (IsOfPort (setting_of fixed.set p)) fixed n p input says
sent_by_input fixed n p Tick says =
    scheduled_are (setting_of fixed.set p) (setting_of fixed.set p).ds.role
    (ticked (setting_of fixed.set p) (line_at fixed.set (servo_ticked fixed n).node p) (locked_of fixed (servo_ticked fixed n).node))
    (certain_of fixed (servo_ticked fixed n).node)
sent_by_input fixed n p (Sample number base bits) says = tt
sent_by_input fixed n p (Frame q octets raw sample) says =
    λ m is same hears request. plain (setting_of fixed.set p) (response_of (setting_of fixed.set p) m.head (stamp_of fixed n p raw sample)) refl refl tt
sent_by_input fixed n p (Sent q seq delay stamp) says = λ e same. plain (setting_of fixed.set p) (follow_up_of (setting_of fixed.set p) seq stamp)
    refl refl tt
sent_by_input fixed n p (Carrier q up own_module) says = tt
sent_by_input fixed n p Reset says = tt

step_sends : (fixed : NodeSetting) (t : Taken) (n : NodeAt) (p : ℕ) → AllOfPort (setting_of fixed.set p) ((node_step fixed t n).sends p)
step_sends fixed t n p =
    step_each (IsOfPort (setting_of fixed.set p)) fixed t n p (λ seq m. record { domain = refl; source = refl; target = refl })
    (sent_by_input fixed n p t.input t.says)

-- What an end ever put out

abbrev pub AllSent : Setting → Role → LinkCfg → EndAt → Type 0
AllSent s r link e = (x : Sending) → WasPutOut x e.sent → IsOfPort (set_at s r link) x.message

among : (set : PortSetting) (v : WorldAt) (x : Sending) (ms : List PtpMsg) → AllOfPort set ms → WasPutOut x (map (sending v) ms) → IsOfPort set x.message
among set v x [] all h = absurd h
among set v x (m ∷ ms) all h = elim h [
  | inl is ↦ subst (IsOfPort set) (sym (ap (λ (t : Sending). t.message) is)) all.0
  | inr rest ↦ among set v x ms all.1 rest
]

given_sent :
    (s : Setting) (y : ℤ) (v : WorldAt) (g : Given) (k : ℕ) (r : Role) (link : LinkCfg) → link_of s k ≡ Some link →
    AllSent s r link (v.end_at k r) → AllSent s r link ((gives s y v g).end_at k r)
given_sent s y v g k r link is h =
    told_there (AllSent s r link) s y v g k r link is h
    (λ here x put. elim (put_either x (map (sending v) ((step_of s y v g).sends (end_of r link).port)) (v.end_at k r).sent put) [
      | inl new ↦
          subst (λ n. IsOfPort (setting_of (s.set n) (end_of r link).port) x.message) (sym here)
          (among (setting_of (s.set g.to) (end_of r link).port) v x ((step_of s y v g).sends (end_of r link).port)
          (step_sends (node_setting_of s g.to) (taken_of y g) (v.node g.to) (end_of r link).port) new)
      | inr old ↦ h x old
    ])

all_given_sent :
    (s : Setting) (y : ℤ) (gs : List Given) (v : WorldAt) (k : ℕ) (r : Role) (link : LinkCfg) → link_of s k ≡ Some link →
    AllSent s r link (v.end_at k r) → AllSent s r link ((gives_all s y v gs).end_at k r)
all_given_sent s y [] v k r link is h = h
all_given_sent s y (g ∷ gs) v k r link is h = all_given_sent s y gs (gives s y v g) k r link is (given_sent s y v g k r link is h)

pub all_sent :
    (s : Setting) (events : List Happened) (k : ℕ) (r : Role) (link : LinkCfg) → link_of s k ≡ Some link →
    AllSent s r link ((world_after s events).end_at k r)
all_sent s [] k r link is = λ x put. absurd put
all_sent s (h ∷ before) k r link is =
    let w : WorldAt = world_after s before in
    let v : WorldAt = moved s w h.event in
    all_given_sent s h.answer (given_by s w v h.says h.event) v k r link is
    (λ x put. all_sent s before k r link is x (subst (WasPutOut x) (moved_sent s w h.event k r) put))
