-- A link's master puts out a Delay_Resp when it is handed a Delay_Req of the slave, and at no other time.
use Rattle.std.proofs.Common.{◌≡◌, ◌⊎◌, inl, inr, ◌∙◌, refl, ap, sym, subst, ℕ, ℤ, List, [], ◌∷◌, ◌++◌, length, map, Option, None, Some, Result, Ok}
use Rattle.std.specs.List.{AllByRecursion}
use Rattle.std.specs.Option.{option_map_or}
use Rattle.std.proofs.lemmas.Bool.{false≢true}
use Rattle.wrp_base.specs.declared.link.Role.{Role}
use Rattle.wrp_base.specs.declared.link.Role.TheVariants.{Master, Slave}
use Rattle.wrp_base.specs.declared.message.Body.{Body}
use Rattle.wrp_base.specs.declared.message.PtpMsg.{PtpMsg}
use Rattle.wrp_network.specs.declared.network.LinkCfg.{LinkCfg}
use Rattle.wrp_base.specs.declared.time.Raw.{Raw}
use Rattle.wrp_network.specs.Network.{End}
use Rattle.wrp_base.specs.Link.{other_of}
use Rattle.wrp_frame.specs.declared.fault.FrameFault.{FrameFault}
use Rattle.wrp_frame.specs.SentOctets.{octets_of}
use Rattle.wrp_node.specs.declared.interface.Input.{Input}
use Rattle.wrp_node.specs.declared.interface.Input.TheVariants.{Tick as TickInput, Sample as SampleInput, Frame, Sent, Carrier, Reset}
use Rattle.wrp_node.specs.NodeAt.{NodeSetting, NodeAt, setting_of}
use Rattle.wrp_node.specs.NodeStep.{stamp_of}
use Rattle.wrp_port.specs.Messages.{response_of}
use Rattle.wrp_course.specs.declared.event.Event.{Event}
use Rattle.wrp_course.specs.declared.event.Event.TheVariants.{Pass, Tick, Sample, Depart, Arrive, Deliver, Noise, Down, Up, Cut, Join}
use Rattle.wrp_bound_laws.proofs.Measurements.FourInputs.{IsNoFrame}
use Rattle.wrp_course.specs.Given.{Given, delivered, delivered_by, delivered_to, given, gives, gives_all, sending, step_of, world_step}
use Rattle.wrp_course.specs.Moved.{moved}
use Rattle.wrp_course.specs.Premises.{Accepts, is_forged}
use Rattle.wrp_course.specs.Run.{Happened, world_after}
use Rattle.wrp_course.specs.Runs.{IsNetwork, IsRun, WasPutOut}
use Rattle.wrp_course.specs.Setting.{Setting, end_at, end_of, node_setting_of, link_of, place_of}
use Rattle.wrp_course.specs.WorldAt.{Arrival, FrameAt, Sending, WorldAt}
use Rattle.wrp_course.proofs.RunCarriers.{end_alike}
use Rattle.wrp_course.proofs.RunGiven.{end_is}
use Rattle.wrp_course.proofs.RunHanded.{not_forged}
use Rattle.wrp_course.proofs.RunNetwork.{are_apart}
use Rattle.wrp_bound_laws.proofs.DelayPairs.DelayResponses.{Answers, IsAnswerTo, IsResponse, responses_answer}
use Rattle.wrp_bound_laws.proofs.Nodes.StepTold.{Hears, heard_of_peer}
use Rattle.wrp_bound_laws.proofs.Nodes.Inputs.{GivesTo}
use Rattle.wrp_bound_laws.proofs.Frames.PutOut.{given_put, moved_back, none_put}
use Rattle.wrp_bound_laws.proofs.Frames.Sendings.{WasPut, was_put, PutOutIn, is_new}
use Rattle.wrp_bound_laws.proofs.Runs.Suffixes.{older_run}
use Rattle.arrayvec.specs.ArrayVec.{ArrayVec as Items}
use Rattle.wrp_bound_laws.proofs.Nodes.StepSends.{IsRequest}

-- A response is put out

-- a message of this kind is put out as one of those, now
pub record SentAs (C : PtpMsg → Type 0) (v : WorldAt) (x : Sending) : Type 0 where
  pub is : C x.message
  pub moment : x.moment ≡ v.count
  pub at : x.at ≡ v.time

pub sent_as : (I : Body → Type 0) (C : PtpMsg → Type 0) (v : WorldAt) (x : Sending) (ms : List PtpMsg) → AllByRecursion (λ m. I m.body → C m) ms → I x.message.body → WasPutOut x (map (sending v) ms) → SentAs C v x
sent_as I C v x [] all it h = absurd h
sent_as I C v x (m ∷ ms) all it h = elim h [
  | inl is ↦
      let same : x.message ≡ m = ap (λ (t : Sending). t.message) is in
      record {
        is = subst C (sym same) (all.0 (subst (λ (z : PtpMsg). I z.body) same it));
        moment = ap (λ (t : Sending). t.moment) is;
        at = ap (λ (t : Sending). t.at) is;
      }
  | inr rest ↦ sent_as I C v x ms all.1 it rest
]

-- Delay_Resps

no_answer : (fixed : NodeSetting) (n : NodeAt) (p : ℕ) (input : Input) (says : Result PtpMsg FrameFault) (z : PtpMsg) → IsNoFrame input → IsAnswerTo fixed n p input says z → ⊥
no_answer fixed n p (Frame q octets raw sample) says z none h = absurd none
no_answer fixed n p TickInput says z none h = h
no_answer fixed n p (SampleInput number base bits) says z none h = h
no_answer fixed n p (Sent q seq delay stamp) says z none h = h
no_answer fixed n p (Carrier q up own_module) says z none h = h
no_answer fixed n p Reset says z none h = h

given_resp : (s : Setting) (y : ℤ) (v : WorldAt) (g : Given) (k : ℕ) (link : LinkCfg) (x : Sending) → link_of s k ≡ Some link → IsResponse x.message.body → WasPutOut x ((gives s y v g).end_at k Master).sent →
    WasPutOut x (v.end_at k Master).sent ⊎ ((link.upper ≡ g.to) × IsAnswerTo (node_setting_of s g.to) (v.node g.to) link.upper_port g.input g.says x.message)
given_resp s y v g k link x is it h =
    elim (given_put s y v g k Master link x is h) [
      | inl old ↦ inl old
      | inr new ↦
          inr (
            new.0,
            (sent_as IsResponse (IsAnswerTo (node_setting_of s g.to) (v.node g.to) link.upper_port g.input g.says) v x ((step_of s y v g).sends link.upper_port)
                (responses_answer (node_setting_of s g.to) _ (v.node g.to) link.upper_port) it new.1).is,
          )
    ]

-- it answers a Delay_Req of the slave that is handed to the master
pub record AnsweredIn (s : Setting) (w : WorldAt) (e : Event) (k : ℕ) (link : LinkCfg) (x : Sending) : Type 0 where
  pub number : ℕ
  pub event : e ≡ Deliver number
  pub frame : FrameAt
  pub there : w.frame number ≡ Some frame
  pub arrival : Arrival
  pub arrived : frame.arrival ≡ Some arrival
  pub link_is : frame.link ≡ k
  pub by_is : frame.by ≡ Slave
  pub request : IsRequest frame.sending.message.body
  pub hears : Hears (node_setting_of s link.upper) (w.node link.upper) link.upper_port frame.sending.message
  pub message : x.message ≡ response_of (setting_of (s.set link.upper) link.upper_port) frame.sending.message.head (stamp_of (node_setting_of s link.upper) (w.node link.upper) link.upper_port arrival.raw arrival.sample)

slave_of_other : (r : Role) → other_of r ≡ Master → r ≡ Slave
slave_of_other Slave e = refl
slave_of_other Master e = cc

pub ok_is : (a b : PtpMsg) → ◌≡◌ {A = Result PtpMsg FrameFault} (Ok a) (Ok b) → a ≡ b
ok_is a b e = cc

-- the master's end of a link of an accepted network
record AtMaster : Type 0 where
  s : Setting
  net : IsNetwork s
  k : ℕ
  link : LinkCfg
  is : link_of s k ≡ Some link

-- the frame of an input that is handed over
abbrev Either : AtMaster → WorldAt → ℕ → Sending → Type 0
Either m w i x = WasPutOut x ((moved m.s w (Deliver i)).end_at m.k Master).sent ⊎ AnsweredIn m.s w (Deliver i) m.k m.link x

handed_resp : (m : AtMaster) (y : ℤ) (w : WorldAt) (i : ℕ) (x : Sending) (f : FrameAt) (a : Arrival) (o : Option End) → w.frame i ≡ Some f → f.arrival ≡ Some a → end_at m.s f.link (other_of f.by) ≡ o → IsResponse x.message.body →
    WasPutOut x ((gives_all m.s y (moved m.s w (Deliver i)) (option_map_or (λ end. delivered_to f a end.node end.port) o [])).end_at m.k Master).sent → Either m w i x
handed_resp m y w i x f a None there arrived at it h = inl h
handed_resp m y w i x f a (Some end) there arrived at it h =
    let s : Setting = m.s in
    let link : LinkCfg = m.link in
    let g : Given = record {
      to = end.node;
      input = Frame end.port (record { items = octets_of f.sending.message }) a.raw a.sample;
      says = Ok f.sending.message;
      at = f.sending.at;
    } in
    elim (given_resp s y (moved s w (Deliver i)) g m.k link x m.is it h) [
      | inl old ↦ inl old
      | inr new ↦
          let an : Answers (node_setting_of s end.node) (w.node end.node) link.upper_port (Ok f.sending.message) a.raw a.sample x.message = new.1.1 in
          let alike : end_of Master link ≡ end = end_alike (end_of Master link) end new.0 new.1.0 in
          let end_there : (f.link ≡ m.k) × (other_of f.by ≡ Master) = are_apart s m.net f.link m.k (other_of f.by) Master end at (end_is s m.k Master link m.is ∙ ap Some alike) in
          let message : f.sending.message ≡ an.request = ok_is f.sending.message an.request an.says_it in
          inr (record {
            number = i;
            event = refl;
            frame = f;
            there = there;
            arrival = a;
            arrived = arrived;
            link_is = end_there.0;
            by_is = slave_of_other f.by end_there.1;
            request = subst (λ (z : PtpMsg). IsRequest z.body) (sym message) an.is_request;
            hears =
                subst (λ (z : PtpMsg). Hears (node_setting_of s link.upper) (w.node link.upper) link.upper_port z) (sym message)
                (subst (λ n. Hears (node_setting_of s n) (w.node n) link.upper_port an.request) (sym new.0) an.hears);
            message =
                an.is
                ∙ ap (λ n. response_of (setting_of (s.set n) link.upper_port) an.request.head (stamp_of (node_setting_of s n) (w.node n) link.upper_port a.raw a.sample)) (sym new.0)
                ∙ ap (λ (z : PtpMsg). response_of (setting_of (s.set link.upper) link.upper_port) z.head (stamp_of (node_setting_of s link.upper) (w.node link.upper) link.upper_port a.raw a.sample)) (sym message);
          })
    ]

arrival_resp : (m : AtMaster) (y : ℤ) (w : WorldAt) (i : ℕ) (x : Sending) (f : FrameAt) (o : Option Arrival) → w.frame i ≡ Some f → f.arrival ≡ o → IsResponse x.message.body →
    WasPutOut x ((gives_all m.s y (moved m.s w (Deliver i)) (delivered_by m.s f o)).end_at m.k Master).sent → Either m w i x
arrival_resp m y w i x f None there arrived it h = inl h
arrival_resp m y w i x f (Some a) there arrived it h = handed_resp m y w i x f a (end_at m.s f.link (other_of f.by)) there arrived refl it h

frame_resp : (m : AtMaster) (y : ℤ) (w : WorldAt) (i : ℕ) (x : Sending) (o : Option FrameAt) → w.frame i ≡ o → IsResponse x.message.body → WasPutOut x ((gives_all m.s y (moved m.s w (Deliver i)) (delivered m.s o)).end_at m.k Master).sent → Either m w i x
frame_resp m y w i x None there it h = inl h
frame_resp m y w i x (Some f) there it h = arrival_resp m y w i x f f.arrival there refl it h

-- octets that the peer did not send are not taken
pub noise_unheard : (s : Setting) (says : Result PtpMsg FrameFault) (w : WorldAt) (n p : ℕ) (octets : Items ℕ) (raw : Raw) (node : NodeAt) (m : PtpMsg) → Accepts s w says (Noise n p octets raw) → says ≡ Ok m → Hears (node_setting_of s n) node p m → ⊥
noise_unheard s says w n p octets raw node m a is h =
    false≢true (sym (sym (ap (is_forged s n p) is) ∙ not_forged s w n p says (place_of s n p) a) ∙ (heard_of_peer (node_setting_of s n) node p m h).0)

noise_resp : (s : Setting) (says : Result PtpMsg FrameFault) (y : ℤ) (w : WorldAt) (n p : ℕ) (octets : Items ℕ) (raw : Raw) (k : ℕ) (link : LinkCfg) (x : Sending) → link_of s k ≡ Some link → Accepts s w says (Noise n p octets raw) → IsResponse x.message.body →
    WasPutOut x ((world_step s says y w (Noise n p octets raw)).end_at k Master).sent → WasPutOut x (w.end_at k Master).sent
noise_resp s says y w n p octets raw k link x is a it h =
    let v : WorldAt = moved s w (Noise n p octets raw) in
    let g : Given = given n (Frame p octets raw (w.clock n).samples) says in
    elim (given_resp s y v g k link x is it h) [
      | inl old ↦ moved_back s w (Noise n p octets raw) k Master x old
      | inr new ↦
          let an : Answers (node_setting_of s n) (w.node n) link.upper_port says raw (w.clock n).samples x.message = new.1.1 in
          absurd (noise_unheard s says w n p octets raw (w.node n) an.request a an.says_it (subst (λ q. Hears (node_setting_of s n) (w.node n) q an.request) new.1.0 an.hears))
    ]

quiet_resp : (s : Setting) (says : Result PtpMsg FrameFault) (y : ℤ) (w : WorldAt) (e : Event) (k : ℕ) (link : LinkCfg) (x : Sending) → link_of s k ≡ Some link → GivesTo IsNoFrame link.upper e → IsResponse x.message.body →
    WasPutOut x ((world_step s says y w e).end_at k Master).sent → WasPutOut x (w.end_at k Master).sent
quiet_resp s says y w e k link x is none it h =
    none_put IsNoFrame s says y w e k Master link x is
    (λ v g input new.
    no_answer (node_setting_of s g.to) (v.node g.to) link.upper_port g.input g.says x.message input
    (sent_as IsResponse (IsAnswerTo (node_setting_of s g.to) (v.node g.to) link.upper_port g.input g.says) v x ((step_of s y v g).sends link.upper_port) (responses_answer (node_setting_of s g.to) _ (v.node g.to) link.upper_port) it new).is) none h

event_resp : (s : Setting) → IsNetwork s → (says : Result PtpMsg FrameFault) (y : ℤ) (w : WorldAt) (e : Event) (k : ℕ) (link : LinkCfg) (x : Sending) → link_of s k ≡ Some link → Accepts s w says e → IsResponse x.message.body →
    WasPutOut x ((world_step s says y w e).end_at k Master).sent → WasPutOut x (w.end_at k Master).sent ⊎ AnsweredIn s w e k link x
event_resp s net says y w (Deliver i) k link x is a it h =
    elim (frame_resp (record { s = s; net = net; k = k; link = link; is = is }) y w i x (w.frame i) refl it h) [
      | inl old ↦ inl (moved_back s w (Deliver i) k Master x old)
      | inr new ↦ inr new
    ]
event_resp s net says y w (Noise n p octets raw) k link x is a it h = inl (noise_resp s says y w n p octets raw k link x is a it h)
event_resp s net says y w (Tick m) k link x is a it h = inl (quiet_resp s says y w (Tick m) k link x is (λ e. tt) it h)
event_resp s net says y w (Sample m base bits) k link x is a it h = inl (quiet_resp s says y w (Sample m base bits) k link x is (λ e number. tt) it h)
event_resp s net says y w (Depart m p stamp) k link x is a it h = inl (quiet_resp s says y w (Depart m p stamp) k link x is (λ q seq delay t. tt) it h)
event_resp s net says y w (Down m) k link x is a it h = inl (quiet_resp s says y w (Down m) k link x is (λ q. tt) it h)
event_resp s net says y w (Up m off swaps) k link x is a it h = inl (quiet_resp s says y w (Up m off swaps) k link x is (λ e. tt, λ q own_module. tt) it h)
event_resp s net says y w (Cut l) k link x is a it h = inl (quiet_resp s says y w (Cut l) k link x is (λ q. tt) it h)
event_resp s net says y w (Join l ms sm) k link x is a it h = inl (quiet_resp s says y w (Join l ms sm) k link x is (λ q own_module. tt) it h)
event_resp s net says y w (Pass dt drifts fibres) k link x is a it h = inl (quiet_resp s says y w (Pass dt drifts fibres) k link x is tt it h)
event_resp s net says y w (Arrive i raw) k link x is a it h = inl (quiet_resp s says y w (Arrive i raw) k link x is tt it h)

-- the event in which it was put out
pub record Answered (s : Setting) (events : List Happened) (k : ℕ) (link : LinkCfg) (x : Sending) : Type 0 where
  pub newer : List Happened
  pub hands : Happened
  pub older : List Happened
  pub splits : events ≡ newer ++ hands ∷ older
  pub at : x.at ≡ (world_after s (hands ∷ older)).time
  pub moment : x.moment ≡ length (hands ∷ older)
  pub in_it : AnsweredIn s (world_after s older) hands.event k link x

answered_now : (s : Setting) (newer older : List Happened) (k : ℕ) (link : LinkCfg) (x : Sending) → IsRun s older → link_of s k ≡ Some link → IsResponse x.message.body → PutOutIn s older k Master x → Answered s (newer ++ older) k link x
answered_now s newer [] k link x run is it put = absurd put.put
answered_now s newer (hands ∷ older) k link x run is it put =
    elim (event_resp s run.network hands.says hands.answer (world_after s older) hands.event k link x is run.accepted.0 it put.put) [
      | inl old ↦ absurd (is_new s hands older k Master x put old)
      | inr new ↦ record { newer = newer; hands = hands; older = older; splits = refl; at = put.at; moment = put.moment; in_it = new }
    ]

pub was_answered : (s : Setting) (events : List Happened) (k : ℕ) (link : LinkCfg) (x : Sending) → IsRun s events → link_of s k ≡ Some link → IsResponse x.message.body → WasPutOut x ((world_after s events).end_at k Master).sent → Answered s events k link x
was_answered s events k link x run is it h =
    let put : WasPut s events k Master x = was_put s events k Master x h in
    subst (λ l. Answered s l k link x) (sym put.splits) (answered_now s put.newer put.older k link x (older_run s put.newer put.older (subst (IsRun s) put.splits run)) is it put.in_it)
