-- A frame of the link that is handed over is heard by the link.
use Rattle.std.proofs.Common.{◌≡◌, inl, inr, ◌∙◌, refl, ap, ap₂, sym, subst, ℕ, ℤ, pos, ◌+ℤ◌, ◌-ℤ◌, ◌≤ℤ◌, not, Bool, true, false, if◌then◌else◌, List, [], ◌∷◌, Option, None, Some, Ok, arith}
use Rattle.std.specs.List.{AllByRecursion}
use Rattle.std.specs.Option.{option_map_or}
use Rattle.std.proofs.lemmas.Bool.{true≢false}
use Rattle.std.proofs.lemmas.Int.{ints}
use Rattle.std.proofs.lemmas.Option.{none-some, same_Some}
use Rattle.std.specs.Int.Signed.{le_z}
use Rattle.wrp_base.specs.declared.link.Role.{Role}
use Rattle.wrp_base.specs.declared.link.Role.TheVariants.{Master, Slave}
use Rattle.wrp_base.specs.declared.message.WrMsg.{WrMsg}
use Rattle.wrp_network.specs.declared.network.LinkCfg.{LinkCfg}
use Rattle.wrp_network.specs.Network.{End}
use Rattle.wrp_base.specs.Link.{other_of}
use Rattle.wrp_base.proofs.Naturals.{eq_self}
use Rattle.wrp_bounds.specs.Times.{frame_life}
use Rattle.wrp_frame.specs.SentOctets.{octets_of}
use Rattle.wrp_handshake_laws.specs.Ends.{Port, BothPorts, Sending as Message, Hears, IsAmong, IsNoCarrier, MayHear, stamped, end_of as port_of}
use Rattle.wrp_link.specs.declared.interface.LinkIn.{LinkIn}
use Rattle.wrp_link.specs.declared.interface.LinkIn.TheVariants.{Msg, Announce, Tick as LinkTick, CarrierDown, CarrierUp}
use Rattle.wrp_link.specs.Rows.{offers, row_of}
use Rattle.wrp_link.specs.Table.{sent_by}
use Rattle.wrp_link_up_laws.specs.Pace.{LeavesCarrier}
use Rattle.wrp_node.specs.declared.interface.Input.TheVariants.{Frame}
use Rattle.wrp_node.specs.LinkNews.{LinkNews, Nothing, Given as Handed, frame_news, news_at, news_of}
use Rattle.wrp_port.specs.Hearing.{is_open, link_input}
use Rattle.wrp_course.specs.declared.event.Event.TheVariants.{Deliver}
use Rattle.wrp_course.specs.Checks.{AllHold}
use Rattle.wrp_course.specs.Given.{Given, delivered_by, delivered_to, gives, in_body}
use Rattle.wrp_course.specs.LinkEnds.{link_sent, port_at, sent_with}
use Rattle.wrp_course.specs.Moved.{moved}
use Rattle.wrp_course.specs.Premises.{deliver_by, deliver_checks}
use Rattle.wrp_course.specs.Run.{Happened}
use Rattle.wrp_course.specs.Runs.{IsNetwork, WasPutOut}
use Rattle.wrp_course.specs.Setting.{Setting, end_at, end_of, link_of, node_setting_of}
use Rattle.wrp_course.specs.WorldAt.{Arrival, FrameAt, Sending, WorldAt}
use Rattle.wrp_course.proofs.RunGiven.{end_is}
use Rattle.wrp_course.proofs.RunNetwork.{two_nodes}
use Rattle.wrp_course.proofs.RunPorts.{port_by_news, port_given, port_other}
use Rattle.wrp_comes_up_laws.specs.Served.{Hands, HandsMessage, HandsOffer, Beginning, PutsOut, ends_of, offers_in, world_of}
use Rattle.wrp_comes_up_laws.proofs.Elsewhere.{IsElsewhere, ends_differ, moved_port}
use Rattle.wrp_comes_up_laws.proofs.Grounds.{Laws}
use Rattle.wrp_comes_up_laws.proofs.Heard.{IsFrameIn, body_frame, closed_sends, either_heard, frame_input, frame_nothing, input_if, input_message, input_offer, message_input, offer_input}
use Rattle.wrp_comes_up_laws.proofs.PutOut.{PutNow, puts_out}
use Rattle.wrp_comes_up_laws.proofs.Seen.{Seen, dmin_of, ends_hear, ends_stay, life_of, not_ticked, nothing_seen, port_in, port_is_at}
use Rattle.wrp_bound_laws.proofs.Runs.PortRoles.{set_at}
use Rattle.wrp_comes_up_laws.proofs.Senders.{IsOfPort}

-- Frames that were put out

in_with : (o : Option Message) (m : Message) (ms : List Message) → IsAmong m ms → IsAmong m (sent_with o ms)
in_with None m ms h = h
in_with (Some x) m ms h = inr h

in_link : (x : Sending) (xs : List Sending) (m : Message) → WasPutOut x xs → in_body x.message.body x.at ≡ Some m → IsAmong m (link_sent xs)
in_link x [] m h e = absurd h
in_link x (z ∷ xs) m h e = elim h [
  | inl is ↦
      let there : in_body z.message.body z.at ≡ Some m = ap (λ (t : Sending). in_body t.message.body t.at) (sym is) ∙ e in
      rw there (inl refl)
  | inr t ↦ in_with (in_body z.message.body z.at) m (link_sent xs) (in_link x xs m t e)
]

-- What is given

abbrev pub handed_over : FrameAt → Arrival → End → Given
handed_over f arrival end = record {
  to = end.node;
  input = Frame end.port (record { items = octets_of f.sending.message }) arrival.raw arrival.sample;
  says = Ok f.sending.message;
  at = f.sending.at;
}

-- a frame that arrived, and is young
pub record Arrived (s : Setting) (w : WorldAt) (f : FrameAt) : Type 0 where
  pub arrival : Arrival
  pub is : f.arrival ≡ Some arrival
  pub young : w.time ≤ℤ (f.sending.at +ℤ pos (frame_life s.cfg))

young_by : (now at : ℤ) (life : ℕ) → not (le_z (now -ℤ at) (pos life)) ≡ false → now ≤ℤ (at +ℤ pos life)
young_by now at life h = grind (arith, ints, h)

arrived_by : (s : Setting) (w : WorldAt) (i : ℕ) (f : FrameAt) (o : Option Arrival) → f.arrival ≡ o → AllHold (deliver_by s w i f o) → Arrived s w f
arrived_by s w i f None e a = absurd (true≢false a.1.0)
arrived_by s w i f (Some arrival) e a = record { arrival = arrival; is = e; young = young_by w.time f.sending.at (frame_life s.cfg) a.0 }

pub arrived : (s : Setting) (w : WorldAt) (i : ℕ) (f : FrameAt) → AllHold (deliver_checks s w i (w.frame i)) → w.frame i ≡ Some f → Arrived s w f
arrived s w i f a there = arrived_by s w i f f.arrival refl (subst (λ o. AllHold (deliver_checks s w i o)) there a)

-- A frame of this link

-- what is known of a delivery at an end of the link
pub record Delivery (l : Beginning) (since : List Happened) (h : Happened) (i : ℕ) (f : FrameAt) (role : Role) : Type 0 where
  pub event : h.event ≡ Deliver i
  pub there : (world_of l since).frame i ≡ Some f
  pub link : f.link ≡ l.k
  pub by : f.by ≡ other_of role
  pub network : IsNetwork l.s
  pub is : link_of l.s l.k ≡ Some l.link
  pub put : WasPutOut f.sending ((world_of l since).end_at l.k (other_of role)).sent
  pub known : Arrived l.s (world_of l since) f
  pub world : world_of l (h ∷ since) ≡ gives l.s h.answer (moved l.s (world_of l since) (Deliver i)) (handed_over f known.arrival (end_of role l.link))

pub other_twice : (r : Role) → other_of (other_of r) ≡ r
other_twice Master = refl
other_twice Slave = refl

same_number : (i j : ℕ) → Deliver i ≡ Deliver j → i ≡ j
same_number i j e = cc

same_frame : (l : Beginning) (since : List Happened) (h : Happened) (i : ℕ) (f : FrameAt) (role other : Role) → Delivery l since h i f role →
    (it : Hands l other since h.event) → (it.frame ≡ f) × (other ≡ role)
same_frame l since h i f role other d it =
    let number : it.number ≡ i = same_number it.number i (sym it.is ∙ d.event) in
    let frame : it.frame ≡ f = same_Some it.frame f (sym it.there ∙ ap (world_of l since).frame number ∙ d.there) in
    (frame, sym (other_twice other) ∙ ap other_of (sym it.by ∙ ap (λ (x : FrameAt). x.by) frame ∙ d.by) ∙ other_twice role)

port_here :
    Laws → (l : Beginning) (since : List Happened) (h : Happened) (i : ℕ) (f : FrameAt) (role : Role) (news : LinkNews) → (d : Delivery l since h i f role) →
    frame_news (node_setting_of l.s (end_of role l.link).node) ((world_of l since).node (end_of role l.link).node) (end_of role l.link).port
    (Ok f.sending.message) ≡ news →
    port_in l (h ∷ since) role ≡ port_by_news (world_of l since).time (port_in l since role) f.sending.at news
port_here laws l since h i f role news d e =
    let w : WorldAt = world_of l since in
    let v : WorldAt = moved l.s w (Deliver i) in
    let end : End = end_of role l.link in
    let g : Given = handed_over f d.known.arrival end in
    ap (λ x. port_at l.s x l.k role end) d.world
    ∙ port_given laws.links laws.signals l.s h.answer v g l.k role end (end_is l.s l.k role l.link d.is) refl
    ∙ ap (λ b. port_by_news w.time (port_at l.s v l.k role end) f.sending.at
    (if b then frame_news (node_setting_of l.s end.node) (w.node end.node) end.port (Ok f.sending.message) else Nothing))
    (eq_self end.port)
    ∙ ap₂ (λ q n. port_by_news w.time q f.sending.at n) (moved_port l.s w (Deliver i) l.k role l.link refl) e

pub nodes_differ : Laws → (s : Setting) → IsNetwork s → (k : ℕ) (link : LinkCfg) (role : Role) → link_of s k ≡ Some link →
    (end_of (other_of role) link).node ≡ (end_of role link).node → ⊥
nodes_differ laws s net k link Master is e = two_nodes laws.deeper s net k link is (sym e)
nodes_differ laws s net k link Slave is e = two_nodes laws.deeper s net k link is e

port_there :
    Laws → (l : Beginning) (since : List Happened) (h : Happened) (i : ℕ) (f : FrameAt) (role : Role) → (d : Delivery l since h i f role) →
    port_in l (h ∷ since) (other_of role) ≡ port_in l since (other_of role)
port_there laws l since h i f role d =
    let w : WorldAt = world_of l since in
    let v : WorldAt = moved l.s w (Deliver i) in
    let end : End = end_of (other_of role) l.link in
    ap (λ x. port_at l.s x l.k (other_of role) end) d.world
    ∙ port_other l.s h.answer v (handed_over f d.known.arrival (end_of role l.link)) l.k (other_of role) end (end_is l.s l.k (other_of role) l.link d.is)
    (nodes_differ laws l.s d.network l.k l.link role d.is)
    ∙ moved_port l.s w (Deliver i) l.k (other_of role) l.link refl

time_here : (l : Beginning) (since : List Happened) (h : Happened) (i : ℕ) (f : FrameAt) (role : Role) → (d : Delivery l since h i f role) →
    (world_of l (h ∷ since)).time ≡ (world_of l since).time
time_here l since h i f role d = ap (λ (x : WorldAt). x.time) d.world

none_input : (role : Role) (f : FrameAt) (m : WrMsg) (at : ℤ) → link_input role f.sending.message.body ≡ None →
    in_body f.sending.message.body f.sending.at ≡ Some (m, at) → ⊥
none_input role f m at none e = none-some (Msg m) (sym none ∙ (message_input role f.sending.message.body f.sending.at m at e).0)

none_offer : (f : FrameAt) → link_input Slave f.sending.message.body ≡ None → offers_in f.sending.message.body ≡ true → ⊥
none_offer f none e =
    let it : (suffix : Option ℕ) × (link_input Slave f.sending.message.body ≡ Some (Announce suffix)) × (offers suffix ≡ true) =
    offer_input f.sending.message.body e in
    none-some (Announce it.0) (sym none ∙ it.1)

-- it is no input of the link
pub nothing_heard :
    Laws → (l : Beginning) (since : List Happened) (h : Happened) (i : ℕ) (f : FrameAt) (role : Role) → Delivery l since h i f role →
    link_input role f.sending.message.body ≡ None → Seen l since h None
nothing_heard laws l since h i f role d none =
    nothing_seen l since h
    (ends_stay l since h role (time_here l since h i f role d)
    (port_here laws l since h i f role Nothing d
    (frame_nothing laws.ends l.s d.network ((world_of l since).node (end_of role l.link).node) l.k role l.link f.sending.message d.is none))
    (port_there laws l since h i f role d))
    (record {
      no_message = λ other m at it.
          let same : (it.0.frame ≡ f) × (other ≡ role) = same_frame l since h i f role other d it.0 in
          none_input role f m at none (subst (λ (x : FrameAt). in_body x.sending.message.body x.sending.at ≡ Some (m, at)) same.0 it.1);
      no_offer = λ it.
          let same : (it.0.frame ≡ f) × (Slave ≡ role) = same_frame l since h i f role Slave d it.0 in
          none_offer f (ap (λ r. link_input r f.sending.message.body) same.1 ∙ none)
          (subst (λ (x : FrameAt). offers_in x.sending.message.body ≡ true) same.0 it.1);
      no_tick = λ it. not_ticked i l.link.lower (sym d.event ∙ it.0);
    })

-- it is an input of the link

may_hear :
    (life dmin : ℕ) (time : ℤ) (q peer : Port) (input : LinkIn) (f : FrameAt) (role : Role) → link_input role f.sending.message.body ≡ Some input →
    IsFrameIn input →
    ((m : WrMsg) → in_body f.sending.message.body f.sending.at ≡ Some (m, f.sending.at) → IsAmong (m, f.sending.at) peer.sent) →
    time ≤ℤ (f.sending.at +ℤ pos life) →
    IsNoCarrier input × MayHear life dmin time q peer input f.sending.at
may_hear life dmin time q peer (Msg m) f role e frame sent young = (tt, (sent m (input_message role f.sending.message.body f.sending.at m e), young))
may_hear life dmin time q peer (Announce suffix) f role e frame sent young = (tt, tt)
may_hear life dmin time q peer (LinkTick locked) f role e frame sent young = absurd frame
may_hear life dmin time q peer CarrierDown f role e frame sent young = absurd frame
may_hear life dmin time q peer (CarrierUp fitted) f role e frame sent young = absurd frame

frame_leaves : (input : LinkIn) → IsFrameIn input → LeavesCarrier input
frame_leaves (Msg m) f = tt
frame_leaves (Announce suffix) f = tt
frame_leaves (LinkTick locked) f = absurd f
frame_leaves CarrierDown f = absurd f
frame_leaves (CarrierUp fitted) f = absurd f

hears_same :
    (r q : Role) (i j : LinkIn) (a b : ℤ) → Some (Hears r i a) ≡ Some (Hears q j b) → (r ≡ q) × (i ≡ j) × (a ≡ b)
hears_same r q i j a b e = (cc, cc, cc)

abbrev WasSent : BothPorts → Role → LinkIn → Message → Type 0
WasSent ends role input f = IsAmong f (stamped ends.time (sent_by (row_of (port_of ends role).link input)) [])

-- what the link sends then is put out
sends_now :
    Laws → (l : Beginning) (since : List Happened) (h : Happened) (i : ℕ) (f : FrameAt) (role : Role) (input : LinkIn) (takes : Bool) (m : WrMsg)
    (at : ℤ) → (d : Delivery l since h i f role) →
    IsFrameIn input → link_input role f.sending.message.body ≡ Some input → IsOfPort (set_at l.s (other_of role) l.link) f.sending.message →
    is_open (port_in l since role).link ≡ takes →
    IsAmong (m, at) (stamped (world_of l since).time (sent_by (row_of (port_in l since role).link input)) []) → PutsOut l role m (h ∷ since) at
sends_now laws l since h i f role input false m at d frame e of closed among =
    let none : IsAmong (m, at) [] =
    subst (λ row. IsAmong (m, at) (stamped (world_of l since).time (sent_by row) [])) (closed_sends (port_in l since role).link input frame closed) among in
    absurd none
sends_now laws l since h i f role input true m at d frame e of takes among =
    let w : WorldAt = world_of l since in
    let v : WorldAt = moved l.s w (Deliver i) in
    let end : End = end_of role l.link in
    let g : Given = handed_over f d.known.arrival end in
    let news : news_at (node_setting_of l.s end.node) (v.node end.node) g.input g.says end.port ≡ Handed input =
    ap (λ b. if b then frame_news (node_setting_of l.s end.node) (w.node end.node) end.port (Ok f.sending.message) else Nothing) (eq_self end.port)
    ∙ frame_input laws.ends l.s d.network (w.node end.node) l.k role l.link f.sending.message input d.is of e
    ∙ ap (λ b. news_of (input_if b (Some input))) takes in
    let now : PutNow l.s (gives l.s h.answer v g) v l.k role m at = puts_out laws.signals l.s h.answer v g l.k role l.link m at input d.is refl news among in
    record {
      frame = now.frame;
      put = subst (λ (x : WorldAt). WasPutOut now.frame (x.end_at l.k role).sent) (sym d.world) now.put;
      newest = now.newest ∙ sym (ap (λ (x : WorldAt). x.count) d.world);
      holds = now.holds;
    }

-- it is handed over at this end
message_of :
    (l : Beginning) (since : List Happened) (h : Happened) (i : ℕ) (f : FrameAt) (role other : Role) → Delivery l since h i f role → role ≡ other →
    (m : WrMsg) (at : ℤ) →
    in_body f.sending.message.body f.sending.at ≡ Some (m, at) → HandsMessage l other m at since h.event
message_of l since h i f role other d same m at e =
    (record { number = i; frame = f; is = d.event; there = d.there; link = d.link; by = d.by ∙ ap other_of same }, e)

offer_of :
    (l : Beginning) (since : List Happened) (h : Happened) (i : ℕ) (f : FrameAt) (role : Role) → Delivery l since h i f role → role ≡ Slave →
    offers_in f.sending.message.body ≡ true → HandsOffer l since h.event
offer_of l since h i f role d same e = (record { number = i; frame = f; is = d.event; there = d.there; link = d.link; by = d.by ∙ ap other_of same }, e)

pub input_heard :
    Laws → (l : Beginning) (since : List Happened) (h : Happened) (i : ℕ) (f : FrameAt) (role : Role) (input : LinkIn) → Delivery l since h i f role →
    IsOfPort (set_at l.s (other_of role) l.link) f.sending.message → link_input role f.sending.message.body ≡ Some input →
    Seen l since h (Some (Hears role input f.sending.at))
input_heard laws l since h i f role input d of e =
    let w : WorldAt = world_of l since in
    let end : End = end_of role l.link in
    let frame : IsFrameIn input = body_frame role f.sending.message.body input e in
    let takes : Bool = is_open (port_in l since role).link in
    let body_is : (x : LinkIn) → link_input role f.sending.message.body ≡ Some x → input ≡ x = λ x o. same_Some input x (sym e ∙ o) in
    record {
      is =
          ends_hear l since h role input f.sending.at (time_here l since h i f role d)
          (port_here laws l since h i f role (news_of (input_if takes (Some input))) d
          (frame_input laws.ends l.s d.network (w.node end.node) l.k role l.link f.sending.message input d.is of e)
          ∙ either_heard w.time (port_in l since role) input f.sending.at takes frame refl)
          (port_there laws l since h i f role d);
      may =
          may_hear (life_of l) (dmin_of l) w.time (port_of (ends_of l since) role) (port_of (ends_of l since) (other_of role)) input f role e frame
          (λ m b. subst (λ (q : Port). IsAmong (m, f.sending.at) q.sent) (sym (port_is_at l.s w l.k l.link (other_of role)))
          (in_link f.sending (w.end_at l.k (other_of role)).sent (m, f.sending.at) d.put b))
          d.known.young;
      calm = frame_leaves input frame;
      hears = λ other m at it.
          let same : (it.0.frame ≡ f) × (other ≡ role) = same_frame l since h i f role other d it.0 in
          let told : (link_input role f.sending.message.body ≡ Some (Msg m)) × (f.sending.at ≡ at) =
          message_input role f.sending.message.body f.sending.at m at
          (subst (λ (x : FrameAt). in_body x.sending.message.body x.sending.at ≡ Some (m, at)) same.0 it.1) in
          ap (λ r. Some (Hears r input f.sending.at)) (sym same.1) ∙ ap₂ (λ x t. Some (Hears other x t)) (body_is (Msg m) told.0) told.1;
      offered = λ it.
          let same : (it.0.frame ≡ f) × (Slave ≡ role) = same_frame l since h i f role Slave d it.0 in
          let told : (suffix : Option ℕ) × (link_input Slave f.sending.message.body ≡ Some (Announce suffix)) × (offers suffix ≡ true) =
          offer_input f.sending.message.body (subst (λ (x : FrameAt). offers_in x.sending.message.body ≡ true) same.0 it.1) in (
            told.0,
            f.sending.at,
            told.2,
            ap₂ (λ r x. Some (Hears r x f.sending.at)) (sym same.1)
                (body_is (Announce told.0) (ap (λ r. link_input r f.sending.message.body) (sym same.1) ∙ told.1)),
          );
      locked = λ it. absurd (not_ticked i l.link.lower (sym d.event ∙ it.0));
      puts = λ other m at it.
          subst (λ r. PutsOut l r m (h ∷ since) at) it.0
          (sends_now laws l since h i f role input takes m at d frame e of refl
          (subst (λ (q : Port). IsAmong (m, at) (stamped w.time (sent_by (row_of q.link input)) [])) (port_is_at l.s w l.k l.link role) it.1));
      offer = λ suffix at o is.
          let same : (role ≡ Slave) × (input ≡ Announce suffix) × (f.sending.at ≡ at) = hears_same role Slave input (Announce suffix) f.sending.at at is in
          offer_of l since h i f role d same.0
          (input_offer f.sending.message.body suffix (ap (λ r. link_input r f.sending.message.body) (sym same.0) ∙ e ∙ ap Some same.1) o);
      message = λ other m at is.
          let same : (role ≡ other) × (input ≡ Msg m) × (f.sending.at ≡ at) = hears_same role other input (Msg m) f.sending.at at is in
          message_of l since h i f role other d same.0 m at
          (input_message role f.sending.message.body f.sending.at m (e ∙ ap Some same.1) ∙ ap (λ t. Some (m, t)) same.2);
    }

-- A frame that is handed over

elsewhere_by :
    (s : Setting) → IsNetwork s → (k : ℕ) (link : LinkCfg) (f : FrameAt) (a : Arrival) (o : Option End) → link_of s k ≡ Some link →
    end_at s f.link (other_of f.by) ≡ o → (f.link ≡ k → ⊥) →
    AllByRecursion (IsElsewhere link) (option_map_or (λ (end : End). delivered_to f a end.node end.port) o [])
elsewhere_by s net k link f a None is there out = tt
elsewhere_by s net k link f a (Some end) is there out = (λ r n p. ends_differ s net k f.link link r (other_of f.by) end is there out n p, tt)

pub frame_elsewhere :
    (s : Setting) → IsNetwork s → (k : ℕ) (link : LinkCfg) (f : FrameAt) (o : Option Arrival) → link_of s k ≡ Some link → (f.link ≡ k → ⊥) →
    AllByRecursion (IsElsewhere link) (delivered_by s f o)
frame_elsewhere s net k link f None is out = tt
frame_elsewhere s net k link f (Some a) is out = elsewhere_by s net k link f a (end_at s f.link (other_of f.by)) is refl out
