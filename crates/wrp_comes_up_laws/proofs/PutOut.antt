-- What the link of a port sends at an input is put out at the end of its link.
use Rattle.std.proofs.Common.{◌≡◌, ◌⊎◌, inl, inr, refl, ap, sym, subst, ℕ, ℤ, Bool, true, false, if◌then◌else◌, List, [], ◌∷◌, map, Some}
use Rattle.std.proofs.lemmas.Bool.Decides.{eqb_tells}
use Rattle.wrp_base.specs.declared.link.Role.{Role}
use Rattle.wrp_base.specs.declared.message.PtpMsg.{PtpMsg}
use Rattle.wrp_base.specs.declared.message.WrMsg.{WrMsg}
use Rattle.wrp_network.specs.declared.network.LinkCfg.{LinkCfg}
use Rattle.wrp_handshake_laws.specs.Ends.{Sending as Message, IsAmong, stamped}
use Rattle.wrp_link.specs.declared.interface.LinkIn.{LinkIn}
use Rattle.wrp_link.specs.LinkAt.{LinkAt}
use Rattle.wrp_link.specs.Rows.{row_of}
use Rattle.wrp_link.specs.Table.{sent_by}
use Rattle.wrp_node.specs.LinkNews.{Given as Handed, news_at}
use Rattle.wrp_node.specs.NodeAt.{line_at, link_at, setting_of}
use Rattle.wrp_node.specs.Sends.{is_signal, link_sends, signals_in, SignalsAreOfLink}
use Rattle.wrp_port.specs.declared.setting.Setting.{Setting as PortSetting}
use Rattle.wrp_port.specs.Messages.{next_id, signal_of, signals_of}
use Rattle.wrp_course.specs.Given.{Given, end_given, gives, in_body, sending, step_of, taken_of}
use Rattle.wrp_course.specs.LinkEnds.{port_at}
use Rattle.wrp_course.specs.Runs.{WasPutOut}
use Rattle.wrp_course.specs.Setting.{Setting, end_of, link_of, node_setting_of}
use Rattle.wrp_course.specs.WorldAt.{EndAt, Sending, WorldAt}
use Rattle.wrp_course.proofs.RunFrames.{new_put}
use Rattle.wrp_course.proofs.RunGiven.{end_is}
use Rattle.wrp_course.proofs.RunListed.{In}
use Rattle.wrp_course.proofs.RunPorts.{told_end}

-- what is stamped was in the list, at that time
stamped_in : (time : ℤ) (ws : List WrMsg) (sent : List Message) (f : Message) → IsAmong f (stamped time ws sent) → (In f.0 ws × (f.1 ≡ time)) ⊎ IsAmong f sent
stamped_in time [] sent f h = inr h
stamped_in time (w ∷ ws) sent f h = elim (stamped_in time ws ((w, time) ∷ sent) f h) [
  | inl x ↦ inl (inr x.0, x.1)
  | inr i ↦ elim i [
    | inl e ↦ inl (inl (ap (λ (x : Message). x.0) e), ap (λ (x : Message). x.1) e)
    | inr old ↦ inr old
  ]
]

none_among : (f : Message) → IsAmong f [] → ⊥
none_among f h = h

-- each message is a Signaling
record Signal (set : PortSetting) (m : WrMsg) (ms : List PtpMsg) : Type 0 where
  seq : ℕ
  there : In (signal_of set seq m) ms

signal_in : (set : PortSetting) (seq : ℕ) (ws : List WrMsg) (m : WrMsg) → In m ws → Signal set m (signals_of set seq ws)
signal_in set seq [] m h = absurd h
signal_in set seq (w ∷ ws) m h = elim h [
  | inl e ↦ record { seq = seq; there = inl (ap (signal_of set seq) e) }
  | inr t ↦ let it : Signal set m (signals_of set (next_id seq) ws) = signal_in set (next_id seq) ws m t in record { seq = it.seq; there = inr it.there }
]

-- a Signaling among all that is sent
listed_where : (b : Bool) (z m : PtpMsg) (ms rest : List PtpMsg) → (In z rest → In z ms) → In z (if b then m ∷ rest else rest) → In z (m ∷ ms)
listed_where true z m ms rest f h = elim h [ inl e ↦ inl e | inr t ↦ inr (f t) ]
listed_where false z m ms rest f h = inr (f h)

listed : (ms : List PtpMsg) (z : PtpMsg) → In z (signals_in ms) → In z ms
listed [] z h = absurd h
listed (m ∷ ms) z h = listed_where (is_signal m.body) z m ms (signals_in ms) (listed ms z) h

sent_now : (v : WorldAt) (ms : List PtpMsg) (z : PtpMsg) → In z ms → WasPutOut (sending v z) (map (sending v) ms)
sent_now v [] z h = absurd h
sent_now v (m ∷ ms) z h = elim h [ inl e ↦ inl (ap (sending v) e) | inr t ↦ inr (sent_now v ms z t) ]

-- what a step sends at a port of a link is put out there
pub put_there :
    (s : Setting) (y : ℤ) (v : WorldAt) (g : Given) (k : ℕ) (r : Role) (link : LinkCfg) (x : Sending) → link_of s k ≡ Some link →
    (end_of r link).node ≡ g.to →
    WasPutOut x (map (sending v) ((step_of s y v g).sends (end_of r link).port)) → WasPutOut x ((gives s y v g).end_at k r).sent
put_there s y v g k r link x is here h =
    subst (λ (e : EndAt). WasPutOut x e.sent) (sym (ap (told_end s v g (step_of s y v g) k r) (end_is s k r link is)))
    (elim (eqb_tells (end_of r link).node g.to) [
      | inl there ↦
          subst (λ b. WasPutOut x (if b then end_given s v g (step_of s y v g) k r (end_of r link).port else v.end_at k r).sent) (sym there.0)
          (new_put x (map (sending v) ((step_of s y v g).sends (end_of r link).port)) (v.end_at k r).sent h)
      | inr away ↦ absurd (away.1 here)
    ])

-- a frame that was put out now, with this White Rabbit message
pub record PutNow (s : Setting) (w : WorldAt) (v : WorldAt) (k : ℕ) (r : Role) (m : WrMsg) (at : ℤ) : Type 0 where
  pub frame : Sending
  pub put : WasPutOut frame (w.end_at k r).sent
  pub newest : frame.moment ≡ v.count
  pub holds : in_body frame.message.body frame.at ≡ Some (m, at)

pub puts_out :
    SignalsAreOfLink → (s : Setting) (y : ℤ) (v : WorldAt) (g : Given) (k : ℕ) (r : Role) (link : LinkCfg) (m : WrMsg) (at : ℤ) (input : LinkIn) →
    link_of s k ≡ Some link →
    (end_of r link).node ≡ g.to → news_at (node_setting_of s g.to) (v.node g.to) g.input g.says (end_of r link).port ≡ Handed input →
    IsAmong (m, at) (stamped v.time (sent_by (row_of (port_at s v k r (end_of r link)).link input)) []) → PutNow s (gives s y v g) v k r m at
puts_out signals s y v g k r link m at input is here news among =
    let p : ℕ = (end_of r link).port in
    let set : PortSetting = setting_of (s.set g.to) p in
    let l : LinkAt = link_at (s.set g.to) (v.node g.to) p in
    let old : (port_at s v k r (end_of r link)).link ≡ l = ap (λ x. link_at (s.set x) (v.node x) p) here in
    let sent : (In m (sent_by (row_of (port_at s v k r (end_of r link)).link input)) × (at ≡ v.time)) ⊎ IsAmong (m, at) [] =
    stamped_in v.time (sent_by (row_of (port_at s v k r (end_of r link)).link input)) [] (m, at) among in
    elim sent [
      | inr none ↦ absurd none
      | inl it ↦
          let there : In m (link_sends l (news_at (node_setting_of s g.to) (v.node g.to) g.input g.says p)) =
          subst (λ n. In m (link_sends l n)) (sym news) (subst (λ (x : LinkAt). In m (sent_by (row_of x input))) old it.0) in
          let seq : ℕ = (line_at (s.set g.to) (v.node g.to) p).ids.signal in
          let signal : Signal set m (signals_of set seq (link_sends l (news_at (node_setting_of s g.to) (v.node g.to) g.input g.says p))) =
          signal_in set seq (link_sends l (news_at (node_setting_of s g.to) (v.node g.to) g.input g.says p)) m there in
          let z : PtpMsg = signal_of set signal.seq m in
          let sends : In z ((step_of s y v g).sends p) =
          listed ((step_of s y v g).sends p) z (subst (In z) (sym (signals (node_setting_of s g.to) (taken_of y g) (v.node g.to) p)) signal.there) in
          record {
            frame = sending v z;
            put = put_there s y v g k r link (sending v z) is here (sent_now v ((step_of s y v g).sends p) z sends);
            newest = refl;
            holds = ap (λ t. Some (m, t)) (sym it.1);
          }
    ]
