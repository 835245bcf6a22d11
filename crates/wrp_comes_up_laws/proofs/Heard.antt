-- What a port does with a frame of its peer: its link hears it; in quiet time this has no effect.
use Rattle.std.proofs.Common.{◌≡◌, ◌⊎◌, inl, inr, ◌∙◌, refl, ap, ap₂, sym, subst, ℕ, ◌==◌, ◌&&◌, ℤ, Bool, true, false, if◌then◌else◌, is_some, [], ◌∷◌, Option, None, Some, Ok, unsigned_abs, ◌||◌}
use Rattle.std.proofs.lemmas.Bool.{false≢true, true≢false}
use Rattle.std.proofs.lemmas.Option.{none-some, same_Some}
use Rattle.wrp_network.specs.declared.configuration.NetCfg.{NetCfg}
use Rattle.wrp_base.specs.declared.link.LinkState.{LinkState}
use Rattle.wrp_base.specs.declared.link.LinkState.TheVariants.{Idle, Present, MLock}
use Rattle.wrp_base.specs.declared.link.LinkWord.TheVariants.{Down, Quiet, Ptp}
use Rattle.wrp_base.specs.declared.link.Role.{Role}
use Rattle.wrp_base.specs.declared.link.Role.TheVariants.{Master, Slave}
use Rattle.wrp_base.specs.declared.message.Body.{Body}
use Rattle.wrp_base.specs.declared.message.Body.TheVariants.{Sync, DelayReq, FollowUp, DelayResp, Announce as AnnounceBody, Signal}
use Rattle.wrp_base.specs.declared.message.PortIdentity.{PortIdentity}
use Rattle.wrp_base.specs.declared.message.PtpMsg.{PtpMsg}
use Rattle.wrp_base.specs.declared.message.WrMsg.{WrMsg}
use Rattle.wrp_base.specs.declared.message.WrMsg.TheVariants.{Present as SLAVE_PRESENT, Lock as LOCK}
use Rattle.wrp_network.specs.declared.network.LinkCfg.{LinkCfg}
use Rattle.wrp_base.specs.Message.{every_port, is_port}
use Rattle.wrp_base.specs.Link.{other_of}
use Rattle.wrp_base.proofs.Naturals.{eq_self}
use Rattle.wrp_data.specs.declared.datasets.PortDs.{PortDs}
use Rattle.wrp_data.specs.declared.reason.Reason.{Reason}
use Rattle.wrp_data.specs.declared.reason.Reason.TheVariants.{Domain, Stranger, NotForUs, Quiet as QuietReason}
use Rattle.wrp_handshake_laws.specs.Ends.{Port, Sending as Message, after_input, mover_of, port_by, ticked_by}
use Rattle.wrp_link.specs.declared.interface.LinkIn.{LinkIn}
use Rattle.wrp_link.specs.declared.interface.LinkIn.TheVariants.{Msg, Announce, Tick, CarrierDown, CarrierUp}
use Rattle.wrp_link.specs.LinkAt.{LinkAt}
use Rattle.wrp_link.specs.Rows.{NoRow, Moves, Row, announce_row, may_leave_idle, master_row, message_row, offers, row_of, slave_row, under}
use Rattle.wrp_link.specs.Table.{word_in}
use Rattle.wrp_link.proofs.Deltas.{is_same_self}
use Rattle.wrp_node.specs.declared.interface.NodeSet.{NodeSet}
use Rattle.wrp_node.specs.LinkNews.{Nothing, frame_news, news_of}
use Rattle.wrp_node.specs.NodeAt.{NodeAt, link_at, port_of}
use Rattle.wrp_node.specs.SetLaws.{EndsAreSet}
use Rattle.wrp_port.specs.declared.setting.Setting.{Setting as PortSetting}
use Rattle.wrp_port.specs.Hearing.{early_reason, is_addressed, is_open, is_open_word, link_input}
use Rattle.wrp_port.specs.History.{input_unless}
use Rattle.wrp_course.specs.Given.{in_body}
use Rattle.wrp_course.specs.Runs.{IsNetwork}
use Rattle.wrp_course.specs.Setting.{Setting, end_of, link_of, node_setting_of}
use Rattle.wrp_course.proofs.LinkPorts.{ds_at}
use Rattle.wrp_course.proofs.RunPorts.{port_by_news, port_is}
use Rattle.wrp_comes_up_laws.specs.Served.{offers_in}
use Rattle.wrp_bound_laws.proofs.Runs.PortRoles.{role_is, set_at}
use Rattle.wrp_comes_up_laws.proofs.Senders.{IsOfPort, IsToPeer}

-- In quiet time

-- an input that a frame is
abbrev pub IsFrameIn : LinkIn → Type 0
IsFrameIn (Msg m) = Unit {0}
IsFrameIn (Announce suffix) = Unit {0}
IsFrameIn _ = ⊥

abbrev ClosedBy : Bool → LinkState → ℕ → Type 0
ClosedBy carrier state quiet = (carrier ≡ false) ⊎ ((state ≡ Idle) × ((quiet == 0) ≡ false))

in_quiet : (b : Bool) → is_open_word (if b then Ptp else Quiet) ≡ false → b ≡ false
in_quiet true e = absurd (true≢false e)
in_quiet false e = refl

closed_by : (c : Bool) (s : LinkState) (quiet : ℕ) → is_open_word (if c then word_in s quiet else Down) ≡ false → ClosedBy c s quiet
closed_by false s quiet e = inl refl
closed_by true Idle quiet e = inr (refl, in_quiet (quiet == 0) e)
closed_by true _ quiet e = absurd (true≢false e)

idle_master : (l : LinkAt) (m : WrMsg) → (l.quiet == 0) ≡ false → master_row l Idle m ≡ NoRow
idle_master l SLAVE_PRESENT q = ap (λ (b : Bool). under (b && (is_some l.own_module && l.set.wr)) (Moves MLock (LOCK ∷ []))) q
idle_master l _ q = refl

idle_message : (l : LinkAt) (r : Role) (m : WrMsg) → l.state ≡ Idle → (l.quiet == 0) ≡ false → message_row l r m ≡ NoRow
idle_message l Slave m idle q = ap (λ (s : LinkState). slave_row s m) idle
idle_message l Master m idle q = ap (λ (s : LinkState). master_row l s m) idle ∙ idle_master l m q

under_none : (a b c : Bool) (row : Row) → c ≡ false → under (a && (b && c)) row ≡ NoRow
under_none true true c row e = ap (λ (x : Bool). under x row) e
under_none true false c row e = refl
under_none false b c row e = refl

idle_announce : (l : LinkAt) (r : Role) (suffix : Option ℕ) → (l.quiet == 0) ≡ false → announce_row l r Idle suffix ≡ NoRow
idle_announce l Slave suffix q =
    under_none (offers suffix) (l.holdoff == 0) (may_leave_idle l) (Moves Present (SLAVE_PRESENT ∷ []))
    (ap (λ (b : Bool). b && (is_some l.own_module && l.set.wr)) q)
idle_announce l Master suffix q = refl

none_under : (c : Bool) (row : Row) → row ≡ NoRow → under c row ≡ NoRow
none_under true row e = e
none_under false row e = refl

closed_row : (l : LinkAt) (input : LinkIn) → IsFrameIn input → ClosedBy l.carrier l.state l.quiet → row_of l input ≡ NoRow
closed_row l (Msg m) f (inl dark) = ap (λ (c : Bool). under c (message_row l l.role m)) dark
closed_row l (Msg m) f (inr x) = none_under l.carrier (message_row l l.role m) (idle_message l l.role m x.0 x.1)
closed_row l (Announce suffix) f (inl dark) = ap (λ (c : Bool). under c (announce_row l l.role l.state suffix)) dark
closed_row l (Announce suffix) f (inr x) =
    none_under l.carrier (announce_row l l.role l.state suffix)
    (ap (λ (s : LinkState). announce_row l l.role s suffix) x.0 ∙ idle_announce l l.role suffix x.1)
closed_row l (Tick locked) f c = absurd f
closed_row l CarrierDown f c = absurd f
closed_row l (CarrierUp fitted) f c = absurd f

frame_no_tick : (input : LinkIn) (time before : ℤ) → IsFrameIn input → ticked_by input time before ≡ before
frame_no_tick (Msg m) time before f = refl
frame_no_tick (Announce suffix) time before f = refl
frame_no_tick (Tick locked) time before f = absurd f
frame_no_tick CarrierDown time before f = absurd f
frame_no_tick (CarrierUp fitted) time before f = absurd f

no_row : (time : ℤ) (q : Port) (input : LinkIn) (at : ℤ) → IsFrameIn input → port_by time q input at NoRow ≡ q
no_row time q input at f =
    port_is (port_by time q input at NoRow) q refl (frame_no_tick input time q.ticked f)
    (ap (λ b. if b then q.marks else record { at = time; from = q.link.state; to = q.link.state; by = mover_of input at } ∷ q.marks)
    (is_same_self q.link.state)) refl

closed_heard : (time : ℤ) (q : Port) (input : LinkIn) (at : ℤ) → IsFrameIn input → is_open q.link ≡ false → after_input time q input at ≡ q
closed_heard time q input at f e =
    ap (port_by time q input at) (closed_row q.link input f (closed_by q.link.carrier q.link.state q.link.quiet e)) ∙ no_row time q input at f

-- A frame of the peer

-- what such a frame is to the link
abbrev pub input_if : Bool → Option LinkIn → Option LinkIn
input_if true input = input
input_if false input = None

unless_closed : (takes : Bool) (input : Option LinkIn) → input_unless (if takes then None else Some QuietReason) input ≡ input_if takes input
unless_closed true input = refl
unless_closed false input = refl

early_is :
    (d s a o : Bool) → d ≡ true → s ≡ true → a ≡ true →
    (if d then (if s then (if a then (if o then None else Some QuietReason) else Some NotForUs) else Some Stranger) else Some Domain) ≡ (if o
    then None else Some QuietReason)
early_is d s a o e f g = rw (e, f, g) refl

port_self : (p : PortIdentity) → is_port p p ≡ true
port_self p = ap (λ (b : Bool). b && (p.port == p.port)) (eq_self p.clock) ∙ eq_self p.port

one_way : (a b : Bool) → a ≡ true → (a || b) ≡ true
one_way a b e = ap (λ (x : Bool). x || b) e

abbrev IsResponse : Body → Type 0
IsResponse (DelayResp receive requesting) = Unit {0}
IsResponse _ = ⊥

no_response : (r : Role) (body : Body) → IsResponse body → link_input r body ≡ None
no_response Slave (DelayResp receive requesting) h = refl
no_response Master (DelayResp receive requesting) h = refl
no_response r (Sync origin) h = absurd h
no_response r (DelayReq origin) h = absurd h
no_response r (FollowUp precise) h = absurd h
no_response r (Signal target m) h = absurd h
no_response r (AnnounceBody origin utc p1 quality p2 gm steps source suffix) h = absurd h

to_own : (ds : PortDs) (body : Body) → ((target : PortIdentity) (m : Option WrMsg) → body ≡ Signal target m → target ≡ ds.own) →
    (link_input ds.role body ≡ None → ⊥) → is_addressed ds body ≡ true
to_own ds (Signal target m) h some =
    one_way (is_port target ds.own) (is_port target every_port) (ap (λ (p : PortIdentity). is_port p ds.own) (h target m refl) ∙ port_self ds.own)
to_own ds (Sync origin) h some = refl
to_own ds (DelayReq origin) h some = refl
to_own ds (FollowUp precise) h some = refl
to_own ds (AnnounceBody origin utc p1 quality p2 gm steps source suffix) h some = refl
to_own ds (DelayResp receive requesting) h some = absurd (some (no_response ds.role (DelayResp receive requesting) tt))

-- what the ports at both ends of a link are set to
pub ds_is : EndsAreSet → (s : Setting) → IsNetwork s → (k : ℕ) (r : Role) (link : LinkCfg) → link_of s k ≡ Some link →
    (set_at s r link).ds ≡ ds_at s.cfg r link
ds_is ends s net k Master link is = ap (λ (x : NodeSet). port_of x link.upper_port) (net.set link.upper) ∙ (ends s.cfg k link net.accepted.ports is).0
ds_is ends s net k Slave link is = ap (λ (x : NodeSet). port_of x link.lower_port) (net.set link.lower) ∙ (ends s.cfg k link net.accepted.ports is).1

own_peer : (net : NetCfg) (r : Role) (link : LinkCfg) → (ds_at net (other_of r) link).own ≡ (ds_at net r link).peer
own_peer net Master link = refl
own_peer net Slave link = refl

peer_own : (net : NetCfg) (r : Role) (link : LinkCfg) → (ds_at net (other_of r) link).peer ≡ (ds_at net r link).own
peer_own net Master link = refl
peer_own net Slave link = refl

domain_at : (s : Setting) → IsNetwork s → (r : Role) (link : LinkCfg) → (set_at s r link).own.domain ≡ unsigned_abs s.cfg.domain
domain_at s net r link = ap (λ (x : NodeSet). x.own.domain) (net.set (end_of r link).node)

target_of : (set : PortSetting) (body : Body) (target : PortIdentity) (m : Option WrMsg) → IsToPeer set body → body ≡ Signal target m → target ≡ set.ds.peer
target_of set body target m h e = let it : IsToPeer set (Signal target m) = subst (IsToPeer set) e h in it

-- a frame of the other end is dropped early only in quiet time
frame_early :
    EndsAreSet → (s : Setting) → IsNetwork s → (k : ℕ) (r : Role) (link : LinkCfg) (l : LinkAt) (m : PtpMsg) (input : LinkIn) → link_of s k ≡ Some link →
    IsOfPort (set_at s (other_of r) link) m → link_input (set_at s r link).ds.role m.body ≡ Some input →
    early_reason (set_at s r link) l m ≡ (if is_open l then None else Some QuietReason)
frame_early ends s net k r link l m input is of e =
    let here : PortSetting = set_at s r link in
    let there : PortSetting = set_at s (other_of r) link in
    let mine : here.ds ≡ ds_at s.cfg r link = ds_is ends s net k r link is in
    let its : there.ds ≡ ds_at s.cfg (other_of r) link = ds_is ends s net k (other_of r) link is in
    early_is (m.head.domain == here.own.domain) (is_port m.head.source here.ds.peer) (is_addressed here.ds m.body) (is_open l)
    (ap (λ d. d == here.own.domain) (of.domain ∙ domain_at s net (other_of r) link ∙ sym (domain_at s net r link)) ∙ eq_self here.own.domain)
    (ap (λ p. is_port p here.ds.peer)
    (of.source ∙ ap (λ (d : PortDs). d.own) its ∙ own_peer s.cfg r link ∙ sym (ap (λ (d : PortDs). d.peer) mine)) ∙ port_self here.ds.peer)
    (to_own here.ds m.body
    (λ target w b. target_of there m.body target w of.target b ∙ ap (λ (d : PortDs). d.peer) its ∙ peer_own s.cfg r link
    ∙ sym (ap (λ (d : PortDs). d.own) mine))
    (λ none. none-some input (sym none ∙ e)))

-- it is an input of the link, or nothing in quiet time
pub frame_input :
    EndsAreSet → (s : Setting) → IsNetwork s → (n : NodeAt) (k : ℕ) (r : Role) (link : LinkCfg) (m : PtpMsg) (input : LinkIn) → link_of s k ≡ Some link →
    IsOfPort (set_at s (other_of r) link) m → link_input r m.body ≡ Some input →
    frame_news (node_setting_of s (end_of r link).node) n (end_of r link).port (Ok m)
    ≡ news_of (input_if (is_open (link_at (s.set (end_of r link).node) n (end_of r link).port)) (Some input))
frame_input ends s net n k r link m input is of e =
    let l : LinkAt = link_at (s.set (end_of r link).node) n (end_of r link).port in
    let there : link_input (set_at s r link).ds.role m.body ≡ Some input = ap (λ x. link_input x m.body) (role_is ends s net k r link is) ∙ e in
    ap₂ (λ reason o. news_of (input_unless reason o)) (frame_early ends s net k r link l m input is of there) there
    ∙ ap news_of (unless_closed (is_open l) (Some input))

unless_none : (reason : Option Reason) → input_unless reason None ≡ None
unless_none None = refl
unless_none (Some reason) = refl

-- or no input at all
pub frame_nothing :
    EndsAreSet → (s : Setting) → IsNetwork s → (n : NodeAt) (k : ℕ) (r : Role) (link : LinkCfg) (m : PtpMsg) → link_of s k ≡ Some link →
    link_input r m.body ≡ None → frame_news (node_setting_of s (end_of r link).node) n (end_of r link).port (Ok m) ≡ Nothing
frame_nothing ends s net n k r link m is e =
    ap (λ o. news_of (input_unless (early_reason (set_at s r link) (link_at (s.set (end_of r link).node) n (end_of r link).port) m) o))
    (ap (λ x. link_input x m.body) (role_is ends s net k r link is) ∙ e)
    ∙ ap news_of (unless_none (early_reason (set_at s r link) (link_at (s.set (end_of r link).node) n (end_of r link).port) m))

-- in either case its link hears it
pub either_heard :
    (time : ℤ) (q : Port) (input : LinkIn) (at : ℤ) (takes : Bool) → IsFrameIn input → is_open q.link ≡ takes →
    port_by_news time q at (news_of (input_if takes (Some input))) ≡ after_input time q input at
either_heard time q input at true f e = refl
either_heard time q input at false f e = sym (closed_heard time q input at f e)

-- and sends nothing in quiet time
pub closed_sends : (l : LinkAt) (input : LinkIn) → IsFrameIn input → is_open l ≡ false → row_of l input ≡ NoRow
closed_sends l input f e = closed_row l input f (closed_by l.carrier l.state l.quiet e)

-- What a body is to a link

pub body_frame : (r : Role) (body : Body) (input : LinkIn) → link_input r body ≡ Some input → IsFrameIn input
body_frame Slave (AnnounceBody origin utc p1 quality p2 gm steps source suffix) input e = subst IsFrameIn (same_Some (Announce suffix) input e) tt
body_frame Slave (Signal target (Some m)) input e = subst IsFrameIn (same_Some (Msg m) input e) tt
body_frame Slave (Signal target None) input e = absurd (none-some input e)
body_frame Slave (Sync origin) input e = absurd (none-some input e)
body_frame Slave (DelayReq origin) input e = absurd (none-some input e)
body_frame Slave (FollowUp precise) input e = absurd (none-some input e)
body_frame Slave (DelayResp receive requesting) input e = absurd (none-some input e)
body_frame Master (Signal target (Some m)) input e = subst IsFrameIn (same_Some (Msg m) input e) tt
body_frame Master (Signal target None) input e = absurd (none-some input e)
body_frame Master (AnnounceBody origin utc p1 quality p2 gm steps source suffix) input e = absurd (none-some input e)
body_frame Master (Sync origin) input e = absurd (none-some input e)
body_frame Master (DelayReq origin) input e = absurd (none-some input e)
body_frame Master (FollowUp precise) input e = absurd (none-some input e)
body_frame Master (DelayResp receive requesting) input e = absurd (none-some input e)

-- a White Rabbit message is one at either end
pub message_input : (r : Role) (body : Body) (past : ℤ) (m : WrMsg) (at : ℤ) → in_body body past ≡ Some (m, at) →
    (link_input r body ≡ Some (Msg m)) × (past ≡ at)
message_input Slave (Signal target (Some w)) past m at e =
    (ap (λ (x : Message). Some (Msg x.0)) (same_Some (w, past) (m, at) e), ap (λ (x : Message). x.1) (same_Some (w, past) (m, at) e))
message_input Master (Signal target (Some w)) past m at e =
    (ap (λ (x : Message). Some (Msg x.0)) (same_Some (w, past) (m, at) e), ap (λ (x : Message). x.1) (same_Some (w, past) (m, at) e))
message_input r (Signal target None) past m at e = absurd (none-some (m, at) e)
message_input r (AnnounceBody origin utc p1 quality p2 gm steps source suffix) past m at e = absurd (none-some (m, at) e)
message_input r (Sync origin) past m at e = absurd (none-some (m, at) e)
message_input r (DelayReq origin) past m at e = absurd (none-some (m, at) e)
message_input r (FollowUp precise) past m at e = absurd (none-some (m, at) e)
message_input r (DelayResp receive requesting) past m at e = absurd (none-some (m, at) e)

same_message : (a b : WrMsg) → Msg a ≡ Msg b → a ≡ b
same_message a b e = cc

same_suffix : (a b : Option ℕ) → Announce a ≡ Announce b → a ≡ b
same_suffix a b e = cc

announce_not : (suffix : Option ℕ) (m : WrMsg) → Announce suffix ≡ Msg m → ⊥
announce_not suffix m e = cc

pub input_message : (r : Role) (body : Body) (at : ℤ) (m : WrMsg) → link_input r body ≡ Some (Msg m) → in_body body at ≡ Some (m, at)
input_message Slave (AnnounceBody origin utc p1 quality p2 gm steps source suffix) at m e =
    absurd (announce_not suffix m (same_Some (Announce suffix) (Msg m) e))
input_message Slave (Signal target (Some w)) at m e = ap (λ (x : WrMsg). Some (x, at)) (same_message w m (same_Some (Msg w) (Msg m) e))
input_message Slave (Signal target None) at m e = absurd (none-some (Msg m) e)
input_message Slave (Sync origin) at m e = absurd (none-some (Msg m) e)
input_message Slave (DelayReq origin) at m e = absurd (none-some (Msg m) e)
input_message Slave (FollowUp precise) at m e = absurd (none-some (Msg m) e)
input_message Slave (DelayResp receive requesting) at m e = absurd (none-some (Msg m) e)
input_message Master (Signal target (Some w)) at m e = ap (λ (x : WrMsg). Some (x, at)) (same_message w m (same_Some (Msg w) (Msg m) e))
input_message Master (AnnounceBody origin utc p1 quality p2 gm steps source suffix) at m e = absurd (none-some (Msg m) e)
input_message Master (Signal target None) at m e = absurd (none-some (Msg m) e)
input_message Master (Sync origin) at m e = absurd (none-some (Msg m) e)
input_message Master (DelayReq origin) at m e = absurd (none-some (Msg m) e)
input_message Master (FollowUp precise) at m e = absurd (none-some (Msg m) e)
input_message Master (DelayResp receive requesting) at m e = absurd (none-some (Msg m) e)

-- an offer is one at the slave
pub offer_input : (body : Body) → offers_in body ≡ true → (suffix : Option ℕ) × (link_input Slave body ≡ Some (Announce suffix)) × (offers suffix ≡ true)
offer_input (AnnounceBody origin utc p1 quality p2 gm steps source suffix) e = (suffix, refl, e)
offer_input (Signal target m) e = absurd (false≢true e)
offer_input (Sync origin) e = absurd (false≢true e)
offer_input (DelayReq origin) e = absurd (false≢true e)
offer_input (FollowUp precise) e = absurd (false≢true e)
offer_input (DelayResp receive requesting) e = absurd (false≢true e)

pub input_offer : (body : Body) (suffix : Option ℕ) → link_input Slave body ≡ Some (Announce suffix) → offers suffix ≡ true → offers_in body ≡ true
input_offer (AnnounceBody origin utc p1 quality p2 gm steps source own) suffix e o =
    ap offers (same_suffix own suffix (same_Some (Announce own) (Announce suffix) e)) ∙ o
input_offer (Signal target (Some m)) suffix e o = absurd (announce_not suffix m (sym (same_Some (Msg m) (Announce suffix) e)))
input_offer (Signal target None) suffix e o = absurd (none-some (Announce suffix) e)
input_offer (Sync origin) suffix e o = absurd (none-some (Announce suffix) e)
input_offer (DelayReq origin) suffix e o = absurd (none-some (Announce suffix) e)
input_offer (FollowUp precise) suffix e o = absurd (none-some (Announce suffix) e)
input_offer (DelayResp receive requesting) suffix e o = absurd (none-some (Announce suffix) e)
