-- A link that has its carrier has it at both ends.
use Rattle.std.proofs.Common.{◌≡◌, inl, inr, ◌∙◌, refl, ap, ℕ, ◌==◌, ◌&&◌, ℤ, Bool, true, false, if◌then◌else◌, nat_lt, nat_le, List, [], ◌∷◌, Option, None, Some, Result}
use Rattle.std.proofs.lemmas.Bool.Decides.{eqb_tells}
use Rattle.wrp_base.specs.declared.link.LinkState.{LinkState}
use Rattle.wrp_base.specs.declared.link.LinkState.TheVariants.{Idle, Present, SLock, MLock, Locked, Calibration, Calibrated, RespCalib, LinkOn}
use Rattle.wrp_base.specs.declared.link.Role.{Role}
use Rattle.wrp_base.specs.declared.link.Role.TheVariants.{Master, Slave}
use Rattle.wrp_base.specs.declared.message.PtpMsg.{PtpMsg}
use Rattle.wrp_base.specs.declared.message.WrMsg.{WrMsg}
use Rattle.wrp_base.specs.declared.message.WrMsg.TheVariants.{Present as SLAVE_PRESENT, Lock as LOCK, Locked as LOCKED, Calibrate as CALIBRATE, Calibrated as CALIBRATED, ModeOn as WR_MODE_ON}
use Rattle.wrp_network.specs.Network.{End}
use Rattle.wrp_frame.specs.declared.fault.FrameFault.{FrameFault}
use Rattle.wrp_handshake_laws.specs.Ends.{Port}
use Rattle.wrp_link.specs.declared.interface.LinkIn.TheVariants as link_in
use Rattle.wrp_link.specs.LinkAt.{LinkAt, Waiting}
use Rattle.wrp_link.specs.Rows.{Row, Moves, Resends, Fails, Waits, Counts, announce_row, may_leave_idle, master_row, message_row, offers, resent, slave_row, tick_row, timer_row, under}
use Rattle.wrp_link.specs.Table.{by_row}
use Rattle.wrp_node.specs.declared.interface.Input.{Input}
use Rattle.wrp_node.specs.declared.interface.Input.TheVariants.{Tick, Sample, Frame, Sent, Carrier, Reset}
use Rattle.wrp_node.specs.LinkNews.{LinkNews, Nothing, Given as Handed, Renewed, frame_news, news_at, StepGivesLinks}
use Rattle.wrp_node.specs.NodeAt.{NodeSetting, NodeAt}
use Rattle.wrp_node.specs.Sends.{SignalsAreOfLink}
use Rattle.wrp_course.specs.Given.{Given, gives, gives_all}
use Rattle.wrp_course.specs.LinkEnds.{port_at}
use Rattle.wrp_course.specs.Setting.{Setting, end_at, node_setting_of}
use Rattle.wrp_course.specs.WorldAt.{WorldAt}
use Rattle.wrp_course.proofs.RunGifts.{AllGiven}
use Rattle.wrp_course.proofs.RunLinks.{counted_carrier}
use Rattle.wrp_course.proofs.RunPorts.{any_frame, port_by_news, port_given, port_other}

-- Rows that leave the carrier

abbrev KeepsCarrier : Row → Type 0
KeepsCarrier row = (l : LinkAt) → (by_row l row).carrier ≡ l.carrier

under_keeps : (b : Bool) (row : Row) → KeepsCarrier row → KeepsCarrier (under b row)
under_keeps true row h = h
under_keeps false row h = λ l. refl

slave_keeps : (s : LinkState) (m : WrMsg) → KeepsCarrier (slave_row s m)
slave_keeps Present LOCK = λ l. refl
slave_keeps Locked (CALIBRATE a b c) = λ l. refl
slave_keeps RespCalib (CALIBRATED tx rx) = λ l. refl
slave_keeps Calibrated WR_MODE_ON = λ l. refl
slave_keeps _ _ = λ l. refl

master_keeps : (l : LinkAt) (s : LinkState) (m : WrMsg) → KeepsCarrier (master_row l s m)
master_keeps l Idle SLAVE_PRESENT = under_keeps (may_leave_idle l) (Moves MLock (LOCK ∷ [])) (λ x. refl)
master_keeps l MLock SLAVE_PRESENT = λ x. refl
master_keeps l MLock LOCKED = λ x. refl
master_keeps l Calibrated (CALIBRATE a b c) = λ x. refl
master_keeps l RespCalib (CALIBRATED tx rx) = λ x. refl
master_keeps l LinkOn (CALIBRATED tx rx) = λ x. refl
master_keeps l LinkOn SLAVE_PRESENT = under_keeps (nat_le l.set.quiet l.on_ticks) Fails (λ x. refl)
master_keeps l _ _ = λ x. refl

message_keeps : (l : LinkAt) (r : Role) (m : WrMsg) → KeepsCarrier (message_row l r m)
message_keeps l Slave m = slave_keeps l.state m
message_keeps l Master m = master_keeps l l.state m

announce_keeps : (l : LinkAt) (r : Role) (s : LinkState) (suffix : Option ℕ) → KeepsCarrier (announce_row l r s suffix)
announce_keeps l Slave Idle suffix =
    under_keeps (offers suffix && ((l.holdoff == 0) && may_leave_idle l)) (Moves Present (SLAVE_PRESENT ∷ [])) (λ x. refl)
announce_keeps l _ _ suffix = λ x. refl

ended_keeps : (a b : Bool) (sends : List WrMsg) → KeepsCarrier (if a then (if b then Resends sends else Fails) else Waits)
ended_keeps true true sends = λ x. refl
ended_keeps true false sends = λ x. refl
ended_keeps false b sends = λ x. refl

timer_keeps : (l : LinkAt) (w : Option Waiting) → KeepsCarrier (timer_row l w)
timer_keeps l (Some w) = ended_keeps (w.ticks == 1) (nat_lt 0 w.retries) (resent l l.state)
timer_keeps l None = λ x. refl

counts_keeps : KeepsCarrier Counts
counts_keeps l = counted_carrier l l.state

tick_keeps : (l : LinkAt) (s : LinkState) (locked : Bool) → KeepsCarrier (tick_row l s locked)
tick_keeps l Idle locked = counts_keeps
tick_keeps l LinkOn locked = counts_keeps
tick_keeps l SLock true = λ x. refl
tick_keeps l Calibration locked = λ x. refl
tick_keeps l SLock false = timer_keeps l l.waiting
tick_keeps l Present locked = timer_keeps l l.waiting
tick_keeps l MLock locked = timer_keeps l l.waiting
tick_keeps l Locked locked = timer_keeps l l.waiting
tick_keeps l Calibrated locked = timer_keeps l l.waiting
tick_keeps l RespCalib locked = timer_keeps l l.waiting

-- News with which no carrier goes

abbrev NoLoss : LinkNews → Type 0
NoLoss Nothing = Unit {0}
NoLoss (Handed link_in.CarrierDown) = ⊥
NoLoss (Handed input) = Unit {0}
NoLoss Renewed = ⊥

still_lit : (l : LinkAt) (row : Row) → KeepsCarrier row → l.carrier ≡ true → (by_row l (under l.carrier row)).carrier ≡ true
still_lit l row h e = under_keeps l.carrier row h l ∙ e

news_lit : (time : ℤ) (q : Port) (at : ℤ) (news : LinkNews) → NoLoss news → q.link.carrier ≡ true → (port_by_news time q at news).link.carrier ≡ true
news_lit time q at Nothing h e = e
news_lit time q at (Handed (link_in.Msg m)) h e = still_lit q.link (message_row q.link q.link.role m) (message_keeps q.link q.link.role m) e
news_lit time q at (Handed (link_in.Announce suffix)) h e = still_lit q.link (announce_row q.link q.link.role q.link.state suffix) (announce_keeps q.link q.link.role q.link.state suffix) e
news_lit time q at (Handed (link_in.Tick locked)) h e = still_lit q.link (tick_row q.link q.link.state locked) (tick_keeps q.link q.link.state locked) e
news_lit time q at (Handed link_in.CarrierDown) h e = absurd h
news_lit time q at (Handed (link_in.CarrierUp own_module)) h e = refl
news_lit time q at Renewed h e = absurd h

-- inputs with which none goes
abbrev pub IsBright : Input → Type 0
IsBright (Carrier p false own_module) = ⊥
IsBright Reset = ⊥
IsBright _ = Unit {0}

bright_where : (b : Bool) (news : LinkNews) → NoLoss news → NoLoss (if b then news else Nothing)
bright_where true news h = h
bright_where false news h = tt

input_bright : (fixed : NodeSetting) (n : NodeAt) (says : Result PtpMsg FrameFault) (input : Input) (p : ℕ) → IsBright input → NoLoss (news_at fixed n input says p)
input_bright fixed n says Tick p h = tt
input_bright fixed n says (Sample number base bits) p h = tt
input_bright fixed n says (Frame x octets raw sample) p h = bright_where (p == x) (frame_news fixed n x says) (any_frame NoLoss tt (λ a. tt) (λ m. tt) fixed n x says)
input_bright fixed n says (Sent x seq delay stamp) p h = tt
input_bright fixed n says (Carrier x true own_module) p h = bright_where (p == x) (Handed (link_in.CarrierUp own_module)) tt
input_bright fixed n says (Carrier x false own_module) p h = absurd h
input_bright fixed n says Reset p h = absurd h

pub given_lit : StepGivesLinks → SignalsAreOfLink → (s : Setting) (y : ℤ) (v : WorldAt) (g : Given) (k : ℕ) (r : Role) (end : End) → end_at s k r ≡ Some end → IsBright g.input →
    (port_at s v k r end).link.carrier ≡ true → (port_at s (gives s y v g) k r end).link.carrier ≡ true
given_lit links signals s y v g k r end is h e =
    elim (eqb_tells end.node g.to) [
      | inl x ↦
          ap (λ (q : Port). q.link.carrier) (port_given links signals s y v g k r end is x.1)
          ∙ news_lit v.time (port_at s v k r end) g.at (news_at (node_setting_of s g.to) (v.node g.to) g.input g.says end.port)
          (input_bright (node_setting_of s g.to) (v.node g.to) g.says g.input end.port h) e
      | inr x ↦ ap (λ (q : Port). q.link.carrier) (port_other s y v g k r end is x.1) ∙ e
    ]

pub all_given_lit : StepGivesLinks → SignalsAreOfLink → (s : Setting) (y : ℤ) (gs : List Given) (v : WorldAt) (k : ℕ) (r : Role) (end : End) → end_at s k r ≡ Some end → AllGiven IsBright gs →
    (port_at s v k r end).link.carrier ≡ true → (port_at s (gives_all s y v gs) k r end).link.carrier ≡ true
all_given_lit links signals s y [] v k r end is h e = e
all_given_lit links signals s y (g ∷ gs) v k r end is h e =
    all_given_lit links signals s y gs (gives s y v g) k r end is h.1 (given_lit links signals s y v g k r end is h.0 e)
