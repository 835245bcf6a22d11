-- What a link sends fits its octets, if the delays of its module do.
use Rattle.std.proofs.Common.{ℕ, ◌<◌, ◌^◌, ◌==◌, ◌&&◌, nat_le, nat_lt, lit<, Bool, true, false, if◌then◌else◌, [], ◌∷◌, Option, None, Some, IfSome, Result, Ok, Err}
use Rattle.std.specs.List.{AllByRecursion}
use Rattle.wrp_base.specs.declared.link.LinkState.{LinkState}
use Rattle.wrp_base.specs.declared.link.LinkState.TheVariants.{Idle, Present, SLock, MLock, Locked, Calibration, Calibrated, RespCalib, LinkOn}
use Rattle.wrp_base.specs.declared.link.Module.{Module}
use Rattle.wrp_base.specs.declared.link.Role.{Role}
use Rattle.wrp_base.specs.declared.link.Role.TheVariants.{Master, Slave}
use Rattle.wrp_base.specs.declared.message.Body.{Body}
use Rattle.wrp_base.specs.declared.message.Body.TheVariants.{Sync, DelayReq, FollowUp, DelayResp, Announce, Signal}
use Rattle.wrp_base.specs.declared.message.PtpMsg.{PtpMsg}
use Rattle.wrp_base.specs.declared.message.WrMsg.{WrMsg}
use Rattle.wrp_base.specs.declared.message.WrMsg.TheVariants.{Present as SLAVE_PRESENT, Lock as LOCK, Locked as LOCKED, Calibrate as CALIBRATE, Calibrated as CALIBRATED, ModeOn as WR_MODE_ON}
use Rattle.wrp_data.specs.declared.reason.Reason.{Reason}
use Rattle.wrp_frame.specs.declared.fault.FrameFault.{FrameFault}
use Rattle.wrp_link.specs.declared.interface.LinkIn.{LinkIn}
use Rattle.wrp_link.specs.declared.interface.LinkIn.TheVariants as link_in
use Rattle.wrp_link.specs.LinkAt.{LinkAt, Waiting}
use Rattle.wrp_link.specs.Rows.{Row, Moves, Resends, Fails, Waits, CarrierGoes, announce_row, master_row, may_leave_idle, message_row, offers, own_calibrate, own_calibrated, resent, row_of, slave_row, tick_row, timer_row, under}
use Rattle.wrp_link.specs.Table.{by_row, counted, sends_of as link_sends_of, sent_by}
use Rattle.wrp_node.specs.declared.interface.Input.{Input}
use Rattle.wrp_node.specs.declared.interface.Input.TheVariants.{Tick, Sample, Frame, Sent, Carrier, Reset}
use Rattle.wrp_node.specs.LinkNews.{LinkNews, Nothing, Given, Renewed, frame_news, link_after, news_at, news_of}
use Rattle.wrp_node.specs.NodeAt.{NodeAt, NodeSetting, link_at, setting_of}
use Rattle.wrp_port.specs.declared.setting.Setting.{Setting}
use Rattle.wrp_port.specs.Hearing.{early_reason, link_input}
use Rattle.wrp_port.specs.History.{input_unless}
use Rattle.wrp_port.specs.Outputs.{link_sends}
use Rattle.wrp_tlv.specs.WhiteRabbit.{FitsOctets}

-- a module's delays fit the octets that carry them
abbrev pub FitsModule : Module → Type 0
FitsModule m = (m.tx < 256 ^ 8) × (m.rx < 256 ^ 8)

-- a link's module fits, if it is listed
abbrev pub LinkFits : LinkAt → Type 0
LinkFits l = IfSome l.own_module FitsModule

-- Rows

-- the messages of a row fit, and the link after it still has a module that fits
record RowFits (l : LinkAt) (row : Row) : Type 0 where
  sends : AllByRecursion FitsOctets (sent_by row)
  stays : LinkFits (by_row l row)

calibrate_fits : FitsOctets own_calibrate
calibrate_fits = (lit< tt, lit< tt, lit< tt)

calibrated_fits : (o : Option Module) → IfSome o FitsModule → FitsOctets (own_calibrated o)
calibrated_fits None h = (lit< tt, lit< tt)
calibrated_fits (Some m) h = h

under_fits : (l : LinkAt) → LinkFits l → (b : Bool) (row : Row) → RowFits l row → RowFits l (under b row)
under_fits l h true row fits = fits
under_fits l h false row fits = record { sends = tt; stays = h }

slave_fits : (l : LinkAt) → LinkFits l → (state : LinkState) (m : WrMsg) → RowFits l (slave_row state m)
slave_fits l h Present LOCK = record { sends = tt; stays = h }
slave_fits l h Locked (CALIBRATE a b c) = record { sends = tt; stays = h }
slave_fits l h RespCalib (CALIBRATED tx rx) = record { sends = (calibrate_fits, tt); stays = h }
slave_fits l h Calibrated WR_MODE_ON = record { sends = tt; stays = h }
slave_fits l h state m = record { sends = tt; stays = h }

master_fits : (l : LinkAt) → LinkFits l → (state : LinkState) (m : WrMsg) → RowFits l (master_row l state m)
master_fits l h Idle SLAVE_PRESENT = under_fits l h (may_leave_idle l) (Moves MLock (LOCK ∷ [])) (record { sends = (tt, tt); stays = h })
master_fits l h MLock SLAVE_PRESENT = record { sends = (tt, tt); stays = h }
master_fits l h MLock LOCKED = record { sends = (calibrate_fits, tt); stays = h }
master_fits l h Calibrated (CALIBRATE a b c) = record { sends = tt; stays = h }
master_fits l h RespCalib (CALIBRATED tx rx) = record { sends = (tt, tt); stays = h }
master_fits l h LinkOn (CALIBRATED tx rx) = record { sends = (tt, tt); stays = h }
master_fits l h LinkOn SLAVE_PRESENT = under_fits l h (nat_le l.set.quiet l.on_ticks) Fails (record { sends = tt; stays = h })
master_fits l h state m = record { sends = tt; stays = h }

message_fits : (l : LinkAt) → LinkFits l → (role : Role) (m : WrMsg) → RowFits l (message_row l role m)
message_fits l h Slave m = slave_fits l h l.state m
message_fits l h Master m = master_fits l h l.state m

announce_fits : (l : LinkAt) → LinkFits l → (role : Role) (state : LinkState) (suffix : Option ℕ) → RowFits l (announce_row l role state suffix)
announce_fits l h Slave Idle suffix =
    under_fits l h (offers suffix && ((l.holdoff == 0) && may_leave_idle l)) (Moves Present (SLAVE_PRESENT ∷ [])) (record { sends = (tt, tt); stays = h })
announce_fits l h role state suffix = record { sends = tt; stays = h }

resent_fit : (l : LinkAt) → LinkFits l → (state : LinkState) → AllByRecursion FitsOctets (resent l state)
resent_fit l h Present = (tt, tt)
resent_fit l h MLock = (tt, tt)
resent_fit l h Locked = (tt, tt)
resent_fit l h Calibrated = (calibrate_fits, (calibrated_fits l.own_module h, tt))
resent_fit l h state = tt

ends_fit : (l : LinkAt) → LinkFits l → (a b : Bool) → RowFits l (if a then (if b then Resends (resent l l.state) else Fails) else Waits)
ends_fit l h true true = record { sends = resent_fit l h l.state; stays = h }
ends_fit l h true false = record { sends = tt; stays = h }
ends_fit l h false b = record { sends = tt; stays = h }

timer_fits : (l : LinkAt) → LinkFits l → (w : Option Waiting) → RowFits l (timer_row l w)
timer_fits l h (Some w) = ends_fit l h (w.ticks == 1) (nat_lt 0 w.retries)
timer_fits l h None = record { sends = tt; stays = h }

counted_fits : (l : LinkAt) → LinkFits l → (state : LinkState) → LinkFits (counted l state)
counted_fits l h Idle = h
counted_fits l h LinkOn = h
counted_fits l h state = h

tick_fits : (l : LinkAt) → LinkFits l → (state : LinkState) (locked : Bool) → RowFits l (tick_row l state locked)
tick_fits l h Idle locked = record { sends = tt; stays = counted_fits l h l.state }
tick_fits l h LinkOn locked = record { sends = tt; stays = counted_fits l h l.state }
tick_fits l h SLock true = record { sends = (tt, tt); stays = h }
tick_fits l h Calibration locked = record { sends = (calibrated_fits l.own_module h, tt); stays = h }
tick_fits l h state locked = timer_fits l h l.waiting

-- Inputs

-- the module of a carrier that comes fits
abbrev LinkInFits : LinkIn → Type 0
LinkInFits (link_in.CarrierUp own_module) = IfSome own_module FitsModule
LinkInFits _ = Unit {0}

row_fits : (l : LinkAt) → LinkFits l → (input : LinkIn) → LinkInFits input → RowFits l (row_of l input)
row_fits l h (link_in.Msg m) may = under_fits l h l.carrier (message_row l l.role m) (message_fits l h l.role m)
row_fits l h (link_in.Announce suffix) may = under_fits l h l.carrier (announce_row l l.role l.state suffix) (announce_fits l h l.role l.state suffix)
row_fits l h (link_in.Tick locked) may = under_fits l h l.carrier (tick_row l l.state locked) (tick_fits l h l.state locked)
row_fits l h link_in.CarrierDown may = under_fits l h l.carrier CarrierGoes (record { sends = tt; stays = tt })
row_fits l h (link_in.CarrierUp own_module) may = record { sends = tt; stays = may }

-- what a message means to a link fits
body_fits : (role : Role) (body : Body) → IfSome (link_input role body) LinkInFits
body_fits Slave (Sync origin) = tt
body_fits Slave (DelayReq origin) = tt
body_fits Slave (FollowUp precise) = tt
body_fits Slave (DelayResp receive requesting) = tt
body_fits Slave (Announce origin utc p1 quality p2 gm steps source suffix) = tt
body_fits Slave (Signal target None) = tt
body_fits Slave (Signal target (Some m)) = tt
body_fits Master (Sync origin) = tt
body_fits Master (DelayReq origin) = tt
body_fits Master (FollowUp precise) = tt
body_fits Master (DelayResp receive requesting) = tt
body_fits Master (Announce origin utc p1 quality p2 gm steps source suffix) = tt
body_fits Master (Signal target None) = tt
body_fits Master (Signal target (Some m)) = tt

-- what the link sends for it, and for a tick, fits
by_input : (l : LinkAt) → LinkFits l → (o : Option LinkIn) → IfSome o LinkInFits → AllByRecursion FitsOctets (link_sends l o)
by_input l h None may = tt
by_input l h (Some input) may = (row_fits l h input may).sends

pub heard_fits : (l : LinkAt) → LinkFits l → (role : Role) (body : Body) → AllByRecursion FitsOctets (link_sends l (link_input role body))
heard_fits l h role body = by_input l h (link_input role body) (body_fits role body)

pub ticked_fits : (l : LinkAt) → LinkFits l → (locked : Bool) → AllByRecursion FitsOctets (link_sends_of l (link_in.Tick locked))
ticked_fits l h locked = (row_fits l h (link_in.Tick locked) tt).sends

-- The links of a node

abbrev NewsFits : LinkNews → Type 0
NewsFits Nothing = Unit {0}
NewsFits (Given input) = LinkInFits input
NewsFits Renewed = Unit {0}

after_fits : (set : Setting) (l : LinkAt) → LinkFits l → (news : LinkNews) → NewsFits news → LinkFits (link_after set l news)
after_fits set l h Nothing may = h
after_fits set l h (Given input) may = (row_fits l h input may).stays
after_fits set l h Renewed may = tt

news_fits : (o : Option LinkIn) → IfSome o LinkInFits → NewsFits (news_of o)
news_fits None h = tt
news_fits (Some input) h = h

unless_fits : (r : Option Reason) (o : Option LinkIn) → IfSome o LinkInFits → IfSome (input_unless r o) LinkInFits
unless_fits None o h = h
unless_fits (Some reason) o h = tt

where_fits : (b : Bool) (news : LinkNews) → NewsFits news → NewsFits (if b then news else Nothing)
where_fits true news h = h
where_fits false news h = tt

frame_fits : (fixed : NodeSetting) (n : NodeAt) (p : ℕ) (says : Result PtpMsg FrameFault) → NewsFits (frame_news fixed n p says)
frame_fits fixed n p (Err fault) = tt
frame_fits fixed n p (Ok m) =
    let reason : Option Reason = early_reason (setting_of fixed.set p) (link_at fixed.set n p) m in
    let role : Role = (setting_of fixed.set p).ds.role in
    news_fits (input_unless reason (link_input role m.body)) (unless_fits reason (link_input role m.body) (body_fits role m.body))

-- the module of a carrier that comes fits
abbrev pub CarrierFits : Input → Type 0
CarrierFits (Carrier p up own_module) = IfSome own_module FitsModule
CarrierFits _ = Unit {0}

node_news : (fixed : NodeSetting) (n : NodeAt) (input : Input) (says : Result PtpMsg FrameFault) (p : ℕ) → CarrierFits input → NewsFits (news_at fixed n input says p)
node_news fixed n Tick says p may = tt
node_news fixed n (Sample number base bits) says p may = tt
node_news fixed n (Frame q octets raw sample) says p may = where_fits (p == q) (frame_news fixed n q says) (frame_fits fixed n q says)
node_news fixed n (Sent q seq delay stamp) says p may = tt
node_news fixed n (Carrier q true own_module) says p may = where_fits (p == q) (Given (link_in.CarrierUp own_module)) may
node_news fixed n (Carrier q false own_module) says p may = where_fits (p == q) (Given link_in.CarrierDown) tt
node_news fixed n Reset says p may = tt

-- what an input makes of a link that fits still fits
pub link_fits_on : (fixed : NodeSetting) (n : NodeAt) (input : Input) (says : Result PtpMsg FrameFault) (p : ℕ) → CarrierFits input → LinkFits (link_at fixed.set n p)
    → LinkFits (link_after (setting_of fixed.set p) (link_at fixed.set n p) (news_at fixed n input says p))
link_fits_on fixed n input says p may h =
    after_fits (setting_of fixed.set p) (link_at fixed.set n p) h (news_at fixed n input says p) (node_news fixed n input says p may)
