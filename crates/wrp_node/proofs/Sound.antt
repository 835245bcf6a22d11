-- Each message that a port sends can be sent.
use Rattle.std.proofs.Common.{ℕ, ℤ, pos, ◌≤◌, ◌<◌, ◌/◌, ◌%◌, ◌^◌, ◌≤ℤ◌, unsigned_abs, Bool, true, false, ◌&&◌, List, [], ◌∷◌, ◌++◌, Option, None, Some, arith, lit<}
use Rattle.std.proofs.lemmas.Int.{ints}
use Rattle.std.specs.List.{AllByRecursion}
use Rattle.wrp_base.specs.declared.link.Role.{Role}
use Rattle.wrp_base.specs.declared.link.Role.TheVariants.{Master, Slave}
use Rattle.wrp_base.specs.declared.message.Body.{Body}
use Rattle.wrp_base.specs.declared.message.Body.TheVariants.{Sync, DelayReq}
use Rattle.wrp_base.specs.declared.message.Head.{Head}
use Rattle.wrp_base.specs.declared.message.PtpMsg.{PtpMsg}
use Rattle.wrp_base.specs.declared.message.WrMsg.{WrMsg}
use Rattle.wrp_base.specs.declared.time.Stamp.{Stamp}
use Rattle.wrp_base.specs.Message.{IsSound, FitsTimestamp, HasTwoStepFlag}
use Rattle.wrp_data.specs.Announce.{no_time}
use Rattle.wrp_data.specs.declared.reason.Reason.{Reason}
use Rattle.wrp_link.specs.declared.interface.LinkIn.TheVariants as link
use Rattle.wrp_link.specs.Table.{sends_of as link_sends_of}
use Rattle.wrp_port.specs.declared.interface.PortIn.{PortIn}
use Rattle.wrp_port.specs.declared.interface.PortIn.TheVariants.{Msg, Lease, Tick, Sent, Carrier, Sample, Chain, Reset}
use Rattle.wrp_port.specs.declared.line.Rest.{Rest}
use Rattle.wrp_port.specs.declared.setting.Setting.{Setting}
use Rattle.wrp_port.specs.Hearing.{is_open, early_reason, link_input}
use Rattle.wrp_port.specs.LineAfter.{ticked, announces_on, syncs_on, requests_on}
use Rattle.wrp_port.specs.Messages.{next_id, signals_of, announce_of, sync_of, request_of, follow_up_of}
use Rattle.wrp_port.specs.Outputs.{where_due, scheduled_sends, link_sends, response_to, sends_unless, is_newest, sends_of}
use Rattle.wrp_port.specs.PortAt.{IsFit, IsStamp}
use Rattle.wrp_port.specs.Wire.{timestamp_of}

abbrev pub AllSound : List PtpMsg → Type 0
AllSound messages = AllByRecursion IsSound messages

pub sound_append : (xs ys : List PtpMsg) → AllSound xs → AllSound ys → AllSound (xs ++ ys)
sound_append [] ys h k = k
sound_append (x ∷ xs) ys h k = (h.0, sound_append xs ys h.1 k)

sound_where : (b : Bool) (m : PtpMsg) → IsSound m → AllSound (where_due b m)
sound_where true m h = (h, tt)
sound_where false m h = tt

sound_signals : (set : Setting) (seq : ℕ) (ms : List WrMsg) → AllSound (signals_of set seq ms)
sound_signals set seq [] = tt
sound_signals set seq (m ∷ ms) = (record { times = tt; two_step = tt }, sound_signals set (next_id seq) ms)

seconds_fit : (r : ℕ) → r ≤ 2 ^ 93 → (r / 65_536_000) / 1_000_000_000 < 2 ^ 48
seconds_fit r h = omega arith

nanos_fit : (n : ℕ) → n % 1_000_000_000 < 1_000_000_000
nanos_fit n = omega arith

abs_fits : (v : ℤ) → pos 0 ≤ℤ v → v ≤ℤ pos (2 ^ 93) → unsigned_abs v ≤ 2 ^ 93
abs_fits v h k = omega (arith, ints)

stamp_fits : (stamp : Stamp) → IsStamp stamp → FitsTimestamp (timestamp_of (unsigned_abs stamp.value))
stamp_fits stamp h = (seconds_fit (unsigned_abs stamp.value) (abs_fits stamp.value h.0 h.1), nanos_fit (unsigned_abs stamp.value / 65_536_000))

two_steps : HasTwoStepFlag 0x0200 (Sync no_time)
two_steps e = absurd (omega (arith, e))

sound_scheduled : (set : Setting) (role : Role) (line : Rest) (certain : Bool) → AllSound (scheduled_sends set role line certain)
sound_scheduled set Master line certain =
    sound_append (where_due (announces_on line) (announce_of set line.link certain line.ids.announce)) (where_due (syncs_on line) (sync_of set line.ids.sync))
    (sound_where (announces_on line) (announce_of set line.link certain line.ids.announce) (record { times = (lit< tt, lit< tt); two_step = tt }))
    (sound_where (syncs_on line) (sync_of set line.ids.sync) (record { times = (lit< tt, lit< tt); two_step = two_steps }))
sound_scheduled set Slave line certain =
    sound_where (requests_on line) (request_of set line.ids.request) (record { times = (lit< tt, lit< tt); two_step = tt })

sound_response : (set : Setting) (role : Role) (head : Head) (body : Body) (stamp : Stamp) → IsStamp stamp → AllSound (response_to set role head body stamp)
sound_response set Master head (DelayReq origin) stamp h = (record { times = stamp_fits stamp h; two_step = tt }, tt)
sound_response set role head body stamp h = tt

sound_unless : (reason : Option Reason) (set : Setting) (line : Rest) (message : PtpMsg) (stamp : Stamp) → IsStamp stamp → AllSound (sends_unless reason set line message stamp)
sound_unless None set line message stamp h =
    sound_append (signals_of set line.ids.signal (link_sends line.link (link_input set.ds.role message.body))) (response_to set set.ds.role message.head message.body stamp)
    (sound_signals set line.ids.signal (link_sends line.link (link_input set.ds.role message.body)))
    (sound_response set set.ds.role message.head message.body stamp h)
sound_unless (Some reason) set line message stamp h = tt

pub sends_sound : (set : Setting) (line : Rest) (input : PortIn) → IsFit input → AllSound (sends_of set line input)
sends_sound set line (Msg message stamp tick) h = sound_unless (early_reason set line.link message) set line message stamp h.1
sends_sound set line (Tick locked certain) h =
    sound_append (signals_of set line.ids.signal (link_sends_of line.link (link.Tick locked))) (scheduled_sends set set.ds.role (ticked set line locked) certain)
    (sound_signals set line.ids.signal (link_sends_of line.link (link.Tick locked)))
    (sound_scheduled set set.ds.role (ticked set line locked) certain)
sends_sound set line (Sent false seq stamp tick) h =
    sound_where (is_newest line.ids.newest_sync seq && is_open line.link) (follow_up_of set seq stamp) (record { times = stamp_fits stamp h; two_step = tt })
sends_sound set line (Sent true seq stamp tick) h = tt
sends_sound set line Lease h = tt
sends_sound set line (Carrier up own_module) h = tt
sends_sound set line (Sample n u) h = tt
sends_sound set line (Chain news) h = tt
sends_sound set line Reset h = tt
