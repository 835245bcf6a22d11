-- What a port makes of a message that comes: whether it is dropped, and for which reason; what it is to the link, to
-- the lease and to the exchange (this project's profile).
use Rattle.std.specs.Prelude.{ℕ, ◌==◌, ◌||◌, Bool, true, false, if◌then◌else◌, bit_and, Option, None, Some}
use Rattle.wrp_base.specs.declared.link.LinkWord.{LinkWord}
use Rattle.wrp_base.specs.declared.link.LinkWord.TheVariants.{Down, Quiet as QuietWord}
use Rattle.wrp_base.specs.declared.link.Role.{Role}
use Rattle.wrp_base.specs.declared.link.Role.TheVariants.{Master, Slave}
use Rattle.wrp_base.specs.declared.message.Body.{Body}
use Rattle.wrp_base.specs.declared.message.Body.TheVariants.{Sync, DelayReq, FollowUp, DelayResp, Announce, Signal}
use Rattle.wrp_base.specs.declared.message.Head.{Head}
use Rattle.wrp_base.specs.declared.message.PtpMsg.{PtpMsg}
use Rattle.wrp_base.specs.declared.time.Stamp.{Stamp}
use Rattle.wrp_base.specs.Message.{every_port, is_port}
use Rattle.wrp_data.specs.declared.datasets.PortDs.{PortDs}
use Rattle.wrp_data.specs.declared.reason.Reason.{Reason}
use Rattle.wrp_data.specs.declared.reason.Reason.TheVariants.{Domain, Stranger, NotForUs, Quiet}
use Rattle.wrp_exch.specs.Call.{Call, CallSync, CallFollowUp, CallResp}
use Rattle.wrp_link.specs.declared.interface.LinkIn.{LinkIn}
use Rattle.wrp_link.specs.declared.interface.LinkIn.TheVariants as link
use Rattle.wrp_link.specs.LinkAt.{LinkAt}
use Rattle.wrp_link.specs.Table.{word_of}
use Rattle.wrp_port.specs.declared.setting.Setting.{Setting}
use Rattle.wrp_port.specs.Wire.{later_by, earlier_by}

-- a word with which a port takes messages and keeps its schedule: neither down nor quiet
abbrev pub is_open_word : LinkWord → Bool
is_open_word Down = false
is_open_word QuietWord = false
is_open_word _ = true

-- a link whose port takes messages and keeps its schedule
abbrev pub is_open : LinkAt → Bool
is_open l = is_open_word (word_of l)

-- whether a body is for the port: a Signaling for it or for every port, a Delay_Resp for it, and each other kind
abbrev pub is_addressed : PortDs → Body → Bool
is_addressed ds (Signal target message) = is_port target ds.own || is_port target every_port
is_addressed ds (DelayResp receive requesting) = is_port requesting ds.own
is_addressed ds _ = true

-- the reason for which a message is dropped whatever its kind: the first that applies
abbrev pub early_reason : Setting → LinkAt → PtpMsg → Option Reason
early_reason set l message =
    if message.head.domain == set.own.domain then
    if is_port message.head.source set.ds.peer then
    if is_addressed set.ds message.body then
    if is_open l then None else Some Quiet
    else Some NotForUs
    else Some Stranger
    else Some Domain

-- what a body is to the link: an Announce at a slave, the White Rabbit message of a Signaling at either end
abbrev pub link_input : Role → Body → Option LinkIn
link_input Slave (Announce origin utc p1 quality p2 gm steps source suffix) = Some (link.Announce suffix)
link_input role (Signal target (Some message)) = Some (link.Msg message)
link_input role body = None

-- an Announce of a parent whose time is certain: synchronizationUncertain is not set
abbrev pub is_certain : Head → Bool
is_certain head = bit_and head.flags 0x0040 == 0

-- whether a message renews the lease: such an Announce at a slave
abbrev pub renews : Role → Head → Body → Bool
renews Slave head (Announce origin utc p1 quality p2 gm steps source suffix) = is_certain head
renews role head body = false

-- the piece of the exchange that a message is to a slave, with the stamp of its reception and the tick
abbrev pub piece_of : Role → Head → Body → Stamp → ℕ → Option Call
piece_of Slave head (Sync origin) stamp tick = Some (CallSync head.seq head.correction stamp tick)
piece_of Slave head (FollowUp precise) stamp tick = Some (CallFollowUp head.seq (later_by precise head.correction))
piece_of Slave head (DelayResp receive requesting) stamp tick = Some (CallResp head.seq (earlier_by receive head.correction))
piece_of role head body stamp tick = None

-- whether a message that is not dropped early is of use: the port's part of it, if it has one, was used
abbrev pub is_of_use : Role → Body → (linked kept : Bool) → Bool
is_of_use Slave (Announce origin utc p1 quality p2 gm steps source suffix) linked kept = true
is_of_use Master (DelayReq origin) linked kept = true
is_of_use role (Signal target (Some message)) linked kept = linked
is_of_use Slave (Sync origin) linked kept = kept
is_of_use Slave (FollowUp precise) linked kept = kept
is_of_use Slave (DelayResp receive requesting) linked kept = kept
is_of_use role body linked kept = false
