-- What a port answers to an input: the messages that it sends, why it drops one, and what it measures (this project's profile).
use Rattle.std.specs.Prelude.{ℕ, ℤ, ◌≤◌, ◌+◌, ◌==◌, ◌&&◌, Bool, true, false, if◌then◌else◌, List, [], ◌∷◌, ◌++◌, Option, None, Some, is_some, IfSome}
use Rattle.wrp_base.specs.declared.link.LinkWord.{LinkWord}
use Rattle.wrp_base.specs.declared.link.LinkWord.TheVariants.{Down, Quiet, Ptp, In}
use Rattle.wrp_base.specs.declared.link.Role.{Role}
use Rattle.wrp_base.specs.declared.link.Role.TheVariants.{Master, Slave}
use Rattle.wrp_base.specs.declared.measurement.ChainNews.{ChainNews}
use Rattle.wrp_base.specs.declared.measurement.ChainNews.TheVariants.{Same, Started, Ended}
use Rattle.wrp_base.specs.declared.measurement.Four.{Four}
use Rattle.wrp_base.specs.declared.message.Body.{Body}
use Rattle.wrp_base.specs.declared.message.Body.TheVariants.{DelayReq}
use Rattle.wrp_base.specs.declared.message.Head.{Head}
use Rattle.wrp_base.specs.declared.message.PtpMsg.{PtpMsg}
use Rattle.wrp_base.specs.declared.message.WrMsg.{WrMsg}
use Rattle.wrp_base.specs.declared.time.Stamp.{Stamp}
use Rattle.wrp_data.specs.declared.reason.Reason.{Reason}
use Rattle.wrp_data.specs.declared.reason.Reason.TheVariants.{Unmatched}
use Rattle.wrp_data.specs.Reason.{number_of}
use Rattle.wrp_exch.specs.Call.{Call, CallStart, CallClear, CallSample, CallSync, CallFollowUp, CallReqOut, CallReqSent, CallResp}
use Rattle.wrp_exch.specs.DelayPair.{answered_pair}
use Rattle.wrp_exch.specs.Exchange.{four_of}
use Rattle.wrp_exch.specs.SyncPair.{kept_sync, followed_pair}
use Rattle.wrp_link.specs.declared.interface.LinkIn.{LinkIn}
use Rattle.wrp_link.specs.declared.interface.LinkIn.TheVariants as link
use Rattle.wrp_link.specs.LinkAt.{LinkAt}
use Rattle.wrp_link.specs.Table.{sends_of as link_sends_of, is_used, rank_of as rank_of_state}
use Rattle.wrp_port.specs.declared.interface.PortIn.{PortIn}
use Rattle.wrp_port.specs.declared.interface.PortIn.TheVariants.{Msg, Tick, Sent, Sample, Chain, Reset}
use Rattle.wrp_port.specs.declared.line.Rest.{Rest}
use Rattle.wrp_port.specs.declared.setting.Setting.{Setting}
use Rattle.wrp_port.specs.Hearing.{is_open, early_reason, link_input, piece_of, is_of_use}
use Rattle.wrp_port.specs.LineAfter.{ticked, announces_on, syncs_on, requests_on}
use Rattle.wrp_port.specs.Messages.{signals_of, announce_of, sync_of, request_of, follow_up_of, response_of}

-- if there is a number, it is the number of a reason for which a port drops a message, 9 to 13:
-- Domain, Stranger, NotForUs, Quiet or Unmatched
abbrev pub IsPortReason : Option ℕ → Type 0
IsPortReason drop = IfSome drop (λ number. (9 ≤ number) × (number ≤ 13))

-- the rank of a word in the list of words
abbrev pub rank_of : LinkWord → ℕ
rank_of Down = 0
rank_of Quiet = 1
rank_of Ptp = 2
rank_of (In state) = 3 + rank_of_state state

-- whether two words are one
abbrev pub is_word : LinkWord → LinkWord → Bool
is_word a b = rank_of a == rank_of b

-- a list of one, if it holds
abbrev pub where_due : Bool → PtpMsg → List PtpMsg
where_due due message = if due then message ∷ [] else []

-- what the schedule sends on a line: Announce and Sync at a master, Delay_Req at a slave
abbrev pub scheduled_sends : Setting → Role → Rest → Bool → List PtpMsg
scheduled_sends set Master line certain =
    where_due (announces_on line) (announce_of set line.link certain line.ids.announce)
    ++ where_due (syncs_on line) (sync_of set line.ids.sync)
scheduled_sends set Slave line certain = where_due (requests_on line) (request_of set line.ids.request)

-- the messages that the link sends for an input, if there is one
abbrev pub link_sends : LinkAt → Option LinkIn → List WrMsg
link_sends l None = []
link_sends l (Some input) = link_sends_of l input

-- a Delay_Req at a master is answered at once
abbrev pub response_to : Setting → Role → Head → Body → Stamp → List PtpMsg
response_to set Master head (DelayReq origin) stamp = response_of set head stamp ∷ []
response_to set role head body stamp = []

-- what a message that is not dropped early makes the port send
abbrev pub heard_sends : Setting → Rest → PtpMsg → Stamp → List PtpMsg
heard_sends set line message stamp =
    signals_of set line.ids.signal (link_sends line.link (link_input set.ds.role message.body))
    ++ response_to set set.ds.role message.head message.body stamp

-- what a message makes the port send: nothing if there is a reason to drop it early
abbrev pub sends_unless : Option Reason → Setting → Rest → PtpMsg → Stamp → List PtpMsg
sends_unless None set line message stamp = heard_sends set line message stamp
sends_unless (Some reason) set line message stamp = []

-- whether the newest Sync has this sequenceId
abbrev pub is_newest : Option ℕ → ℕ → Bool
is_newest None seq = false
is_newest (Some newest) seq = newest == seq

-- the sending of the newest Sync, reported while the port is open, makes its Follow_Up
abbrev pub follow_ups : Setting → Rest → ℕ → Stamp → List PtpMsg
follow_ups set line seq stamp =
    where_due (is_newest line.ids.newest_sync seq && is_open line.link) (follow_up_of set seq stamp)

-- the messages that an input makes the port send, in their order
abbrev pub sends_of : Setting → Rest → PortIn → List PtpMsg
sends_of set line (Msg message stamp tick) = sends_unless (early_reason set line.link message) set line message stamp
sends_of set line (Tick locked certain) =
    signals_of set line.ids.signal (link_sends_of line.link (link.Tick locked)) ++ scheduled_sends set set.ds.role (ticked set line locked) certain
sends_of set line (Sent false seq stamp tick) = follow_ups set line seq stamp
sends_of set line _ = []

-- the second of two words, if it differs from the first
abbrev pub changed_word : LinkWord → LinkWord → Option LinkWord
changed_word before after = if is_word before after then None else Some after

-- ---- the exchange

-- what the servo's chain is to the exchange
abbrev pub chain_call : ChainNews → Option Call
chain_call Same = None
chain_call (Started first) = Some (CallStart first)
chain_call Ended = Some CallClear

-- the piece of the exchange that a message is: none if there is a reason to drop it early
abbrev pub piece_unless : Option Reason → Option Call → Option Call
piece_unless None piece = piece
piece_unless (Some reason) piece = None

-- what reaches the exchange of a port: nothing at a master
abbrev pub only_slave : Role → Option Call → Option Call
only_slave Master call = None
only_slave Slave call = call

-- a slave's Delay_Req that is due
abbrev pub due_request : Role → Rest → Option Call
due_request role line = only_slave role (if requests_on line then Some (CallReqOut line.ids.request) else None)

-- the sending of a slave's Delay_Req
abbrev pub sent_call : Role → ℕ → Stamp → ℕ → Option Call
sent_call role seq stamp tick = only_slave role (Some (CallReqSent seq stamp tick))

-- a slave's good sample
abbrev pub sample_call : Role → ℕ → ℤ → Option Call
sample_call role number phase = only_slave role (Some (CallSample number phase))

-- what became of a slave's chain
abbrev pub news_call : Role → ChainNews → Option Call
news_call role news = only_slave role (chain_call news)

-- what an input is to the exchange of a port
abbrev pub call_of : Setting → Rest → PortIn → Option Call
call_of set line (Msg message stamp tick) =
    piece_unless (early_reason set line.link message) (piece_of set.ds.role message.head message.body stamp tick)
call_of set line (Tick locked certain) = due_request set.ds.role (ticked set line locked)
call_of set line (Sent true seq stamp tick) = sent_call set.ds.role seq stamp tick
call_of set line (Sample number phase) = sample_call set.ds.role number phase
call_of set line (Chain news) = news_call set.ds.role news
call_of set line _ = None

-- whether the exchange after these calls keeps a piece
abbrev pub is_kept : ℕ → List Call → Option Call → Bool
is_kept ring calls (Some (CallSync seq correction t2 tick)) = is_some (kept_sync ring calls seq correction t2 tick)
is_kept ring calls (Some (CallFollowUp seq precise)) = is_some (followed_pair ring calls seq precise)
is_kept ring calls (Some (CallResp seq t4)) = is_some (answered_pair ring calls seq t4)
is_kept ring calls _ = false

-- whether a piece can make a pair
abbrev pub pairs : Option Call → Bool
pairs (Some (CallFollowUp seq precise)) = true
pairs (Some (CallResp seq t4)) = true
pairs _ = false

-- these calls with a piece in front, if there is one
abbrev pub with_call : Option Call → List Call → List Call
with_call None calls = calls
with_call (Some call) calls = call ∷ calls

-- the four stamps that a piece makes, if it makes a pair and both pairs are there
abbrev pub four_by : ℕ → List Call → Option Call → Option Four
four_by ring calls piece =
    if pairs piece && is_kept ring calls piece then four_of ring (with_call piece calls) else None

-- whether the link uses an input, if there is one
abbrev pub is_used_by : LinkAt → Option LinkIn → Bool
is_used_by l None = false
is_used_by l (Some input) = is_used l input

-- the reason for which a message is dropped: an early one, or that it is of no use
abbrev pub reason_by : Option Reason → Bool → Option Reason
reason_by (Some reason) used = Some reason
reason_by None used = if used then None else Some Unmatched

-- the number of the reason for which a message is dropped: None if it is not
abbrev pub number_by : Option Reason → Option ℕ
number_by None = None
number_by (Some reason) = Some (number_of reason)

-- the number of the reason for which an input's message is dropped; the exchange stands for these calls
abbrev pub drop_of : Setting → Rest → List Call → PortIn → Option ℕ
drop_of set line calls (Msg message stamp tick) =
    number_by (reason_by (early_reason set line.link message)
    (is_of_use set.ds.role message.body
    (is_used_by line.link (link_input set.ds.role message.body))
    (is_kept set.ring calls (piece_of set.ds.role message.head message.body stamp tick))))
drop_of set line calls _ = None

-- the four stamps of a new measurement that an input's message makes
abbrev pub measured_by : Setting → Rest → List Call → PortIn → Option Four
measured_by set line calls (Msg message stamp tick) = four_by set.ring calls (call_of set line (Msg message stamp tick))
measured_by set line calls _ = None

-- the exchange's calls after an input: none since a reset
abbrev pub calls_after : Setting → Rest → PortIn → List Call → List Call
calls_after set line Reset calls = []
calls_after set line input calls = with_call (call_of set line input) calls

-- an input's message is dropped whatever its kind
abbrev pub is_dropped_early : Setting → Rest → PortIn → Bool
is_dropped_early set line (Msg message stamp tick) = is_some (early_reason set line.link message)
is_dropped_early set line _ = false
