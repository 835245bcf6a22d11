-- The messages that a port sends: each field of each kind (IEEE 1588-2019, the White Rabbit Specification 2.0; the values are this project's profile).
use Rattle.std.specs.Prelude.{ℕ, ℤ, pos, ◌+◌, ◌%◌, Bool, if◌then◌else◌, List, [], ◌∷◌, Option, None, Some, is_some, unsigned_abs}
use Rattle.wrp_base.specs.declared.link.LinkState.TheVariants.{LinkOn}
use Rattle.wrp_base.specs.declared.message.Body.TheVariants.{Sync, DelayReq, FollowUp, DelayResp, Signal}
use Rattle.wrp_base.specs.declared.message.Head.{Head}
use Rattle.wrp_base.specs.declared.message.PtpMsg.{PtpMsg}
use Rattle.wrp_base.specs.declared.message.WrMsg.{WrMsg}
use Rattle.wrp_base.specs.declared.time.Stamp.{Stamp}
use Rattle.wrp_data.specs.Announce.{no_time, announce_body, suffix_flags}
use Rattle.wrp_link.specs.LinkAt.{LinkAt}
use Rattle.wrp_link.specs.Table.{is_same}
use Rattle.wrp_port.specs.declared.setting.Setting.{Setting}
use Rattle.wrp_port.specs.Wire.{timestamp_of, rest_of, corrected_by}

-- the header of a message of the port
abbrev pub head_of : Setting → (flags : ℕ) (correction : ℤ) (seq interval : ℕ) → Head
head_of set flags correction seq interval =
    record { domain = set.own.domain; flags = flags; correction = correction; source = set.ds.own; seq = seq; interval = interval }

-- the sequenceId after one
abbrev pub next_id : ℕ → ℕ
next_id seq = (seq + 1) % 65536

-- a White Rabbit message, as a Signaling to the peer
abbrev pub signal_of : Setting → ℕ → WrMsg → PtpMsg
signal_of set seq message =
    record { head = head_of set 0 (pos 0) seq 0x7F; body = Signal set.ds.peer (Some message) }

-- White Rabbit messages in their order, from a sequenceId on
abbrev pub signals_of : Setting → ℕ → List WrMsg → List PtpMsg
signals_of set seq [] = []
signals_of set seq (message ∷ messages) = signal_of set seq message ∷ signals_of set (next_id seq) messages

-- the flags of an Announce: synchronizationUncertain, unless the node's time is certain
abbrev pub announce_flags : Bool → ℕ
announce_flags certain = if certain then 0 else 0x0040

-- the wrFlags of a port's suffix; a link without White Rabbit has no suffix
abbrev pub suffix_by : Setting → LinkAt → Option ℕ
suffix_by set l =
    if set.ds.wr then Some (suffix_flags (record { known = is_some l.own_module; on = is_same l.state LinkOn })) else None

-- an Announce of a port with this link
abbrev pub announce_of : Setting → LinkAt → Bool → ℕ → PtpMsg
announce_of set l certain seq =
    record { head = head_of set (announce_flags certain) (pos 0) seq 0; body = announce_body set.own (suffix_by set l) }

-- a two-step Sync
abbrev pub sync_of : Setting → ℕ → PtpMsg
sync_of set seq = record { head = head_of set 0x0200 (pos 0) seq 0; body = Sync no_time }

-- a Delay_Req
abbrev pub request_of : Setting → ℕ → PtpMsg
request_of set seq = record { head = head_of set 0 (pos 0) seq 0x7F; body = DelayReq no_time }

-- the Follow_Up of a Sync whose sending has this stamp
abbrev pub follow_up_of : Setting → ℕ → Stamp → PtpMsg
follow_up_of set seq stamp =
    record {
      head = head_of set 0 (pos (rest_of (unsigned_abs stamp.value))) seq 0;
      body = FollowUp (timestamp_of (unsigned_abs stamp.value));
    }

-- the Delay_Resp to a Delay_Req with this header, whose reception has this stamp
abbrev pub response_of : Setting → Head → Stamp → PtpMsg
response_of set head stamp =
    record {
      head = head_of set 0 (corrected_by head.correction (unsigned_abs stamp.value)) head.seq 0;
      body = DelayResp (timestamp_of (unsigned_abs stamp.value)) head.source;
    }
