-- The words of PTP messages: of their kinds (IEEE 1588-2019), and of the White Rabbit messages that a Signaling
-- carries (White Rabbit Specification 2.0); and of frames that are no message. The words are this project's profile.
use Rattle.std.specs.Prelude.{ℕ, List, Option, Some, None, codes}
use Rattle.wrp_base.specs.declared.message.Body.{Body}
use Rattle.wrp_base.specs.declared.message.Body.TheVariants.{Sync, DelayReq, FollowUp, DelayResp, Announce, Signal}
use Rattle.wrp_base.specs.declared.message.WrMsg.{WrMsg}
use Rattle.wrp_base.specs.declared.message.WrMsg.TheVariants.{Present, Lock, Locked, Calibrate, Calibrated, ModeOn}
use Rattle.wrp_frame.specs.declared.fault.FrameFault.{FrameFault}
use Rattle.wrp_frame.specs.declared.fault.FrameFault.TheVariants.{Short, Version, Kind, Length, Time, Tlv, BadWr, OneStep}

-- the word of a kind
abbrev pub kind_word : Body → List ℕ
kind_word (Sync origin) = codes "sync"
kind_word (DelayReq origin) = codes "delay-req"
kind_word (FollowUp precise) = codes "follow-up"
kind_word (DelayResp receive requesting) = codes "delay-resp"
kind_word (Announce origin utc p1 quality p2 gm steps source suffix) = codes "announce"
kind_word (Signal target wr) = codes "signaling"

-- the word of a White Rabbit message
abbrev pub wr_word : WrMsg → List ℕ
wr_word Present = codes "present"
wr_word Lock = codes "lock"
wr_word Locked = codes "locked"
wr_word (Calibrate pattern retry period) = codes "calibrate"
wr_word (Calibrated tx rx) = codes "calibrated"
wr_word ModeOn = codes "mode-on"

-- the same, if there is one
abbrev pub word_of : Option WrMsg → Option (List ℕ)
word_of None = None
word_of (Some message) = Some (wr_word message)

-- the word of the White Rabbit message that a body carries; only a Signaling carries one
abbrev pub message_word : Body → Option (List ℕ)
message_word (Sync origin) = None
message_word (DelayReq origin) = None
message_word (FollowUp precise) = None
message_word (DelayResp receive requesting) = None
message_word (Announce origin utc p1 quality p2 gm steps source suffix) = None
message_word (Signal target wr) = word_of wr

-- the word of what is wrong with a PTP frame that is no message
abbrev pub frame_fault_word : FrameFault → List ℕ
frame_fault_word Short = codes "short"
frame_fault_word Version = codes "version"
frame_fault_word Kind = codes "kind"
frame_fault_word Length = codes "length"
frame_fault_word Time = codes "time"
frame_fault_word Tlv = codes "tlv"
frame_fault_word BadWr = codes "badwr"
frame_fault_word OneStep = codes "onestep"
