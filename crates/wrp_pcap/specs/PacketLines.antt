-- The lines that are written for the packets of a capture (this project's profile). Lists of what packets carry have
-- the newest first.
use Rattle.std.specs.Prelude.{ℕ, ◌+◌, Bool, true, false, if◌then◌else◌, List, [], ◌∷◌, ◌++◌, map, length, option_to_list, Option, None, Some, codes}
use Rattle.std.specs.Fmt.{decimal}
use Rattle.std.specs.List.{count_by}
use Rattle.byteorder.specs.Endian.{big_bytes}
use Rattle.hex.specs.Hex.{encode_lower}
use Rattle.wrp_base.specs.declared.message.Body.{Body}
use Rattle.wrp_base.specs.declared.message.Body.TheVariants.{Signal}
use Rattle.wrp_base.specs.declared.message.PortIdentity.{PortIdentity}
use Rattle.wrp_base.specs.declared.message.PtpMsg.{PtpMsg}
use Rattle.wrp_frame.specs.declared.fault.FrameFault.{FrameFault}
use Rattle.wrp_frame.specs.Faults.{fault_number}
use Rattle.wrp_pcap.specs.declared.verdict.Verdict8.{Verdict8}
use Rattle.wrp_pcap.specs.declared.verdict.Verdict8.TheVariants.{Complete, Restarted, Missing}
use Rattle.wrp_pcap.specs.Certificate.{Captured, verdict_of}
use Rattle.wrp_pcap.specs.declared.content.Content.{Content}
use Rattle.wrp_pcap.specs.declared.content.Content.TheVariants.{Other, Message, Fault}
use Rattle.wrp_pcap.specs.Content.{messages_of}
use Rattle.wrp_records.specs.Words.{line_of}
use Rattle.wrp_pcap.specs.Words.{kind_word, message_word, frame_fault_word}

-- words with a space before each
abbrev pub spaced : List (List ℕ) → List ℕ
spaced [] = []
spaced (word ∷ words) = 32 ∷ word ++ spaced words

-- a portIdentity: its clock as 16 hex digits, and its port
abbrev pub identity : PortIdentity → List ℕ
identity port = encode_lower (big_bytes 8 port.clock) ++ codes ":" ++ decimal port.port

-- a message: its kind, its source, its sequenceId, and the word of the White Rabbit message that it carries
abbrev pub message_words : ℕ → PtpMsg → List (List ℕ)
message_words number message =
    decimal number ∷ kind_word message.body ∷ identity message.head.source ∷ decimal message.head.seq
    ∷ option_to_list (message_word message.body)

-- a PTP frame that is no message
abbrev pub fault_words : ℕ → FrameFault → List (List ℕ)
fault_words number fault =
    decimal number ∷ codes "fault" ∷ decimal (fault_number fault) ∷ frame_fault_word fault ∷ []

-- a verdict
abbrev pub verdict_words : Verdict8 → List (List ℕ)
verdict_words (Complete numbers) = codes "complete" ∷ map decimal numbers
verdict_words (Restarted number) = codes "restarted" ∷ decimal number ∷ []
verdict_words (Missing place) = codes "missing" ∷ decimal place ∷ []

-- the line of the verdict on a WR_MODE_ON from its sender to the port that it is for, if there is one
abbrev pub verdict_line : ℕ → PortIdentity → Body → Option Verdict8 → List ℕ
verdict_line number source (Signal target wr) (Some verdict) =
    line_of (decimal number ∷ codes "link" ∷ identity source ∷ identity target ∷ verdict_words verdict)
verdict_line number source _ _ = []

-- the verdict on what a packet carries, after these messages: only a WR_MODE_ON has one
abbrev pub told_of : ℕ → List Captured → Content → Option Verdict8
told_of number before (Message message) =
    verdict_of (record { number = number; message = message }) before
told_of number before _ = None

-- the lines of what a packet carries, with the verdict on it
abbrev pub lines_with : ℕ → Content → Option Verdict8 → List ℕ
lines_with number Other told = []
lines_with number (Message message) told =
    line_of (message_words number message) ++ verdict_line number message.head.source message.body told
lines_with number (Fault fault) told = line_of (fault_words number fault)

-- the lines of a packet with this number, after these messages
abbrev pub packet_lines : ℕ → List Captured → Content → List ℕ
packet_lines number before content = lines_with number content (told_of number before content)

-- the lines of packets, the newest packet's last
abbrev pub text_of : List Content → List ℕ
text_of [] = []
text_of (newest ∷ before) =
    text_of before ++ packet_lines (length before + 1) (messages_of before) newest

-- ---- the counts after the last packet

-- whether a packet carries a message, a frame that is none, or no PTP frame
abbrev pub is_message : Content → Bool
is_message (Message message) = true
is_message _ = false

abbrev pub is_faulty : Content → Bool
is_faulty (Fault fault) = true
is_faulty _ = false

abbrev pub is_other : Content → Bool
is_other Other = true
is_other _ = false

-- whether the verdict is `complete`
abbrev pub is_complete : Option Verdict8 → Bool
is_complete (Some (Complete numbers)) = true
is_complete _ = false

-- for how many packets the verdict is `complete`
abbrev pub complete_count : List Content → ℕ
complete_count [] = 0
complete_count (newest ∷ before) =
    (if is_complete (told_of (length before + 1) (messages_of before) newest) then 1 else 0)
    + complete_count before

-- the last line: how many packets there are, how many of them carry a message, how many carry no PTP frame, how many a
-- frame that is no message, and for how many the verdict is `complete`
abbrev pub sum_line : List Content → List ℕ
sum_line contents =
    line_of
    (codes "sum" ∷ decimal (length contents) ∷ decimal (count_by is_message contents)
    ∷ decimal (count_by is_other contents) ∷ decimal (count_by is_faulty contents)
    ∷ decimal (complete_count contents) ∷ [])
