-- A capture of one packet, inspected: what is left with each status (this project's profile).
use Rattle.std.specs.Prelude.{◌≡◌, ◌⊎◌, true, List, [], ◌∷◌, ◌++◌, ℕ, Some, codes}
use Rattle.wrp_base.specs.declared.message.PortIdentity.{PortIdentity}
use Rattle.wrp_base.specs.declared.message.PtpMsg.{PtpMsg}
use Rattle.wrp_records.specs.declared.status.Status.TheVariants.{Done, ReadFault, WriteFault, OutOfMemory}
use Rattle.wrp_pcap.specs.declared.content.Content.TheVariants.{Message}
use Rattle.wrp_pcap.specs.declared.verdict.Verdict8.TheVariants.{Missing}
use Rattle.wrp_pcap.specs.CaptureRows.{worked_header, worked_packet}
use Rattle.wrp_pcap.specs.Certificate.{is_sent}
use Rattle.wrp_pcap.specs.Handshakes.{is_mode_on}
use Rattle.wrp_pcap.specs.InspectAim.{InspectLeaves}
use Rattle.wrp_pcap.specs.PacketLines.{told_of}

-- a packet's numbers: time 0, captured length and original length 14
abbrev pub short_numbers : List ℕ
short_numbers = 0 ∷ 0 ∷ 0 ∷ 0 ∷ 0 ∷ 0 ∷ 0 ∷ 0 ∷ 14 ∷ 0 ∷ 0 ∷ 0 ∷ 14 ∷ 0 ∷ 0 ∷ 0 ∷ []

-- a capture of one packet, which carries an empty frame
abbrev pub one_packet : List ℕ
one_packet = worked_header ++ (short_numbers ++ worked_packet [])

-- the line of the packet, and the counts
abbrev pub one_line : List ℕ
one_line = codes "1 fault 1 short\n"

abbrev pub one_sum : List ℕ
one_sum = codes "sum 1 0 0 1 0\n"

pub record WorkedInspection : Type 0 where
  pub done : InspectLeaves one_packet Done (one_line ++ one_sum)
  -- if the source failed, or memory ran out, the line is left or nothing is
  pub unread : InspectLeaves one_packet ReadFault []
  pub read : InspectLeaves one_packet ReadFault one_line
  pub read_only : (text : List ℕ) → InspectLeaves one_packet ReadFault text → (text ≡ []) ⊎ (text ≡ one_line)
  pub memory_only : (text : List ℕ) → InspectLeaves one_packet OutOfMemory text → (text ≡ []) ⊎ (text ≡ one_line)
  -- if a write failed, the first octets of both lines are left
  pub write_only : (text : List ℕ) → InspectLeaves one_packet WriteFault text
      → (rest : List ℕ) × (text ++ rest ≡ one_line ++ one_sum)
  -- if a WR_MODE_ON comes first, its seventh message is missing
  pub alone : (message : PtpMsg) (slave : PortIdentity)
      → is_sent is_mode_on message.head.source slave (record { number = 1; message = message }) ≡ true
      → told_of 1 [] (Message message) ≡ Some (Missing 7)
