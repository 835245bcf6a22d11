-- What the octets of a file hold, as functions of them; that they are read in that way and in no other; and what of it
-- stays, whatever follows them (the classic libpcap file format).
use Rattle.std.specs.Prelude.{◌≡◌, ◌≤◌, ◌+◌, ◌&&◌, ◌==◌, nat_le, nat_lt, ℕ, zero, suc, Bool, if◌then◌else◌, List, [], ◌∷◌, ◌++◌, length, take, drop, Option, Some, None, Result, Ok, Err}
use Rattle.wrp_pcap.specs.declared.capture.CaptureFault.{CaptureFault}
use Rattle.wrp_pcap.specs.declared.capture.CaptureFault.TheVariants.{Magic, LinkType, Header, Packet, Long}
use Rattle.wrp_pcap.specs.declared.capture.Order.{Order}
use Rattle.wrp_pcap.specs.declared.capture.Refusal.{Refusal}
use Rattle.wrp_pcap.specs.Capture.{order_of, number_at, captured, StoredPacket, first_packet, behind_first, HasHeader, HasHeaderFault, Begins, HasPacketFault, HasReading, IsFile, IsReadAs}

-- a header of this order, or its other link type
abbrev pub header_by : Option Order → List ℕ → Result Order CaptureFault
header_by None octets = Err Magic
header_by (Some order) octets = if number_at order 20 octets == 1 then Ok order else Err LinkType

-- the order of a file, or the fault of its header
abbrev pub header_of : List ℕ → Result Order CaptureFault
header_of octets =
    if nat_lt (length octets) 24 then Err Magic else header_by (order_of octets) octets

-- the octets begin with a whole packet
abbrev pub is_whole : Order → List ℕ → Bool
is_whole order octets =
    nat_le 16 (length octets)
    && (nat_le (captured order octets) 262_144
    && nat_le (16 + captured order octets) (length octets))

-- the first n of the whole packets that follow one another, or all if there are fewer
abbrev pub first_packets : ℕ → Order → List ℕ → List StoredPacket
first_packets zero order octets = []
first_packets (suc n) order octets =
    if is_whole order octets
    then first_packet order octets ∷ first_packets n order (behind_first order octets)
    else []

-- the octets that are left after them
abbrev pub left_behind : ℕ → Order → List ℕ → List ℕ
left_behind zero order octets = octets
left_behind (suc n) order octets =
    if is_whole order octets then left_behind n order (behind_first order octets) else octets

-- the fault of octets that are left and do not begin with a whole packet
abbrev pub fault_left : Order → List ℕ → Option CaptureFault
fault_left order octets =
    if length octets == 0 then None
    else if nat_lt (length octets) 16 then Some Header
    else if nat_lt 262_144 (captured order octets) then Some Long
    else Some Packet

-- the packets after a header; there are fewer of them than octets
abbrev pub packets_behind : Result Order CaptureFault → List ℕ → List StoredPacket
packets_behind (Err fault) octets = []
packets_behind (Ok order) octets = first_packets (length octets) order octets

-- the whole packets of a file, up to its end or to the first refusal
abbrev pub packets_of : List ℕ → List StoredPacket
packets_of octets = packets_behind (header_of octets) (drop 24 octets)

-- the refusal after this many packets
abbrev pub refusal_at : ℕ → Option CaptureFault → Option Refusal
refusal_at count None = None
refusal_at count (Some fault) = Some (record { packet = count + 1; fault = fault })

-- the refusal at a header or after it
abbrev pub refusal_behind : Result Order CaptureFault → List ℕ → Option Refusal
refusal_behind (Err fault) octets = Some (record { packet = 0; fault = fault })
refusal_behind (Ok order) octets =
    refusal_at
    (length (first_packets (length octets) order octets))
    (fault_left order (left_behind (length octets) order octets))

-- the refusal of a file, if it is refused
abbrev pub refusal_of : List ℕ → Option Refusal
refusal_of octets = refusal_behind (header_of octets) (drop 24 octets)

-- the octets are read as these packets and this refusal, and in no other way
pub record HasOneReading (octets : List ℕ) : Type 0 where
  pub is : IsReadAs (packets_of octets) (refusal_of octets) octets
  pub one : (packets : List StoredPacket) (refusal : Option Refusal) → IsReadAs packets refusal octets
      → (packets ≡ packets_of octets) × (refusal ≡ refusal_of octets)

-- each file has one reading
abbrev pub FilesHaveOneReading : Type 0
FilesHaveOneReading = (octets : List ℕ) → HasOneReading octets

-- the octets of packets, one after another
abbrev pub stored : List StoredPacket → List ℕ
stored [] = []
stored (packet ∷ packets) = packet.numbers ++ (packet.octets ++ stored packets)

-- a capture is its header and its packets, and nothing else
abbrev pub CapturesAreTheirPackets : Type 0
CapturesAreTheirPackets =
    (packets : List StoredPacket) (octets : List ℕ) → IsFile packets None octets
    → octets ≡ take 24 octets ++ stored packets

-- what stays whatever follows the octets: a whole header, or its fault; the whole packets; a packet that is too long
pub record StayWhateverComes : Type 0 where
  pub header : (order : Order) (octets later : List ℕ)
      → HasHeader order octets → HasHeader order (octets ++ later)
  pub header_fault : (fault : CaptureFault) (octets later : List ℕ) → 24 ≤ length octets
      → HasHeaderFault fault octets → HasHeaderFault fault (octets ++ later)
  pub packets : (order : Order) (packets : List StoredPacket) (rest octets later : List ℕ)
      → Begins order packets rest octets → Begins order packets (rest ++ later) (octets ++ later)
  pub long : (order : Order) (octets later : List ℕ)
      → HasPacketFault Long order octets → HasPacketFault Long order (octets ++ later)

-- a reading goes on after the packets that were read: the packets that the rest begins with follow them in all the
-- octets, and what the rest is read as follows them in the reading of all the octets
pub record ReadingsGoOn : Type 0 where
  pub packets : (order : Order) (packets more : List StoredPacket) (left rest octets : List ℕ)
      → Begins order packets rest octets → Begins order more left rest
      → Begins order (packets ++ more) left octets
  pub reading : (order : Order) (packets more : List StoredPacket) (fault : Option CaptureFault)
      (rest octets : List ℕ)
      → Begins order packets rest octets → HasReading order more fault rest
      → HasReading order (packets ++ more) fault octets
