-- The classic libpcap file format: a header of 24 octets, and packets that follow one another to the end. The magic
-- that a file begins with sets the order of octets of all its numbers. (That only Ethernet is read, and no packet of
-- more than 262,144 octets, is this project's profile.)
use Rattle.std.specs.Prelude.{◌≡◌, ◌≢◌, ◌<◌, ◌≤◌, ◌+◌, ◌⊎◌, ℕ, Bool, true, false, ◌==◌, if◌then◌else◌, List, [], ◌∷◌, length, take, drop, slice_range, Option, Some, None, codes}
use Rattle.byteorder.specs.Endian.{big_number, little_number}
use Rattle.wrp_pcap.specs.declared.capture.CaptureFault.{CaptureFault}
use Rattle.wrp_pcap.specs.declared.capture.CaptureFault.TheVariants.{Magic, LinkType, Header, Packet, Long}
use Rattle.wrp_pcap.specs.declared.capture.Refusal.{Refusal}
use Rattle.wrp_pcap.specs.declared.capture.Front.{Front}
use Rattle.wrp_pcap.specs.declared.capture.Front.TheVariants.{End, Whole, Refused, More}
use Rattle.wrp_pcap.specs.declared.capture.Order.{Order}
use Rattle.wrp_pcap.specs.declared.capture.Order.TheVariants.{Big, Little}

-- The order that a file's first four octets give, here as one number with the highest octet first. They are the number
-- a1b2c3d4 if a packet's fraction of a second is in microseconds, or a1b23c4d if it is in nanoseconds, each with its
-- highest octet first or its lowest.
abbrev pub order_by : ℕ → Option Order
order_by n =
    if n == 0xA1B2_C3D4 then Some Big
    else if n == 0xA1B2_3C4D then Some Big
    else if n == 0xD4C3_B2A1 then Some Little
    else if n == 0x4D3C_B2A1 then Some Little
    else None

-- the order of the file that begins with these octets
abbrev pub order_of : List ℕ → Option Order
order_of octets = order_by (big_number 4 octets)

-- the number of the four octets at a place
abbrev pub number_at : Order → ℕ → List ℕ → ℕ
number_at Big at octets = big_number 4 (drop at octets)
number_at Little at octets = little_number 4 (drop at octets)

-- the octets begin with a whole header, whose magic sets this order and whose link type, the last of its numbers,
-- is Ethernet
pub record HasHeader (order : Order) (octets : List ℕ) : Type 0 where
  pub whole : 24 ≤ length octets
  pub magic : order_of octets ≡ Some order
  pub link_type : number_at order 20 octets ≡ 1

-- a whole header of some magic has another link type
pub record HasOtherLinkType (octets : List ℕ) : Type 0 where
  pub order : Order
  pub whole : 24 ≤ length octets
  pub magic : order_of octets ≡ Some order
  pub other : number_at order 20 octets ≢ 1

-- the header has the fault; the other three faults are a packet's
abbrev pub HasHeaderFault : CaptureFault → List ℕ → Type 0
HasHeaderFault Magic octets = (length octets < 24) ⊎ (order_of octets ≡ None)
HasHeaderFault LinkType octets = HasOtherLinkType octets
HasHeaderFault fault octets = ⊥

-- the number of a fault
abbrev pub number_of : CaptureFault → ℕ
number_of Magic = 1
number_of LinkType = 2
number_of Header = 3
number_of Packet = 4
number_of Long = 5

-- the name of a fault
abbrev pub name_of : CaptureFault → List ℕ
name_of Magic = codes "Magic"
name_of LinkType = codes "LinkType"
name_of Header = codes "Header"
name_of Packet = codes "Packet"
name_of Long = codes "Long"

-- the captured length, the third of a packet's four numbers: how many of its octets follow them
abbrev pub captured : Order → List ℕ → ℕ
captured order octets = number_at order 8 octets

-- a packet of a file: the 16 octets of its four numbers, and its own octets
pub record StoredPacket : Type 0 where
  pub numbers : List ℕ
  pub octets : List ℕ

-- the octets begin with a whole packet: its four numbers, of which the captured length is at most 262,144, and as many
-- octets
pub record IsWhole (order : Order) (octets : List ℕ) : Type 0 where
  pub numbers : 16 ≤ length octets
  pub short : captured order octets ≤ 262_144
  pub own : 16 + captured order octets ≤ length octets

-- the packet in front
abbrev pub first_packet : Order → List ℕ → StoredPacket
first_packet order octets = record {
  numbers = take 16 octets;
  octets = slice_range octets 16 (16 + captured order octets);
}

-- the octets after it
abbrev pub behind_first : Order → List ℕ → List ℕ
behind_first order octets = drop (16 + captured order octets) octets

-- the octets begin with these whole packets, one after another, and the rest follows them
abbrev pub Begins : Order → List StoredPacket → List ℕ → List ℕ → Type 0
Begins order [] rest octets = octets ≡ rest
Begins order (packet ∷ packets) rest octets =
    IsWhole order octets
    × (packet ≡ first_packet order octets)
    × Begins order packets rest (behind_first order octets)

-- the octets that are left, up to the end of the file, have the fault: too few for a packet's numbers, fewer than its
-- captured length, or a captured length that is too long, however many octets follow it
abbrev pub HasPacketFault : CaptureFault → Order → List ℕ → Type 0
HasPacketFault Header order octets = (1 ≤ length octets) × (length octets < 16)
HasPacketFault Packet order octets =
    (16 ≤ length octets)
    × (captured order octets ≤ 262_144)
    × (length octets < 16 + captured order octets)
HasPacketFault Long order octets = (16 ≤ length octets) × (262_144 < captured order octets)
HasPacketFault fault order octets = ⊥

-- what is left after the whole packets: nothing, or octets with the fault
abbrev pub IsEnd : Order → Option CaptureFault → List ℕ → Type 0
IsEnd order None rest = rest ≡ []
IsEnd order (Some fault) rest = HasPacketFault fault order rest

-- the octets after the header are these packets, up to the end or to the first fault
pub record HasReading
    (order : Order) (packets : List StoredPacket) (fault : Option CaptureFault) (octets : List ℕ)
    : Type 0 where
  pub rest : List ℕ
  pub begins : Begins order packets rest octets
  pub ends : IsEnd order fault rest

-- the octets are a whole header followed by these packets, up to the end or to the first fault
pub record IsFile
    (packets : List StoredPacket) (fault : Option CaptureFault) (octets : List ℕ) : Type 0 where
  pub order : Order
  pub header : HasHeader order octets
  pub reading : HasReading order packets fault (drop 24 octets)

-- the octets are refused: at the header, which is packet 0, before any packet; or after these packets, at the next
-- one, counted from 1
abbrev pub IsRefused : List StoredPacket → Refusal → List ℕ → Type 0
IsRefused packets refusal octets =
    ((refusal.packet ≡ 0) × (packets ≡ []) × HasHeaderFault refusal.fault octets)
    ⊎ ((refusal.packet ≡ length packets + 1) × IsFile packets (Some refusal.fault) octets)

-- the octets are a capture of these packets, or are refused after them
abbrev pub IsReadAs : List StoredPacket → Option Refusal → List ℕ → Type 0
IsReadAs packets None octets = IsFile packets None octets
IsReadAs packets (Some refusal) octets = IsRefused packets refusal octets

-- octets of a packet are left, and it is not whole yet, nor too long
abbrev pub IsCut : Order → List ℕ → Type 0
IsCut order octets =
    (length octets < 16)
    ⊎ ((captured order octets ≤ 262_144) × (length octets < 16 + captured order octets))

-- what the octets that are left begin with, if nothing follows them (ended) or if something may: the end, a whole
-- packet, a fault, or less than a packet. A fault other than Long is one only if nothing follows.
abbrev pub IsFront : Order → Bool → List ℕ → Front → Type 0
IsFront order ended octets End = (ended ≡ true) × (octets ≡ [])
IsFront order ended octets (Whole n) = IsWhole order octets × (n ≡ captured order octets)
IsFront order ended octets (Refused fault) =
    HasPacketFault fault order octets × ((ended ≡ true) ⊎ (fault ≡ Long))
IsFront order ended octets More = (ended ≡ false) × IsCut order octets
