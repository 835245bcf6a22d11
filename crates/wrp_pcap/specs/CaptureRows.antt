-- Captures worked out, octet by octet (the classic libpcap file format; the packets are of this project's profile).
use Rattle.std.specs.Prelude.{◌≡◌, ℕ, List, [], ◌∷◌, ◌++◌, length, Some, None}
use Rattle.wrp_pcap.specs.declared.capture.CaptureFault.{CaptureFault}
use Rattle.wrp_pcap.specs.declared.capture.CaptureFault.TheVariants.{Magic, LinkType, Header, Packet, Long}
use Rattle.wrp_pcap.specs.declared.capture.Order.TheVariants.{Big, Little}
use Rattle.wrp_pcap.specs.Capture.{HasHeader, HasHeaderFault, IsReadAs}
use Rattle.wrp_pcap.specs.Ethernet.{Carries}

-- versions 2 and 4, time zone and accuracy 0, snap length 262,144, and Ethernet: each number with its lowest octet
-- first, or with its highest
abbrev pub low_rest : List ℕ
low_rest =
    2 ∷ 0 ∷ 4 ∷ 0 ∷ 0 ∷ 0 ∷ 0 ∷ 0 ∷ 0 ∷ 0 ∷ 0 ∷ 0 ∷ 0 ∷ 0 ∷ 4 ∷ 0 ∷ 1 ∷ 0 ∷ 0 ∷ 0 ∷ []

abbrev pub high_rest : List ℕ
high_rest =
    0 ∷ 2 ∷ 0 ∷ 4 ∷ 0 ∷ 0 ∷ 0 ∷ 0 ∷ 0 ∷ 0 ∷ 0 ∷ 0 ∷ 0 ∷ 4 ∷ 0 ∷ 0 ∷ 0 ∷ 0 ∷ 0 ∷ 1 ∷ []

-- a header
abbrev pub worked_header : List ℕ
worked_header = 0xD4 ∷ 0xC3 ∷ 0xB2 ∷ 0xA1 ∷ low_rest

-- a packet's numbers: time 0, captured length and original length 70
abbrev pub worked_numbers : List ℕ
worked_numbers = 0 ∷ 0 ∷ 0 ∷ 0 ∷ 0 ∷ 0 ∷ 0 ∷ 0 ∷ 70 ∷ 0 ∷ 0 ∷ 0 ∷ 70 ∷ 0 ∷ 0 ∷ 0 ∷ []

-- the packet's octets: the address of PTP, the address of its sender, the EtherType of PTP, and a frame
abbrev pub worked_packet : List ℕ → List ℕ
worked_packet frame =
    0x01 ∷ 0x1B ∷ 0x19 ∷ 0x00 ∷ 0x00 ∷ 0x00 ∷ 0x00 ∷ 0x1B ∷ 0xC5 ∷ 0x00 ∷ 0x00 ∷ 0x02 ∷ 0x88 ∷ 0xF7
    ∷ frame

-- the same with a VLAN tag before the EtherType
abbrev pub tagged_packet : List ℕ → List ℕ
tagged_packet frame =
    0x01 ∷ 0x1B ∷ 0x19 ∷ 0x00 ∷ 0x00 ∷ 0x00 ∷ 0x00 ∷ 0x1B ∷ 0xC5 ∷ 0x00 ∷ 0x00 ∷ 0x02 ∷ 0x81 ∷ 0x00
    ∷ 0x00 ∷ 0x01 ∷ 0x88 ∷ 0xF7 ∷ frame

-- the header followed by one packet of such a frame
abbrev pub worked_capture : List ℕ → List ℕ
worked_capture frame = worked_header ++ (worked_numbers ++ worked_packet frame)

-- a packet's numbers with a captured length of 262,145
abbrev pub long_numbers : List ℕ
long_numbers = 0 ∷ 0 ∷ 0 ∷ 0 ∷ 0 ∷ 0 ∷ 0 ∷ 0 ∷ 1 ∷ 0 ∷ 4 ∷ 0 ∷ 70 ∷ 0 ∷ 0 ∷ 0 ∷ []

-- the same with a captured length of 262,144, the greatest
abbrev pub longest_numbers : List ℕ
longest_numbers = 0 ∷ 0 ∷ 0 ∷ 0 ∷ 0 ∷ 0 ∷ 0 ∷ 0 ∷ 0 ∷ 0 ∷ 4 ∷ 0 ∷ 70 ∷ 0 ∷ 0 ∷ 0 ∷ []

-- the first packet is refused
abbrev pub IsFirstRefused : CaptureFault → List ℕ → Type 0
IsFirstRefused fault octets = IsReadAs [] (Some (record { packet = 1; fault = fault })) octets

-- what these octets hold
pub record CapturesAreRows : Type 0 where
  -- the header alone is a capture of no packets
  pub none : IsReadAs [] None worked_header
  -- followed by a packet of 70 octets, it is a capture of that packet
  pub one : (frame : List ℕ) → length frame ≡ 56
      → IsReadAs (record { numbers = worked_numbers; octets = worked_packet frame } ∷ []) None
      (worked_capture frame)
  -- the same holds for a packet of 262,144 octets, the most that a packet may have
  pub longest : (octets : List ℕ) → length octets ≡ 262_144
      → IsReadAs (record { numbers = longest_numbers; octets = octets } ∷ []) None
      (worked_header ++ (longest_numbers ++ octets))
  -- without the last octet the first packet is refused; so it is if the captured length is one more than the most, and
  -- nothing follows the numbers; and if the numbers are cut
  pub cut : (frame : List ℕ) → length frame ≡ 55 → IsFirstRefused Packet (worked_capture frame)
  pub long : IsFirstRefused Long (worked_header ++ long_numbers)
  pub few : (octets : List ℕ) → length octets ≡ 15 → IsFirstRefused Header (worked_header ++ octets)
  -- the four magics
  pub low : HasHeader Little worked_header
  pub low_nanoseconds : HasHeader Little (0x4D ∷ 0x3C ∷ 0xB2 ∷ 0xA1 ∷ low_rest)
  pub high : HasHeader Big (0xA1 ∷ 0xB2 ∷ 0xC3 ∷ 0xD4 ∷ high_rest)
  pub high_nanoseconds : HasHeader Big (0xA1 ∷ 0xB2 ∷ 0x3C ∷ 0x4D ∷ high_rest)
  -- a header that is cut, the header of pcapng, and a magic of one order with the numbers of the other
  pub short : (octets : List ℕ) → length octets ≡ 23 → HasHeaderFault Magic octets
  pub pcapng : HasHeaderFault Magic (0x0A ∷ 0x0D ∷ 0x0D ∷ 0x0A ∷ low_rest)
  pub other_order : HasHeaderFault LinkType (0xA1 ∷ 0xB2 ∷ 0xC3 ∷ 0xD4 ∷ low_rest)
  -- the packet carries the frame, which may be empty, also after one VLAN tag, but not after two
  pub carries : (frame : List ℕ) → Carries (worked_packet frame) frame
  pub tagged : (frame : List ℕ) → Carries (tagged_packet frame) frame
  pub tagged_twice : (frame other : List ℕ)
      → Carries
      (0x01 ∷ 0x1B ∷ 0x19 ∷ 0x00 ∷ 0x00 ∷ 0x00 ∷ 0x00 ∷ 0x1B ∷ 0xC5 ∷ 0x00 ∷ 0x00 ∷ 0x02 ∷ 0x81 ∷ 0x00
      ∷ 0x00 ∷ 0x01 ∷ 0x81 ∷ 0x00 ∷ 0x00 ∷ 0x01 ∷ 0x88 ∷ 0xF7 ∷ frame) other
      → ⊥
  -- an EtherType of which one octet is missing carries none
  pub cut_type : (packet frame : List ℕ) → length packet ≡ 13 → Carries packet frame → ⊥
