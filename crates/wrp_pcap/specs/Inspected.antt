-- What is written for the octets of a capture that is inspected, and with which status (this project's profile).
use Rattle.std.specs.Prelude.{◌≡◌, ◌⊎◌, ℕ, ◌+◌, ◌^◌, ◌<◌, ◌≤◌, List, [], ◌∷◌, ◌++◌, length, map, reverse, drop, None, codes}
use Rattle.std.specs.Fmt.{decimal}
use Rattle.wrp_records.specs.declared.status.Status.{Status}
use Rattle.wrp_records.specs.declared.status.Status.TheVariants.{Done, TooLarge, BadCapture}
use Rattle.wrp_records.specs.Meaning.{Meaning}
use Rattle.wrp_records.specs.Stream.{large_line}
use Rattle.wrp_records.specs.Words.{line_of}
use Rattle.wrp_pcap.specs.declared.capture.CaptureFault.{CaptureFault}
use Rattle.wrp_pcap.specs.declared.capture.CaptureFault.TheVariants.{Long}
use Rattle.wrp_pcap.specs.declared.capture.Order.{Order}
use Rattle.wrp_pcap.specs.declared.capture.Refusal.{Refusal}
use Rattle.wrp_pcap.specs.declared.content.Content.{Content}
use Rattle.wrp_pcap.specs.Capture.{StoredPacket, HasHeader, HasHeaderFault, Begins, HasPacketFault, IsFile, IsRefused, IsCut, number_of, name_of}
use Rattle.wrp_pcap.specs.Content.{HaveContents}
use Rattle.wrp_pcap.specs.PacketLines.{text_of, sum_line}

-- these packets of a file, the first one first, carry this, with the newest first
abbrev pub Carry : List StoredPacket → List Content → Type 0
Carry packets contents = HaveContents (reverse (map (λ packet. packet.octets) packets)) contents

-- the last line if a capture is refused at a packet, counted from 1, or at its header, which is packet 0
abbrev pub bad_capture_line : Refusal → List ℕ
bad_capture_line refusal =
    line_of
    (codes "bad-capture" ∷ decimal refusal.packet ∷ decimal (number_of refusal.fault)
    ∷ name_of refusal.fault ∷ [])

-- the octets are a capture: the lines of its packets, and the counts
pub record IsInspected (octets text : List ℕ) : Type 0 where
  pub packets : List StoredPacket
  pub contents : List Content
  pub file : IsFile packets None octets
  pub few : length packets < 2 ^ 32
  pub carry : Carry packets contents
  pub is : text ≡ text_of contents ++ sum_line contents

-- the octets are refused: the lines of the packets before, and the refusal
pub record IsBadCapture (octets text : List ℕ) : Type 0 where
  pub packets : List StoredPacket
  pub contents : List Content
  pub refusal : Refusal
  pub refused : IsRefused packets refusal octets
  pub few : length packets + 1 < 2 ^ 32
  pub carry : Carry packets contents
  pub is : text ≡ text_of contents ++ bad_capture_line refusal

-- after the packets that may have a number there is an octet of a packet with a greater one, whatever it is: the lines
-- of the packets before, and that number
pub record IsTooMany (octets text : List ℕ) : Type 0 where
  pub order : Order
  pub packets : List StoredPacket
  pub contents : List Content
  pub rest : List ℕ
  pub header : HasHeader order octets
  pub begins : Begins order packets rest (drop 24 octets)
  pub last : length packets + 1 ≡ 2 ^ 32
  pub some : 0 < length rest
  pub carry : Carry packets contents
  pub is : text ≡ text_of contents ++ large_line (2 ^ 32)

-- what is expected for a whole input
abbrev pub InspectAnswer : List ℕ → Status → List ℕ → Type 0
InspectAnswer octets Done text = IsInspected octets text
InspectAnswer octets BadCapture text = IsBadCapture octets text
InspectAnswer octets TooLarge text = IsTooMany octets text
InspectAnswer octets status text = ⊥

-- the lines of the first packets
pub record FirstPackets (octets text : List ℕ) : Type 0 where
  pub order : Order
  pub packets : List StoredPacket
  pub contents : List Content
  pub rest : List ℕ
  pub header : HasHeader order octets
  pub begins : Begins order packets rest (drop 24 octets)
  pub few : length packets < 2 ^ 32
  pub carry : Carry packets contents
  pub is : text ≡ text_of contents

-- the same; of a capture whose header is not read yet, none
abbrev pub InspectFirst : List ℕ → List ℕ → Type 0
InspectFirst octets text = (text ≡ []) ⊎ FirstPackets octets text

-- the lines of exactly the whole packets among these octets: the packet after them is cut, neither too long nor one
-- too many
pub record CutBehind (octets text : List ℕ) : Type 0 where
  pub order : Order
  pub packets : List StoredPacket
  pub contents : List Content
  pub rest : List ℕ
  pub header : HasHeader order octets
  pub begins : Begins order packets rest (drop 24 octets)
  pub cut : IsCut order rest
  pub few : length packets < 2 ^ 32
  pub next : 0 < length rest → length packets + 1 < 2 ^ 32
  pub carry : Carry packets contents
  pub is : text ≡ text_of contents

-- what is left if the source failed after these octets, in which nothing is refused: nothing after a cut header
abbrev pub InspectCut : List ℕ → List ℕ → Type 0
InspectCut octets text = ((length octets < 24) × (text ≡ [])) ⊎ CutBehind octets text

-- the octets are refused at their very end: there the header ends, or the input, or the four numbers of a packet that
-- is too long
pub record PacketRefused (octets : List ℕ) : Type 0 where
  pub order : Order
  pub packets : List StoredPacket
  pub rest : List ℕ
  pub fault : CaptureFault
  pub header : HasHeader order octets
  pub begins : Begins order packets rest (drop 24 octets)
  pub few : length packets + 1 < 2 ^ 32
  pub has : HasPacketFault fault order rest
  pub ends : fault ≡ Long → length rest ≡ 16

pub record HeaderRefused (octets : List ℕ) : Type 0 where
  pub fault : CaptureFault
  pub has : HasHeaderFault fault octets
  pub ends : length octets ≤ 24

-- the same, of a status
abbrev pub InspectRefused : Status → List ℕ → Type 0
InspectRefused BadCapture octets = HeaderRefused octets ⊎ PacketRefused octets
InspectRefused status octets = ⊥

-- what a capture that is inspected means; no call of a link is made
abbrev pub capture : Meaning
capture = record {
  answers = λ octets calls status text. (calls ≡ []) × InspectAnswer octets status text;
  first = λ octets calls text. (calls ≡ []) × InspectFirst octets text;
  cut = λ octets text. InspectCut octets text;
  refused = λ status octets. InspectRefused status octets;
  unlinked = λ octets calls text. ⊥;
}
