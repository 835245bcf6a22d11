-- How far the inspection of a capture has come, what stops it, and what is then written (this project's profile).
use Rattle.std.specs.Prelude.{◌≡◌, ◌⊎◌, ℕ, ◌+◌, ◌*◌, ◌^◌, ◌<◌, ◌≤◌, Bool, true, Option, List, [], ◌++◌, length, drop}
use Rattle.std.specs.Io.KnownBytes.{Appends, Consumes, IsAtEnd}
use Rattle.wrp_records.specs.declared.status.Status.{Status}
use Rattle.wrp_records.specs.declared.status.Status.TheVariants as status
use Rattle.wrp_records.specs.Engine.{Finishes}
use Rattle.wrp_records.specs.Stream.{large_line}
use Rattle.wrp_pcap.specs.declared.capture.CaptureFault.{CaptureFault}
use Rattle.wrp_pcap.specs.declared.capture.CaptureFault.TheVariants.{Long}
use Rattle.wrp_pcap.specs.declared.capture.Order.{Order}
use Rattle.wrp_pcap.specs.declared.content.Content.{Content}
use Rattle.wrp_pcap.specs.declared.inspection.Inspection.{Inspection}
use Rattle.wrp_pcap.specs.declared.taking.Step.{Step}
use Rattle.wrp_pcap.specs.declared.taking.Step.TheVariants as step
use Rattle.wrp_pcap.specs.declared.taking.Stop.{Stop}
use Rattle.wrp_pcap.specs.declared.taking.Stop.TheVariants as stop
use Rattle.wrp_pcap.specs.declared.pieces.Refilled.{Refilled}
use Rattle.wrp_pcap.specs.declared.pieces.Refilled.TheVariants.{Piece, End, Failed, Memory}
use Rattle.wrp_pcap.specs.Capture.{captured, StoredPacket, HasHeader, IsWhole, Begins, HasPacketFault, IsCut}
use Rattle.wrp_pcap.specs.InspectionAt.{HasTaken, packets_taken}
use Rattle.wrp_pcap.specs.Inspected.{Carry, bad_capture_line}
use Rattle.wrp_pcap.specs.PacketLines.{text_of, sum_line}

-- how many octets are asked for at a time
abbrev pub piece_limit : ℕ
piece_limit = 65_536

-- of the octets that are held, at most one piece follows the packet in front, or the numbers of one that is too long
pub record IsNear (order : Order) (rest : List ℕ) : Type 0 where
  pub whole : IsWhole order rest → length rest ≤ 16 + captured order rest + piece_limit
  pub long : HasPacketFault Long order rest → length rest ≤ 16 + piece_limit

-- of the octets that were taken the packets so far are handled, and the rest is held; of what they write some is
-- written, and the rest waits
pub record Reached (order : Order) (taken out : List ℕ) (inspection : Inspection) (rest waiting : List ℕ) : Type 0 where
  pub packets : List StoredPacket
  pub contents : List Content
  pub header : HasHeader order taken
  pub begins : Begins order packets rest (drop 24 taken)
  pub few : length packets < 2 ^ 32
  pub near : IsNear order rest
  pub carry : Carry packets contents
  pub has : HasTaken inspection contents
  pub waits : text_of contents ≡ out ++ waiting

-- what comes next after this many packets
abbrev pub IsNextStep : Order → ℕ → List ℕ → Step → Type 0
IsNextStep order packets rest step.Packet = IsWhole order rest × (packets + 1 < 2 ^ 32)
IsNextStep order packets rest step.More =
    IsCut order rest × (0 < length rest → packets + 1 < 2 ^ 32)
IsNextStep order packets rest step.Long =
    HasPacketFault Long order rest × (packets + 1 < 2 ^ 32)
IsNextStep order packets rest step.TooLarge = (0 < length rest) × (packets + 1 ≡ 2 ^ 32)

-- why no more of the octets that are held is taken, after this many packets
abbrev pub Stops : Order → ℕ → List ℕ → Stop → Type 0
Stops order packets rest stop.More = IsNextStep order packets rest step.More
Stops order packets rest stop.Long = IsNextStep order packets rest step.Long
Stops order packets rest stop.TooLarge = IsNextStep order packets rest step.TooLarge
Stops order packets rest stop.Memory = Unit {0}

-- what is written last, after the lines of packets that carry this, and with which status, if the rest is held and the
-- input ended or not
abbrev pub Tells : Order → List Content → List ℕ → Bool → Status → List ℕ → Type 0
Tells order contents rest ended status.Done last =
    (ended ≡ true) × (rest ≡ []) × (last ≡ sum_line contents)
Tells order contents rest ended status.BadCapture last =
    (fault : CaptureFault) × HasPacketFault fault order rest × ((ended ≡ true) ⊎ (fault ≡ Long))
    × (length contents + 1 < 2 ^ 32)
    × (last ≡ bad_capture_line (record { packet = length contents + 1; fault = fault }))
Tells order contents rest ended status.TooLarge last =
    (0 < length rest) × (length contents + 1 ≡ 2 ^ 32) × (last ≡ large_line (2 ^ 32))
Tells order contents rest ended status.OutOfMemory last = last ≡ []
Tells order contents rest ended _ last = ⊥

-- a text followed by what is written last
abbrev pub TellsBehind : Order → List Content → List ℕ → Bool → Status → List ℕ → List ℕ → Type 0
TellsBehind order contents rest ended status was now =
    (last : List ℕ) × Tells order contents rest ended status last × (now ≡ was ++ last)

-- what is written if the header is refused, or memory runs out for its line
abbrev pub TellsHeader : CaptureFault → Status → Option (List ℕ) → Option (List ℕ) → Type 0
TellsHeader fault given before now =
    ((given ≡ status.OutOfMemory) × Appends before now [])
    ⊎ Finishes status.BadCapture given before now
    (bad_capture_line (record { packet = 0; fault = fault }))

-- how much the handling has taken: it grows with each piece, and never falls
abbrev pub weight : Inspection → List ℕ → ℕ
weight inspection rest = packets_taken inspection * 262_160 + length rest

-- what asking for a piece gives, if something is held: a piece that follows it, or the end, or a failure; or there is
-- no memory for the piece
abbrev pub Refills : Option (List ℕ) → Option (List ℕ) → List ℕ → List ℕ → Refilled → Type 0
Refills before now was rest Piece =
    (given : List ℕ) × Consumes before now given × (rest ≡ was ++ given) × (0 < length given)
    × (length given ≤ piece_limit)
Refills before now was rest End = Consumes before now [] × IsAtEnd now × (rest ≡ was)
Refills before now was rest Failed = Consumes before now [] × (rest ≡ was)
Refills before now was rest Memory = (given : List ℕ) × Consumes before now given

-- what filling up to the header gives: enough octets for it, the end or a failure before, or there is no memory
abbrev pub FillsHeader : Option (List ℕ) → Option (List ℕ) → List ℕ → Refilled → Type 0
FillsHeader before now held Piece =
    Consumes before now held × (24 ≤ length held) × (length held ≤ 24 + piece_limit)
FillsHeader before now held End = Consumes before now held × IsAtEnd now × (length held < 24)
FillsHeader before now held Failed = Consumes before now held × (length held < 24)
FillsHeader before now held Memory = (given : List ℕ) × Consumes before now given

-- the handling has come this far after these octets: what it took and wrote, and what it reached
pub record Goes (order : Order) (start : List ℕ) (left left_now held held_now : Option (List ℕ))
    (inspection : Inspection) (rest waiting : List ℕ) : Type 0 where
  pub given : List ℕ
  pub out : List ℕ
  pub taken : Consumes left left_now given
  pub wrote : Appends held held_now out
  pub reached : Reached order (start ++ given) out inspection rest waiting

-- what is held is all that follows a header
pub record IsBehindHeader (order : Order) (start rest : List ℕ) : Type 0 where
  pub header : HasHeader order start
  pub rest_is : rest ≡ drop 24 start
  pub piece : length rest ≤ piece_limit
