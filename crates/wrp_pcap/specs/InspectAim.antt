-- What an inspection of a capture shows, and what it leaves for each status (this project's profile).
use Rattle.std.specs.Prelude.{◌≡◌, ◌⊎◌, ℕ, ◌+◌, true, List, ◌∷◌, ◌++◌, length, take, drop, reverse, Some, IsSome, Ok}
use Rattle.wrp_base.specs.declared.link.Role.TheVariants.{Master, Slave}
use Rattle.wrp_base.specs.declared.message.PortIdentity.{PortIdentity}
use Rattle.wrp_base.specs.declared.message.PtpMsg.{PtpMsg}
use Rattle.wrp_check.specs.Judged.{Judges}
use Rattle.wrp_records.specs.declared.status.Status.{Status}
use Rattle.wrp_records.specs.declared.status.Status.TheVariants.{ReadFault, WriteFault, OutOfMemory}
use Rattle.wrp_pcap.specs.declared.capture.Order.{Order}
use Rattle.wrp_pcap.specs.declared.content.Content.{Content}
use Rattle.wrp_pcap.specs.declared.content.Content.TheVariants.{Message}
use Rattle.wrp_pcap.specs.declared.verdict.Verdict8.{Verdict8}
use Rattle.wrp_pcap.specs.declared.verdict.Verdict8.TheVariants.{Complete}
use Rattle.wrp_pcap.specs.Capture.{Begins, HasHeader, StoredPacket}
use Rattle.wrp_pcap.specs.Certificate.{Captured, is_sent}
use Rattle.wrp_pcap.specs.Content.{messages_of}
use Rattle.wrp_pcap.specs.Handshakes.{AreHandshake, is_mode_on}
use Rattle.wrp_pcap.specs.Inspected.{Carry, InspectAnswer, InspectCut, InspectFirst}
use Rattle.wrp_pcap.specs.Laws.{IsDue}
use Rattle.wrp_pcap.specs.Marks.{Rises, slave_marks, master_marks}
use Rattle.wrp_pcap.specs.PacketLines.{told_of}

-- ---- verdicts

-- a packet with this number carries a WR_MODE_ON from a master to its slave, and this verdict is expected after the
-- messages of the packets before it
pub record HasDue (number : ℕ) (before : List Captured) (content : Content) (verdict : Verdict8) : Type 0 where
  pub message : PtpMsg
  pub slave : PortIdentity
  pub carried : content ≡ Message message
  pub asks : is_sent is_mode_on message.head.source slave (record { number = number; message = message }) ≡ true
  pub due : IsDue message.head.source slave number before verdict

-- each verdict that is printed is the expected one, and each WR_MODE_ON has a verdict
pub record VerdictsAreDue : Type 0 where
  pub due : (content : Content) (before : List Content) (verdict : Verdict8)
      → told_of (length before + 1) (messages_of before) content ≡ Some verdict
      → HasDue (length before + 1) (messages_of before) content verdict
  pub each : (message : PtpMsg) (slave : PortIdentity) (before : List Content)
      → is_sent is_mode_on message.head.source slave (record { number = length before + 1; message = message }) ≡ true
      → IsSome (told_of (length before + 1) (messages_of before) (Message message))

-- the numbers of a certificate rise, and by the marks of these numbers both ends passed the same handshake
abbrev pub AreJudged : List ℕ → Type 0
AreJudged numbers =
    Rises numbers
    × Judges Slave (reverse (slave_marks numbers)) (reverse (master_marks numbers)) (Ok tt)
    × Judges Master (reverse (master_marks numbers)) (reverse (slave_marks numbers)) (Ok tt)

-- a `complete` names eight of these packets, which carry the messages of one handshake, and by their marks both ends
-- passed it
abbrev pub NamesHandshake : List StoredPacket → Verdict8 → Type 0
NamesHandshake packets (Complete numbers) = AreJudged numbers × AreHandshake packets numbers
NamesHandshake packets _ = Unit {0}

-- each verdict on one of the first packets of a capture is the expected one, and each `complete` names eight packets
-- of that capture
abbrev pub JudgesHandshakes : List ℕ → Type 0
JudgesHandshakes input =
    (order : Order) (packets : List StoredPacket) (rest : List ℕ) → HasHeader order input
    → Begins order packets rest (drop 24 input)
    → (newer before : List Content) (content : Content) (verdict : Verdict8) → Carry packets (newer ++ content ∷ before)
    → told_of (length before + 1) (messages_of before) content ≡ Some verdict
    → HasDue (length before + 1) (messages_of before) content verdict × NamesHandshake packets verdict

-- ---- what is written

-- the first octets of what is expected, or of the lines of the first packets
abbrev pub InspectPart : List ℕ → List ℕ → Type 0
InspectPart input text =
    (whole : List ℕ) × (count : ℕ) × (text ≡ take count whole)
    × (((status : Status) × InspectAnswer input status whole) ⊎ InspectFirst input whole)

-- what an inspection of these octets leaves with this status: if the source failed, the lines of exactly the whole
-- packets among what was read; if memory ran out, the lines of the first packets; if a write failed, the first octets
-- of these or of what is expected; and else what is expected
abbrev pub InspectLeaves : List ℕ → Status → List ℕ → Type 0
InspectLeaves input ReadFault text =
    (taken : List ℕ) × (left : List ℕ) × (input ≡ taken ++ left) × InspectCut taken text
InspectLeaves input OutOfMemory text = InspectFirst input text
InspectLeaves input WriteFault text = InspectPart input text
InspectLeaves input status text = InspectAnswer input status text

-- the aim of an inspection
abbrev pub InspectsSo : List ℕ → Status → List ℕ → Type 0
InspectsSo input status text = InspectLeaves input status text × JudgesHandshakes input

-- if the source failed, the lines that are left are the lines of the first packets, however the input goes on
abbrev pub CutsAreFirst : Type 0
CutsAreFirst = (taken left text : List ℕ) → InspectCut taken text → InspectFirst (taken ++ left) text
