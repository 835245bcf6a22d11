-- Which packets of a capture a `complete` names: those that carry the eight messages of the handshake (this project's
-- profile).
use Rattle.std.specs.Prelude.{◌≡◌, ℕ, ◌+◌, Bool, true, false, List, [], ◌∷◌, ◌++◌, length, Some}
use Rattle.wrp_base.specs.declared.message.PortIdentity.{PortIdentity}
use Rattle.wrp_base.specs.declared.message.PtpMsg.{PtpMsg}
use Rattle.wrp_base.specs.declared.message.WrMsg.{WrMsg}
use Rattle.wrp_base.specs.declared.message.WrMsg.TheVariants.{ModeOn as WR_MODE_ON}
use Rattle.wrp_pcap.specs.declared.content.Content.{Content}
use Rattle.wrp_pcap.specs.declared.verdict.Verdict8.TheVariants.{Complete}
use Rattle.wrp_pcap.specs.Capture.{StoredPacket}
use Rattle.wrp_pcap.specs.Certificate.{Captured, is_sent, to_slave_calibrated}
use Rattle.wrp_pcap.specs.Content.{messages_of}
use Rattle.wrp_pcap.specs.Ethernet.{CarriesMessage}
use Rattle.wrp_pcap.specs.Inspected.{Carry}
use Rattle.wrp_pcap.specs.Marks.{Rises}
use Rattle.wrp_pcap.specs.PacketLines.{told_of}

abbrev pub is_mode_on : WrMsg → Bool
is_mode_on WR_MODE_ON = true
is_mode_on _ = false

-- the packet with this number, counted from 1, carries a message at which the test holds
pub record IsIn (packets : List StoredPacket) (test : Captured → Bool) (number : ℕ) : Type 0 where
  pub earlier : List StoredPacket
  pub packet : StoredPacket
  pub later : List StoredPacket
  pub message : PtpMsg
  pub splits : packets ≡ earlier ++ packet ∷ later
  pub counted : number ≡ length earlier + 1
  pub carries : CarriesMessage packet.octets message
  pub holds : test (record { number = number; message = message }) ≡ true

-- so it is for each of these tests with its number: the first test has the last number
abbrev pub AreIn : List StoredPacket → List (Captured → Bool) → List ℕ → Type 0
AreIn packets [] numbers = numbers ≡ []
AreIn packets (test ∷ tests) numbers =
    (before : List ℕ) × (number : ℕ)
    × (numbers ≡ before ++ number ∷ []) × IsIn packets test number × AreIn packets tests before

-- the numbers rise, and their packets carry the eight messages of a handshake of a master and its slave, the WR_MODE_ON last
pub record AreHandshake (packets : List StoredPacket) (numbers : List ℕ) : Type 0 where
  pub master : PortIdentity
  pub slave : PortIdentity
  pub rises : Rises numbers
  pub carried : AreIn packets (is_sent is_mode_on master slave ∷ to_slave_calibrated master slave) numbers

-- each `complete` of a packet of a capture names such packets
abbrev pub CompleteNamesHandshake : Type 0
CompleteNamesHandshake =
    (packets : List StoredPacket) (newer before : List Content) (content : Content) (numbers : List ℕ)
    → Carry packets (newer ++ content ∷ before)
    → told_of (length before + 1) (messages_of before) content ≡ Some (Complete numbers)
    → AreHandshake packets numbers
