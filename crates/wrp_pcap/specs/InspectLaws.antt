-- What holds of every inspection of a capture (this project's profile).
use Rattle.std.specs.Prelude.{◌≡◌, ℕ, ◌+◌, ◌<◌, ◌≤◌, List, ◌++◌, length, drop, reverse, None, Some, Ok}
use Rattle.wrp_base.specs.declared.link.Role.TheVariants.{Master, Slave}
use Rattle.wrp_check.specs.Judged.{Judges}
use Rattle.wrp_io.specs.declared.link.LinkCall.{LinkCall}
use Rattle.wrp_records.specs.declared.status.Status.{Status}
use Rattle.wrp_records.specs.declared.status.Status.TheVariants.{Done, TooLarge, BadCapture}
use Rattle.wrp_records.specs.Stream.{large_line}
use Rattle.wrp_pcap.specs.declared.capture.CaptureFault.{CaptureFault}
use Rattle.wrp_pcap.specs.declared.capture.CaptureFault.TheVariants.{Long}
use Rattle.wrp_pcap.specs.declared.capture.Order.{Order}
use Rattle.wrp_pcap.specs.declared.content.Content.{Content}
use Rattle.wrp_pcap.specs.declared.verdict.Verdict8.TheVariants.{Complete}
use Rattle.wrp_pcap.specs.Capture.{Begins, HasHeader, HasHeaderFault, IsFile, StoredPacket}
use Rattle.wrp_pcap.specs.Content.{messages_of}
use Rattle.wrp_pcap.specs.Inspected.{capture, Carry, InspectAnswer, PacketRefused}
use Rattle.wrp_pcap.specs.Marks.{Rises, slave_marks, master_marks}
use Rattle.wrp_pcap.specs.PacketLines.{sum_line, text_of, told_of}

-- for an input one status and one text are expected
abbrev pub OneIsDue : Type 0
OneIsDue =
    (octets : List ℕ) (calls : List LinkCall) (one other : Status) (text other_text : List ℕ)
    → capture.answers octets calls one text → capture.answers octets calls other other_text
    → (one ≡ other) × (text ≡ other_text)

-- if a whole header is refused, or a packet that is too long or has too great a number, what is expected stays
-- expected however the input goes on
pub record RefusalsStay : Type 0 where
  pub header : (fault : CaptureFault) (octets more text : List ℕ)
      → 24 ≤ length octets → HasHeaderFault fault octets
      → InspectAnswer octets BadCapture text → InspectAnswer (octets ++ more) BadCapture text
  pub long : (octets more text : List ℕ) (at : PacketRefused octets) → at.fault ≡ Long
      → InspectAnswer octets BadCapture text → InspectAnswer (octets ++ more) BadCapture text
  pub large : (octets more text : List ℕ)
      → InspectAnswer octets TooLarge text → InspectAnswer (octets ++ more) TooLarge text

-- a capture may have 4,294,967,295 packets, and no more: if a byte follows so many, whatever it is, the number of the
-- next packet is refused
pub record PacketsAreLimited : Type 0 where
  pub most : (packets : List StoredPacket) (contents : List Content) (octets : List ℕ)
      → length packets ≤ 4_294_967_295 → IsFile packets None octets → Carry packets contents
      → InspectAnswer octets Done (text_of contents ++ sum_line contents)
  pub more : (order : Order) (packets : List StoredPacket) (contents : List Content) (rest octets : List ℕ)
      → length packets ≡ 4_294_967_295 → HasHeader order octets → Begins order packets rest (drop 24 octets)
      → 0 < length rest → Carry packets contents
      → InspectAnswer octets TooLarge (text_of contents ++ large_line 4_294_967_296)

-- the numbers of each verdict `complete` on a packet rise, and by the marks of these numbers both ends are in the same
-- handshake
abbrev pub CompleteIsJudged : Type 0
CompleteIsJudged =
    (newest : Content) (before : List Content) (numbers : List ℕ)
    → told_of (length before + 1) (messages_of before) newest ≡ Some (Complete numbers)
    → Rises numbers
    × Judges Slave (reverse (slave_marks numbers)) (reverse (master_marks numbers)) (Ok tt)
    × Judges Master (reverse (master_marks numbers)) (reverse (slave_marks numbers)) (Ok tt)
