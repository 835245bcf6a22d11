-- What is expected for a refusal stays expected however the input goes on.
use Rattle.std.proofs.Common.{◌≡◌, ◌≤◌, ℕ, List, ◌++◌, length, Some, inl, inr, sym, subst, arith, length-append}
use Rattle.wrp_pcap.specs.declared.capture.CaptureFault.{CaptureFault}
use Rattle.wrp_pcap.specs.declared.capture.CaptureFault.TheVariants.{Long}
use Rattle.wrp_pcap.specs.Capture.{StoredPacket, HasHeaderFault, HasPacketFault, IsFile, IsRefused}
use Rattle.wrp_pcap.specs.Inspected.{IsBadCapture, IsTooMany, PacketRefused}
use Rattle.wrp_pcap.specs.InspectLaws.{RefusalsStay}
use Rattle.wrp_pcap.proofs.CaptureExact.{files_are_one, header_has_no_fault}
use Rattle.wrp_pcap.proofs.CaptureLaws.{stay, header_fault_stays}
use Rattle.wrp_pcap.proofs.CaptureStands.{begins_stay}

-- the same, with another refusal of the same packets
with_refusal : (octets other text : List ℕ) (bad : IsBadCapture octets text) → IsRefused bad.packets bad.refusal other → IsBadCapture other text
with_refusal octets other text bad refused = record {
  packets = bad.packets;
  contents = bad.contents;
  refusal = bad.refusal;
  refused = refused;
  few = bad.few;
  carry = bad.carry;
  is = bad.is;
}

header_stays : (fault : CaptureFault) (octets more text : List ℕ) → 24 ≤ length octets → HasHeaderFault fault octets → IsBadCapture octets text → IsBadCapture (octets ++ more) text
header_stays fault octets more text enough has bad = elim bad.refused [
  | inl header ↦ with_refusal octets (octets ++ more) text bad (inl (header.0, header.1, header_fault_stays bad.refusal.fault octets more enough header.2))
  | inr packet ↦ absurd (header_has_no_fault octets packet.1.order fault packet.1.header has)
]

-- a packet that is too long stays the refusal
file_stays : (packets : List StoredPacket) (fault : CaptureFault) (octets more : List ℕ) → fault ≡ Long → IsFile packets (Some fault) octets
    → IsFile packets (Some fault) (octets ++ more)
file_stays packets fault octets more is file =
    let long = subst (λ (f : CaptureFault). HasPacketFault f file.order file.reading.rest) is file.reading.ends in
    record {
      order = file.order;
      header = stay.header file.order octets more file.header;
      reading = record {
        rest = file.reading.rest ++ more;
        begins = begins_stay file.order packets file.reading.rest octets more file.header.whole file.reading.begins;
        ends = subst (λ (f : CaptureFault). HasPacketFault f file.order (file.reading.rest ++ more)) (sym is) (stay.long file.order file.reading.rest more long);
      };
    }

long_stays : (octets more text : List ℕ) (at : PacketRefused octets) → at.fault ≡ Long → IsBadCapture octets text → IsBadCapture (octets ++ more) text
long_stays octets more text at long bad =
    let here : IsFile at.packets (Some at.fault) octets = record { order = at.order; header = at.header; reading = record { rest = at.rest; begins = at.begins; ends = at.has } } in
    elim bad.refused [
      | inl header ↦ absurd (header_has_no_fault octets at.order bad.refusal.fault at.header header.2)
      | inr packet ↦
          let one = files_are_one at.packets bad.packets (Some at.fault) (Some bad.refusal.fault) octets here packet.1 in
          let faults = one.faults_are in
          let is : bad.refusal.fault ≡ Long = cc in
          with_refusal octets (octets ++ more) text bad (inr (packet.0, file_stays bad.packets bad.refusal.fault octets more is packet.1))
    ]

large_stays : (octets more text : List ℕ) → IsTooMany octets text → IsTooMany (octets ++ more) text
large_stays octets more text many = record {
  order = many.order;
  packets = many.packets;
  contents = many.contents;
  rest = many.rest ++ more;
  header = stay.header many.order octets more many.header;
  begins = begins_stay many.order many.packets many.rest octets more many.header.whole many.begins;
  last = many.last;
  some = let all = length-append many.rest more in let some = many.some in omega (arith, some, all);
  carry = many.carry;
  is = many.is;
}

pub refusals_stay : RefusalsStay
refusals_stay = record { header = header_stays; long = long_stays; large = large_stays }
