-- For each input that is inspected an answer is expected.
use Rattle.std.proofs.Common.{◌≡◌, inl, inr, refl, ap, ℕ, zero, suc, ◌+◌, ◌-◌, ◌^◌, ◌≤◌, ◌==◌, List, [], ◌∷◌, ◌++◌, length, map, drop, reverse, Option, None, Some, Result, Ok, Err, arith}
use Rattle.std.proofs.lemmas.Bool.{cases_Bool, cases_lt, eqb-false, eqb-true}
use Rattle.wrp_base.specs.declared.message.PtpMsg.{PtpMsg}
use Rattle.wrp_frame.specs.declared.fault.FrameFault.{FrameFault}
use Rattle.wrp_frame.specs.Saying.{Says}
use Rattle.wrp_pcap.specs.declared.capture.CaptureFault.{CaptureFault}
use Rattle.wrp_pcap.specs.declared.capture.Order.{Order}
use Rattle.wrp_pcap.specs.declared.capture.Refusal.{Refusal}
use Rattle.wrp_pcap.specs.declared.content.Content.{Content}
use Rattle.wrp_pcap.specs.declared.content.Content.TheVariants.{Other, Message, Fault}
use Rattle.wrp_pcap.specs.Capture.{Begins, IsFile, IsReadAs, StoredPacket, behind_first}
use Rattle.wrp_pcap.specs.CaptureReading.{packets_of, refusal_of}
use Rattle.wrp_pcap.specs.Content.{HasContent, HaveContents}
use Rattle.wrp_pcap.specs.Ethernet.{Carries, type_at, type_place}
use Rattle.wrp_pcap.specs.Inspected.{Carry, bad_capture_line, capture}
use Rattle.wrp_pcap.specs.PacketLines.{sum_line, text_of}
use Rattle.wrp_pcap.proofs.CaptureLaws.{one_reading}
use Rattle.wrp_pcap.proofs.CaptureReading.{fault_is_some}
use Rattle.wrp_records.specs.declared.status.Status.{Status}
use Rattle.wrp_records.specs.declared.status.Status.TheVariants.{Done, TooLarge, BadCapture}
use Rattle.wrp_records.specs.Stream.{large_line}
use Rattle.wrp_frame.proofs.Saying.{each_says}

-- What packets carry

abbrev Carried : List ℕ → Type 0
Carried packet = (content : Content) × HasContent packet content

carried_frame : (packet frame : List ℕ) (says : Result PtpMsg FrameFault) → Carries packet frame → Says frame says → Carried packet
carried_frame packet frame (Ok m) carries spells = (Message m, record { frame = frame; carries = carries; spells = spells })
carried_frame packet frame (Err fault) carries first = (Fault fault, record { frame = frame; carries = carries; first = first })

carried_where : (packet : List ℕ) → type_place packet + 2 ≤ length packet → type_at (type_place packet) packet ≡ 0x88F7 → Carried packet
carried_where packet whole ptp =
    let frame : List ℕ = drop (type_place packet + 2) packet in
    let says = each_says frame in
    carried_frame packet frame says.0 (record { whole = whole; ptp = ptp; behind = refl }) says.1

-- each packet carries something, or no PTP frame
carried : (packet : List ℕ) → Carried packet
carried packet =
    elim (cases_lt (length packet) (type_place packet + 2)) [
      | inl cut ↦ (Other, λ frame carries. let whole = carries.whole in omega (arith, cut, whole))
      | inr whole ↦ elim (cases_Bool (type_at (type_place packet) packet == 0x88F7)) [
        | inl ptp ↦ carried_where packet whole (eqb-true (type_at (type_place packet) packet) 0x88F7 ptp)
        | inr other ↦ (Other, λ frame carries. eqb-false (type_at (type_place packet) packet) 0x88F7 other carries.ptp)
      ]
    ]

all_carried : (packets : List (List ℕ)) → (contents : List Content) × HaveContents packets contents
all_carried [] = ([], tt)
all_carried (packet ∷ packets) =
    let one = carried packet in
    let rest = all_carried packets in
    (one.0 ∷ rest.0, (one.1, rest.1))

carry : (packets : List StoredPacket) → (contents : List Content) × Carry packets contents
carry packets = all_carried (reverse (map (λ packet. packet.octets) packets))

-- The first n packets

record SplitAt (order : Order) (n : ℕ) (packets : List StoredPacket) (rest octets : List ℕ) : Type 0 where
  front : List StoredPacket
  back : List StoredPacket
  middle : List ℕ
  counted : length front ≡ n
  begins : Begins order front middle octets
  goes_on : Begins order back rest middle
  all : length packets ≡ n + length back

split_at : (order : Order) (n : ℕ) (packets : List StoredPacket) (rest octets : List ℕ) → n ≤ length packets → Begins order packets rest octets → SplitAt order n packets rest octets
split_at order zero packets rest octets enough begins =
    record { front = []; back = packets; middle = octets; counted = refl; begins = refl; goes_on = begins; all = omega arith }
split_at order (suc n) [] rest octets enough begins = absurd (omega (arith, enough))
split_at order (suc n) (packet ∷ packets) rest octets enough begins =
    let behind = split_at order n packets rest (behind_first order octets) (omega (arith, enough)) begins.2 in
    let all = behind.all in
    record {
      front = packet ∷ behind.front;
      back = behind.back;
      middle = behind.middle;
      counted = ap suc behind.counted;
      begins = (begins.0, begins.1, behind.begins);
      goes_on = behind.goes_on;
      all = omega (arith, all);
    }

-- something follows them
left_some : (order : Order) (back : List StoredPacket) (rest middle : List ℕ) → Begins order back rest middle → (length back ≡ 0 → 1 ≤ length rest) → 1 ≤ length middle
left_some order [] rest middle begins some = let more = some refl in omega (arith, more, ap length begins)
left_some order (packet ∷ packets) rest middle begins some = let numbers = begins.0.numbers in omega (arith, numbers)

-- Answers

abbrev Inspects : List ℕ → Type 0
Inspects octets = (status : Status) × (text : List ℕ) × capture.answers octets [] status text

too_many : (octets : List ℕ) (packets : List StoredPacket) (fault : Option CaptureFault) (n : ℕ) → n + 1 ≡ 2 ^ 32 → (file : IsFile packets fault octets) → n ≤ length packets
    → (length packets ≡ n → 1 ≤ length file.reading.rest) → Inspects octets
too_many octets packets fault n last file enough some =
    let split = split_at file.order n packets file.reading.rest (drop 24 octets) enough file.reading.begins in
    let carries = carry split.front in
    let counted = split.counted in
    let all = split.all in
    let left : 1 ≤ length split.middle = left_some file.order split.back file.reading.rest split.middle split.goes_on (λ none. some (omega (arith, all, none))) in (
      TooLarge,
      text_of carries.0 ++ large_line (2 ^ 32),
      (
        refl,
        record {
          order = file.order;
          packets = split.front;
          contents = carries.0;
          rest = split.middle;
          header = file.header;
          begins = split.begins;
          last = omega (arith, counted, last);
          some = omega (arith, left);
          carry = carries.1;
          is = refl;
        },
      ),
    )

-- the number of the last packet that may have one
most_packets : ℕ
most_packets = 2 ^ 32 - 1

most_is : most_packets + 1 ≡ 2 ^ 32
unfolding most_packets
most_is = omega arith

whole_file : (octets : List ℕ) (packets : List StoredPacket) → IsFile packets None octets → Inspects octets
whole_file octets packets file =
    let most = most_is in
    elim (cases_lt (length packets) (2 ^ 32)) [
      | inl few ↦
          let carries = carry packets in
          (Done, text_of carries.0 ++ sum_line carries.0, (refl, record { packets = packets; contents = carries.0; file = file; few = few; carry = carries.1; is = refl }))
      | inr many ↦ too_many octets packets None most_packets most file (omega (arith, most, many)) (λ same. absurd (omega (arith, most, many, same)))
    ]

refused_file : (octets : List ℕ) (packets : List StoredPacket) (refusal : Refusal) → refusal.packet ≡ length packets + 1 → IsFile packets (Some refusal.fault) octets → Inspects octets
refused_file octets packets refusal number file =
    let most = most_is in
    elim (cases_lt (length packets + 1) (2 ^ 32)) [
      | inl few ↦
          let carries = carry packets in (
            BadCapture,
            text_of carries.0 ++ bad_capture_line refusal,
            (refl, record { packets = packets; contents = carries.0; refusal = refusal; refused = inr (number, file); few = few; carry = carries.1; is = refl }),
          )
      | inr many ↦ too_many octets packets (Some refusal.fault) most_packets most file (omega (arith, most, many)) (λ same. fault_is_some file.order refusal.fault file.reading.rest file.reading.ends)
    ]

read_as : (octets : List ℕ) (packets : List StoredPacket) (refusal : Option Refusal) → IsReadAs packets refusal octets → Inspects octets
read_as octets packets None file = whole_file octets packets file
read_as octets packets (Some refusal) (inr refused) = refused_file octets packets refusal refused.0 refused.1
read_as octets packets (Some refusal) (inl refused) =
    let carries = carry packets in
    let none = ap length refused.1 in (
      BadCapture,
      text_of carries.0 ++ bad_capture_line refusal,
      (refl, record { packets = packets; contents = carries.0; refusal = refusal; refused = inl refused; few = omega (arith, none); carry = carries.1; is = refl }),
    )

pub each_is_inspected : (octets : List ℕ) → (status : Status) × (text : List ℕ) × capture.answers octets [] status text
each_is_inspected octets = read_as octets (packets_of octets) (refusal_of octets) (one_reading octets).is
