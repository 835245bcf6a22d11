-- For an input one status and one text are expected.
use Rattle.std.proofs.Common.{◌≡◌, ◌<◌, ◌+◌, ◌^◌, ℕ, List, [], ◌∷◌, ◌++◌, length, map, drop, reverse, Option, None, Some, inl, inr, refl, sym, ap, ap₂, ◌∙◌, subst, arith}
use Rattle.std.proofs.lemmas.Bool.{cases_lt}
use Rattle.wrp_io.specs.declared.link.LinkCall.{LinkCall}
use Rattle.wrp_records.specs.declared.status.Status.{Status}
use Rattle.wrp_records.specs.declared.status.Status.TheVariants.{Done, Usage, BadNetwork, BadTrace, Broken, ReadFault, WriteFault, LinkFault, TooLarge, OutOfMemory, BadCapture, BadCalib}
use Rattle.wrp_records.specs.Stream.{large_line}
use Rattle.wrp_pcap.specs.declared.capture.CaptureFault.{CaptureFault}
use Rattle.wrp_pcap.specs.declared.capture.Order.{Order}
use Rattle.wrp_pcap.specs.declared.content.Content.{Content}
use Rattle.wrp_pcap.specs.Capture.{StoredPacket, IsWhole, behind_first, Begins, IsFile}
use Rattle.wrp_pcap.specs.Inspected.{Carry, bad_capture_line, IsBadCapture, IsInspected, IsTooMany, InspectAnswer, capture}
use Rattle.wrp_pcap.specs.PacketLines.{text_of, sum_line}
use Rattle.wrp_pcap.proofs.CaptureExact.{one_order, header_has_no_fault, files_are_one, capture_not_refused, refusals_agree}
use Rattle.wrp_pcap.proofs.CaptureReading.{end_not_whole}
use Rattle.wrp_pcap.proofs.ContentExact.{one_contents}

-- the same packets carry the same
same_contents : (packets others : List StoredPacket) (ones other_ones : List Content) → packets ≡ others → Carry packets ones → Carry others other_ones → ones ≡ other_ones
same_contents packets others ones other_ones same a b =
    one_contents (reverse (map (λ packet. packet.octets) packets)) ones other_ones a
    (subst (λ (ps : List StoredPacket). Carry ps other_ones) (sym same) b)

-- if no whole packet follows some packets, the octets do not begin with more packets
no_more : (order : Order) (packets others : List StoredPacket) (end rest octets : List ℕ) → Begins order packets end octets → (IsWhole order end → ⊥)
    → Begins order others rest octets → length packets < length others → ⊥
no_more order [] [] end rest octets a none b fewer = omega (arith, fewer)
no_more order [] (other ∷ others) end rest octets a none b fewer = none (subst (IsWhole order) a b.0)
no_more order (packet ∷ packets) [] end rest octets a none b fewer = omega (arith, fewer)
no_more order (packet ∷ packets) (other ∷ others) end rest octets a none b fewer =
    no_more order packets others end rest (behind_first order octets) a.2 none b.2 (omega (arith, fewer))

-- if the octets begin with as many packets, the same is left
same_left : (order : Order) (packets others : List StoredPacket) (end rest octets : List ℕ) → Begins order packets end octets → Begins order others rest octets
    → length packets ≡ length others → (packets ≡ others) × (end ≡ rest)
same_left order [] [] end rest octets a b same = (refl, sym a ∙ b)
same_left order (packet ∷ packets) (other ∷ others) end rest octets a b same =
    let on = same_left order packets others end rest (behind_first order octets) a.2 b.2 (omega (arith, same)) in
    (ap₂ (λ p ps. p ∷ ps) (a.1 ∙ sym b.1) on.0, on.1)
same_left order [] (other ∷ others) end rest octets a b same = absurd (omega (arith, same))
same_left order (packet ∷ packets) [] end rest octets a b same = absurd (omega (arith, same))

-- the packets of a file are not followed by more
file_not_more : (octets text : List ℕ) (packets : List StoredPacket) (fault : Option CaptureFault) → IsFile packets fault octets → length packets + 1 < 2 ^ 32
    → IsTooMany octets text → ⊥
file_not_more octets text packets fault file few many =
    let same = one_order octets many.order file.order many.header.magic file.header.magic in
    let begins = subst (λ (o : Order). Begins o many.packets many.rest (drop 24 octets)) same many.begins in
    no_more file.order packets many.packets file.reading.rest many.rest (drop 24 octets) file.reading.begins
    (end_not_whole file.order fault file.reading.rest file.reading.ends) begins (let last = many.last in omega (arith, few, last))

-- a capture does not have too many
done_not_many : (octets text other : List ℕ) → IsInspected octets text → IsTooMany octets other → ⊥
done_not_many octets text other done many =
    let same = one_order octets many.order done.file.order many.header.magic done.file.header.magic in
    let begins = subst (λ (o : Order). Begins o many.packets many.rest (drop 24 octets)) same many.begins in
    let last = many.last in
    let few = done.few in
    elim (cases_lt (length done.packets) (length many.packets)) [
      | inl fewer ↦ no_more done.file.order done.packets many.packets done.file.reading.rest many.rest (drop 24 octets) done.file.reading.begins
          (end_not_whole done.file.order None done.file.reading.rest done.file.reading.ends) begins fewer
      | inr as_many ↦
          let left = same_left done.file.order done.packets many.packets done.file.reading.rest many.rest (drop 24 octets) done.file.reading.begins begins (omega (arith, last, few, as_many)) in
          let none = ap length (sym left.1 ∙ done.file.reading.ends) in
          let some = many.some in
          omega (arith, none, some)
    ]

bad_not_many : (octets text other : List ℕ) → IsBadCapture octets text → IsTooMany octets other → ⊥
bad_not_many octets text other bad many = elim bad.refused [
  | inl header ↦ header_has_no_fault octets many.order bad.refusal.fault many.header header.2
  | inr packet ↦ file_not_more octets other bad.packets (Some bad.refusal.fault) packet.1 bad.few many
]

done_not_bad : (octets text other : List ℕ) → IsInspected octets text → IsBadCapture octets other → ⊥
done_not_bad octets text other done bad = capture_not_refused done.packets bad.packets bad.refusal octets done.file bad.refused

one_done : (octets text other : List ℕ) → IsInspected octets text → IsInspected octets other → text ≡ other
one_done octets text other a b =
    let agree = files_are_one a.packets b.packets None None octets a.file b.file in
    let same = same_contents a.packets b.packets a.contents b.contents agree.packets_are a.carry b.carry in
    a.is ∙ ap (λ cs. text_of cs ++ sum_line cs) same ∙ sym b.is

one_bad : (octets text other : List ℕ) → IsBadCapture octets text → IsBadCapture octets other → text ≡ other
one_bad octets text other a b =
    let agree = refusals_agree a.packets b.packets a.refusal b.refusal octets a.refused b.refused in
    let same = same_contents a.packets b.packets a.contents b.contents agree.packets_are a.carry b.carry in
    let refusals : Some a.refusal ≡ Some b.refusal = agree.refusals_are in
    let refusal : a.refusal ≡ b.refusal = cc in
    a.is ∙ ap₂ (λ cs r. text_of cs ++ bad_capture_line r) same refusal ∙ sym b.is

one_many : (octets text other : List ℕ) → IsTooMany octets text → IsTooMany octets other → text ≡ other
one_many octets text other a b =
    let order = one_order octets b.order a.order b.header.magic a.header.magic in
    let begins = subst (λ (o : Order). Begins o b.packets b.rest (drop 24 octets)) order b.begins in
    let left = same_left a.order a.packets b.packets a.rest b.rest (drop 24 octets) a.begins begins (let here = a.last in let there = b.last in omega (arith, here, there)) in
    let same = same_contents a.packets b.packets a.contents b.contents left.0 a.carry b.carry in
    a.is ∙ ap (λ cs. text_of cs ++ large_line (2 ^ 32)) same ∙ sym b.is

one_due : (octets : List ℕ) (a b : Status) (text other : List ℕ) → InspectAnswer octets a text → InspectAnswer octets b other → (a ≡ b) × (text ≡ other)
one_due octets Done Done text other a b = (refl, one_done octets text other a b)
one_due octets BadCapture BadCapture text other a b = (refl, one_bad octets text other a b)
one_due octets TooLarge TooLarge text other a b = (refl, one_many octets text other a b)
one_due octets Done BadCapture text other a b = absurd (done_not_bad octets text other a b)
one_due octets BadCapture Done text other a b = absurd (done_not_bad octets other text b a)
one_due octets Done TooLarge text other a b = absurd (done_not_many octets text other a b)
one_due octets TooLarge Done text other a b = absurd (done_not_many octets other text b a)
one_due octets BadCapture TooLarge text other a b = absurd (bad_not_many octets text other a b)
one_due octets TooLarge BadCapture text other a b = absurd (bad_not_many octets other text b a)
one_due octets Usage b text other never due = absurd never
one_due octets BadNetwork b text other never due = absurd never
one_due octets BadTrace b text other never due = absurd never
one_due octets Broken b text other never due = absurd never
one_due octets ReadFault b text other never due = absurd never
one_due octets WriteFault b text other never due = absurd never
one_due octets LinkFault b text other never due = absurd never
one_due octets OutOfMemory b text other never due = absurd never
one_due octets BadCalib b text other never due = absurd never
one_due octets a Usage text other due never = absurd never
one_due octets a BadNetwork text other due never = absurd never
one_due octets a BadTrace text other due never = absurd never
one_due octets a Broken text other due never = absurd never
one_due octets a ReadFault text other due never = absurd never
one_due octets a WriteFault text other due never = absurd never
one_due octets a LinkFault text other due never = absurd never
one_due octets a OutOfMemory text other due never = absurd never
one_due octets a BadCalib text other due never = absurd never

-- for an input one status and one text are expected
pub one_answer : (octets : List ℕ) (calls : List LinkCall) (a b : Status) (text other : List ℕ) → capture.answers octets calls a text → capture.answers octets calls b other
    → (a ≡ b) × (text ≡ other)
one_answer octets calls a b text other first second = one_due octets a b text other first.1 second.1
