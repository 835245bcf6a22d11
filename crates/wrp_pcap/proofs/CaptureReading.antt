-- The packets of a capture: its octets determine them, the end after them, and the fault there.
use Rattle.std.proofs.Common.{◌≡◌, ◌≤◌, ℕ, List, [], ◌∷◌, ◌++◌, length, Option, Some, None, refl, sym, ap, ap₂, ◌∙◌, subst, arith}
use Rattle.wrp_pcap.specs.declared.capture.CaptureFault.{CaptureFault}
use Rattle.wrp_pcap.specs.declared.capture.CaptureFault.TheVariants.{Magic, LinkType, Header, Packet, Long}
use Rattle.wrp_pcap.specs.declared.capture.Order.{Order}
use Rattle.wrp_pcap.specs.Capture.{StoredPacket, IsWhole, first_packet, behind_first, Begins, HasPacketFault, IsEnd, HasReading}

-- octets with a fault are no whole packet
pub fault_not_whole : (order : Order) (fault : CaptureFault) (octets : List ℕ) → HasPacketFault fault order octets → IsWhole order octets → ⊥
fault_not_whole order Magic octets has whole = has
fault_not_whole order LinkType octets has whole = has
fault_not_whole order Header octets (some, few) whole = let enough = whole.numbers in omega arith
fault_not_whole order Packet octets (enough, short, cut) whole = let own = whole.own in omega arith
fault_not_whole order Long octets (enough, long) whole = let short = whole.short in omega arith

-- nor are no octets
pub end_not_whole : (order : Order) (fault : Option CaptureFault) (rest : List ℕ) → IsEnd order fault rest → IsWhole order rest → ⊥
end_not_whole order None rest ends whole = let enough = whole.numbers in let none = ap length ends in omega arith
end_not_whole order (Some fault) rest ends whole = fault_not_whole order fault rest ends whole

-- octets have one fault
one_fault : (order : Order) (one other : CaptureFault) (octets : List ℕ) → HasPacketFault one order octets → HasPacketFault other order octets → one ≡ other
one_fault order Magic other octets a b = absurd a
one_fault order LinkType other octets a b = absurd a
one_fault order one Magic octets a b = absurd b
one_fault order one LinkType octets a b = absurd b
one_fault order Header Header octets a b = refl
one_fault order Packet Packet octets a b = refl
one_fault order Long Long octets a b = refl
one_fault order Header Packet octets (some, few) (enough, short, cut) = absurd (omega arith)
one_fault order Header Long octets (some, few) (enough, long) = absurd (omega arith)
one_fault order Packet Header octets (enough, short, cut) (some, few) = absurd (omega arith)
one_fault order Packet Long octets (enough, short, cut) (all, long) = absurd (omega arith)
one_fault order Long Header octets (enough, long) (some, few) = absurd (omega arith)
one_fault order Long Packet octets (all, long) (enough, short, cut) = absurd (omega arith)

-- octets with a fault are not empty
pub fault_is_some : (order : Order) (fault : CaptureFault) (octets : List ℕ) → HasPacketFault fault order octets → 1 ≤ length octets
fault_is_some order Magic octets has = absurd has
fault_is_some order LinkType octets has = absurd has
fault_is_some order Header octets (some, few) = some
fault_is_some order Packet octets (enough, short, cut) = omega arith
fault_is_some order Long octets (enough, long) = omega arith

-- octets have one end
pub one_end : (order : Order) (one other : Option CaptureFault) (rest : List ℕ) → IsEnd order one rest → IsEnd order other rest → one ≡ other
one_end order None None rest a b = refl
one_end order None (Some other) rest a b = let some = fault_is_some order other rest b in let none = ap length a in absurd (omega arith)
one_end order (Some one) None rest a b = let some = fault_is_some order one rest a in let none = ap length b in absurd (omega arith)
one_end order (Some one) (Some other) rest a b = ap Some (one_fault order one other rest a b)

-- what two readings of the same octets have in common
pub record AreOne (packets others : List StoredPacket) (one other : Option CaptureFault) : Type 0 where
  pub packets_are : packets ≡ others
  pub faults_are : one ≡ other

ends_are_one : (order : Order) (packets others : List StoredPacket) (one other : Option CaptureFault) (left rest octets : List ℕ)
    → Begins order packets left octets → IsEnd order one left → Begins order others rest octets → IsEnd order other rest → AreOne packets others one other
ends_are_one order [] [] one other left rest octets a x b y =
    record { packets_are = refl; faults_are = one_end order one other octets (subst (IsEnd order one) (sym a) x) (subst (IsEnd order other) (sym b) y) }
ends_are_one order [] (second ∷ others) one other left rest octets a x (whole, is, b) y =
    absurd (end_not_whole order one octets (subst (IsEnd order one) (sym a) x) whole)
ends_are_one order (first ∷ packets) [] one other left rest octets (whole, is, a) x b y =
    absurd (end_not_whole order other octets (subst (IsEnd order other) (sym b) y) whole)
ends_are_one order (first ∷ packets) (second ∷ others) one other left rest octets (whole, is, a) x (also, same, b) y =
    let on = ends_are_one order packets others one other left rest (behind_first order octets) a x b y in
    record { packets_are = ap₂ (λ p ps. p ∷ ps) (is ∙ sym same) on.packets_are; faults_are = on.faults_are }

-- the octets after a header have one reading
pub readings_are_one : (order : Order) (packets others : List StoredPacket) (one other : Option CaptureFault) (octets : List ℕ)
    → HasReading order packets one octets → HasReading order others other octets → AreOne packets others one other
readings_are_one order packets others one other octets a b =
    ends_are_one order packets others one other a.rest b.rest octets a.begins a.ends b.begins b.ends

-- one more whole packet after those at the front
pub begins_on : (order : Order) (packets : List StoredPacket) (rest octets : List ℕ) → Begins order packets rest octets → IsWhole order rest
    → Begins order (packets ++ (first_packet order rest ∷ [])) (behind_first order rest) octets
begins_on order [] rest octets is whole =
    (subst (IsWhole order) (sym is) whole, ap (first_packet order) (sym is), ap (behind_first order) is)
begins_on order (packet ∷ packets) rest octets (first, is, begins) whole =
    (first, is, begins_on order packets rest (behind_first order octets) begins whole)
